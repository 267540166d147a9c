-- A slot from which going up fails has no string; any other is asked whether it is bare.
use Rattle.std.proofs.Common.{sym, ◌∙◌}
use Rattle.editing.proofs.Rising.{idle_unplaced, idle_placed}
use Rattle.editing.proofs.is_idle.Goals as goal

pub returns-in-Some : goal.returns-in-Some
returns-in-Some c = c.is_bare.ensures ∙ sym (idle_placed _ _ _ _ c.in-Some.ensures)

pub returns-in-None : goal.returns-in-None
returns-in-None c = sym (idle_unplaced _ _ _ c.in-None.ensures)
