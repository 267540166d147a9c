-- The chain's first slot has no mark, so no string lies in it.
use Rattle.std.proofs.Common.{arith}
use Rattle.editing.proofs.Rising.{idle_unmarked}
use Rattle.editing.proofs.spare.Goals as goal

pub returns-then-memory-free-eq0 : goal.returns-then-memory-free-eq0
returns-then-memory-free-eq0 c = record {
  positive = c.first_free-free.ensures.1;
  slot = omega (arith, c.if-free-slots.true, c.slots.ensures);
  other = c.if-free-tip.true;
  unused = idle_unmarked _ _ _ c.first_free-free.ensures.1 c.if-memory-free-eq0.true;
  hinted = λ h. c.first_free-free.ensures.0;
}
