-- A spare slot is hung, or no slot may be taken.
use Rattle.std.proofs.Common.{subst}
use Rattle.editing.specs.Held.{memory_held}
use Rattle.editing.specs.Spare.{Spared}
use Rattle.editing.proofs.Walking.{step_hung}
use Rattle.editing.proofs.MemoryMut.extend.Goals as goal

pub returns-clause-step : goal.returns-clause-step
returns-clause-step c =
    let spared : Spared c.args.width (memory_held c.args.self.now) c.args.slot c.in_ok-free.free =
    subst (λ m. Spared c.args.width m c.args.slot c.in_ok-free.free) c.view.ensures c.in_ok-free.ensures in
    step_hung _ _ _ _ _ c.requires _ spared _ _ c.bit.ensures c.hang.ensures.hung
