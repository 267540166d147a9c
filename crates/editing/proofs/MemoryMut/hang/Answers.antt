-- The stores are those of an edit: the slot is emptied and marked, its parent leads to it, and the chain goes on behind it.
use Rattle.std.proofs.Common.{refl, get_or, length, arith}
use Rattle.editing.proofs.Stores.{head_bound, stores_hang}
use Rattle.editing.proofs.MemoryMut.hang.Goals as goal

pub returns-clause-hung : goal.returns-clause-hung
returns-clause-hung c =
    let lent = c.args.self.now in
    let kept = c.set_link.ensures.others in
    rw (kept.0, kept.1)
    (stores_hang lent.lo.now lent.hi.now lent.up.now lent.hop.now c.args.parent c.args.right c.args.slot 0
    c.head_after.result c.mark_of.result c.args.slot c.set_link.new.self.lo.now c.set_link.new.self.hi.now c.requires.whole
    c.requires.parent_below c.requires.positive c.requires.below c.requires.other c.set_link.ensures.set
    (λ h. omega (
      arith,
      c.head_after.ensures,
      head_bound (get_or lent.up.now 0 0) c.args.slot (get_or lent.lo.now c.args.slot 0) (length lent.up.now) h,
    ))
    refl c.mark_of.ensures refl c.head_after.ensures)
