-- The stores are those of an edit: the slot is emptied, its parent leads to it no more, and it is the first of the chain.
use Rattle.std.proofs.Common.{refl, arith}
use Rattle.editing.proofs.Stores.{stores_drop}
use Rattle.editing.proofs.MemoryMut.drop_slot.Goals as goal

pub returns-clause-dropped : goal.returns-clause-dropped
returns-clause-dropped c =
    let lent = c.args.self.now in
    let kept = c.set_link.ensures.others in
    rw (kept.0, kept.1)
    (stores_drop lent.lo.now lent.hi.now lent.up.now lent.hop.now c.args.parent c.args.right c.args.slot c.first_free-behind.result
    c.args.slot 0 0 c.set_link.new.self.lo.now c.set_link.new.self.hi.now c.requires.whole c.requires.parent_below
    c.requires.positive c.requires.below c.requires.other c.set_link.ensures.set (λ h. omega (arith, c.requires.below)) refl refl refl
    c.first_free-behind.ensures.0)
