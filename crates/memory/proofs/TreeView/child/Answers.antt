-- The tests are those of a link that counts: it is not 0 and names a slot, and that slot carries the mark.
use Rattle.std.proofs.Common.{sym, arith}
use Rattle.memory.specs.Views.{tree_in}
use Rattle.memory.proofs.Find.{Counts, child_none, child_counts, counts_below}
use Rattle.memory.proofs.TreeView.child.Goals as goal

pub returns-then-next-self : goal.returns-then-next-self
returns-then-next-self c =
    sym (child_none _ _ _ _ c.link-next.ensures (λ k. omega (arith, k.positive, counts_below _ _ _ _ k)))

pub returns-then-self-next : goal.returns-then-self-next
returns-then-self-next c =
    sym (child_none _ _ _ _ c.link-next.ensures (λ k. c.if-self-next.true (omega (arith, k.marked, c.mark_of.ensures))))

pub returns : goal.returns
returns c =
    let counts : Counts (tree_in c.args.self.now) c.args.right c.args.slot c.link-next.result =
    record { positive = omega arith; linked = sym c.link-next.ensures; marked = omega (arith, c.if-self-next.false, c.mark_of.ensures) } in
    (sym (child_counts _ _ _ _ counts), counts_below _ _ _ _ counts)
