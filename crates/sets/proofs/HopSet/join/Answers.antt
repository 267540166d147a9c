-- Where nothing is common to the two the join is their union, and elsewhere what is common.
use mathlib.Core.Path.{sym, ap, ◌∙◌}
use borrow.Author.Tests.{not-true, not-false}
use Rattle.theory.specs.Hops.{some_below}
use Rattle.theory.proofs.Hops.{join_apart, join_meets}
use Rattle.rules.specs.Numbers.{hop_bound}
use Rattle.sets.specs.Sets.{members}
use Rattle.sets.proofs.HopSet.join.Goals as goal

pub returns-then-is_empty : goal.returns-then-is_empty
returns-then-is_empty c =
    let none = ap (some_below hop_bound) (sym c.common-shared.ensures) ∙ not-true _ (sym c.is_empty.ensures ∙ c.if-is_empty.true) in
    c.union.ensures ∙ sym (join_apart hop_bound (members c.args.self) (members c.args.other) none)

pub returns-else-is_empty : goal.returns-else-is_empty
returns-else-is_empty c =
    let some = ap (some_below hop_bound) (sym c.common-shared.ensures) ∙ not-false _ (sym c.is_empty.ensures ∙ c.if-is_empty.false) in
    c.common-shared.ensures ∙ sym (join_meets hop_bound (members c.args.self) (members c.args.other) some)
