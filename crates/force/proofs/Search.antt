-- Small widths by force, computed by the checker: the definitions pass every round, and the tempting writers fail.
use mathlib.Core.Path.{◌≡◌, refl}
use mathlib.Core.Bool.{true, false}
use mathlib.Core.List.{[], ◌∷◌, map}
use lib.ListN.{length}
use Rattle.theory.specs.Bits.{Each}
use Rattle.theory.specs.Hops.{join}
use Rattle.theory.proofs.Order.{each_of_map}
use Rattle.force.specs.Search.{round, rounds, passes}
use Rattle.force.specs.Writers.{by_definition, always_union, least_always, always_top}

computed : map (passes by_definition) rounds ≡ map (λ r. true) rounds
unfolding join
computed = refl

pub definitions_pass : Each (λ r. passes by_definition r ≡ true) rounds
definitions_pass = each_of_map (passes by_definition) (λ r. true) rounds computed

-- The search can fail: with 2 bits and 3 hops, discard among them, it finds out each writer.
pub union_fails : passes always_union (round 2 2 5) ≡ false
union_fails = refl

pub least_fails : passes least_always (round 2 2 5) ≡ false
unfolding join
least_fails = refl

pub top_fails : passes always_top (round 2 2 5) ≡ false
unfolding join
top_fails = refl

-- Always taking the union writes four entries for C, whose addresses' hops are 2, 1, 2, 3; the definitions write three.
pub union_writes_four : length (always_union 2 3 (2 ∷ 1 ∷ 2 ∷ 3 ∷ [])) ≡ 4
union_writes_four = refl

pub definitions_write_three : length (by_definition 2 3 (2 ∷ 1 ∷ 2 ∷ 3 ∷ [])) ≡ 3
unfolding join
definitions_write_three = refl
