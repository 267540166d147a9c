-- Tables that forward alike but are not the smallest, and one that does not forward alike, do not meet what is promised.
use mathlib.Core.Path.{◌≡◌, refl, ap, subst}
use mathlib.Core.List.{[], ◌∷◌}
use Prim.Native.Nat.{ℕ, ◌≤◌}
use native.Mathlib.Omega.{arith}
use Rattle.theory.specs.Ledger.{◌via◌}
use Rattle.rules.specs.Numbers.{ipv4}
use Rattle.rules.specs.Records.{read, stray_bits, print_table}
use Rattle.rules.specs.Lookup.{hop_of}
use Rattle.rules.specs.Writing.{ForwardsAs, SmallestFor}
use Rattle.cases.specs.Cases.{after, case_c, table_c, bytes_c, copy_of_c, case_e, table_e, case_below, table_below, held_only}
use Rattle.cases.proofs.Cases.{c_holds, below_holds, after_in_lem}

-- C's table whole, byte by byte
pub bytes_of_c : print_table ipv4 table_c ≡ bytes_c
bytes_of_c = refl

-- a writer that copies the ledger out: C's routes are more than C's table, which forwards alike
pub copy_is_not_smallest : SmallestFor ipv4 (after case_c).ledger copy_of_c → ⊥
copy_is_not_smallest s = let few : 4 ≤ 3 = s.fewest table_c c_holds.lookups in omega arith

-- a writer that forgets the strings that were never held: E's 0* is lost, and address 0 goes to the wrong neighbour
pub forgetful_does_not_agree : ForwardsAs ipv4 (after case_e).ledger (held_only (after case_e).ledger table_e) → ⊥
unfolding read stray_bits hop_of
forgetful_does_not_agree agrees =
    let same = ap (λ a. a.ledger) (after_in_lem case_e).0 in
    let agrees-in = subst (λ L. ForwardsAs ipv4 L (held_only L table_e)) same agrees in
    let wrong : ◌≡◌ {A = ℕ} 1 2 = agrees-in 0 (omega arith) in
    omega arith

-- a writer that takes a held discard for no route at all: it no longer hides * 1, and address 0, which is discarded, goes to hop 1
pub unhidden_does_not_agree : ForwardsAs ipv4 (after case_below).ledger ([] via 1 ∷ []) → ⊥
unfolding read stray_bits hop_of
unhidden_does_not_agree agrees =
    let same = ap (λ a. a.ledger) (after_in_lem case_below).0 in
    let agrees-in = subst (λ L. ForwardsAs ipv4 L ([] via 1 ∷ [])) same agrees in
    let wrong : ◌≡◌ {A = ℕ} 1 0 = agrees-in 0 (omega arith) in
    omega arith

-- a writer that always gives the empty string an entry: it has one more than the table, which forwards alike
pub always_a_default_is_not_smallest : SmallestFor ipv4 (after case_below).ledger ([] via 0 ∷ table_below) → ⊥
always_a_default_is_not_smallest s =
    let few : 2 ≤ 1 = s.fewest table_below below_holds.lookups in omega arith
