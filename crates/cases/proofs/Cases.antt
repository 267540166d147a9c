-- THE ONE STATEMENT over the table of cases: each case holds of the definitions. It is computed on tries.
use mathlib.Core.Path.{◌≡◌, refl, sym, ap, ◌∙◌, subst}
use mathlib.Core.Bool.{Bool, true}
use mathlib.Core.List.{List, map}
use Prim.Native.Nat.{ℕ, ◌<◌}
use native.Mathlib.Omega.{arith}
use lib.Dec.{leb}
use borrow.Author.Tests.{leb-true}
use Rattle.theory.specs.Bits.{Each, bits_of}
use Rattle.theory.specs.Ledger.{nothing}
use Rattle.theory.proofs.Order.{each_map, each_of_map}
use Rattle.theory.proofs.OneHop.{longest_nothing}
use Rattle.rules.specs.Numbers.{ipv4, width, addresses, discard, hop_bound, no_route}
use Rattle.rules.specs.Records.{Reading, read, stray_bits, update, records_of, print_all}
use Rattle.rules.specs.Plain.{updated}
use Rattle.rules.specs.Lookup.{hop_of}
use Rattle.rules.specs.Writing.{smallest_table, ForwardsAs}
use Rattle.rules.proofs.Records.{whole_print}
use Rattle.rules.proofs.Plain.{Kept, readings_sound, updated_kept, nothing_within}
use Rattle.rules.proofs.Slots.{needs_nothing}
use Rattle.rules.proofs.Smallest.{smallest_for}
use Rattle.cases.specs.Trie.{Trie, bare, as_ledger, within, needs_in, smallest_in, AppliedIn, apply_all_in}
use Rattle.cases.specs.Cases.{Result, Case, after, result_of, Holds, case_a, case_c, case_g, case_half, case_below, case_highest, case_words, cases}
use Rattle.cases.proofs.Trie.{needs_in_lem, table_in_lem}
use Rattle.cases.proofs.Updates.{image_all, batch_in}

abbrev pub readings : Case → List Reading
readings c = map (read update ipv4) (records_of ipv4 (print_all ipv4 c.records))

abbrev pub after_in : Case → AppliedIn
after_in c = apply_all_in c.slots bare (readings c)

abbrev result_in : AppliedIn → Result
result_in a = record { refusal = a.refusal; count = a.count; needed = needs_in a.trie; output = smallest_in a.trie }

-- the definitions' answer is the trie's
pub after_in_lem : (c : Case) → (after c ≡ image_all (after_in c)) × (within hop_bound (width ipv4) (after_in c).trie ≡ true)
unfolding updated
after_in_lem c =
    let s = batch_in (width ipv4) c.slots bare (readings c) refl (readings_sound update ipv4 (records_of ipv4 (print_all ipv4 c.records))) in
    (rw (whole_print ipv4 c.records) s.0, s.1)

smallest_in_lem : (t : Trie) → within hop_bound (width ipv4) t ≡ true → smallest_table ipv4 (as_ledger t) ≡ smallest_in t
unfolding smallest_table
smallest_in_lem t e = (table_in_lem hop_bound (width ipv4) t e).1 no_route discard (omega arith)

result_in_lem : (c : Case) → result_of (after c) ≡ result_in (after_in c)
result_in_lem c =
    let a = after_in_lem c in
    let t = (after_in c).trie in
    ap result_of a.0 ∙ (λ i. record {
      refusal = (after_in c).refusal;
      count = (after_in c).count;
      needed = needs_in_lem hop_bound (width ipv4) t a.1 i;
      output = smallest_in_lem t a.1 i;
    })

-- what the trie shows of a case, and what it has to show
pub record Shown : Type 0 where
  pub result : Result
  pub lent : Bool

abbrev shown : Case → Shown
shown c = record { result = result_in (after_in c); lent = leb 1 c.slots }

abbrev wanted : Case → Shown
wanted c = record { result = c.result; lent = true }

holds : (c : Case) → shown c ≡ wanted c → Holds c
holds c e =
    let lent = leb-true 1 c.slots (ap (λ s. s.lent) e) in
    let first : Kept (width ipv4) c.slots nothing = record { within = nothing_within (width ipv4); fits = omega (arith, needs_nothing ℕ (width ipv4)) } in
    let kept = updated_kept ipv4 c.slots nothing (print_all ipv4 c.records) first in
    let answers = result_in_lem c ∙ ap (λ s. s.result) e in
    record {
      answers = answers;
      lookups = subst (ForwardsAs ipv4 (after c).ledger) (ap (λ x. x.output) answers) (smallest_for ipv4 (after c).ledger kept.within).agrees;
    }

-- THE WHOLE TABLE, COMPUTED
computed : map shown cases ≡ map wanted cases
unfolding read stray_bits
computed = refl

-- EVERY CASE HOLDS
pub cases_hold : Each Holds cases
cases_hold = each_map (λ c. shown c ≡ wanted c) Holds holds cases (each_of_map shown wanted cases computed)

-- those that are cited by name, each by itself, so that no proof counts places in the table
pub a_holds : Holds case_a
unfolding read stray_bits
a_holds = holds case_a refl

pub c_holds : Holds case_c
unfolding read stray_bits
c_holds = holds case_c refl

pub g_holds : Holds case_g
unfolding read stray_bits
g_holds = holds case_g refl

pub half_holds : Holds case_half
unfolding read stray_bits
half_holds = holds case_half refl

pub below_holds : Holds case_below
unfolding read stray_bits
below_holds = holds case_below refl

pub highest_holds : Holds case_highest
unfolding read stray_bits
highest_holds = holds case_highest refl

pub words_hold : Holds case_words
unfolding read stray_bits
words_hold = holds case_words refl

-- IN CASE A every address is discarded
pub a_discards : (x : ℕ) → x < addresses ipv4 → hop_of ipv4 (after case_a).ledger x ≡ discard
unfolding hop_of
a_discards x l = sym (a_holds.lookups x l) ∙ longest_nothing discard (bits_of (width ipv4) x)
