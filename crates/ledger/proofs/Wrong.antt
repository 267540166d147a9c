-- The wrong answers that document 01 names break the promises, each at one plain case: zeroed memory, and a list of one record.
use mathlib.Core.Path.{◌≡◌, refl, sym, ap, ◌∙◌}
use mathlib.Core.Bool.{Bool, true, false, true≢false}
use mathlib.Core.List.{List, [], ◌∷◌}
use mathlib.Core.Option.{none, some}
use Prim.Native.Nat.{ℕ, ◌/◌, ◌≤◌, ◌<◌}
use native.Mathlib.Omega.{arith}
use lib.ListN.{length}
use borrow.Author.Tests.{le-leb}
use Rattle.theory.specs.Bits.{bits_of}
use Rattle.theory.specs.Ledger.{nothing, announce, longest}
use Rattle.theory.proofs.Longest.{none_some}
use Rattle.theory.proofs.OneHop.{longest_nothing}
use Rattle.rules.specs.Numbers.{ipv4, width, record_bytes, most_slots, no_route, not_held}
use Rattle.rules.specs.Records.{Change, announces, withdraws, ProperChange, means, print_all}
use Rattle.rules.specs.Plain.{needs, complete, apply_all, updated}
use Rattle.rules.specs.Lookup.{hop_of}
use Rattle.rules.proofs.Records.{whole_print, readings_print}
use Rattle.rules.proofs.Slots.{needs_alone}
use Rattle.memory.specs.Layout.{Memory, ledger_of, zeroed}
use Rattle.memory.proofs.Zeros.{zeroed_ledger, zeroed_slots}
use Rattle.std.proofs.Common.{Result, Ok}
use Rattle.refusals.specs.declared.Refused.{Refused}
use Rattle.lists.specs.Promise.{answer_of}
use Rattle.ledger.specs.Promise.{after_fault, update_of, report_of, reported, Updates, found_after, LooksUp}
use Rattle.ledger.proofs.History.{zeroed_fine}

-- a list of changes applied to zeroed memory is applied to the empty ledger
pub from_zeros : (n : ℕ) → 0 < n → n ≤ most_slots → (list : List ℕ) → update_of (zeroed n) list ≡ updated ipv4 n nothing list
unfolding update_of
from_zeros n some_slot few list =
    ap (λ o. after_fault o (zeroed n) list) (zeroed_fine n some_slot few)
    ∙ ap (λ k. updated ipv4 k (ledger_of (width ipv4) (zeroed n)) list) (zeroed_slots n)
    ∙ ap (λ L. updated ipv4 n L list) (zeroed_ledger n (width ipv4))

one_record : (n : ℕ) (c : Change) → ProperChange (width ipv4) c
    → updated ipv4 n nothing (print_all ipv4 (c ∷ [])) ≡ apply_all (width ipv4) n nothing (means c ∷ [])
unfolding updated
one_record n c proper = rw (whole_print ipv4 (c ∷ []), readings_print ipv4 (c ∷ []) (proper, tt))

module _ (n : ℕ) (some_slot : 0 < n) (few : n ≤ most_slots) where
  -- the default route to hop 1, announced to zeroed memory of any size: taken
  abbrev pub default : List ℕ
  default = print_all ipv4 (announces [] 1 ∷ [])

  pub default_taken : update_of (zeroed n) default ≡ record { refusal = none; count = 1; ledger = announce nothing [] 1 }
  default_taken =
      from_zeros n some_slot few default ∙ one_record n (announces [] 1) (omega arith, omega arith)
      ∙ rw (le-leb (needs {A = ℕ} (width ipv4) (announce nothing [] 1)) n (omega (arith, needs_alone ℕ (width ipv4) [] 1 (omega arith))))

  -- AN UPDATE THAT REFUSES EVERYTHING
  pub refuses_everything_breaks : (f : Memory → List ℕ → Memory) (answer : Memory → List ℕ → Result ℕ Refused)
      → ((m : Memory) (list : List ℕ) → (report_of (answer m list)).complete ≡ false)
      → Updates (zeroed n) default (f (zeroed n) default) (answer (zeroed n) default) → ⊥
  refuses_everything_breaks f answer refuses meets =
      let says : (report_of (answer (zeroed n) default)).complete ≡ true =
      ap (λ a. a.complete) meets.answer ∙ ap (λ a. complete a) default_taken in
      let z : ◌≡◌ {A = Bool} true false = sym says ∙ refuses (zeroed n) default in
      true≢false z

  -- A BATCH THAT REPORTS EVERY RECORD APPLIED AND APPLIED NONE
  pub applies_none_breaks : (answer : Result ℕ Refused) → Updates (zeroed n) default (zeroed n) answer → ⊥
  applies_none_breaks answer meets =
      none_some refl
      (ap (λ L. L []) (sym (ap (λ a. a.ledger) default_taken) ∙ sym meets.ledger ∙ zeroed_ledger n (width ipv4)))

  -- ONE THAT SAYS COMPLETE ON THE RECORD COUNT OF THE INPUT: a withdrawal of what is not held
  abbrev withdrawal : List ℕ
  withdrawal = print_all ipv4 (withdraws [] ∷ [])

  not_held_lem : update_of (zeroed n) withdrawal ≡ record { refusal = some not_held; count = 0; ledger = nothing }
  not_held_lem = from_zeros n some_slot few withdrawal ∙ one_record n (withdraws []) (omega arith)

  pub counts_the_input_breaks : (after : Memory) → Updates (zeroed n) withdrawal after (Ok (length withdrawal / record_bytes ipv4)) → ⊥
  counts_the_input_breaks after meets = none_some refl (sym (ap (λ a. a.refusal) (meets.answer ∙ ap reported not_held_lem)))

  no_route_lem : (x : ℕ) → hop_of ipv4 (ledger_of (width ipv4) (zeroed n)) x ≡ 0
  unfolding hop_of
  no_route_lem x = ap (λ L. longest L no_route (bits_of (width ipv4) x)) (zeroed_ledger n (width ipv4)) ∙ longest_nothing no_route (bits_of (width ipv4) x)

  -- A LOOKUP THAT ALWAYS ANSWERS 1
  pub always_one_breaks : (answer : Memory → ℕ → Result ℕ Refused) → ((m : Memory) (x : ℕ) → (answer_of (answer m x)).hop ≡ 1)
      → (x : ℕ) → LooksUp (zeroed n) x (answer (zeroed n) x) → ⊥
  always_one_breaks answer one x meets =
      omega (arith, one (zeroed n) x, ap (λ a. a.hop) (meets.answer ∙ ap (λ o. found_after o (zeroed n) x) (zeroed_fine n some_slot few)), no_route_lem x)
