-- The wrong answers that item 3 of document 02 makes tempting break the promises: another highest hop, and sets of one word.
use Rattle.std.proofs.Common.{Result, Ok, Err}
use Rattle.refusals.specs.declared.Refused.{Refused}
use mathlib.Core.Path.{◌≡◌, refl, ap, ◌∙◌}
use mathlib.Core.List.{List}
use mathlib.Core.Option.{some}
use Prim.Native.Nat.{ℕ, ◌≤◌, ◌<◌}
use native.Mathlib.Omega.{arith}
use lib.ListN.{length}
use Rattle.theory.specs.Ledger.{nothing}
use Rattle.theory.proofs.Longest.{none_some}
use Rattle.rules.specs.Numbers.{ipv4, most_slots, scratch_words, bad_hop}
use Rattle.rules.specs.Records.{print_all, read, stray_bits}
use Rattle.rules.specs.Plain.{updated}
use Rattle.memory.specs.Layout.{Memory, zeroed}
use Rattle.ledger.specs.Promise.{Updates}
use Rattle.ledger.proofs.Wrong.{from_zeros}
use Rattle.writing.specs.Promise.{bytes_for, Writes}
use Rattle.cases.specs.Cases.{case_highest, case_too_high, case_words, table_words}
use Rattle.cases.proofs.Cases.{highest_holds, words_hold}
use Rattle.history.proofs.Room.{more_room}
use Rattle.history.proofs.Wrong.{HoldsCase, by_update, at_case}

-- AN UPDATE THAT REFUSES HOP 256
pub refuses_256_breaks : (n : ℕ) → 64 ≤ n → n ≤ most_slots → (m : Memory) (x : Refused)
    → Updates (zeroed n) (print_all ipv4 case_highest.records) m (Err x) → ⊥
refuses_256_breaks n enough few m x meets =
    let list = print_all ipv4 case_highest.records in
    none_some refl
    (ap (λ a. a.refusal) meets.answer
    ∙ ap (λ a. a.refusal) (from_zeros n (omega arith) few list ∙ more_room 64 n enough nothing list (ap (λ a. a.refusal) highest_holds.answers))
    ∙ ap (λ a. a.refusal) highest_holds.answers)

-- ONE THAT TAKES HOP 257
too_high : (n : ℕ) → (updated ipv4 n nothing (print_all ipv4 case_too_high.records)).refusal ≡ some bad_hop
unfolding updated read stray_bits
too_high n = refl

pub takes_257_breaks : (n : ℕ) → 0 < n → n ≤ most_slots → (m : Memory) (c : ℕ)
    → Updates (zeroed n) (print_all ipv4 case_too_high.records) m (Ok c) → ⊥
takes_257_breaks n some_slot few m c meets =
    none_some
    (ap (λ a. a.refusal) meets.answer ∙ ap (λ a. a.refusal) (from_zeros n some_slot few (print_all ipv4 case_too_high.records)) ∙ too_high n)
    refl

-- A WRITER WHOSE SETS HAVE ONE WORD, so that hop 65 is hop 1 to it: one entry for 0* 1 and 1* 65
pub memory_of_words : (n : ℕ) → 64 ≤ n → n ≤ most_slots → (m : Memory) (u : Result ℕ Refused) → Updates (zeroed n) (print_all ipv4 case_words.records) m u
    → (scratch : List ℕ) → length scratch ≡ scratch_words n → HoldsCase case_words m scratch
memory_of_words n enough = by_update case_words words_hold refl n (omega arith) enough

pub one_word_breaks : (m : Memory) (scratch output scratch' output' : List ℕ) → HoldsCase case_words m scratch → bytes_for table_words ≤ length output
    → Writes m scratch output scratch' output' (Ok 1) → ⊥
one_word_breaks m scratch output scratch' output' here room meets =
    let wrong : ◌≡◌ {A = Result ℕ Refused} (Ok 1) (Ok 2) = (at_case case_words table_words words_hold refl m scratch output scratch' output' (Ok 1) here room meets).0 in
    let z : ◌≡◌ {A = ℕ} 1 2 = cc in
    omega arith
