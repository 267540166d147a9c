-- The program's promise fixes the bytes that it writes, for every input.
use mathlib.Core.Path.{◌≡◌, sym, ap, ◌∙◌}
use mathlib.Core.Logic.{inl, inr}
use mathlib.Core.List.{List}
use Prim.Native.Nat.{ℕ, ◌≤◌}
use lib.Dec.{ltb}
use lib.ListN.{length, take, drop}
use lib.Seq.{take_at}
use borrow.Author.Tests.{ltb-true, ltb-false}
use Rattle.theory.proofs.Hops.{by_test}
use Rattle.rules.specs.Numbers.{most_input}
use Rattle.program.specs.Promise.{writes_for, Answers}

-- ONE ANSWER, and one output beside it
pub one_answer : (input output o₁ o₂ : List ℕ) (r s : ℕ) → Answers input output o₁ r → Answers input output o₂ s → (r ≡ s) × (o₁ ≡ o₂)
one_answer input output o₁ o₂ r s one other =
    elim (by_test (ltb (length output) most_input)) [
      | inl short ↦
          let here = one.no_room (ltb-true (length output) most_input short) in
          let there = other.no_room (ltb-true (length output) most_input short) in
          (here.0 ∙ sym there.0, here.1 ∙ sym there.1)
      | inr room ↦
          let here = one.stands (ltb-false (length output) most_input room) in
          let there = other.stands (ltb-false (length output) most_input room) in
          (here.count ∙ sym there.count, here.left ∙ sym there.left)
    ]

-- WHAT IS WRITTEN OUT: the first bytes of the output, as many as the call says, are those that document 01 gives for the input
pub written_out : (input output output' : List ℕ) (r : ℕ) → most_input ≤ length output → Answers input output output' r
    → take r output' ≡ writes_for input
written_out input output output' r room answers =
    let s = answers.stands room in
    ap (take r) s.left ∙ take_at (writes_for input) (drop (length (writes_for input)) output) r (sym s.count)
