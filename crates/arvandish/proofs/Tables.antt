-- The struct is the one for the answer of the call inside, and what that leaves is what is left.
use mathlib.Core.Path.{◌≡◌, sym, ap, ◌∙◌}
use mathlib.Core.List.{List, []}
use Rattle.std.proofs.Common.{Result, Ok, Err}
use Rattle.refusals.specs.declared.Refused.{Refused}
use Rattle.fresh.specs.Promise.{tabled_of, Tables}
use Rattle.answers.specs.declared.CountAnswer.{CountAnswer}
use Rattle.answers.specs.Answers.{count_for, CountedSo}
use Rattle.answers.proofs.Answers.{told_beside}
use Rattle.arvandish.specs.Promise.{TablesForC}
use Prim.Native.Nat.{ℕ}

left_is : (w : Result ℕ Refused) (output : List ℕ) → (tabled_of w output).output ≡ output
left_is (Ok count) output = λ i. output
left_is (Err refused) output = λ i. output

pub told_table : (list output output' : List ℕ) (w : Result ℕ Refused) (r : CountAnswer) → Tables list output output' w → CountedSo w r → TablesForC list output output' r
told_table list output output' w r tables told = record {
  answer = told.told ∙ told_beside w [] output' ∙ ap (λ t. count_for t.refusal t.count) tables.outcome;
  left = sym (left_is w output') ∙ ap (λ t. t.output) tables.outcome;
}
