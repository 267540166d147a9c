-- Neither the flag nor, in any word, a bit.
use mathlib.Core.Path.{◌≡◌, ap, ◌∙◌}
use mathlib.Core.Bool.{not}
use Prim.Native.Nat.{ℕ, ◌*◌}
use lib.Dec.{eqb}
use lib.ListN.{length}
use Rattle.std.proofs.Common.{rules, tests}
use Rattle.std.proofs.lemmas.Iterator.{YieldsList-from_slice}
use Rattle.std.proofs.lemmas.Iterator.Search.{all_from_yields_List}
use Rattle.theory.specs.Hops.{some_below}
use Rattle.rules.specs.Numbers.{word_bits, hop_words}
use Rattle.sets.specs.Sets.{digits_of}
use Rattle.sets.proofs.Digits.{in_word, all_zero}
use Rattle.sets.proofs.Members.{empty_is}
use Rattle.sets.proofs.HopSet.is_empty.Goals as goal

pub returns : goal.returns
returns c =
    let words = c.args.self.words in
    let long : length words ≡ hop_words = search rules in
    empty_is c.args.self
    (all_from_yields_List (λ (word : ℕ). eqb word 0) _ _ c.all.result c.all.ensures.ran (YieldsList-from_slice words (cc)) (λ x b q k. search (rules, tests))
    ∙ all_zero words (λ i. in_word (search rules))
    ∙ ap (λ n. not (some_below (word_bits * n) (digits_of words))) long)
