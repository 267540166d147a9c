-- Word by word, the bits of either, and the flag where one has it.
use Rattle.rules.specs.Numbers.{hop_words}
use Rattle.sets.proofs.Each.{each_union}
use Rattle.sets.proofs.Members.{union_is}
use borrow.Author.Rules.{rules}
use Rattle.sets.proofs.HopSet.union.Goals as goal

pub returns : goal.returns
returns c =
    let s = c.args.self in
    let t = c.args.other in
    union_is s t _ (each_union hop_words s.words t.words c.each_word.result (search rules) (search rules) (search rules) (λ k l. search rules))
