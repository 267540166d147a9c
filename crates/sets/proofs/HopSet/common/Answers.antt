-- Word by word, the bits of both, and the flag where both have it.
use Rattle.rules.specs.Numbers.{hop_words}
use Rattle.sets.proofs.Each.{each_common}
use Rattle.sets.proofs.Members.{common_is}
use borrow.Author.Rules.{rules}
use Rattle.sets.proofs.HopSet.common.Goals as goal

pub returns : goal.returns
returns c =
    let s = c.args.self in
    let t = c.args.other in
    common_is s t _ (each_common hop_words s.words t.words c.each_word.result (search rules) (search rules) (search rules) (λ k l. search rules))
