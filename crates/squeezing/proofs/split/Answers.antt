-- What is told is whether the two are apart, in any form of that test.
use mathlib.Core.Path.{refl}
use mathlib.Core.Logic.{inl, inr}
use Rattle.theory.proofs.Hops.{by_test}
use Rattle.squeezing.proofs.Forming.{met, split_is}
use Rattle.squeezing.proofs.split.Goals as goal

pub returns : goal.returns
returns c =
    split_is (met c.args.a c.args.b) c.apart.ensures c.from.ensures (elim (by_test c.apart.result) [ inl e ↦ rw e refl | inr e ↦ rw e refl ])
