-- A walk that ends where a bit leads nowhere, short of all the bits, tells that they have no slot.
use Rattle.std.proofs.Common.{◌≡◌, ℕ, suc, ◌<◌, Bool, sym, ap, ◌∙◌, arith}
use Rattle.theory.specs.Bits.{front}
use Rattle.memory.specs.Layout.{Tree, slots, Shaped, child, find}
use Rattle.memory.specs.Reach.{Reaches}
use Rattle.memory.proofs.Find.{none_deeper}

pub short_none : (t : Tree) (f : ℕ → Bool) (size d slot : ℕ) → Reaches t f size d slot → Shaped t → d < size
    → find t (front f size) ≡ slots t
short_none t f size d slot met shaped l =
    let none-next : find t (front f (suc d)) ≡ slots t = ap (child t (f d)) (sym met.there) ∙ met.ends l in
    none_deeper t shaped f (suc d) size none-next (omega arith)
