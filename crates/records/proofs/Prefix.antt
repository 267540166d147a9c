-- A prefix begins an address exactly where the address, masked to the prefix's length, is the prefix's own address: a masked
-- number is the address of its first bits, and strings of one length with the same address are equal.
use mathlib.Core.Path.{◌≡◌, sym, ap, ◌∙◌}
use mathlib.Core.Logic.{inl, inr}
use Prim.Native.Nat.{ℕ, zero, suc, ◌+◌, ◌-◌, ◌*◌, ◌/◌, ◌%◌, ◌^◌, ◌≤◌, ◌<◌}
use native.Mathlib.Omega.{arith}
use native.Mathlib.Nat.{zero-add, sub-zero, suc-sub-suc, pow-succ', mod-lt, mod-eq_of_lt}
use lib.ListN.{length, take}
use lib.Seq.{length-take-le}
use lib.Dec.{eqb}
use lib.Bits.{bit_and}
use lib.Pow.{pow_pos}
use lib.Arith.{mod-mul}
use borrow.Author.Tests.{eqb-true, eqb-false}
use Rattle.theory.specs.Bits.{Bits, bits_of, address_of}
use Rattle.theory.proofs.Hops.{by_test}
use Rattle.theory.proofs.Address.{bits_length, prefix_of_address}
use Rattle.rules.specs.Numbers.{ipv4, width}
use Rattle.records.specs.Masks.{mask_of}
use Rattle.records.specs.Promise.{IsPrefix}
use Rattle.records.proofs.Masks.{cleared, clear_tail}

-- the first l bits' address, with the rest of the number, is the number
prefix_rest : (w l x : ℕ) → l ≤ w → address_of w (take l (bits_of w x)) + x % 2 ^ (w - l) ≡ x % 2 ^ w
prefix_rest zero zero x h = zero-add (x % 2 ^ 0)
prefix_rest zero (suc l) x h = absurd (omega arith)
prefix_rest (suc w) zero x h = zero-add (x % 2 ^ (suc w - 0)) ∙ ap (λ v. x % 2 ^ v) (sub-zero (suc w))
prefix_rest (suc w) (suc l) x h =
    let q = x / 2 ^ w % 2 in
    let small = mod-lt (x / 2 ^ w) {m = 2} (omega arith) in
    let digits : x % 2 ^ suc w ≡ q * 2 ^ w + x % 2 ^ w =
    ap (λ k. x % k) (pow-succ' 2 w) ∙ mod-mul x {m = 2} {c = 2 ^ w} (omega arith) (pow_pos w) in
    let less : x % 2 ^ (suc w - suc l) ≡ x % 2 ^ (w - l) = ap (λ v. x % 2 ^ v) (suc-sub-suc w l) in
    let deeper = prefix_rest w l x (omega arith) in
    elim (by_test (eqb q 1)) [
      | inl e ↦ rw e (omega (arith, digits, less, deeper, ap (λ k. k * 2 ^ w) (eqb-true q 1 e)))
      | inr e ↦
          let other = eqb-false q 1 e in
          let none : q ≡ 0 = omega arith in
          rw e (omega (arith, digits, less, deeper, ap (λ k. k * 2 ^ w) none))
    ]

-- so, cleared behind l, it is the address of its first l bits
pub first_bits : (w l x : ℕ) → x < 2 ^ w → l ≤ w → x - x % 2 ^ (w - l) ≡ address_of w (take l (bits_of w x))
first_bits w l x fits h = omega (arith, prefix_rest w l x h, mod-eq_of_lt fits)

-- strings of one length with one address are equal
same_address : (w : ℕ) (s t : Bits) → length s ≤ w → length s ≡ length t → address_of w s ≡ address_of w t → s ≡ t
same_address w s t short long e =
    sym (prefix_of_address w s short) ∙ ap (λ k. take k (bits_of w (address_of w s))) long ∙ ap (λ x. take (length t) (bits_of w x)) e
    ∙ prefix_of_address w t (omega arith)

pub first_length_lem : (w l x : ℕ) → l ≤ w → length (take l (bits_of w x)) ≡ l
first_length_lem w l x h = length-take-le l (bits_of w x) (omega (arith, bits_length w x))

-- a prefix's address is the address of its first bits, so the bits fix the prefix
prefix_address : {address l : ℕ} → IsPrefix address l → address ≡ address_of (width ipv4) (take l (bits_of (width ipv4) address))
prefix_address {address} {l} p =
    omega (arith, first_bits (width ipv4) l address p.fits p.within, clear_tail address l p.within p.clear)

pub one_prefix : {a b l m : ℕ} → IsPrefix a l → IsPrefix b m → take l (bits_of (width ipv4) a) ≡ take m (bits_of (width ipv4) b)
    → (a ≡ b) × (l ≡ m)
one_prefix {a} {b} {l} {m} p q e = (
  prefix_address p ∙ ap (address_of (width ipv4)) e ∙ sym (prefix_address q),
  sym (first_length_lem (width ipv4) l a p.within) ∙ ap length e ∙ first_length_lem (width ipv4) m b q.within,
)

-- A MASKED ADDRESS IS THE PREFIX'S exactly where the prefix begins the address
module _ (x address l : ℕ) (fits : x < 2 ^ width ipv4) (p : IsPrefix address l) {m : ℕ} (is : m ≡ mask_of l) where
  masked_is : bit_and x m ≡ address_of (width ipv4) (take l (bits_of (width ipv4) x))
  masked_is = ap (bit_and x) is ∙ cleared x l fits p.within ∙ first_bits (width ipv4) l x fits p.within

  pub begins : bit_and x m ≡ address → take l (bits_of (width ipv4) address) ≡ take l (bits_of (width ipv4) x)
  begins e =
      same_address (width ipv4) (take l (bits_of (width ipv4) address)) (take l (bits_of (width ipv4) x))
      (omega (arith, first_length_lem (width ipv4) l address p.within, p.within))
      (first_length_lem (width ipv4) l address p.within ∙ sym (first_length_lem (width ipv4) l x p.within))
      (sym (prefix_address p) ∙ sym e ∙ masked_is)

  pub begins_not : (bit_and x m ≡ address → ⊥) → take l (bits_of (width ipv4) address) ≡ take l (bits_of (width ipv4) x) → ⊥
  begins_not d e = d (masked_is ∙ sym (ap (address_of (width ipv4)) e) ∙ sym (prefix_address p))
