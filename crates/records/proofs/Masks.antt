-- What the masks do: `x & mask` clears the bits behind the length, for the mask has all bits in front of it set and none
-- behind; so it changes nothing exactly where no bit is set there.
use mathlib.Core.Path.{◌≡◌, sym, ap, ◌∙◌}
use mathlib.Core.Bool.{true, false, not}
use Prim.Native.Nat.{ℕ, zero, suc, ◌+◌, ◌-◌, ◌*◌, ◌/◌, ◌%◌, ◌^◌, ◌≤◌, ◌<◌}
use native.Mathlib.Omega.{arith}
use native.Mathlib.Nat.{add-zero, zero-add, mod-le}
use lib.ListN.{get_or}
use lib.Bits.{bit_and, and_high}
use lib.Pow.{split, shr_mod}
use lib.Dec.{eqb}
use borrow.Author.Tests.{ne_eqb, eqb-true, not-false}
use Rattle.theory.proofs.Address.{bits_behind}
use Rattle.rules.specs.Numbers.{ipv4, width}
use Rattle.rules.specs.Records.{stray_bits}
use Rattle.records.specs.Masks.{mask_of, masks_from, mask_table}

-- the table's rule: at each length stands its mask
masks_at : (n l i : ℕ) → i < n → get_or (masks_from l n) i 0 ≡ mask_of (l + i)
masks_at zero l i h = absurd (omega arith)
masks_at (suc n) l zero h = ap mask_of (sym (add-zero l))
masks_at (suc n) l (suc i) h = masks_at n (suc l) i (omega arith) ∙ ap mask_of (omega arith)

pub mask_at : (l : ℕ) → l ≤ width ipv4 → get_or mask_table l 0 ≡ mask_of l
unfolding mask_table
mask_at l h = masks_at (suc (width ipv4)) 0 l (omega arith) ∙ ap mask_of (zero-add l)

pub mask_in : (i l : ℕ) → i ≡ l → l ≤ width ipv4 → get_or mask_table i 0 ≡ mask_of l
mask_in i l there h = ap (λ k. get_or mask_table k 0) there ∙ mask_at l h

-- `x & mask` is x with the bits behind the length cleared
pub masked : (x l : ℕ) → x < 2 ^ width ipv4 → l ≤ width ipv4 → bit_and x (get_or mask_table l 0) ≡ x - x % 2 ^ (width ipv4 - l)
masked x l fits h =
    let v = width ipv4 - l in
    let e : width ipv4 ≡ l + v = omega arith in
    let below : x < 2 ^ (l + v) = rw (← e) fits in
    let high : bit_and x (2 ^ (l + v) - 2 ^ v) ≡ x / 2 ^ v * 2 ^ v = and_high x l v ∙ ap (λ q. q * 2 ^ v) (shr_mod l v below) in
    ap (bit_and x) (mask_at l h ∙ ap (λ n. 2 ^ n - 2 ^ v) e) ∙ high ∙ omega (arith, split x v)

pub cleared : (x l : ℕ) → x < 2 ^ width ipv4 → l ≤ width ipv4 → bit_and x (mask_of l) ≡ x - x % 2 ^ (width ipv4 - l)
cleared x l fits h = ap (bit_and x) (sym (mask_at l h)) ∙ masked x l fits h

-- a bit behind the length is set exactly where the number over 2 ^ (32 - length) leaves something, ..
stray_bits_lem : (x l : ℕ) → l ≤ width ipv4 → stray_bits (width ipv4) l x ≡ not (eqb (x % 2 ^ (width ipv4 - l)) 0)
unfolding stray_bits
stray_bits_lem x l h = bits_behind (width ipv4) l x h

pub clear_tail : (x l : ℕ) → l ≤ width ipv4 → stray_bits (width ipv4) l x ≡ false → x % 2 ^ (width ipv4 - l) ≡ 0
clear_tail x l h e = eqb-true _ 0 (not-false _ (sym (stray_bits_lem x l h) ∙ e))

-- .. and exactly where the mask changes the number
module _ (x l : ℕ) (fits : x < 2 ^ width ipv4) (h : l ≤ width ipv4) {m : ℕ} (is : m ≡ mask_of l) where
  mask_changes : bit_and x m ≡ x - x % 2 ^ (width ipv4 - l)
  mask_changes = ap (bit_and x) is ∙ cleared x l fits h

  pub kept_clear : bit_and x m ≡ x → stray_bits (width ipv4) l x ≡ false
  kept_clear e =
      let none : x % 2 ^ (width ipv4 - l) ≡ 0 = omega (arith, mask_changes, mod-le x (2 ^ (width ipv4 - l))) in
      stray_bits_lem x l h ∙ ap (λ k. not (eqb k 0)) none

  pub changed_stray : (bit_and x m ≡ x → ⊥) → stray_bits (width ipv4) l x ≡ true
  changed_stray d =
      let some : x % 2 ^ (width ipv4 - l) ≡ 0 → ⊥ = λ z. d (omega (arith, mask_changes)) in
      stray_bits_lem x l h ∙ ap not (ne_eqb (x % 2 ^ (width ipv4 - l)) 0 some)
