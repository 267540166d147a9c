-- The bytes of an address, bit by bit: byte j of a path that is clear behind a prefix is byte j of the prefix's address. Numbers
-- of 8 bits with the same bits are equal, and each bit of either is a bit of the path.
use mathlib.Core.Path.{◌≡◌, refl, sym, ap, ◌∙◌}
use mathlib.Core.Bool.{Bool, false, cond}
use mathlib.Core.Logic.{inl, inr}
use mathlib.Core.List.{[], ◌∷◌, ◌++◌, reverse, reverse-reverse}
use Prim.Native.Nat.{ℕ, zero, suc, ◌+◌, ◌-◌, ◌*◌, ◌/◌, ◌%◌, ◌^◌, ◌≤◌, ◌<◌}
use native.Mathlib.Omega.{arith}
use native.Mathlib.Nat.{le_refl, div-one, add-zero, add-suc, zero-add, add-sub_of_le}
use lib.ListN.{get_or}
use lib.Seq.{take_all}
use lib.Dec.{eqb, ltb}
use borrow.Author.Tests.{eqb-true, eqb-false, lt-ltb, le-ltb, ltb-true, ltb-false}
use Rattle.std.proofs.Common.{w64}
use Rattle.std.specs.Int.{to_be_bytes}
use Rattle.theory.specs.Bits.{Bits, bits_of, address_of, front, prefix_of}
use Rattle.theory.proofs.Hops.{by_test}
use Rattle.theory.proofs.Address.{bits_length, bits_address}
use Rattle.theory.proofs.Walk.{prefix_length, prefix_bits}
use Rattle.rules.specs.Numbers.{width}
use Rattle.rules.specs.Records.{bytes_of}
use Rattle.rules.proofs.Records.{pow_bytes}
use Rattle.memory.specs.declared.Path.{Path}
use Rattle.memory.specs.Path.{path_bit, path_bits}
use Rattle.printing.specs.Printing.{ClearFrom, path_bytes, path_byte}
use Rattle.printing.proofs.Paths.{clear_front}
use Rattle.printing.proofs.Digits.{bit, shift_bit, same_bits}

-- The bits of a full prefix's address are the path's.
same_front : (f g : ℕ → Bool) (w : ℕ) → front f w ≡ front g w → (i : ℕ) → i < w → f i ≡ g i
same_front f g zero e i l = absurd (omega arith)
same_front f g (suc w) e i l =
    elim (by_test (eqb i w)) [
      | inl q ↦ rw (eqb-true i w q) (cc)
      | inr q ↦ let other = eqb-false i w q in same_front f g w (cc) i (omega arith)
    ]

address_bit : (f : ℕ → Bool) (w i : ℕ) → i < w → bit (address_of w (prefix_of f w)) (w - 1 - i) ≡ f i
address_bit f w =
    let address = address_of w (prefix_of f w) in
    let g : ℕ → Bool = λ i. bit address (w - 1 - i) in
    let same : prefix_of g w ≡ prefix_of f w =
    prefix_bits w address g (λ i l. refl) w (le_refl w)
    ∙ take_all w (bits_of w address) (omega (arith, bits_length w address))
    ∙ bits_address w (prefix_of f w) (prefix_length f w) in
    same_front g f w (sym (reverse-reverse (front g w)) ∙ ap reverse same ∙ reverse-reverse (front f w))

-- Zeros behind a prefix leave its address.
nothing_there : (w : ℕ) → address_of w [] ≡ 0
nothing_there zero = refl
nothing_there (suc w) = refl

zero_behind : (w : ℕ) (s : Bits) → address_of w (s ++ (false ∷ [])) ≡ address_of w s
zero_behind zero s = refl
zero_behind (suc w) [] = zero-add (address_of w []) ∙ nothing_there w
zero_behind (suc w) (b ∷ s) = ap (λ x. cond b (2 ^ w) 0 + x) (zero_behind w s)

zeros_behind : (path : Path) (w size n : ℕ) → ClearFrom path size w → size + n ≤ w
    → address_of w (prefix_of (path_bit path) (size + n)) ≡ address_of w (prefix_of (path_bit path) size)
zeros_behind path w size zero clear l = rw (add-zero size)
zeros_behind path w size (suc n) clear l =
    rw (add-suc size n, clear_front path (size + n) w (λ i h. clear i (omega arith)) (omega arith))
    (zero_behind w (prefix_of (path_bit path) (size + n)) ∙ zeros_behind path w size n clear (omega arith))

whole_address : (path : Path) (w size : ℕ) → ClearFrom path size w → size ≤ w
    → address_of w (prefix_of (path_bit path) size) ≡ address_of w (prefix_of (path_bit path) w)
whole_address path w size clear l =
    rw (add-sub_of_le l) at (sym (zeros_behind path w size (w - size) clear (omega arith)))

-- byte j of k, from the first
byte_at : (k x j : ℕ) → j < k → get_or (bytes_of k x) j 0 ≡ x / 2 ^ (8 * (k - 1 - j)) % 2 ^ 8
byte_at zero x j l = absurd (omega arith)
byte_at (suc k) x zero l = ap (λ p. x / p % 256) (pow_bytes k ∙ ap (λ e. 2 ^ e) (omega arith))
byte_at (suc k) x (suc j) l = byte_at k x j (omega arith) ∙ ap (λ e. x / 2 ^ e % 256) (omega arith)

-- .. and of a word
word_bytes : (x : ℕ) → to_be_bytes w64 x ≡ bytes_of 8 x
word_bytes x = rw (div-one x)

pub word_byte : (x j : ℕ) → j < 8 → get_or (to_be_bytes w64 x) j 0 ≡ x / 2 ^ (56 - 8 * j) % 256
word_byte x j l = ap (λ bs. get_or bs j 0) (word_bytes x) ∙ byte_at 8 x j l ∙ ap (λ e. x / 2 ^ e % 256) (omega arith)

-- byte j of a path with what stands before it in its half, and the byte's bits in that
abbrev up_to : Path → ℕ → ℕ
up_to path j = cond (ltb j 8) (path.high / 2 ^ (56 - 8 * j)) (path.low / 2 ^ (120 - 8 * j))

up_to_bit : (path : Path) (j e : ℕ) → j < path_bytes → e < 8 → bit (up_to path j) e ≡ path_bit path (8 * j + (7 - e))
unfolding path_bit
up_to_bit path j e fits l =
    let place = 8 * j + (7 - e) in
    elim (by_test (ltb j 8)) [
      | inl q ↦
          let near = ltb-true j 8 q in
          rw (q, lt-ltb place 64 (omega arith)) (shift_bit path.high (56 - 8 * j) e (63 - place) (omega arith))
      | inr q ↦
          let far = ltb-false j 8 q in
          rw (q, le-ltb place 64 (omega arith)) (shift_bit path.low (120 - 8 * j) e (127 - place) (omega arith))
    ]

-- BYTE j OF A PATH IS BYTE j OF ITS PREFIX'S ADDRESS
pub path_byte_lem : (path : Path) (k size j : ℕ) → width k ≤ path_bits → size ≤ width k → ClearFrom path size (width k) → j < k
    → get_or (bytes_of k (address_of (width k) (prefix_of (path_bit path) size))) j 0 ≡ path_byte path j
unfolding path_byte
path_byte_lem path k size j fits short clear l =
    let address = address_of (width k) (prefix_of (path_bit path) (width k)) in
    let shift = 8 * (k - 1 - j) in
    let same : (e : ℕ) → e < 8 → bit (address / 2 ^ shift) e ≡ bit (up_to path j) e =
    λ e h. let place = 8 * j + (7 - e) in
    shift_bit address shift e (width k - 1 - place) (omega arith)
    ∙ address_bit (path_bit path) (width k) place (omega arith)
    ∙ sym (up_to_bit path j e (omega arith) h) in
    ap (λ x. get_or (bytes_of k x) j 0) (whole_address path (width k) size clear short)
    ∙ byte_at k address j l
    ∙ same_bits 8 (address / 2 ^ shift) (up_to path j) same
