-- A record written byte by byte: at each turn the output has the address's bytes passed, and then the four behind them.
use mathlib.Core.Path.{◌≡◌, refl, sym, ap, ap₂, ◌∙◌}
use mathlib.Core.List.{List, [], ◌∷◌}
use Prim.Native.Nat.{ℕ, ◌+◌, ◌/◌, ◌%◌, ◌≤◌, ◌<◌}
use native.Mathlib.Omega.{arith}
use native.Mathlib.Nat.{mod-eq_of_lt, div-one}
use native.Mathlib.Numerals.{add-one, add-two, add-three}
use lib.ListN.{length, take, set, length-set}
use lib.Seq.{sets, take_all}
use Rattle.theory.specs.Bits.{address_of, prefix_of}
use Rattle.theory.proofs.Walk.{prefix_length}
use Rattle.rules.specs.Numbers.{width, announce_action}
use Rattle.rules.specs.Records.{bytes_of, announces, print}
use Rattle.rules.proofs.Records.{bytes_length}
use Rattle.memory.specs.declared.Path.{Path}
use Rattle.memory.specs.Path.{path_bit}
use Rattle.printing.specs.Printing.{patch, CanPrint, path_byte}
use Rattle.printing.proofs.Patch.{patch_none, patch_next, patch_stores}
use Rattle.printing.proofs.Bytes.{path_byte_lem}

abbrev address_bytes : ℕ → Path → ℕ → List ℕ
address_bytes k path size = bytes_of k (address_of (width k) (prefix_of (path_bit path) size))

-- i bytes of the address are written: the output was l and is m
pub record Written (l : List ℕ) (at k : ℕ) (path : Path) (size : ℕ) (m : List ℕ) (i : ℕ) : Type 0 where
  pub within : i ≤ k
  pub same_length : length m ≡ length l
  pub so_far : m ≡ patch at (take i (address_bytes k path size)) l

module _ {l : List ℕ} {at k : ℕ} {path : Path} {size hop : ℕ} (can : CanPrint l at k path size hop) where
  long : length (address_bytes k path size) ≡ k
  long = bytes_length k (address_of (width k) (prefix_of (path_bit path) size))

  pub written_none : Written l at k path size l 0
  written_none = record { within = omega arith; same_length = refl; so_far = sym (patch_none at l) }

  pub written_more : {m : List ℕ} {i v : ℕ} → Written l at k path size m i → i < k → v ≡ path_byte path i
      → Written l at k path size (set m (at + i) v) (i + 1)
  written_more {m} {i} {v} written more value = record {
    within = omega arith;
    same_length = length-set m (at + i) v ∙ written.same_length;
    so_far =
        ap₂ (λ n b. set n (at + i) b) written.so_far (value ∙ sym (path_byte_lem path k size i can.fits can.short can.clear more))
        ∙ patch_next at i (address_bytes k path size) l (omega (arith, long)) (omega (arith, long, can.room))
        ∙ ap (λ n. patch at (take n (address_bytes k path size)) l) (sym (add-one i));
  }

  -- THE WHOLE RECORD, once the length, the action and the two bytes of the hop are stored behind the address
  pub written_all : {m : List ℕ} {i : ℕ} (high low : ℕ) → Written l at k path size m i → k ≤ i → high ≡ hop / 256 → low ≡ hop % 256
      → set (set (set (set m (at + k) size) (at + k + 1) announce_action) (at + k + 2) high) (at + k + 3) low
      ≡ patch at (print k (announces (prefix_of (path_bit path) size) hop)) l
  written_all {m} {i} high low written end high_is low-is =
      let bytes = address_bytes k path size in
      let rest : List ℕ = size ∷ announce_action ∷ hop / 256 ∷ hop % 256 ∷ [] in
      let small : hop / 256 < 256 = omega (arith, can.two_bytes) in
      let whole : m ≡ patch at bytes l = written.so_far ∙ ap (λ xs. patch at xs l) (take_all i bytes (omega (arith, long))) in
      let length-is = prefix_length (path_bit path) size in
      rw
      (whole, high_is, low-is, add-one (at + k), add-two (at + k), add-three (at + k), length-is, mod-eq_of_lt small, div-one hop)
      (ap (λ n. sets (patch at bytes l) (at + n) rest) (sym long) ∙ patch_stores at bytes rest l (omega (arith, long, can.room)))
