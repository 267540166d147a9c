-- An address as a path.
use mathlib.Core.Path.{◌≡◌, ap, ◌∙◌}
use Prim.Native.Nat.{ℕ, ◌+◌, ◌-◌, ◌*◌, ◌/◌, ◌%◌, ◌^◌, ◌≤◌}
use native.Mathlib.Omega.{arith}
use native.Mathlib.Nat.{mul-div-mul_right}
use lib.Dec.{eqb}
use lib.ListN.{take}
use lib.Pow.{pow-add}
use borrow.Author.Tests.{lt-ltb}
use Rattle.theory.specs.Bits.{bits_of, prefix_of}
use Rattle.theory.proofs.Walk.{prefix_bits}
use Rattle.rules.specs.Numbers.{ipv4, width}
use Rattle.memory.specs.Path.{path_bit}
use Rattle.memory.specs.declared.Path.{Path}
use Rattle.ledger.specs.Steps.{IsPathOf}

-- Shifted to the path's front, its bits stand first
pub path_bits_lem : (x h : ℕ) → h ≡ x * 4294967296 → IsPathOf x (record { high = h; low = 0 })
unfolding path_bit
path_bits_lem x h is = rw is record {
  bit_by_bit = λ i l.
      let apart : 63 - i ≡ (31 - i) + 32 = omega arith in
      let shifted : x * 4294967296 / 2 ^ (63 - i) ≡ x / 2 ^ (31 - i) =
      ap (λ e. x * 4294967296 / 2 ^ e) apart
      ∙ ap (λ d. x * 4294967296 / d) (pow-add 2 (31 - i) 32)
      ∙ mul-div-mul_right x (2 ^ (31 - i)) (omega arith) in
      rw (lt-ltb i 64 (omega arith)) (ap (λ q. eqb (q % 2) 1) shifted);
}

-- so a prefix of the path is a prefix of the address
pub path_prefix : (x : ℕ) (p : Path) → IsPathOf x p → (size : ℕ) → size ≤ width ipv4 → prefix_of (path_bit p) size ≡ take size (bits_of (width ipv4) x)
path_prefix x p is size l = prefix_bits (width ipv4) x (path_bit p) is.bit_by_bit size l
