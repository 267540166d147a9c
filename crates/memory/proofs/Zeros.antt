-- Zeroed memory holds the empty ledger, and is tidy.
use Rattle.std.proofs.Common.{◌≡◌, ℕ, ◌<◌, ◌≤◌, Bool, true, false, reverse, length, get_or, refl, ap, ◌∙◌, inl, inr, arith}
use mathlib.Core.Path.{fun_ext}
use mathlib.Core.Option.{none}
use lib.ListN.{length-replicate, get_or-replicate, get_or-eq_default}
use Rattle.theory.specs.Ledger.{nothing}
use Rattle.memory.specs.Layout.{slots, layout_slots, Whole, link, find, read_hop, hop_at, ledger_of, zeros, zeroed}
use Rattle.memory.specs.Tidy.{Tidy}
use Rattle.memory.proofs.Find.{below_or}
use Rattle.memory.proofs.Chain.{zeros_chained}
use Rattle.memory.proofs.Ledger.{hop_none, ledger_at, ledger_long}

-- every element of a zeroed slice, and what lies behind it, reads as 0
zeros_length : (n : ℕ) → length (zeros n) ≡ n
zeros_length n = length-replicate n 0

zero_at : (n k : ℕ) → get_or (zeros n) k 0 ≡ 0
zero_at n k =
    elim (below_or k n) [
      | inl l ↦ get_or-replicate n k 0 0 l
      | inr l ↦ get_or-eq_default (zeros n) 0 {n = k} (omega (arith, zeros_length n))
    ]

module _ (n : ℕ) where
  no_link : (b : Bool) (k : ℕ) → link (zeroed n).tree b k ≡ 0
  unfolding zeroed
  no_link true k = zero_at n k
  no_link false k = zero_at n k

  no_hop : (k : ℕ) → hop_at (zeroed n) k ≡ none
  unfolding zeroed
  no_hop k = ap read_hop (zero_at n k) ∙ hop_none

  pub zeroed_ledger : (w : ℕ) → ledger_of w (zeroed n) ≡ nothing
  zeroed_ledger w =
      fun_ext
      (λ s.
      elim (below_or w (length s)) [
        | inl l ↦ ledger_long w (zeroed n) s l
        | inr l ↦ ledger_at w (zeroed n) s l ∙ no_hop (find (zeroed n).tree (reverse s))
      ])

  pub zeroed_slots : slots (zeroed n).tree ≡ n
  unfolding zeroed
  zeroed_slots = zeros_length n

  pub zeroed_whole : 0 < n → n ≤ layout_slots → Whole (zeroed n)
  unfolding zeroed
  zeroed_whole some few =
      record {
        shaped = record { los = refl; his = refl; some_slot = omega (arith, zeros_length n); few = omega (arith, zeros_length n) };
        hops = refl;
      }

  pub zeroed_tidy : 0 < n → (w : ℕ) → Tidy w (zeroed n)
  unfolding zeroed
  zeroed_tidy some w = record {
    each_slot = λ k p l other. inl record { no_mark = zero_at n k; no_hi = zero_at n k; no_hop = zero_at n k };
    neat = λ k b used. inl (no_link b k);
    plain = λ k e. zero_at n k;
    chained = zeros_chained (zeroed n).tree (zero_at n) (zero_at n) (omega (arith, zeros_length n));
  }

  pub zeroed_head : get_or (zeroed n).tree.up 0 0 ≡ 0
  unfolding zeroed
  zeroed_head = zero_at n 0
