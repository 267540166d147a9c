-- The best match follows what is announced: a route changes the longest match exactly where its prefix begins the address and
-- no longer one is held, for it changes the ledger at its own prefix alone.
use mathlib.Core.Path.{◌≡◌, sym, ap, ◌∙◌}
use mathlib.Core.Logic.{inl, inr}
use Prim.Native.Nat.{ℕ, zero, suc, ◌+◌, ◌≤◌, ◌<◌, ◌^◌}
use native.Mathlib.Omega.{arith}
use lib.ListN.{length, take}
use lib.Bits.{bit_and}
use lib.Seq.{length-take-le}
use Rattle.theory.specs.Bits.{Bits, bits_of}
use Rattle.theory.specs.Ledger.{Ledger, announce, longest}
use Rattle.theory.proofs.Address.{bits_length}
use Rattle.theory.proofs.Longest.{longest_only}
use Rattle.theory.proofs.Updates.{announce_there, announce_elsewhere}
use Rattle.rules.specs.Numbers.{ipv4, width, no_route}
use Rattle.records.proofs.Prefix.{first_length_lem, begins, begins_not}
use Rattle.records.specs.Masks.{mask_of}
use Rattle.std.proofs.Common.{Option, Some}
use Rattle.lists.specs.declared.Match.{Match}
use Rattle.lists.specs.Best.{BestIn, level_of, hop_by, CanCompare, Follows}

-- the best match is the longest match
pub best_longest : (L : Ledger ℕ) (a : Bits) (level hop : ℕ) → BestIn L a level hop → hop ≡ longest L no_route a
best_longest L a zero hop b =
    longest_only L no_route a hop (inr record { none_begins = λ k l. b.no_longer k (omega arith) l; default = b.holds })
best_longest L a (suc size) hop b =
    longest_only L no_route a hop
    (inl record {
      size = size;
      begins = b.holds.0;
      holds = b.holds.1;
      no_longer = λ k l m. b.no_longer k l m;
    })

-- what is held on the address's way is held as before where the announced prefix differs, so the best match stays
kept : (L M : Ledger ℕ) (a : Bits) (level hop : ℕ) → BestIn L a level hop
    → ((k : ℕ) → level ≤ suc k → k ≤ length a → M (take k a) ≡ L (take k a)) → BestIn M a level hop
kept L M a zero hop b alike = record {
  holds = b.holds;
  no_longer = λ k l m. alike k (omega arith) m ∙ b.no_longer k l m;
}
kept L M a (suc size) hop b alike = record {
  holds = (b.holds.0, alike size (omega arith) b.holds.0 ∙ b.holds.1);
  no_longer = λ k l m. alike k (omega arith) m ∙ b.no_longer k l m;
}

module _ (L : Ledger ℕ) (a p : Bits) (hop level best-hop : ℕ) (b : BestIn L a level best-hop) (size : ℕ) (long : length p ≡ size) where
  -- a prefix of the address that has another length is held as before
  elsewhere : (k : ℕ) → k ≤ length a → (size ≡ k → ⊥) → announce L p hop (take k a) ≡ L (take k a)
  elsewhere k l d = announce_elsewhere L p hop (take k a) (λ e. d (sym long ∙ ap length e ∙ length-take-le k a l))

  -- a route shorter than the best match changes nothing, ..
  shorter : size + 1 < level → BestIn (announce L p hop) a level best-hop
  shorter s = kept L (announce L p hop) a level best-hop b (λ k l m. elsewhere k m (λ e. omega arith))

  -- .. nor does one whose prefix does not begin the address, ..
  not_begun : (p ≡ take size a → ⊥) → BestIn (announce L p hop) a level best-hop
  not_begun d =
      kept L (announce L p hop) a level best-hop b
      (λ k l m. announce_elsewhere L p hop (take k a)
      (λ e. d (e ∙ ap (λ j. take j a) (sym (sym long ∙ ap length e ∙ length-take-le k a m)))))

  -- .. and any other is the best match
  no_shorter : level ≤ size + 1 → size ≤ length a → p ≡ take size a → BestIn (announce L p hop) a (suc size) hop
  no_shorter s short e = record {
    holds = (short, ap (announce L p hop) (sym e) ∙ announce_there L p hop);
    no_longer = λ k l m. elsewhere k m (λ f. omega arith) ∙ b.no_longer k (omega arith) m;
  }

-- What the code's tests show of the list's next route.
abbrev way : ℕ → Bits
way x = bits_of (width ipv4) x

abbrev route : ℕ → ℕ → Bits
route prefix size = take size (bits_of (width ipv4) prefix)

module _ {address prefix size hop : ℕ} (best : Option Match) (fits : address < 2 ^ width ipv4) (c : CanCompare prefix size) where
  pub follows_shorter : size + 1 < level_of best → Follows address prefix size hop best best
  follows_shorter l = record { follows = λ L b. shorter L (way address) (route prefix size) hop (level_of best) (hop_by best) b size (first_length_lem (width ipv4) size prefix c.proper.within) l }

  module _ {m : ℕ} (is : m ≡ mask_of size) where
    pub follows_elsewhere : (bit_and address m ≡ prefix → ⊥) → Follows address prefix size hop best best
    follows_elsewhere d = record {
      follows = λ L b. not_begun L (way address) (route prefix size) hop (level_of best) (hop_by best) b size (first_length_lem (width ipv4) size prefix c.proper.within)
          (begins_not address prefix size fits c.proper is d);
    }

    pub follows_taken : level_of best ≤ size + 1 → bit_and address m ≡ prefix
        → Follows address prefix size hop best (Some (record { size = size; hop = hop }))
    follows_taken l e = record {
      follows = λ L b. no_shorter L (way address) (route prefix size) hop (level_of best) (hop_by best) b size (first_length_lem (width ipv4) size prefix c.proper.within) l
          (omega (arith, bits_length (width ipv4) address, c.proper.within))
          (begins address prefix size fits c.proper is e);
    }
