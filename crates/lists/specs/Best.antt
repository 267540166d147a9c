-- The best match so far, which the one pass over a list keeps: its level is 0 where nothing matches, and else 1 more than the
-- length of the longest match. The promise of the lookup does not speak of it.
use Rattle.std.specs.Prelude.{◌≡◌, Option, None, Some, ℕ, zero, suc, ◌≤◌, length, take}
use Rattle.std.proofs.Math.Option.{none, some}
use Rattle.theory.specs.Bits.{Bits, bits_of}
use Rattle.theory.specs.Ledger.{Ledger, announce}
use Rattle.rules.specs.Numbers.{ipv4, width, no_route}
use Rattle.records.specs.Promise.{IsPrefix}
use Rattle.lists.specs.declared.Match.{Match}

-- the level of the best match, and the hop that it gives
abbrev pub level_of : Option Match → ℕ
level_of None = 0
level_of (Some m) = suc m.size

abbrev pub hop_by : Option Match → ℕ
hop_by None = no_route
hop_by (Some m) = m.hop

-- what is held at a level
abbrev pub Holds : Ledger ℕ → Bits → ℕ → ℕ → Type 0
Holds L a zero hop = hop ≡ no_route
Holds L a (suc size) hop = (size ≤ length a) × (L (take size a) ≡ some hop)

-- the hop is held there, and no longer prefix of the address is held
pub record BestIn (L : Ledger ℕ) (a : Bits) (level hop : ℕ) : Type 0 where
  pub holds : Holds L a level hop
  pub no_longer : (k : ℕ) → level ≤ k → k ≤ length a → L (take k a) ≡ none

-- what a caller shows of the route that is compared
pub record CanCompare (prefix size : ℕ) : Type 0 where
  pub proper : IsPrefix prefix size

-- what was the best match in a ledger is followed by the best match once the route is announced there
pub record Follows (address prefix size hop : ℕ) (before after : Option Match) : Type 0 where
  pub follows : (L : Ledger ℕ) → BestIn L (bits_of (width ipv4) address) (level_of before) (hop_by before)
      → BestIn (announce L (take size (bits_of (width ipv4) prefix)) hop) (bits_of (width ipv4) address) (level_of after) (hop_by after)
