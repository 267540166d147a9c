-- WHAT LIES BELOW A SLOT: the ledger of the strings behind its own, their leaves and their sets. A walk down uses up one of
-- the bits that are left, so all of it is said over their number w, and nothing here knows how long an address is.
use Rattle.std.specs.Prelude.{◌≡◌, [], ◌∷◌, ℕ, zero, suc, ◌≤◌, length}
use Rattle.std.proofs.Math.Option.{Option, none}
use Rattle.theory.specs.Bits.{Bits}
use Rattle.theory.specs.Hops.{Hops, only}
use Rattle.theory.specs.Ledger.{Ledger, or_else}
use Rattle.theory.specs.Smallest.{Leaves, set_of}
use Rattle.theory.specs.Theorem.{leaves}
use Rattle.rules.specs.Numbers.{hop_bound}
use Rattle.memory.specs.Layout.{Tree, Memory, child, hop_at}

-- what is held for a string below slot p, the string's first bit first
abbrev pub walk : Memory → Bits → ℕ → ℕ → Option ℕ
walk m [] w p = hop_at m p
walk m (b ∷ s) zero p = none
walk m (b ∷ s) (suc w) p = walk m s w (child m.tree b p)

abbrev pub held_below : ℕ → Memory → ℕ → Ledger ℕ
held_below w m p s = walk m s w p

-- the hop in force from slot p on, where d is in force above
abbrev pub in_force : Memory → ℕ → ℕ → ℕ
in_force m p d = or_else (hop_at m p) d

-- the leaves below slot p, where d is in force above, and the set that they give slot p's string
abbrev pub leaves_below : ℕ → Memory → ℕ → ℕ → Leaves
leaves_below w m p d = leaves only (held_below w m p) d

abbrev pub set_below : ℕ → Memory → ℕ → ℕ → Hops
set_below w m p d = set_of hop_bound w (leaves_below w m p d)

-- the slot of a string below slot p, and the slots of all strings of at most w bits there
abbrev pub descend : Tree → Bits → ℕ → ℕ
descend t [] p = p
descend t (b ∷ s) p = descend t s (child t b p)

pub record LiesBelow (t : Tree) (w p k : ℕ) : Type 0 where
  pub string : Bits
  pub short : length string ≤ w
  pub lies : descend t string p ≡ k
