-- The smallest table, as document 01 has it from document 001.
-- The leaves are given: a set of allowed hops for each address of w bits. n bounds the hops.
use Rattle.std.specs.Prelude.{Bool, true, false, cond, List, [], ◌∷◌, ◌++◌, map, ℕ, zero, suc, ◌+◌, ◌-◌, length}
use Rattle.std.proofs.Math.Option.{Option, none, some}
use Rattle.theory.specs.Bits.{Bits}
use Rattle.theory.specs.Ledger.{Entry, ◌via◌, or_else, line}
use Rattle.theory.specs.Hops.{Hops, some_below, common, join, least}

abbrev pub Leaves : Type 0
Leaves = Bits → Hops

-- the leaves of the addresses that begin with a bit, and with a string
abbrev pub half : Bool → Leaves → Leaves
half b F a = F (b ∷ a)

abbrev pub behind : Bits → Leaves → Leaves
behind s F a = F (s ++ a)

-- THE SET of the empty string: a full string has its leaf's; a shorter one the common part of its two children's sets
-- or, if that is empty, their union
abbrev pub set_of : ℕ → ℕ → Leaves → Hops
set_of n zero F = F []
set_of n (suc w) F = join n (set_of n w (half false F)) (set_of n w (half true F))

-- GOING DOWN, with hop d in force above a string whose set is x: no entry if d is in the set, else one with the least member
abbrev pub entry : ℕ → Hops → ℕ → Option ℕ
entry n x d = cond (x d) none (some (least n x))

-- the hop in force from there on: the entry's, or else the one above
abbrev pub choose : ℕ → Hops → ℕ → ℕ
choose n x d = or_else (entry n x d) d

-- entries moved below a bit
abbrev pub move : Bool → Entry → Entry
move b (s via h) = (b ∷ s) via h

abbrev pub under : Bool → List Entry → List Entry
under b es = map (move b) es

-- the empty string's entry, or none
abbrev pub here : Option ℕ → List Entry
here o = line [] o

-- THE TABLE: the string's own entry, then those below its 0, then those below its 1; so by address and then by length
abbrev pub table : ℕ → ℕ → Leaves → ℕ → List Entry
table n zero F d = here (entry n (F []) d)
table n (suc w) F d =
    here (entry n (set_of n (suc w) F) d)
    ++ (under false (table n w (half false F) (choose n (set_of n (suc w) F) d))
    ++ under true (table n w (half true F) (choose n (set_of n (suc w) F) d)))

-- SPLITS: how many strings have children whose sets are apart. The table has as many entries, and one more where d is not in the
-- top set (proofs/Fewest); so its count is known once the sets are.
abbrev pub split : ℕ → Hops → Hops → ℕ
split n x y = cond (some_below n (common x y)) 0 1

abbrev pub splits : ℕ → ℕ → Leaves → ℕ
splits n zero F = 0
splits n (suc w) F =
    split n (set_of n w (half false F)) (set_of n w (half true F)) + (splits n w (half false F) + splits n w (half true F))

-- The same, said of each string s of at most w bits: its set, the hop in force above it, and its entry.
abbrev pub set_at : ℕ → ℕ → Leaves → Bits → Hops
set_at n w F s = set_of n (w - length s) (behind s F)

abbrev pub hop_above : ℕ → ℕ → Leaves → ℕ → Bits → ℕ
hop_above n w F d [] = d
hop_above n zero F d (b ∷ s) = d
hop_above n (suc w) F d (b ∷ s) = hop_above n w (half b F) (choose n (set_of n (suc w) F) d) s

abbrev pub entry_at : ℕ → ℕ → Leaves → ℕ → Bits → Option ℕ
entry_at n w F d s = entry n (set_at n w F s) (hop_above n w F d s)
