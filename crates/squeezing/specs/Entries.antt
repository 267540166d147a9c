-- ENTRIES DOWNWARD: the table below a slot, its bytes as they stand in the output, and what writing it asks and leaves.
use Rattle.std.specs.Prelude.{◌≡◌, List, [], ◌∷◌, ◌++◌, ℕ, ◌+◌, ◌-◌, ◌*◌, ◌≤◌, length}
use Rattle.std.proofs.Math.Option.{Option}
use Rattle.theory.specs.Bits.{Bits, prefix_of}
use Rattle.theory.specs.Hops.{Hops}
use Rattle.theory.specs.Ledger.{Entry, ◌via◌}
use Rattle.theory.specs.Smallest.{entry, choose, here, table}
use Rattle.rules.specs.Numbers.{width, record_bytes, hop_bound, MayAnnounce}
use Rattle.rules.specs.Records.{announces, print}
use Rattle.memory.specs.declared.Path.{Path}
use Rattle.memory.specs.Path.{path_bit, path_bits}
use Rattle.memory.specs.Layout.{Memory}
use Rattle.sets.specs.declared.HopSet.{HopSet}
use Rattle.sets.specs.Sets.{members}
use Rattle.printing.specs.Printing.{patch, ClearFrom}
use Rattle.squeezing.specs.declared.Standing.{Standing}
use Rattle.squeezing.specs.Below.{leaves_below}
use Rattle.squeezing.specs.Stored.{Stored, CanForm}

-- the rule at a string, with hop c in force above it in the table; and the table from slot p on, where d is in force above it in
-- the ledger
unfoldable pub entry_of : Hops → ℕ → Option ℕ
entry_of x c = entry hop_bound x c

unfoldable pub hop_after : Hops → ℕ → ℕ
hop_after x c = choose hop_bound x c

unfoldable pub table_below : ℕ → Memory → ℕ → ℕ → ℕ → List Entry
table_below w m p d c = table hop_bound w (leaves_below w m p d) c

-- the bytes of entries that lie below a string
abbrev pub bytes_below : ℕ → Bits → List Entry → List ℕ
bytes_below k s [] = []
bytes_below k s (q via h ∷ es) = print k (announces (s ++ q) h) ++ bytes_below k s es

-- entries put into the output from a place on, and the place behind them; there is room for them
abbrev pub Room : ℕ → ℕ → List Entry → List ℕ → Type 0
Room k at T output = at + length T * record_bytes k ≤ length output

pub record Puts (k : ℕ) (s : Bits) (T : List Entry) (at : ℕ) (output : List ℕ) (at' : ℕ) (output' : List ℕ) : Type 0 where
  pub bytes : output' ≡ patch at (bytes_below k s T) output
  pub end : at' ≡ at + length T * record_bytes k

-- a path that is a string w bits short of an address of k bytes
pub record IsShort (k w : ℕ) (path : Path) : Type 0 where
  pub fits : width k ≤ path_bits
  pub short : w ≤ width k
  pub clear : ClearFrom path (width k - w) (width k)

abbrev pub string_of : ℕ → ℕ → Path → Bits
string_of k w path = prefix_of (path_bit path) (width k - w)

-- ONE STRING'S ENTRY, or none: its set decides, with the hop in force above
pub record CanEnter (k w : ℕ) (path : Path) (set : HopSet) (c at : ℕ) (output : List ℕ) : Type 0 where
  pub path_short : IsShort k w path
  pub room : Room k at (here (entry_of (members set) c)) output

pub record Enters (k w : ℕ) (path : Path) (set : HopSet) (c at : ℕ) (output output' : List ℕ) (r : Standing) : Type 0 where
  pub puts : Puts k (string_of k w path) (here (entry_of (members set) c)) at output r.at output'
  pub hop : r.hop ≡ hop_after (members set) c

-- ALL ENTRIES from a slot on, where the scratch holds the sets
pub record CanWrite (m : Memory) (scratch : List ℕ) (k p w d c at : ℕ) (path : Path) (output : List ℕ) : Type 0 where
  pub can : CanForm m scratch p d
  pub stored : Stored m scratch w p d
  pub chosen : MayAnnounce c
  pub path_short : IsShort k w path
  pub room : Room k at (table_below w m p d c) output
