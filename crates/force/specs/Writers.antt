-- The writers that are tried: the definitions, and three that are tempting and wrong, each with one thing changed.
use Rattle.std.specs.Prelude.{true, false, cond, List, [], ◌++◌, ℕ, zero, suc, eqb}
use Rattle.std.proofs.Math.Option.{Option, none, some}
use Rattle.theory.specs.Hops.{Hops, only, join, union, least}
use Rattle.theory.specs.Ledger.{Entry, or_else}
use Rattle.theory.specs.Smallest.{Leaves, half, entry, here, under, table}
use Rattle.force.specs.Search.{Row, Writer, hop_at}

-- a table by any rule for sets and any rule for entries
abbrev pub set_by : (Hops → Hops → Hops) → ℕ → Leaves → Hops
set_by merge zero F = F []
set_by merge (suc w) F = merge (set_by merge w (half false F)) (set_by merge w (half true F))

abbrev pub table_by : (Hops → Hops → Hops) → (Hops → ℕ → Option ℕ) → ℕ → Leaves → ℕ → List Entry
table_by merge rule zero F d = here (rule (F []) d)
table_by merge rule (suc w) F d =
    here (rule (set_by merge (suc w) F) d)
    ++ (under false (table_by merge rule w (half false F) (or_else (rule (set_by merge (suc w) F) d) d))
    ++ under true (table_by merge rule w (half true F) (or_else (rule (set_by merge (suc w) F) d) d)))

abbrev pub row_leaves : ℕ → Row → Leaves
row_leaves w row a = only (hop_at w row a)

-- the definitions themselves
abbrev pub by_definition : Writer
by_definition w highest row = table (suc highest) w (row_leaves w row) 0

-- always taking the union of the children's sets
abbrev pub always_union : Writer
always_union w highest row = table_by union (entry (suc highest)) w (row_leaves w row) 0

-- choosing a string's least hop although the one in force above is in its set
abbrev least_rule : ℕ → Hops → ℕ → Option ℕ
least_rule n x d = cond (eqb (least n x) d) none (some (least n x))

abbrev pub least_always : Writer
least_always w highest row = table_by (join (suc highest)) (least_rule (suc highest)) w (row_leaves w row) 0

-- always giving the empty string an entry, as though no hop were in force above it
abbrev pub always_top : Writer
always_top w highest row = table (suc highest) w (row_leaves w row) (suc highest)
