-- SMALL WIDTHS BY FORCE: for every forwarding, the least number of entries with which a table of that width leaves it is
-- found by going through the tables, those with fewer entries first, and held against the table that a writer hands back.
-- The search knows nothing of sets, strings or longest match: a table is a run of brush strokes on a row of 2 ^ w addresses,
-- wide strokes first, and what is left on the row is the forwarding. An address without a stroke is discarded, as one with a
-- stroke of hop 0 is. A writer, which is what is tested, comes in as a parameter: it gets a row and hands back entries.
use Rattle.std.specs.Prelude.{Bool, true, false, cond, ◌&&◌, List, [], ◌∷◌, ◌++◌, map, ℕ, zero, suc, ◌+◌, ◌*◌, ◌/◌, ◌%◌, ◌^◌, eqb, ltb, length, get_or, replicate}
use Rattle.theory.specs.Bits.{Bits}
use Rattle.theory.specs.Ledger.{Entry, ◌via◌}

-- a stroke: from which address on, and over how many
pub data Place : Type 0 where
  ◌over◌ : ℕ → ℕ → Place

infixl 90 ◌over◌
abbrev pub Row : Type 0
Row = List ℕ

abbrev pub paint : ℕ → ℕ → ℕ → Row → Row
paint at size h [] = []
paint zero zero h (x ∷ row) = x ∷ row
paint zero (suc size) h (x ∷ row) = h ∷ paint zero size h row
paint (suc at) size h (x ∷ row) = x ∷ paint at size h row

-- the places of a row of 2 ^ w addresses that a prefix can stand for, wide ones first
abbrev level : ℕ → ℕ → List Place
level zero size = []
level (suc m) size = level m size ++ (m * size) over size ∷ []

abbrev levels : ℕ → ℕ → List Place
levels zero size = level 1 size
levels (suc w) size = levels w (2 * size) ++ level (2 ^ suc w) size

abbrev pub places : ℕ → List Place
places w = levels w 1

-- where no stroke goes, discard is
abbrev unpainted : ℕ → Row
unpainted w = replicate (2 ^ w) 0

-- a set of rows, as the number whose bit at a row's own number is set
abbrev code : ℕ → Row → ℕ
code highest [] = 0
code highest (h ∷ row) = h + suc highest * code highest row

abbrev pub reached : ℕ → Row → ℕ → Bool
reached highest row found = eqb (found / 2 ^ code highest row % 2) 1

abbrev mark : ℕ → Row → ℕ → ℕ
mark highest row found = cond (reached highest row found) found (found + 2 ^ code highest row)

-- EVERY TABLE with at most k entries and hops 0 to `highest`: at each place no stroke, or a stroke of each hop
abbrev pub each_hop : ℕ → (ℕ → ℕ → ℕ) → ℕ → ℕ
each_hop zero try found = try zero found
each_hop (suc h) try found = try (suc h) (each_hop h try found)

abbrev pub every_table : ℕ → List Place → ℕ → Row → ℕ → ℕ
every_table highest [] k row found = mark highest row found
every_table highest (p ∷ ps) zero row found = mark highest row found
every_table highest (at over size ∷ ps) (suc k) row found =
    each_hop highest (λ h f. every_table highest ps k (paint at size h row) f) (every_table highest ps (suc k) row found)

-- the rows that tables of at most k entries leave, for each k from 0 to m
abbrev pub reachable : ℕ → ℕ → ℕ → List ℕ
reachable w highest zero = every_table highest (places w) 0 (unpainted w) 0 ∷ []
reachable w highest (suc k) = reachable w highest k ++ every_table highest (places w) (suc k) (unpainted w) 0 ∷ []

-- every row of n addresses
abbrev pub rows : ℕ → ℕ → List Row
rows zero highest = [] ∷ []
rows (suc n) highest = grow highest (rows n highest)
  where
    with_hop : ℕ → List Row → List Row
    with_hop h rs = map (λ r. h ∷ r) rs

    grow : ℕ → List Row → List Row
    grow zero rs = with_hop zero rs
    grow (suc h) rs = grow h rs ++ with_hop (suc h) rs

-- the place of a prefix, by halving the row
abbrev place_of : ℕ → ℕ → Bits → Place
place_of at size [] = at over size
place_of at size (false ∷ s) = place_of at (size / 2) s
place_of at size (true ∷ s) = place_of (at + size / 2) (size / 2) s

abbrev start : Place → ℕ
start (at over size) = at

abbrev stroke : Place → ℕ → Row → Row
stroke (at over size) h row = paint at size h row

-- a row's hop at an address, and the row that a list of entries leaves
abbrev pub hop_at : ℕ → Row → Bits → ℕ
hop_at w row a = get_or row (start (place_of 0 (2 ^ w) a)) 0

abbrev pub left : ℕ → List Entry → Row → Row
left w [] row = row
left w (s via h ∷ es) row = left w es (stroke (place_of 0 (2 ^ w) s) h row)

abbrev same_row : Row → Row → Bool
same_row [] [] = true
same_row [] (y ∷ ys) = false
same_row (x ∷ xs) [] = false
same_row (x ∷ xs) (y ∷ ys) = eqb x y && same_row xs ys

-- the least k for which some table of at most k entries leaves the row; past the end of the list where none does
abbrev pub least_count : ℕ → Row → List ℕ → ℕ
least_count highest row [] = 0
least_count highest row (found ∷ more) = cond (reached highest row found) 0 (suc (least_count highest row more))

-- THE TEST of one row: the written entries leave it, and are as many as the least table has
abbrev pub smallest : ℕ → ℕ → List ℕ → Row → List Entry → Bool
smallest w highest found row es =
    same_row (left w es (unpainted w)) row
    && (eqb (length es) (least_count highest row found) && ltb (length es) (length found))

abbrev every : (Row → Bool) → List Row → Bool
every p [] = true
every p (r ∷ rs) = p r && every p rs

-- a writer: given the width, the highest hop and the row
abbrev pub Writer : Type 0
Writer = ℕ → ℕ → Row → List Entry

-- every row of 2 ^ w addresses with hops 0 to `highest`; tables of at most `most` entries are gone through
pub data Round : Type 0 where
  round : ℕ → ℕ → ℕ → Round

abbrev pub passes : Writer → Round → Bool
passes writer (round w highest most) =
    let found = reachable w highest most in
    every (λ row. smallest w highest found row (writer w highest row)) (rows (2 ^ w) highest)

-- widths 1 and 2 with up to 3 hops, discard among them: all tables, of up to one entry a place; width 3 with up to 2 hops: all of
-- up to 5 entries, and no forwarding needs more
abbrev pub rounds : List Round
rounds =
    round 1 0 3 ∷ round 1 1 3 ∷ round 1 2 3
    ∷ round 2 0 7 ∷ round 2 1 7 ∷ round 2 2 7
    ∷ round 3 0 5 ∷ round 3 1 5
    ∷ []
