-- The definitions of document 01, computed: at depth 32 they speak of 2 ^ 33 strings, so a trie of the held prefixes is
-- walked instead. That both say the same is proved (proofs/Trie), so a slip here can't hide.
-- A set of hops is a vector of tests, one for each hop below the bound.
use Rattle.std.specs.Prelude.{Bool, true, false, cond, ◌&&◌, ◌||◌, List, [], ◌∷◌, ◌++◌, ℕ, zero, suc, ◌+◌, leb, ltb, get_or, replicate}
use Rattle.std.proofs.Math.Option.{Option, none, some}
use Rattle.theory.specs.Bits.{Bits}
use Rattle.theory.specs.Hops.{Hops}
use Rattle.theory.specs.Ledger.{Ledger, Entry, is_held, or_else}
use Rattle.theory.specs.Smallest.{here, under}
use Rattle.rules.specs.Numbers.{discard, hop_bound, no_route, not_held, no_slots}
use Rattle.rules.specs.Records.{Change, announces, withdraws, Reading, means, faulty}

-- bare: nothing is held from here on
pub data Trie : Type 0 where
  bare : Trie
  node : Option ℕ → Trie → Trie → Trie

-- the ledger that a trie stands for
abbrev pub as_ledger : Trie → Ledger ℕ
as_ledger bare s = none
as_ledger (node o l r) [] = o
as_ledger (node o l r) (false ∷ s) = as_ledger l s
as_ledger (node o l r) (true ∷ s) = as_ledger r s

-- what is held for a prefix, put or taken away
abbrev pub put : Bits → Option ℕ → Trie → Trie
put [] o bare = node o bare bare
put [] o (node q l r) = node o l r
put (false ∷ p) o bare = node none (put p o bare) bare
put (false ∷ p) o (node q l r) = node q (put p o l) r
put (true ∷ p) o bare = node none bare (put p o bare)
put (true ∷ p) o (node q l r) = node q l (put p o r)

-- is it at most w bits deep, with all hops below n?
abbrev pub is_bare : Trie → Bool
is_bare bare = true
is_bare (node o l r) = false

abbrev pub hop_below : ℕ → Option ℕ → Bool
hop_below n none = true
hop_below n (some h) = ltb h n

abbrev pub within : ℕ → ℕ → Trie → Bool
within n w bare = true
within n zero (node o l r) = hop_below n o && (is_bare l && is_bare r)
within n (suc w) (node o l r) = hop_below n o && (within n w l && within n w r)

-- slots
abbrev pub live_in : Trie → Bool
live_in bare = false
live_in (node o l r) = is_held o || (live_in l || live_in r)

abbrev pub used_in : Trie → ℕ
used_in bare = 0
used_in (node o l r) = cond (is_held o || (live_in l || live_in r)) 1 0 + (used_in l + used_in r)

abbrev pub needs_in : Trie → ℕ
needs_in bare = 1
needs_in (node o l r) = 1 + (used_in l + used_in r)

-- sets as vectors
abbrev pub member : List Bool → Hops
member xs k = get_or xs k false

abbrev pub only_in : ℕ → ℕ → List Bool
only_in zero h = []
only_in (suc n) zero = true ∷ replicate n false
only_in (suc n) (suc h) = false ∷ only_in n h

abbrev pub both_in : List Bool → List Bool → List Bool
both_in [] ys = []
both_in (x ∷ xs) [] = []
both_in (x ∷ xs) (y ∷ ys) = (x && y) ∷ both_in xs ys

abbrev pub either_in : List Bool → List Bool → List Bool
either_in [] ys = ys
either_in (x ∷ xs) [] = x ∷ xs
either_in (x ∷ xs) (y ∷ ys) = (x || y) ∷ either_in xs ys

abbrev pub some_in : List Bool → Bool
some_in [] = false
some_in (x ∷ xs) = x || some_in xs

abbrev pub least_in : List Bool → ℕ
least_in [] = 0
least_in (x ∷ xs) = cond x 0 (suc (least_in xs))

abbrev pub join_in : List Bool → List Bool → List Bool
join_in xs ys = cond (some_in (both_in xs ys)) (both_in xs ys) (either_in xs ys)

-- the set of a trie's empty string, where d is in force above
abbrev pub set_in : ℕ → Trie → ℕ → List Bool
set_in n bare d = only_in n d
set_in n (node o l r) d = join_in (set_in n l (or_else o d)) (set_in n r (or_else o d))

-- its table, where d is in force in the ledger and c in the table
abbrev pub entry_in : List Bool → ℕ → Option ℕ
entry_in xs c = cond (member xs c) none (some (least_in xs))

abbrev pub choose_in : List Bool → ℕ → ℕ
choose_in xs c = or_else (entry_in xs c) c

abbrev pub table_in : ℕ → Trie → ℕ → ℕ → List Entry
table_in n bare d c = here (entry_in (only_in n d) c)
table_in n (node o l r) d c =
    here (entry_in (set_in n (node o l r) d) c)
    ++ (under false (table_in n l (or_else o d) (choose_in (set_in n (node o l r) d) c))
    ++ under true (table_in n r (or_else o d) (choose_in (set_in n (node o l r) d) c)))

abbrev pub smallest_in : Trie → List Entry
smallest_in t = table_in hop_bound t no_route discard

-- updates
pub data OutcomeIn : Type 0 where
  taken_in : Trie → OutcomeIn
  refused_in : ℕ → OutcomeIn

abbrev pub if_room_in : ℕ → Trie → OutcomeIn
if_room_in slots t = cond (leb (needs_in t) slots) (taken_in t) (refused_in no_slots)

abbrev pub change_in : ℕ → Trie → Change → OutcomeIn
change_in slots t (announces p h) = if_room_in slots (put p (some h) t)
change_in slots t (withdraws p) = cond (is_held (as_ledger t p)) (if_room_in slots (put p none t)) (refused_in not_held)

abbrev pub apply_in : ℕ → Trie → Reading → OutcomeIn
apply_in slots t (means c) = change_in slots t c
apply_in slots t (faulty x) = refused_in x

pub record AppliedIn : Type 0 where
  pub refusal : Option ℕ
  pub count : ℕ
  pub trie : Trie

abbrev pub next_in : Trie → OutcomeIn → (Trie → AppliedIn) → AppliedIn
next_in t (taken_in u) rest = let a = rest u in record { refusal = a.refusal; count = suc a.count; trie = a.trie }
next_in t (refused_in x) rest = record { refusal = some x; count = 0; trie = t }

abbrev pub apply_all_in : ℕ → Trie → List Reading → AppliedIn
apply_all_in slots t [] = record { refusal = none; count = 0; trie = t }
apply_all_in slots t (r ∷ rs) = next_in t (apply_in slots t r) (λ u. apply_all_in slots u rs)
