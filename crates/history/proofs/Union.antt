-- TEMPTING AND WRONG: always taking the union of the children's sets, at all 32 bits. For C it writes what it writes at 2 bits,
-- four entries, because C's addresses have one hop behind their second bit.
use mathlib.Core.Path.{◌≡◌, refl, sym, ap, ap₂, subst₂, ◌∙◌, fun_ext}
use mathlib.Core.Bool.{true, false, or_self}
use mathlib.Core.List.{List, [], ◌∷◌, ◌++◌, append-nil}
use mathlib.Core.Option.{none, some}
use Prim.Native.Nat.{ℕ, zero, suc, ◌<◌}
use native.Mathlib.Omega.{arith}
use lib.ListN.{length}
use Rattle.theory.specs.Bits.{Bits}
use Rattle.theory.specs.Hops.{only, union}
use Rattle.theory.specs.Ledger.{Ledger, Entry, or_else, longest}
use Rattle.theory.specs.Smallest.{Leaves, half, entry, choose, here, under}
use Rattle.theory.specs.Theorem.{leaves}
use Rattle.theory.proofs.Hops.{only_allowed}
use Rattle.theory.proofs.OneHop.{longest_nothing}
use Rattle.theory.proofs.Sets.{choose_member}
use Rattle.rules.specs.Numbers.{ipv4, width, highest_hop, hop_bound, no_route}
use Rattle.rules.specs.Records.{read, stray_bits}
use Rattle.force.specs.Search.{Row}
use Rattle.force.specs.Writers.{set_by, table_by, row_leaves, always_union}
use Rattle.cases.specs.Trie.{Trie, bare, node, as_ledger}
use Rattle.cases.specs.Cases.{after, case_c}
use Rattle.cases.proofs.Cases.{after_in_lem}

-- the table that it writes for a ledger
abbrev pub union_table : Ledger ℕ → List Entry
union_table L = table_by union (entry hop_bound) (width ipv4) (leaves only L no_route) no_route

-- Leaves of w bits and of v bits that come to the same set and the same table.
module _ (n : ℕ) where
  abbrev Alike : ℕ → Leaves → ℕ → Leaves → Type 0
  Alike w F v G = (set_by union w F ≡ set_by union v G) × ((d : ℕ) → table_by union (entry n) w F d ≡ table_by union (entry n) v G d)

  -- one hop throughout comes to what it does at no bits
  one_set : (w h : ℕ) → set_by union w (λ a. only h) ≡ only h
  one_set zero h = refl
  one_set (suc w) h = ap₂ union (one_set w h) (one_set w h) ∙ fun_ext (λ k. or_self (only h k))

  one_table : (w h d : ℕ) → h < n → table_by union (entry n) w (λ a. only h) d ≡ here (entry n (only h) d)
  one_table zero h d l = refl
  one_table (suc w) h d l =
      let c = choose n (only h) d in
      let quiet : here (entry n (only h) c) ≡ [] = rw (choose_member n (only h) d (only_allowed n h l)) in
      ap (λ x. let es = table_by union (entry n) w (λ a. only h) (choose n x d) in here (entry n x d) ++ (under false es ++ under true es)) (one_set (suc w) h)
      ∙ ap (λ es. here (entry n (only h) d) ++ (under false es ++ under true es)) (one_table w h c l ∙ quiet)
      ∙ append-nil (here (entry n (only h) d))

  one_hop : (w h : ℕ) → h < n → (F G : Leaves) → ((a : Bits) → F a ≡ only h) → only h ≡ G [] → Alike w F zero G
  one_hop w h l F G same is =
      subst₂ (λ (E : Leaves) x. (set_by union w E ≡ x) × ((d : ℕ) → table_by union (entry n) w E d ≡ here (entry n x d))) (sym (fun_ext same)) is
      (one_set w h, λ d. one_table w h d l)

  -- the two halves, one bit more
  both : (w v : ℕ) (F G : Leaves) → Alike w (half false F) v (half false G) → Alike w (half true F) v (half true G) → Alike (suc w) F (suc v) G
  both w v F G p q =
      let s : set_by union (suc w) F ≡ set_by union (suc v) G = ap₂ union p.0 q.0 in (
        s,
        λ d.
            ap (λ x. let c = or_else (entry n x d) d in
            here (entry n x d) ++ (under false (table_by union (entry n) w (half false F) c) ++ under true (table_by union (entry n) w (half true F) c))) s
            ∙ (let c = choose n (set_by union (suc v) G) d in
            ap₂ (λ es fs. here (entry n (set_by union (suc v) G) d) ++ (under false es ++ under true fs)) (p.1 c) (q.1 c)),
      )

-- C: its routes, and the hop of each address by its first two bits
abbrev pub row_c : Row
row_c = 2 ∷ 1 ∷ 2 ∷ 3 ∷ []

abbrev trie_c : Trie
trie_c = node (some 1) (node none (node (some 2) bare bare) bare) (node none (node (some 2) bare bare) (node (some 3) bare bare))

routes_of_c : (after case_c).ledger ≡ as_ledger trie_c
unfolding read stray_bits
routes_of_c = ap (λ a. a.ledger) (after_in_lem case_c).0

throughout : (h d : ℕ) (a : Bits) → longest (as_ledger (node (some h) bare bare)) d a ≡ h
throughout h d [] = refl
throughout h d (false ∷ a) = longest_nothing h a
throughout h d (true ∷ a) = longest_nothing h a

-- at any width of two bits and more
alike_for_c : (n w : ℕ) → 3 < n → Alike n (suc (suc w)) (leaves only (as_ledger trie_c) no_route) 2 (row_leaves 2 row_c)
alike_for_c n w l =
    let F = leaves only (as_ledger trie_c) no_route in
    let G = row_leaves 2 row_c in
    both n (suc w) 1 F G
    (both n w zero (half false F) (half false G)
    (one_hop n w 2 (omega arith) (half false (half false F)) (half false (half false G)) (λ a. ap only (throughout 2 1 a)) refl)
    (one_hop n w 1 (omega arith) (half true (half false F)) (half true (half false G)) (λ a. ap only (longest_nothing 1 a)) refl))
    (both n w zero (half true F) (half true G)
    (one_hop n w 2 (omega arith) (half false (half true F)) (half false (half true G)) (λ a. ap only (throughout 2 1 a)) refl)
    (one_hop n w 3 (omega arith) (half true (half true F)) (half true (half true G)) (λ a. ap only (throughout 3 1 a)) refl))

-- WHAT IT WRITES FOR C
pub union_of_c : union_table (after case_c).ledger ≡ always_union 2 highest_hop row_c
union_of_c = ap union_table routes_of_c ∙ (alike_for_c hop_bound 30 (omega arith)).1 no_route

pub union_writes_four : length (union_table (after case_c).ledger) ≡ 4
union_writes_four = ap length union_of_c
