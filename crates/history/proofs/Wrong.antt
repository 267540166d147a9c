-- The wrong writers that document 01 names, and those that item 2 of document 02 makes tempting, break the promise, each at one of the cases
-- and in any memory that holds that case's ledger, whatever they answer and whatever else they leave; so do lookups under which a held
-- discard hides nothing.
use Rattle.std.proofs.Common.{Result, Ok, Err}
use Rattle.refusals.specs.declared.Refused.{Refused}
use mathlib.Core.Path.{◌≡◌, refl, sym, ap, ◌∙◌}
use mathlib.Core.Bool.{false, cond}
use mathlib.Core.List.{List, [], ◌∷◌, ◌++◌}
use mathlib.Core.Option.{none}
use Prim.Native.Nat.{ℕ, ◌≤◌, ◌<◌}
use native.Mathlib.Omega.{arith}
use lib.ListN.{length, drop, get_or, length-replicate}
use Rattle.theory.specs.Ledger.{Entry, ◌via◌, is_held, nothing, load}
use Rattle.rules.specs.Numbers.{ipv4, width, highest_hop, most_slots, scratch_words}
use Rattle.rules.specs.Records.{print_all, print_table}
use Rattle.rules.specs.Lookup.{hop_of, scanned, looked_up}
use Rattle.rules.specs.Writing.{smallest_table}
use Rattle.rules.proofs.Records.{scanned_table}
use Rattle.memory.specs.Layout.{Memory, ledger_of, zeros, zeroed}
use Rattle.memory.proofs.Zeros.{zeroed_slots}
use Rattle.lent.specs.Lent.{lent_fault}
use Rattle.lists.specs.Promise.{answer_of, LooksUpList}
use Rattle.ledger.specs.Promise.{Updates, found_after, LooksUp}
use Rattle.ledger.proofs.History.{zeroed_fine}
use Rattle.ledger.proofs.Wrong.{from_zeros}
use Rattle.writing.specs.Promise.{bytes_for, write_fault, Writes}
use Rattle.writing.proofs.Promise.{Same, fault_none, table_of}
use Rattle.force.specs.Writers.{always_union}
use Rattle.cases.specs.Cases.{Case, after, Holds, case_c, table_c, copy_of_c, table_f, case_g, table_g, case_half, table_half, case_below, table_below}
use Rattle.cases.proofs.Cases.{c_holds, g_holds, half_holds, below_holds}
use Rattle.history.proofs.Room.{more_room}
use Rattle.history.proofs.Union.{union_table, row_c, union_of_c}

-- A MEMORY THAT HOLDS A CASE: writing is let through, and the ledger is the one that the case's records make
pub record HoldsCase (c : Case) (m : Memory) (scratch : List ℕ) : Type 0 where
  pub let_through : write_fault m scratch ≡ none
  pub ledger : ledger_of (width ipv4) m ≡ (after c).ledger

-- there are such memories: zeroed memory with enough slots, updated by the case's records
pub by_update : (c : Case) → Holds c → c.result.refusal ≡ none → (n : ℕ) → 0 < n → c.slots ≤ n → n ≤ most_slots
    → (m : Memory) (u : Result ℕ Refused) → Updates (zeroed n) (print_all ipv4 c.records) m u
    → (scratch : List ℕ) → length scratch ≡ scratch_words n → HoldsCase c m scratch
by_update c holds quiet n some_slot enough few m u meets scratch sized =
    record {
      let_through = fault_none m scratch (meets.no_2_later (zeroed_fine n some_slot few)) (sized ∙ ap scratch_words (sym (meets.same_lengths.ups ∙ zeroed_slots n)));
      ledger =
          meets.ledger
          ∙ ap (λ a. a.ledger)
          (from_zeros n some_slot few (print_all ipv4 c.records)
          ∙ more_room c.slots n enough nothing (print_all ipv4 c.records) (ap (λ a. a.refusal) holds.answers ∙ quiet));
    }

pub memory_of_c : (n : ℕ) → 6 ≤ n → n ≤ most_slots → (m : Memory) (u : Result ℕ Refused) → Updates (zeroed n) (print_all ipv4 case_c.records) m u
    → (scratch : List ℕ) → length scratch ≡ scratch_words n → HoldsCase case_c m scratch
memory_of_c n enough = by_update case_c c_holds refl n (omega arith) enough

pub memory_of_half : (n : ℕ) → 64 ≤ n → n ≤ most_slots → (m : Memory) (u : Result ℕ Refused) → Updates (zeroed n) (print_all ipv4 case_half.records) m u
    → (scratch : List ℕ) → length scratch ≡ scratch_words n → HoldsCase case_half m scratch
memory_of_half n enough = by_update case_half half_holds refl n (omega arith) enough

pub memory_below : (n : ℕ) → 64 ≤ n → n ≤ most_slots → (m : Memory) (u : Result ℕ Refused) → Updates (zeroed n) (print_all ipv4 case_below.records) m u
    → (scratch : List ℕ) → length scratch ≡ scratch_words n → HoldsCase case_below m scratch
memory_below n enough = by_update case_below below_holds refl n (omega arith) enough

pub memory_of_g : (n : ℕ) → 64 ≤ n → n ≤ most_slots → (m : Memory) (u : Result ℕ Refused) → Updates (zeroed n) (print_all ipv4 case_g.records) m u
    → (scratch : List ℕ) → length scratch ≡ scratch_words n → HoldsCase case_g m scratch
memory_of_g n enough = by_update case_g g_holds refl n (omega arith) enough

-- what the promise answers and leaves there
pub at_case : (c : Case) (T : List Entry) → Holds c → c.result.output ≡ T
    → (m : Memory) (scratch output scratch' output' : List ℕ) (r : Result ℕ Refused) → HoldsCase c m scratch → bytes_for T ≤ length output
    → Writes m scratch output scratch' output' r
    → Same r scratch' output' (Ok (length T)) (zeros (length scratch)) (print_table ipv4 T ++ drop (bytes_for T) output)
at_case c T holds is m scratch output scratch' output' r here room meets =
    table_of m scratch output scratch' output' r meets here.let_through T
    (ap (smallest_table ipv4) here.ledger ∙ ap (λ a. a.output) holds.answers ∙ is) room

-- byte 7 of the output is the hop of the first record, and byte 4 its length
abbrev pub first_hop : List ℕ → ℕ
first_hop output = get_or output 7 0

abbrev first_length : List ℕ → ℕ
first_length output = get_or output 4 0

module _ (m : Memory) (scratch scratch' : List ℕ) (r : Result ℕ Refused) (C : HoldsCase case_c m scratch) where
  for_c : (output output' : List ℕ) → bytes_for table_c ≤ length output → Writes m scratch output scratch' output' r → first_hop output' ≡ 2
  for_c output output' room meets = ap first_hop (at_case case_c table_c c_holds refl m scratch output scratch' output' r C room meets).2

  -- A WRITER THAT LEAVES THE OUTPUT ALONE: zeros, as many as C's table has bytes
  pub leaves_the_output_breaks : Writes m scratch (zeros (bytes_for table_c)) scratch' (zeros (bytes_for table_c)) r → ⊥
  leaves_the_output_breaks meets =
      let wrong : ◌≡◌ {A = ℕ} 0 2 = for_c (zeros (bytes_for table_c)) (zeros (bytes_for table_c)) (omega arith) meets in
      omega arith

  module _ (output rest : List ℕ) (room : bytes_for table_c ≤ length output) where
    -- ONE THAT COPIES THE LEDGER OUT
    pub copies_the_ledger_breaks : Writes m scratch output scratch' (print_table ipv4 copy_of_c ++ rest) r → ⊥
    copies_the_ledger_breaks meets =
        let wrong : ◌≡◌ {A = ℕ} 1 2 = for_c output (print_table ipv4 copy_of_c ++ rest) room meets in
        omega arith

    -- ONE THAT ALWAYS TAKES THE UNION
    pub always_the_union_breaks : Writes m scratch output scratch' (print_table ipv4 (union_table (ledger_of (width ipv4) m)) ++ rest) r → ⊥
    always_the_union_breaks meets =
        let is : union_table (ledger_of (width ipv4) m) ≡ always_union 2 highest_hop row_c = ap union_table C.ledger ∙ union_of_c in
        let wrong : ◌≡◌ {A = ℕ} 1 2 =
        ap (λ U. first_hop (print_table ipv4 U ++ rest)) (sym is) ∙ for_c output (print_table ipv4 (union_table (ledger_of (width ipv4) m)) ++ rest) room meets in
        omega arith

-- ONE THAT KEEPS THE SETS OF A WITHDRAWN PREFIX: for G it writes F's table
pub keeps_the_sets_breaks : (m : Memory) (scratch output scratch' rest : List ℕ) (r : Result ℕ Refused) → HoldsCase case_g m scratch
    → bytes_for table_g ≤ length output → Writes m scratch output scratch' (print_table ipv4 table_f ++ rest) r → ⊥
keeps_the_sets_breaks m scratch output scratch' rest r G room meets =
    let wrong : ◌≡◌ {A = ℕ} 2 1 =
    ap first_hop (at_case case_g table_g g_holds refl m scratch output scratch' (print_table ipv4 table_f ++ rest) r G room meets).2 in
    omega arith

-- WITHOUT A DEFAULT ROUTE: one that refuses such a ledger
pub refuses_no_default_breaks : (m : Memory) (scratch output scratch' output' : List ℕ) (x : Refused) → HoldsCase case_half m scratch
    → bytes_for table_half ≤ length output → Writes m scratch output scratch' output' (Err x) → ⊥
refuses_no_default_breaks m scratch output scratch' output' x half room meets =
    let wrong : ◌≡◌ {A = Result ℕ Refused} (Err x) (Ok 1) =
    (at_case case_half table_half half_holds refl m scratch output scratch' output' (Err x) half room meets).0 in
    let z : ◌≡◌ {A = ℕ} 0 1 = cc in
    omega arith

-- DISCARD BELOW * 1: one that takes a held discard for no route, so that it hides nothing, and one that always gives the empty string an entry
module _ (m : Memory) (scratch output scratch' rest : List ℕ) (r : Result ℕ Refused) (here : HoldsCase case_below m scratch)
    (room : bytes_for table_below ≤ length output) where
  for_below : (output' : List ℕ) → Writes m scratch output scratch' output' r → output' ≡ print_table ipv4 table_below ++ drop (bytes_for table_below) output
  for_below output' meets = (at_case case_below table_below below_holds refl m scratch output scratch' output' r here room meets).2

  pub hides_nothing_breaks : Writes m scratch output scratch' (print_table ipv4 ([] via 1 ∷ []) ++ rest) r → ⊥
  hides_nothing_breaks meets =
      let wrong : ◌≡◌ {A = ℕ} 0 1 = ap first_length (for_below (print_table ipv4 ([] via 1 ∷ []) ++ rest) meets) in
      omega arith

  pub always_a_default_breaks : Writes m scratch output scratch' (print_table ipv4 ([] via 0 ∷ table_below) ++ rest) r → ⊥
  always_a_default_breaks meets =
      let wrong : ◌≡◌ {A = ℕ} 0 1 = ap first_length (for_below (print_table ipv4 ([] via 0 ∷ table_below) ++ rest) meets) in
      omega arith

-- A LOOKUP under which a held discard hides nothing: address 0 would go to hop 1, in the ledger and in a list
pub lookup_hides_nothing_breaks : (n : ℕ) → 64 ≤ n → n ≤ most_slots → (m : Memory) (u : Result ℕ Refused)
    → Updates (zeroed n) (print_all ipv4 case_below.records) m u → (r : Result ℕ Refused) → LooksUp m 0 r → (answer_of r).hop ≡ 1 → ⊥
unfolding hop_of
lookup_hides_nothing_breaks n enough few m u meets r looks one =
    let fine : lent_fault m ≡ none = meets.no_2_later (zeroed_fine n (omega arith) few) in
    let ledger = (memory_below n enough few m u meets (zeros (scratch_words n)) (length-replicate (scratch_words n) 0)).ledger in
    let hop : (answer_of r).hop ≡ hop_of ipv4 (ledger_of (width ipv4) m) 0 = ap (λ a. a.hop) (looks.answer ∙ ap (λ f. found_after f m 0) fine) in
    let discarded : hop_of ipv4 (ledger_of (width ipv4) m) 0 ≡ 0 = ap (λ L. hop_of ipv4 L 0) ledger ∙ sym (below_holds.lookups 0 (omega arith)) in
    let wrong : ◌≡◌ {A = ℕ} 1 0 = sym one ∙ hop ∙ discarded in
    omega arith

abbrev list_below : List Entry
list_below = [] via 1 ∷ (false ∷ []) via 0 ∷ []

pub list_lookup_hides_nothing_breaks : (r : Result ℕ Refused) → LooksUpList (print_table ipv4 list_below) 0 r → (answer_of r).hop ≡ 1 → ⊥
unfolding looked_up hop_of
list_lookup_hides_nothing_breaks r looks one =
    let read : scanned ipv4 (print_table ipv4 list_below) ≡ record { refusal = none; place = 0; entries = list_below } =
    scanned_table ipv4 list_below ((omega arith, refl, omega arith), ((omega arith, refl, omega arith), tt)) in
    let hop : (answer_of r).hop ≡ (looked_up ipv4 (print_table ipv4 list_below) 0).hop = ap (λ a. a.hop) looks.answer in
    let discarded : (looked_up ipv4 (print_table ipv4 list_below) 0).hop ≡ 0 = ap (λ s. cond (is_held s.refusal) 0 (hop_of ipv4 (load s.entries) 0)) read in
    let wrong : ◌≡◌ {A = ℕ} 1 0 = sym one ∙ hop ∙ discarded in
    omega arith
