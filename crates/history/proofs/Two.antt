-- A plain ledger never replies refusal 2: no rule of records has that number, and no rule of writing.
use mathlib.Core.Path.{◌≡◌, refl, ap}
use mathlib.Core.Bool.{Bool, true, false, cond}
use mathlib.Core.List.{List, [], ◌∷◌, map}
use mathlib.Core.Option.{Option, none, some}
use Prim.Native.Nat.{ℕ}
use native.Mathlib.Omega.{arith}
use lib.Dec.{eqb, ltb, leb}
use lib.ListN.{length}
use Rattle.theory.specs.Bits.{Each}
use Rattle.theory.specs.Ledger.{Ledger, Entry, is_held, announce, withdraw}
use Rattle.theory.proofs.Longest.{none_some}
use Rattle.rules.specs.Numbers.{ipv4, width, scratch_words, bad_slices, no_ledger, bad_list_length, bad_action, not_held, no_slots, short_output}
use Rattle.rules.specs.Records.{Change, announces, withdraws, Use, update, lookup, Rule, ◌refused_by◌, fields_of, field_rules, first_fault, Reading, means, faulty, meaning, fault_or, read, records_of, whole_records}
use Rattle.rules.specs.Plain.{Outcome, taken, refused, needs, if_room, apply, Applied, next, apply_all, updated}
use Rattle.rules.specs.Lookup.{scan_all, scanned, looked_up}
use Rattle.rules.specs.Writing.{smallest_table}
use Rattle.writing.specs.Promise.{Outcome as Ending, bytes_for, into_output}
use Rattle.history.specs.Runs.{Ask, updating, looking_up, looking_up_in, writing, plain_reply}
use Rattle.history.specs.Theorem.{NotTwo}

abbrev Other : ℕ → Type 0
Other x = x ≡ no_ledger → ⊥

abbrev Not2 : Option ℕ → Type 0
Not2 o = o ≡ some no_ledger → ⊥

quiet : Not2 none
quiet e = none_some e refl

other : (x : ℕ) → Other x → Not2 (some x)
other x not_so e = not_so (cc)

-- whichever way a test goes
either : {A : Type 0} (P : A → Type 0) (b : Bool) (x y : A) → P x → P y → P (cond b x y)
either P true x y p q = p
either P false x y p q = q

-- what a record is read as, and what is made of it
abbrev Numbered : Rule → Type 0
Numbered (broken refused_by x) = Other x

first_fault_lem : (rules : List Rule) → Each Numbered rules → Not2 (first_fault rules)
first_fault_lem [] p = quiet
first_fault_lem (broken refused_by x ∷ rules) p = either Not2 broken (some x) (first_fault rules) (other x p.0) (first_fault_lem rules p.1)

abbrev Fine : Reading → Type 0
Fine (means c) = Unit {0}
Fine (faulty x) = Other x

fault_or_lem : (o : Option ℕ) (c : Change) → Not2 o → Fine (fault_or o c)
fault_or_lem none c p = tt
fault_or_lem (some x) c p = λ e. p (ap some e)

readings : (u : Use) (k : ℕ) (rs : List (List ℕ)) → Each Fine (map (read u k) rs)
unfolding read
readings u k [] = tt
readings u k (r ∷ rs) = (
  fault_or_lem _ (meaning (width k) (fields_of k r))
      (first_fault_lem (field_rules u (width k) (fields_of k r)) (λ e. omega arith, (λ e. omega arith, (λ e. omega arith, (λ e. omega arith, tt))))),
  readings u k rs,
)

-- AN UPDATE
abbrev FineOutcome : Outcome → Type 0
FineOutcome (taken M) = Unit {0}
FineOutcome (refused x) = Other x

module _ (w slots : ℕ) where
  room : (L : Ledger ℕ) → FineOutcome (if_room w slots L)
  room L = either FineOutcome (leb (needs w L) slots) (taken L) (refused no_slots) tt (λ e. omega arith)

  one : (L : Ledger ℕ) (r : Reading) → Fine r → FineOutcome (apply w slots L r)
  one L (means (announces p h)) fine = room (announce L p h)
  one L (means (withdraws p)) fine =
      either FineOutcome (is_held (L p)) (if_room w slots (withdraw L p)) (refused not_held) (room (withdraw L p)) (λ e. omega arith)
  one L (faulty x) fine = fine

  then : (L : Ledger ℕ) (o : Outcome) (rest : Ledger ℕ → Applied) → FineOutcome o → ((M : Ledger ℕ) → Not2 (rest M).refusal)
      → Not2 (next L o rest).refusal
  then L (taken M) rest fine go = go M
  then L (refused x) rest fine go = other x fine

  all : (L : Ledger ℕ) (rs : List Reading) → Each Fine rs → Not2 (apply_all w slots L rs).refusal
  all L [] fine = quiet
  all L (r ∷ rs) fine = then L (apply w slots L r) (λ M. apply_all w slots M rs) (one L r fine.0) (λ M. all M rs fine.1)

update_not_2 : (n : ℕ) (L : Ledger ℕ) (list : List ℕ) → Not2 (updated ipv4 n L list).refusal
unfolding updated
update_not_2 n L list =
    either (λ a. Not2 a.refusal) (whole_records ipv4 list) (apply_all (width ipv4) n L (map (read update ipv4) (records_of ipv4 list))) _
    (all (width ipv4) n L (map (read update ipv4) (records_of ipv4 list)) (readings update ipv4 (records_of ipv4 list)))
    (other bad_list_length (λ e. omega arith))

-- A LOOKUP IN A LIST
scan : (rs : List Reading) → Each Fine rs → Not2 (scan_all rs).refusal
scan [] fine = quiet
scan (means (announces p h) ∷ rs) fine = scan rs fine.1
scan (means (withdraws p) ∷ rs) fine = other bad_action (λ e. omega arith)
scan (faulty x ∷ rs) fine = other x fine.0

list_not_2 : (list : List ℕ) (x : ℕ) → Not2 (looked_up ipv4 list x).refusal
unfolding looked_up scanned
list_not_2 list x =
    either (λ s. Not2 s.refusal) (whole_records ipv4 list) (scan_all (map (read lookup ipv4) (records_of ipv4 list))) _
    (scan (map (read lookup ipv4) (records_of ipv4 list)) (readings lookup ipv4 (records_of ipv4 list)))
    (other bad_list_length (λ e. omega arith))

-- WRITING
into_not_2 : (T : List Entry) (scratch output : List ℕ) → Not2 (into_output T scratch output).refusal
into_not_2 T scratch output =
    either (λ (o : Ending). Not2 o.refusal) (ltb (length output) (bytes_for T)) _ _ (other short_output (λ e. omega arith)) quiet

-- EVERY REPLY
pub plain_not_two : (n : ℕ) (L : Ledger ℕ) (a : Ask) → NotTwo (plain_reply n L a)
plain_not_two n L (updating list) = update_not_2 n L list
plain_not_two n L (looking_up x) = quiet
plain_not_two n L (looking_up_in list x) = list_not_2 list x
plain_not_two n L (writing scratch output) =
    either (λ o. Not2 o.refusal) (eqb (length scratch) (scratch_words n)) (into_output (smallest_table ipv4 L) scratch output) _
    (into_not_2 (smallest_table ipv4 L) scratch output) (other bad_slices (λ e. omega arith))
