-- A list applied record by record: at each record, applying the rest to what is held now gives the whole answer.
use mathlib.Core.Path.{◌≡◌, refl, sym, ap, subst, ◌∙◌}
use mathlib.Core.List.{List}
use mathlib.Core.Option.{none, some}
use Prim.Native.Nat.{ℕ, suc, ◌+◌, ◌<◌}
use native.Mathlib.Omega.{arith}
use native.Mathlib.Numerals.{add-one}
use lib.ListN.{length}
use lib.Seq.{take_all}
use Rattle.theory.specs.Bits.{bits_of, prefix_of}
use Rattle.theory.specs.Ledger.{Ledger, longest}
use Rattle.theory.proofs.Address.{bits_length}
use Rattle.rules.specs.Numbers.{ipv4, width, no_route}
use Rattle.rules.specs.Records.{update, read, records_of, whole_records}
use Rattle.rules.specs.Plain.{Outcome, taken, refused, apply, Applied, next, apply_all, updated}
use Rattle.rules.specs.Lookup.{hop_of}
use Rattle.memory.specs.Path.{path_bit}
use Rattle.memory.specs.declared.Path.{Path}
use Rattle.memory.specs.Layout.{Memory, slots, Whole, ledger_of}
use Rattle.memory.specs.Tidy.{Tidy}
use Rattle.editing.specs.Edits.{Kept}
use Rattle.editing.proofs.Walking.{kept_self, kept_then, kept_lo, kept_hi, kept_hop}
use Rattle.std.proofs.Common.{[], Ok, Err, slice_index_or}
use Rattle.std.proofs.Common.{true, false}
use Rattle.refusals.specs.declared.Refusal.{Refusal}
use Rattle.refusals.specs.declared.Refusal.TheVariants.{BadListLength}
use Rattle.refusals.specs.Numbered.{number_of}
use Rattle.refusals.specs.Counted.{refused_at}
use Rattle.records.proofs.Chunks.{readings, all_read, read_here, none_left}
use Rattle.lent.specs.Lent.{lent_fault, Checked}
use Rattle.ledger.specs.Promise.{update_of, reported, SameLengths, Updates, found_after, LooksUp}
use Rattle.ledger.specs.Steps.{IsPathOf, AppliesOne}
use Rattle.lent.proofs.Faults.{GoodLent, of_good, let_through, holds_of}
use Rattle.ledger.proofs.Paths.{path_prefix}

abbrev w : ℕ
w = width ipv4

-- so many records more were applied before
abbrev pub onwards : ℕ → Applied → Applied
onwards count a = record { refusal = a.refusal; count = count + a.count; ledger = a.ledger }

-- WHERE THE CALL STANDS: so many records are applied, and those left are applied to what is held now
pub record Ahead (a : Memory) (list : List ℕ) (records : List (List ℕ)) (m : Memory) (count : ℕ) : Type 0 where
  pub kept : Kept a m
  pub tidied : Tidy w a → Tidy w m
  pub at_start : count ≡ 0 → m ≡ a
  pub whole : updated ipv4 (slots a.tree) (ledger_of w a) list
      ≡ onwards count (apply_all w (slots a.tree) (ledger_of w m) (readings update records count))

-- what holds a ledger goes on holding one
kept_fault : (a m : Memory) → Whole a → Kept a m → lent_fault a ≡ none → lent_fault m ≡ none
unfolding lent_fault
kept_fault a m whole k e =
    let good = let_through a e in
    let still : GoodLent m = record {
      los = k.whole.shaped.los;
      his = k.whole.shaped.his;
      hops = k.whole.hops;
      some_slot = λ z. good.some_slot (sym k.same_slots ∙ z);
      few = omega (arith, good.few, k.same_slots);
    } in
    rw (of_good m still, k.ledger (holds_of a e))

kept_lengths : (a m : Memory) → Whole a → Kept a m → SameLengths a m
kept_lengths a m whole k = record {
  los = kept_lo a m whole k;
  his = kept_hi a m whole k;
  ups = k.same_slots;
  hops = kept_hop a m whole k;
}

same_self : (m : Memory) → SameLengths m m
same_self m = record { los = refl; his = refl; ups = refl; hops = refl }

-- THE WHOLE CALL REFUSED: nothing has changed
pub refused_whole : (m : Memory) (list : List ℕ) (x : Refusal) → Checked m (Err x) → Updates m list m (Err (refused_at x 0))
unfolding update_of
refused_whole m list x is = record {
  answer = rw is;
  ledger = rw is;
  untouched = λ z room. refl;
  same_lengths = same_self m;
  no_2_later = λ e. e;
  tidy = λ t. t;
}

module _ (m : Memory) (list : List ℕ) (checked : (lent_fault m ≡ none) × Whole m) where
  fine : lent_fault m ≡ none
  fine = checked.0

  pub refused_list : (x : Refusal) → (whole_records ipv4 list ≡ false) × (x ≡ BadListLength) → Updates m list m (Err (refused_at x 0))
  unfolding update_of updated
  refused_list x other = rw other.1 record {
    answer = rw (fine, other.0);
    ledger = rw (fine, other.0);
    untouched = λ z room. refl;
    same_lengths = same_self m;
    no_2_later = λ e. e;
    tidy = λ t. t;
  }

  zero_more : (a : Applied) → a ≡ onwards 0 a
  zero_more a = ap (λ c. record { refusal = a.refusal; count = c; ledger = a.ledger }) (let z : a.count ≡ 0 + a.count = omega arith in z)

  pub begin : (records : List (List ℕ)) → (whole_records ipv4 list ≡ true) × (records ≡ records_of ipv4 list) → Ahead m list records m 0
  unfolding updated
  begin records cut = record {
    kept = kept_self m checked.1;
    tidied = λ t. t;
    at_start = λ z. refl;
    whole = rw cut.0 (ap (apply_all w (slots m.tree) (ledger_of w m)) (all_read update records list cut.1) ∙ zero_more _);
  }

  module _ {records : List (List ℕ)} {m' : Memory} {count : ℕ} (a : Ahead m list records m' count) where
    module _ {fields : List ℕ} (l : count < length records) (is : fields ≡ slice_index_or records count []) where
      -- the slots are those of the memory at first
      at_first_slots : (o : Outcome) → apply w (slots m'.tree) (ledger_of w m') (read update ipv4 fields) ≡ o
          → apply w (slots m.tree) (ledger_of w m') (read update ipv4 fields) ≡ o
      at_first_slots o e = subst (λ n. apply w n (ledger_of w m') (read update ipv4 fields) ≡ o) a.kept.same_slots e

      rest : Ledger ℕ → Applied
      rest M = apply_all w (slots m.tree) M (readings update records (suc count))

      step : (o : Outcome) → apply w (slots m'.tree) (ledger_of w m') (read update ipv4 fields) ≡ o
          → updated ipv4 (slots m.tree) (ledger_of w m) list ≡ onwards count (next (ledger_of w m') o rest)
      unfolding rest
      step o e =
          a.whole
          ∙ ap (λ rs. onwards count (apply_all w (slots m.tree) (ledger_of w m') rs)) (read_here update records l is)
          ∙ ap (λ p. onwards count (next (ledger_of w m') p rest)) (at_first_slots o e)

      pub go_on : {m'' : Memory} (u : Unit {0}) → AppliesOne m' m'' (read update ipv4 fields) (Ok u) → Ahead m list records m'' (count + 1)
      unfolding rest
      go_on {m''} u one = rw (add-one count) record {
        kept = kept_then m m' m'' a.kept one.kept;
        tidied = λ t. one.tidied (a.tidied t);
        at_start = λ z. absurd (omega arith);
        whole = step (taken (ledger_of w m'')) one.says
            ∙ ap (λ c. record { refusal = (rest (ledger_of w m'')).refusal; count = c; ledger = (rest (ledger_of w m'')).ledger })
            (let z : count + suc (rest (ledger_of w m'')).count ≡ suc count + (rest (ledger_of w m'')).count = omega arith in z);
      }

      pub stopped : {m'' : Memory} (x : Refusal) → AppliesOne m' m'' (read update ipv4 fields) (Err x) → Updates m list m'' (Err (refused_at x count))
      unfolding update_of
      stopped {m''} x one =
          let is : updated ipv4 (slots m.tree) (ledger_of w m) list ≡ record { refusal = some (number_of x); count = count; ledger = ledger_of w m' } =
          step (refused (number_of x)) one.says.refused_so
          ∙ ap (λ c. record { refusal = some (number_of x); count = c; ledger = ledger_of w m' }) (let z : count + 0 ≡ count = omega arith in z) in
          record {
            answer = rw fine (ap reported (sym is));
            ledger = rw fine (one.says.same_ledger ∙ ap (λ x. x.ledger) (sym is));
            untouched = rw fine (λ z room.
                one.says.untouched (λ q. room (ap (λ x. x.refusal) is ∙ ap some q)) ∙ a.at_start (sym (ap (λ x. x.count) is) ∙ z));
            same_lengths = kept_lengths m m'' checked.1 (kept_then m m' m'' a.kept one.kept);
            no_2_later = kept_fault m m'' checked.1 (kept_then m m' m'' a.kept one.kept);
            tidy = λ t. one.tidied (a.tidied t);
          }

    pub finished : count ≡ length records → Updates m list m' (Ok (length records))
    unfolding update_of
    finished e =
        let is : updated ipv4 (slots m.tree) (ledger_of w m) list ≡ record { refusal = none; count = length records; ledger = ledger_of w m' } =
        a.whole
        ∙ ap (λ rs. onwards count (apply_all w (slots m.tree) (ledger_of w m') rs)) (none_left update records (omega (arith, e)))
        ∙ ap (λ c. record { refusal = none; count = c; ledger = ledger_of w m' }) (let z : count + 0 ≡ length records = omega (arith, e) in z) in
        record {
          answer = rw fine (ap reported (sym is));
          ledger = rw fine (ap (λ x. x.ledger) (sym is));
          untouched = rw fine (λ z room. a.at_start (e ∙ sym (ap (λ x. x.count) is) ∙ z));
          same_lengths = kept_lengths m m' checked.1 a.kept;
          no_2_later = kept_fault m m' checked.1 a.kept;
          tidy = a.tidied;
        }

-- LOOKUP
pub lookup_refused : (m : Memory) (x : ℕ) (y : Refusal) → Checked m (Err y) → LooksUp m x (Err (refused_at y 0))
lookup_refused m x y is = record { answer = sym (ap (λ o. found_after o m x) is) }

pub lookup_found : (m : Memory) (x : ℕ) → lent_fault m ≡ none → (p : Path) → IsPathOf x p → (hop : ℕ)
    → hop ≡ longest (ledger_of w m) no_route (prefix_of (path_bit p) w) → LooksUp m x (Ok hop)
unfolding hop_of
lookup_found m x fine p is hop h = record {
  answer =
      ap (λ y. record { refusal = none; hop = y; place = 0 })
      (h ∙ ap (longest (ledger_of w m) no_route)
      (path_prefix x p is w (omega arith) ∙ take_all w (bits_of w x) (omega (arith, bits_length w x))))
      ∙ sym (ap (λ o. found_after o m x) fine);
}
