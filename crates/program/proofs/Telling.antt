-- What the table call answers is what the program has to write: its table stands there, and each refusal is told by its record. An output
-- as long as the input is always enough, so 11 never comes.
use mathlib.Core.Path.{◌≡◌, refl, sym, ap, subst, ◌∙◌}
use mathlib.Core.List.{List, ◌++◌}
use mathlib.Core.Option.{none, some}
use Prim.Native.Nat.{ℕ, ◌*◌, ◌≤◌, ◌<◌}
use native.Mathlib.Omega.{arith}
use lib.ListN.{length, drop, length-append}
use borrow.Author.Tests.{lt-ltb, le-ltb}
use Rattle.theory.specs.Ledger.{nothing}
use Rattle.theory.proofs.Longest.{none_some}
use Rattle.rules.specs.Numbers.{ipv4, record_bytes, own_slots, most_input, bad_list_length, no_slots, long_input}
use Rattle.rules.specs.Records.{print_table}
use Rattle.rules.specs.Plain.{Applied, updated}
use Rattle.rules.specs.Writing.{smallest_table}
use Rattle.rules.proofs.Records.{table_length}
use Rattle.rules.proofs.Numbered.{Between, update_between}
use Rattle.rules.proofs.Held.{few_applied, table_fits}
use Rattle.std.proofs.Common.{Ok, Err}
use Rattle.refusals.specs.declared.Refused.{Refused}
use Rattle.refusals.specs.declared.Refusal.TheVariants.{LongInput}
use Rattle.refusals.specs.Numbered.{number_of}
use Rattle.refusals.specs.Counted.{refused_at}
use Rattle.fresh.specs.Promise.{Tabled, table_of, Tables}
use Rattle.fresh.proofs.Promise.{Way, stops, short, writes_it, way}
use Rattle.program.specs.Promise.{refusal_record, after_list, writes_for, Stands, Answers, Refuses}

-- 12: before any other fault
pub too_long : (input : List ℕ) → most_input < length input → writes_for input ≡ refusal_record long_input 0
unfolding writes_for
too_long input long = rw (lt-ltb most_input (length input) long)

module _ (input : List ℕ) (not-long : length input ≤ most_input) where
  abbrev A : Applied
  A = updated ipv4 own_slots nothing input

  as_list : writes_for input ≡ after_list A.refusal A
  unfolding writes_for
  as_list = rw (le-ltb most_input (length input) not-long)

  -- nothing refused: the smallest table's bytes
  pub writes_table : A.refusal ≡ none → writes_for input ≡ print_table ipv4 (smallest_table ipv4 A.ledger)
  writes_table quiet = as_list ∙ ap (λ f. after_list f A) quiet

module _ (input output : List ℕ) (not-long : length input ≤ most_input) (room : most_input ≤ length output) where
  abbrev plain : Applied
  plain = updated ipv4 own_slots nothing input

  -- THE TABLE
  table_way : (t : Tabled) → Way own_slots input output t → t.refusal ≡ none
      → (t.count * record_bytes ipv4 ≤ length input) × Stands (writes_for input) output t.output (t.count * record_bytes ipv4)
  table_way t (stops x e) quiet = none_some refl quiet
  table_way t (short e l) quiet = none_some refl quiet
  table_way t (writes_it e l) quiet =
      let T = smallest_table ipv4 plain.ledger in (
        table_fits ipv4 own_slots input (omega arith),
        subst (λ b. Stands b output t.output (t.count * record_bytes ipv4)) (sym (writes_table input not-long e))
            record { count = sym (table_length ipv4 T); left = ap (λ k. print_table ipv4 T ++ drop k output) (sym (table_length ipv4 T)) },
      )

  pub table_stands : (output' : List ℕ) (c : ℕ) → Tables input output output' (Ok c)
      → (c * record_bytes ipv4 ≤ length input) × Stands (writes_for input) output output' (c * record_bytes ipv4)
  table_stands output' c meets =
      subst (λ t. (t.count * record_bytes ipv4 ≤ length input) × Stands (writes_for input) output t.output (t.count * record_bytes ipv4))
      (sym meets.outcome)
      (table_way (table_of own_slots input output) (way own_slots input output) (sym (ap (λ t. t.refusal) meets.outcome)))

  -- A REFUSAL: the output is as it was, and the number and the place are those of the record that tells it
  pub record Told (x c : ℕ) : Type 0 where
    pub a_byte : x < 256
    pub at_place : writes_for input ≡ refusal_record x c
    pub near : c ≤ most_input

  told_way : (t : Tabled) → Way own_slots input output t → (x : ℕ) → t.refusal ≡ some x → (t.output ≡ output) × Told x t.count
  told_way t (stops y e) x is =
      let same : y ≡ x = cc in
      let in-range : Between bad_list_length no_slots (some y) = subst (Between bad_list_length no_slots) e (update_between ipv4 own_slots nothing input) in (
        refl,
        record {
          a_byte = omega (arith, in-range.1, same);
          at_place = as_list input not-long ∙ ap (λ f. after_list f plain) (e ∙ is);
          near = omega (arith, few_applied ipv4 own_slots input nothing, not-long);
        },
      )
  told_way t (short e l) x is = absurd (omega (arith, l, table_fits ipv4 own_slots input (omega arith), room, not-long))
  told_way t (writes_it e l) x is = none_some is refl

  pub refusal_told : (output' : List ℕ) (x : Refused) → Tables input output output' (Err x) → (output' ≡ output) × Told (number_of x.refusal) x.count
  refusal_told output' x meets =
      subst (λ t. (t.output ≡ output) × Told (number_of x.refusal) t.count) (sym meets.outcome)
      (told_way (table_of own_slots input output) (way own_slots input output) (number_of x.refusal) (sym (ap (λ t. t.refusal) meets.outcome)))

-- what stands there lies within the output
stands_within : (bytes output output' : List ℕ) (r : ℕ) → Stands bytes output output' r → r ≤ length output'
stands_within bytes output output' r s =
    omega (arith, s.count, ap length s.left ∙ length-append bytes (drop (length bytes) output))

answers_so : (input output output' : List ℕ) (r : ℕ) → most_input ≤ length output → Stands (writes_for input) output output' r
    → Answers input output output' r
answers_so input output output' r room stands = record {
  stands = λ _. stands;
  no_room = λ shorter. absurd (omega (arith, shorter, room));
  within = stands_within (writes_for input) output output' r stands;
}

-- THE CALL'S ANSWERS, one for each way out
pub answers_short : (input output : List ℕ) → length output < most_input → Answers input output output 0
answers_short input output shorter = record {
  stands = λ room. absurd (omega (arith, shorter, room));
  no_room = λ _. (refl, refl);
  within = omega arith;
}

pub answers_long : (input output output' : List ℕ) (r : ℕ) → most_input ≤ length output → most_input < length input
    → (x : Refused) → x ≡ refused_at LongInput 0 → Refuses (number_of x.refusal) x.count output output' r → Answers input output output' r
answers_long input output output' r room long x is refuses =
    answers_so input output output' r room
    (subst (λ b. Stands b output output' r) (ap (λ y. refusal_record (number_of y.refusal) y.count) is ∙ sym (too_long input long)) refuses.tells)

module _ (input output : List ℕ) (room : most_input ≤ length output) (fits : length input ≤ most_input) where
  pub answers_table : (output' : List ℕ) (c : ℕ) → Tables input output output' (Ok c)
      → (c * record_bytes ipv4 ≤ most_input) × Answers input output output' (c * record_bytes ipv4)
  answers_table output' c meets =
      let stands = table_stands input output fits room output' c meets in (
        omega (arith, stands.0, fits),
        answers_so input output output' (c * record_bytes ipv4) room stands.1,
      )

  module _ (output' : List ℕ) (x : Refused) (meets : Tables input output output' (Err x)) where
    told : (output' ≡ output) × Told input output fits room (number_of x.refusal) x.count
    told = refusal_told input output fits room output' x meets

    -- the room that telling it asks for, and what is told fits its bytes
    pub room_to_tell : record_bytes ipv4 ≤ length output'
    room_to_tell = omega (arith, room, ap length told.0)

    pub number_fits : number_of x.refusal < 256
    number_fits = told.1.a_byte

    pub place_fits : x.count < 4294967296
    place_fits = omega (arith, told.1.near)

    pub answers_refusal : (output₂ : List ℕ) (r : ℕ) → Refuses (number_of x.refusal) x.count output' output₂ r → Answers input output output₂ r
    answers_refusal output₂ r refuses =
        answers_so input output output₂ r room
        (subst (λ b. Stands b output output₂ r) (sym told.1.at_place)
        (subst (λ o. Stands (refusal_record (number_of x.refusal) x.count) o output₂ r) told.0 refuses.tells))
