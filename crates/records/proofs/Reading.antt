-- Reading one record: its fields are those that stand in its 8 bytes, and the tests, tried in the order of the rules, say which
-- rule is the first that it breaks, or that it breaks none.
use mathlib.Core.Path.{◌≡◌, sym, ap, ◌∙◌}
use mathlib.Core.Bool.{Bool, true, false, cond, not, ◌||◌, ◌&&◌}
use mathlib.Core.List.{List, ◌∷◌}
use mathlib.Core.Option.{none, some}
use Prim.Native.Nat.{ℕ, suc, ◌+◌, ◌*◌, ◌^◌, ◌≤◌, ◌<◌}
use native.Mathlib.Omega.{arith}
use native.Mathlib.Numerals.{add-one}
use lib.ListN.{length, take, drop, get_or}
use lib.Seq.{drop-cons}
use lib.Dec.{eqb}
use borrow.Author.Tests.{lt-ltb, le-ltb, eq-eqb, ne_eqb}
use Rattle.theory.specs.Bits.{bits_of}
use Rattle.rules.specs.Numbers.{ipv4, width, record_bytes, announce_action, withdraw_action, highest_hop, bad_prefix_length, stray_bit, bad_action, bad_hop}
use Rattle.rules.specs.Records.{number, announces, withdraws, Fields, Use, takes_withdrawals, stray_bits, bad_hop_for, field_rules, first_fault, Reading, means, faulty, meaning, fault_or, read}
use Rattle.records.specs.declared.Record.{Record}
use Rattle.records.specs.declared.Record.TheVariants.{Announces, Withdraws}
use Rattle.std.proofs.Common.{Result, Ok, Err}
use Rattle.refusals.specs.declared.Refusal.{Refusal}
use Rattle.refusals.specs.Numbered.{number_of}
use Rattle.records.specs.Promise.{reading_of, use_of, IsPrefix, IsFault, InBounds, ReadsRecord}

-- Numbers in a list's bytes.
drop_two : (l : List ℕ) (at : ℕ) → at + 2 ≤ length l → drop at l ≡ get_or l at 0 ∷ get_or l (at + 1) 0 ∷ drop (at + 2) l
drop_two l at h =
    let e : suc (at + 1) ≡ at + 2 = omega arith in
    drop-cons l at 0 (omega arith)
    ∙ ap (λ t. get_or l at 0 ∷ t) (ap (λ j. drop j l) (sym (add-one at)) ∙ drop-cons l (at + 1) 0 (omega arith) ∙ ap (λ j. get_or l (at + 1) 0 ∷ drop j l) e)

pub two_number : (l : List ℕ) (at : ℕ) → at + 2 ≤ length l → number (take 2 (drop at l)) ≡ get_or l at 0 * 256 + get_or l (at + 1) 0
two_number l at h = ap (λ t. number (take 2 t)) (drop_two l at h) ∙ omega arith

pub four_number : (l : List ℕ) (at : ℕ) → at + 4 ≤ length l
    → number (take 4 (drop at l)) ≡ number (take 2 (drop at l)) * 65536 + number (take 2 (drop (at + 2) l))
four_number l at h =
    let later = ap (λ t. number (take 2 t)) (drop_two l (at + 2) (omega arith)) in
    let here = ap (λ t. number (take 2 t)) (drop_two l at (omega arith)) in
    let whole : drop at l ≡ get_or l at 0 ∷ get_or l (at + 1) 0 ∷ get_or l (at + 2) 0 ∷ get_or l (at + 2 + 1) 0 ∷ drop (at + 2 + 2) l =
    drop_two l at (omega arith) ∙ ap (λ t. get_or l at 0 ∷ get_or l (at + 1) 0 ∷ t) (drop_two l (at + 2) (omega arith)) in
    ap (λ t. number (take 4 t)) whole ∙ omega (arith, later, here)

-- The fields of a record: the code has made numbers of its bytes.
abbrev pub fields_with : List ℕ → ℕ → ℕ → ℕ → Fields
fields_with l address size hop = record { address = address; size = size; action = get_or l 5 0; hop = hop }

-- What the rules make of a record's fields, at any width.
abbrev judged : Use → ℕ → Fields → Reading
judged u w f = fault_or (first_fault (field_rules u w f)) (meaning w f)

pub record Judged (u : Use) (w : ℕ) (f : Fields) (r : Reading) : Type 0 where
  pub gives : judged u w f ≡ r

-- rules 4 and 5 are kept
pub record Clean (w : ℕ) (f : Fields) : Type 0 where
  pub within : f.size ≤ w
  pub clear : stray_bits w f.size f.address ≡ false

-- then the action and the hop are left to judge
past : (u : Use) (w : ℕ) (f : Fields) → Clean w f → judged u w f
    ≡ fault_or
    (cond (not (eqb f.action announce_action || (takes_withdrawals u && eqb f.action withdraw_action))) (some bad_action)
    (cond (bad_hop_for f.action f.hop) (some bad_hop) none))
    (meaning w f)
past u w f k = rw (le-ltb w f.size k.within, k.clear)

module _ {u : Use} {w : ℕ} {f : Fields} where
  pub too_long : w < f.size → Judged u w f (faulty bad_prefix_length)
  too_long h = record { gives = rw (lt-ltb w f.size h) }

  pub stray : f.size ≤ w → stray_bits w f.size f.address ≡ true → Judged u w f (faulty stray_bit)
  stray within e = record { gives = rw (le-ltb w f.size within, e) }

  module _ (k : Clean w f) where
    module _ (a : f.action ≡ announce_action) where
      pub high_hop : highest_hop < f.hop → Judged u w f (faulty bad_hop)
      high_hop h = record { gives = past u w f k ∙ rw (eq-eqb f.action announce_action a, lt-ltb highest_hop f.hop h) }

      announced : f.hop ≤ highest_hop → Judged u w f (means (announces (take f.size (bits_of w f.address)) f.hop))
      announced h = record { gives = past u w f k ∙ rw (eq-eqb f.action announce_action a, le-ltb highest_hop f.hop h) }

    module _ (a : f.action ≡ announce_action → ⊥) where
      pub no_withdrawals : takes_withdrawals u ≡ false → Judged u w f (faulty bad_action)
      no_withdrawals t = record { gives = past u w f k ∙ rw (ne_eqb f.action announce_action a, t) }

      module _ (t : takes_withdrawals u ≡ true) where
        pub no_action : (f.action ≡ withdraw_action → ⊥) → Judged u w f (faulty bad_action)
        no_action b = record { gives = past u w f k ∙ rw (ne_eqb f.action announce_action a, t, ne_eqb f.action withdraw_action b) }

        module _ (b : f.action ≡ withdraw_action) where
          pub withdrawn_hop : (f.hop ≡ 0 → ⊥) → Judged u w f (faulty bad_hop)
          withdrawn_hop h = record { gives = past u w f k ∙ rw (ne_eqb f.action announce_action a, t, eq-eqb f.action withdraw_action b, ne_eqb f.hop 0 h) }

          withdrawn : f.hop ≡ 0 → Judged u w f (means (withdraws (take f.size (bits_of w f.address))))
          withdrawn h = record { gives = past u w f k ∙ rw (ne_eqb f.action announce_action a, t, eq-eqb f.action withdraw_action b, eq-eqb f.hop 0 h) }

-- an update takes withdrawals, and a list that is looked up does not
pub uses : (withdrawals : Bool) {b : Bool} → withdrawals ≡ b → takes_withdrawals (use_of withdrawals) ≡ b
uses true e = e
uses false e = e

-- The fields as the code has fetched them: address and hop are numbers of the record's bytes, length and action are bytes.
pub record Fetched (l : List ℕ) (address size hop : ℕ) : Type 0 where
  pub address_is : address ≡ number (take 4 l)
  pub fits : address < 2 ^ width ipv4
  pub size_is : size ≡ get_or l 4 0
  pub hop_is : hop ≡ number (take 2 (drop 6 l))

pub fetched : (l : List ℕ) (address size hop : ℕ) → length l ≡ record_bytes ipv4 → address < 2 ^ width ipv4
    → address ≡ get_or l 0 0 * 16777216 + get_or l 1 0 * 65536 + get_or l 2 0 * 256 + get_or l 3 0
    → size ≡ get_or l 4 0 → hop ≡ get_or l 6 0 * 256 + get_or l 7 0 → Fetched l address size hop
fetched l address size hop long fits address_is size_is hop_is = record {
  address_is = omega (arith, address_is, four_number l 0 (omega (arith, long)), two_number l 0 (omega (arith, long)), two_number l 2 (omega (arith, long)));
  fits = fits;
  size_is = size_is;
  hop_is = omega (arith, hop_is, two_number l 6 (omega (arith, long)));
}

clean_prefix : {l : List ℕ} {address size hop : ℕ} → Fetched l address size hop → Clean (width ipv4) (fields_with l address size hop)
    → IsPrefix address size
clean_prefix fetched k = record { fits = fetched.fits; within = k.within; clear = k.clear }

-- WHAT IS ANSWERED is what the rules make of those fields.
module _ {l : List ℕ} {withdrawals : Bool} {address size hop : ℕ} (fetched : Fetched l address size hop) where
  answers : (r : Result Record Refusal) → Judged (use_of withdrawals) (width ipv4) (fields_with l address size hop) (reading_of r) → InBounds r
      → ReadsRecord l withdrawals r
  unfolding read
  answers r e bounds = record {
    reading = sym (ap (judged (use_of withdrawals) (width ipv4)) (λ i. record { address = sym fetched.address_is i; size = sym fetched.size_is i; action = get_or l 5 0; hop = sym fetched.hop_is i }) ∙ e.gives);
    bounds = bounds;
  }

  pub faults : (x : Refusal) → IsFault (number_of x) → Judged (use_of withdrawals) (width ipv4) (fields_with l address size hop) (faulty (number_of x))
      → ReadsRecord l withdrawals (Err x)
  unfolding reading_of InBounds
  faults x numbered e = answers (Err x) e numbered

  module _ (k : Clean (width ipv4) (fields_with l address size hop)) where
    pub answers_announces : get_or l 5 0 ≡ announce_action → hop ≤ highest_hop
        → ReadsRecord l withdrawals (Ok (Announces address size hop))
    unfolding reading_of InBounds
    answers_announces a high =
        answers (Ok (Announces address size hop)) (announced k a high) (record { prefix = clean_prefix fetched k; may = high })

    pub answers_withdraws : (get_or l 5 0 ≡ announce_action → ⊥) → takes_withdrawals (use_of withdrawals) ≡ true → get_or l 5 0 ≡ withdraw_action → hop ≡ 0
        → ReadsRecord l withdrawals (Ok (Withdraws address size))
    unfolding reading_of InBounds
    answers_withdraws a t b h = answers (Ok (Withdraws address size)) (withdrawn k a t b h) (clean_prefix fetched k)
