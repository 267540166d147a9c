-- One pass over the list: at each record, scanning the rest from the ledger of the routes passed gives the whole answer, so what
-- is found there, a fault or the list's end, is the answer.
use mathlib.Core.Path.{◌≡◌, refl, sym, ap, ◌∙◌}
use mathlib.Core.Bool.{true, false, cond}
use mathlib.Core.Logic.{inl, inr}
use mathlib.Core.Option.{none, some}
use mathlib.Core.List.{List, [], ◌∷◌, map}
use Prim.Native.Nat.{ℕ, suc, ◌+◌, ◌≤◌, ◌<◌}
use native.Mathlib.Omega.{arith}
use native.Mathlib.Numerals.{add-one}
use lib.ListN.{length, take}
use Rattle.theory.specs.Bits.{Bits, bits_of}
use Rattle.theory.specs.Ledger.{Ledger, is_held, nothing, announce, load_onto, load}
use Rattle.theory.proofs.Hops.{by_test}
use Rattle.rules.specs.Numbers.{ipv4, width, bad_list_length, bad_action}
use Rattle.rules.specs.Records.{announces, withdraws, lookup, Reading, means, faulty, read, records_of, whole_records}
use Rattle.rules.specs.Lookup.{hop_of, Scanned, scan_on, scan_all, scanned, Answer, looked_up}
use Rattle.records.specs.declared.Record.TheVariants.{Announces, Withdraws}
use Rattle.records.proofs.Chunks.{readings, all_read, read_here, none_left}
use Rattle.refusals.specs.declared.Refusal.{Refusal}
use Rattle.refusals.specs.declared.Refusal.TheVariants.{BadListLength, BadAction}
use Rattle.refusals.specs.Numbered.{number_of}
use Rattle.refusals.specs.Counted.{refused_at}
use Rattle.std.proofs.Common.{Option, None, Ok, Err, slice_index_or}
use Rattle.records.specs.Promise.{reading_of, ReadsRecord}
use Rattle.lists.specs.Promise.{LooksUpList}
use Rattle.lists.specs.declared.Match.{Match}
use Rattle.lists.specs.Best.{BestIn, level_of, hop_by, Follows}
use Rattle.lists.proofs.Follow.{best_longest}

-- the answer where a ledger has been made of the records before the place, and the rest is scanned
abbrev onwards : ℕ → Ledger ℕ → ℕ → Scanned → Answer
onwards x L place s = record {
  refusal = s.refusal;
  hop = cond (is_held s.refusal) 0 (hop_of ipv4 (load_onto L s.entries) x);
  place = cond (is_held s.refusal) (place + s.place) 0;
}

-- WHERE THE PASS STANDS: so many records passed, the ledger of those, and the best match in it
pub record Ahead (list : List ℕ) (records : List (List ℕ)) (x place : ℕ) (best : Option Match) : Type 0 where
  pub ledger : Ledger ℕ
  pub longest_so_far : BestIn ledger (bits_of (width ipv4) x) (level_of best) (hop_by best)
  pub whole : looked_up ipv4 list x ≡ onwards x ledger place (scan_all (readings lookup records place))

-- a scan without a fault names no place
quiet_place : (rs : List Reading) → (scan_all rs).place ≡ cond (is_held (scan_all rs).refusal) (0 + (scan_all rs).place) 0
quiet_place [] = refl
quiet_place (faulty x ∷ rs) = refl
quiet_place (means (withdraws p) ∷ rs) = refl
quiet_place (means (announces p h) ∷ rs) = elim (by_test (is_held (scan_all rs).refusal)) [ inl e ↦ rw e (omega arith) | inr e ↦ rw e ]

-- what a lookup makes of a list's scan
abbrev answered : ℕ → Scanned → Answer
answered x s = record { refusal = s.refusal; hop = cond (is_held s.refusal) 0 (hop_of ipv4 (load s.entries) x); place = s.place }

abbrev no_records : Scanned
no_records = record { refusal = some bad_list_length; place = 0; entries = [] }

-- A list that is no whole number of records is refused whole.
pub bad_length : (list : List ℕ) (x : ℕ) (refusal : Refusal) → (whole_records ipv4 list ≡ false) × (refusal ≡ BadListLength)
    → LooksUpList list x (Err (refused_at refusal 0))
unfolding looked_up scanned
bad_length list x refusal d = rw d.1 record {
  answer = ap (λ b. answered x (cond b (scan_all (map (read lookup ipv4) (records_of ipv4 list))) no_records)) (sym d.0);
}

-- At first nothing is passed.
pub at_first : (list : List ℕ) (records : List (List ℕ)) (x : ℕ) → (whole_records ipv4 list ≡ true) × (records ≡ records_of ipv4 list)
    → Ahead list records x 0 None
unfolding looked_up scanned
at_first list records x cut =
    let s = scan_all (readings lookup records 0) in
    record {
      ledger = nothing;
      longest_so_far = record { holds = refl; no_longer = λ k l m. refl };
      whole = ap (λ b. answered x (cond b (scan_all (map (read lookup ipv4) (records_of ipv4 list))) no_records)) cut.0
          ∙ ap (λ rs. answered x (scan_all rs)) (all_read lookup records list cut.1)
          ∙ ap (λ p. record { refusal = s.refusal; hop = (answered x s).hop; place = p }) (quiet_place (readings lookup records 0));
    }

module _ {list : List ℕ} {records : List (List ℕ)} {x place : ℕ} {best : Option Match} (a : Ahead list records x place best) where
  module _ {fields : List ℕ} (l : place < length records) (is : fields ≡ slice_index_or records place []) where
    abbrev behind : Scanned
    behind = scan_all (readings lookup records (suc place))

    on : (r : Reading) → r ≡ read lookup ipv4 fields → looked_up ipv4 list x ≡ onwards x a.ledger place (scan_on r behind)
    on r e = a.whole ∙ ap (λ rs. onwards x a.ledger place (scan_all rs)) (read_here lookup records l is) ∙ ap (λ q. onwards x a.ledger place (scan_on q behind)) (sym e)

    -- a faulty record is the first one, and its place is the answer
    pub faulty_here : {refusal : Refusal} {told : ℕ} → ReadsRecord fields false (Err refusal) → told ≡ place
        → LooksUpList list x (Err (refused_at refusal told))
    unfolding reading_of
    faulty_here {refusal} r there = rw there record {
      answer = ap (λ p. record { refusal = some (number_of refusal); hop = 0; place = p }) (omega arith) ∙ sym (on (faulty (number_of refusal)) r.reading);
    }

    -- so is a withdrawal
    pub withdrawal_here : {address size told : ℕ} → ReadsRecord fields false (Ok (Withdraws address size)) → told ≡ place
        → LooksUpList list x (Err (refused_at BadAction told))
    unfolding reading_of
    withdrawal_here {address} {size} r there = rw there record {
      answer = ap (λ p. record { refusal = some bad_action; hop = 0; place = p }) (omega arith)
          ∙ sym (on (means (withdraws (take size (bits_of (width ipv4) address)))) r.reading);
    }

    -- and past an announcement the pass goes on, with the best match that follows
    pub announcement_here : {address size h : ℕ} {after : Option Match} → ReadsRecord fields false (Ok (Announces address size h))
        → Follows x address size h best after → Ahead list records x (place + 1) after
    unfolding reading_of
    announcement_here {address} {size} {h} r f = rw (add-one place) record {
      ledger = announce a.ledger p h;
      longest_so_far = f.follows a.ledger a.longest_so_far;
      whole = on (means (announces p h)) r.reading ∙ ap (λ q. record { refusal = behind.refusal; hop = (onwards x (announce a.ledger p h) 0 behind).hop; place = q }) place_is;
    }
      where
        p : Bits
        p = take size (bits_of (width ipv4) address)

        place_is : cond (is_held behind.refusal) (place + cond (is_held behind.refusal) (suc behind.place) 0) 0
            ≡ cond (is_held behind.refusal) (suc place + behind.place) 0
        place_is = elim (by_test (is_held behind.refusal)) [ inl e ↦ rw e (omega arith) | inr e ↦ rw e ]

  -- At the end, the best match is the answer.
  pub at_last : length records ≤ place → LooksUpList list x (Ok (hop_by best))
  unfolding hop_of
  at_last l = record {
    answer = ap (λ h. record { refusal = none; hop = h; place = 0 }) (best_longest a.ledger (bits_of (width ipv4) x) (level_of best) (hop_by best) a.longest_so_far)
        ∙ sym (a.whole ∙ ap (λ rs. onwards x a.ledger place (scan_all rs)) (none_left lookup records l));
  }
