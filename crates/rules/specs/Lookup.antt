-- LOOKUP: the hop of an address in a ledger, and in a list of records.
use Rattle.std.specs.Prelude.{◌≡◌, cond, List, [], ◌∷◌, map, ℕ, suc, ◌<◌}
use Rattle.std.proofs.Math.Option.{Option, none, some}
use Rattle.theory.specs.Bits.{bits_of}
use Rattle.theory.specs.Ledger.{Ledger, Entry, ◌via◌, is_held, longest, load}
use Rattle.rules.specs.Numbers.{width, addresses, no_route, bad_list_length, bad_action}
use Rattle.rules.specs.Records.{announces, withdraws, lookup, Reading, means, faulty, read, records_of, whole_records}

-- THE HOP OF AN ADDRESS, a number: longest match, and discard where no held prefix begins it
unfoldable pub hop_of : ℕ → Ledger ℕ → ℕ → ℕ
hop_of k L x = longest L no_route (bits_of (width k) x)

-- A LIST LOOKED UP is checked whole: its entries, or its first fault and the fault's place, counted from 0
pub record Scanned : Type 0 where
  pub refusal : Option ℕ
  pub place : ℕ
  pub entries : List Entry

abbrev pub scan_on : Reading → Scanned → Scanned
scan_on (faulty x) s = record { refusal = some x; place = 0; entries = [] }
scan_on (means (withdraws p)) s = record { refusal = some bad_action; place = 0; entries = [] }
scan_on (means (announces p h)) s =
    record { refusal = s.refusal; place = cond (is_held s.refusal) (suc s.place) 0; entries = p via h ∷ s.entries }

abbrev pub scan_all : List Reading → Scanned
scan_all [] = record { refusal = none; place = 0; entries = [] }
scan_all (r ∷ rs) = scan_on r (scan_all rs)

unfoldable pub scanned : ℕ → List ℕ → Scanned
scanned k bytes =
    cond (whole_records k bytes) (scan_all (map (read lookup k) (records_of k bytes)))
    (record { refusal = some bad_list_length; place = 0; entries = [] })

-- what a lookup answers: a refusal with hop 0 and the place, or the hop
pub record Answer : Type 0 where
  pub refusal : Option ℕ
  pub hop : ℕ
  pub place : ℕ

unfoldable pub looked_up : ℕ → List ℕ → ℕ → Answer
looked_up k bytes x =
    let s = scanned k bytes in
    record { refusal = s.refusal; hop = cond (is_held s.refusal) 0 (hop_of k (load s.entries) x); place = s.place }

-- a list of bytes answers as a ledger does: the same hop for each address, all 2 ^ width of them
abbrev pub AnswersAs : ℕ → Ledger ℕ → List ℕ → Type 0
AnswersAs k L bytes = (x : ℕ) → x < addresses k → looked_up k bytes x ≡ record { refusal = none; hop = hop_of k L x; place = 0 }
