-- The code cuts a list into its records as document 01's pieces, and reads them one after another.
use Rattle.std.proofs.Common.{◌≡◌, refl, sym, ap, ◌∙◌, List, [], ◌∷◌, ℕ, zero, suc, ◌<◌, ◌≤◌, map, length, drop, take, slice_index_or}
use Rattle.std.proofs.Math.Seq.{drop-cons}
use Rattle.std.proofs.lemmas.List.{drop_all}
use Rattle.std.specs.Simd.{first_chunks}
use Rattle.rules.specs.Numbers.{ipv4}
use Rattle.rules.specs.Records.{Use, Reading, read, pieces, records_of}

pub chunks_pieces : (size m : ℕ) (bytes : List ℕ) → first_chunks size m bytes ≡ pieces size m bytes
chunks_pieces size zero bytes = refl
chunks_pieces size (suc m) bytes = ap (λ t. take size bytes ∷ t) (chunks_pieces size m (drop size bytes))

-- the records from a place on, read
abbrev pub readings : Use → List (List ℕ) → ℕ → List Reading
readings u records place = map (read u ipv4) (drop place records)

module _ (u : Use) (records : List (List ℕ)) where
  -- at first they are all of the list's
  pub all_read : (list : List ℕ) → records ≡ records_of ipv4 list → map (read u ipv4) (records_of ipv4 list) ≡ readings u records 0
  all_read list are = ap (map (read u ipv4)) (sym are)

  -- the record that stands at a place, and those behind it
  pub read_here : {place : ℕ} {fields : List ℕ} → place < length records → fields ≡ slice_index_or records place []
      → readings u records place ≡ read u ipv4 fields ∷ readings u records (suc place)
  read_here {place} l is =
      ap (map (read u ipv4)) (drop-cons records place [] l) ∙ ap (λ r. read u ipv4 r ∷ readings u records (suc place)) (sym is)

  -- past the last there is none
  pub none_left : {place : ℕ} → length records ≤ place → readings u records place ≡ []
  none_left {place} l = ap (map (read u ipv4)) (drop_all place records l)
