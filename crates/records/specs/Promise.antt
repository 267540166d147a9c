-- What reading one record promises.
use Rattle.std.specs.Prelude.{◌≡◌, Bool, true, false, List, ℕ, ◌≤◌, ◌<◌, take, Result, Ok, Err}
use Rattle.theory.specs.Bits.{bits_of}
use Rattle.rules.specs.Numbers.{ipv4, width, bad_prefix_length, bad_hop, MayAnnounce, addresses}
use Rattle.rules.specs.Records.{announces, withdraws, Use, update, lookup, stray_bits, Reading, means, faulty, read, records_of, whole_records}
use Rattle.records.specs.declared.Record.{Record}
use Rattle.records.specs.declared.Record.TheVariants.{Announces, Withdraws}
use Rattle.std.specs.Borrow.{Bor}
use Rattle.refusals.specs.declared.Refusal.{Refusal}
use Rattle.refusals.specs.declared.Refusal.TheVariants.{BadListLength}
use Rattle.refusals.specs.Numbered.{number_of}

-- WHAT A RECORD SAYS, in document 01's words: the prefix is the first `size` bits of the address
unfoldable pub reading_of : Result Record Refusal → Reading
reading_of (Ok (Announces address size hop)) = means (announces (take size (bits_of (width ipv4) address)) hop)
reading_of (Ok (Withdraws address size)) = means (withdraws (take size (bits_of (width ipv4) address)))
reading_of (Err refusal) = faulty (number_of refusal)

-- a list that takes withdrawals is an update; one that does not is looked up
abbrev pub use_of : Bool → Use
use_of true = update
use_of false = lookup

-- a prefix as address and length: no bit of the address is set behind the length
pub record IsPrefix (address size : ℕ) : Type 0 where
  pub fits : address < addresses ipv4
  pub within : size ≤ width ipv4
  pub clear : stray_bits (width ipv4) size address ≡ false

-- the bounds that a record's fields keep
pub record IsRoute (address size hop : ℕ) : Type 0 where
  pub prefix : IsPrefix address size
  pub may : MayAnnounce hop

pub record IsFault (number : ℕ) : Type 0 where
  pub first : bad_prefix_length ≤ number
  pub last : number ≤ bad_hop

unfoldable pub InBounds : Result Record Refusal → Type 0
InBounds (Ok (Announces address size hop)) = IsRoute address size hop
InBounds (Ok (Withdraws address size)) = IsPrefix address size
InBounds (Err refusal) = IsFault (number_of refusal)

-- READING the 8 bytes of a record: what is answered is what document 01 reads there, and its fields keep their bounds
pub record ReadsRecord (fields : List ℕ) (withdrawals : Bool) (r : Result Record Refusal) : Type 0 where
  pub reading : reading_of r ≡ read (use_of withdrawals) ipv4 fields
  pub bounds : InBounds r

-- CUTTING A LIST into its records, as document 01 has them; or refusal 3
abbrev pub CutsList : List ℕ → Result (Bor (List (List ℕ))) Refusal → Type 0
CutsList list (Ok records) = (whole_records ipv4 list ≡ true) × (records.now ≡ records_of ipv4 list)
CutsList list (Err refusal) = (whole_records ipv4 list ≡ false) × (refusal ≡ BadListLength)
