-- A record's bytes, and what the constructors set.
use Rattle.std.specs.Prelude.{◌≡◌, ℕ, List, ◌∷◌, ◌++◌}
use Rattle.std.specs.Int.{w16, w32, to_be_bytes}
use Rattle.telling.specs.declared.change.RawRecord.{RawRecord}

-- The address, the length, the action and the hop, each with its high byte first.
abbrev pub bytes_of : RawRecord → List ℕ
bytes_of r = to_be_bytes w32 r.address ++ r.size ∷ r.action ∷ to_be_bytes w16 r.hop

-- Its fields have these values.
abbrev pub IsRecord : RawRecord → ℕ → ℕ → ℕ → ℕ → Type 0
IsRecord r address size action hop = (r.address ≡ address) × (r.size ≡ size) × (r.action ≡ action) × (r.hop ≡ hop)
