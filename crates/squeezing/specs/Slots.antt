-- The number of a slot that code may not have: behind all slots where it has none.
use Rattle.std.specs.Prelude.{ℕ, Option, None, Some}
use Rattle.memory.specs.Layout.{Memory, slots}

abbrev pub slot_number : Memory → Option ℕ → ℕ
slot_number m None = slots m.tree
slot_number m (Some p) = p
