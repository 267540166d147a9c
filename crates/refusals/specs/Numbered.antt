-- THE NUMBER OF A REFUSAL, as document 01 has it.
use Rattle.std.specs.Prelude.{ℕ}
use Rattle.rules.specs.Numbers.{bad_slices, no_ledger, bad_list_length, bad_prefix_length, stray_bit, bad_action, bad_hop, not_held, no_slots, short_output, long_input}
use Rattle.refusals.specs.declared.Refusal.{Refusal}
use Rattle.refusals.specs.declared.Refusal.TheVariants.{BadSlices, NoLedger, BadListLength, BadPrefixLength, StrayBit, BadAction, BadHop, NotHeld, NoSlots, ShortOutput, LongInput}

abbrev pub number_of : Refusal → ℕ
number_of BadSlices = bad_slices
number_of NoLedger = no_ledger
number_of BadListLength = bad_list_length
number_of BadPrefixLength = bad_prefix_length
number_of StrayBit = stray_bit
number_of BadAction = bad_action
number_of BadHop = bad_hop
number_of NotHeld = not_held
number_of NoSlots = no_slots
number_of ShortOutput = short_output
number_of LongInput = long_input
