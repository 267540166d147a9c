-- The bits that are left fall by one from a string's slot to its children; a call for the string itself comes first.
use Prim.Native.Nat.{◌+◌, ◌*◌}
use Rattle.squeezing.proofs.+write.Given as goal

abbrev pub decreases-write_entries : goal.decreases-write_entries
decreases-write_entries l = 2 * l.level.left + 1

abbrev pub decreases-write_slot : goal.decreases-write_slot
decreases-write_slot l = 2 * l.level.left
