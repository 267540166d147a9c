-- The bits that are left fall by one from a string's slot to its children; a call for the string itself comes first.
use Prim.Native.Nat.{◌+◌, ◌*◌}
use Rattle.squeezing.proofs.+form.Given as goal

abbrev pub decreases-form_sets : goal.decreases-form_sets
decreases-form_sets l = 2 * l.level.left + 1

abbrev pub decreases-form_slot : goal.decreases-form_slot
decreases-form_slot l = 2 * l.level.left
