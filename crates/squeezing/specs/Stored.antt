-- THE SCRATCH HOLDS THE SETS of the strings below a slot, each as its own slot's; what forming them asks and leaves.
use Rattle.std.specs.Prelude.{◌≡◌, true, false, List, ℕ, zero, suc, ◌<◌, length}
use Rattle.theory.specs.Bits.{Bits}
use Rattle.theory.specs.Smallest.{splits}
use Rattle.rules.specs.Numbers.{hop_bound, MayAnnounce, scratch_words}
use Rattle.memory.specs.Layout.{Memory, slots, Whole, child, find}
use Rattle.sets.specs.Sets.{members, set_in}
use Rattle.squeezing.specs.declared.Formed.{Formed}
use Rattle.squeezing.specs.Below.{in_force, leaves_below, set_below, LiesBelow}

abbrev pub StoredAt : Memory → List ℕ → ℕ → ℕ → ℕ → Type 0
StoredAt m scratch w p d = p < slots m.tree → set_in scratch p ≡ set_below w m p d

abbrev pub Stored : Memory → List ℕ → ℕ → ℕ → ℕ → Type 0
Stored m scratch zero p d = StoredAt m scratch zero p d
Stored m scratch (suc w) p d =
    StoredAt m scratch (suc w) p d
    × Stored m scratch w (child m.tree false p) (in_force m p d)
    × Stored m scratch w (child m.tree true p) (in_force m p d)

-- FORMING SETS asks for the words of all slots, a slot that is a string's or none, and a hop in force above; ..
pub record CanForm (m : Memory) (scratch : List ℕ) (p d : ℕ) : Type 0 where
  pub whole : Whole m
  pub sized : length scratch ≡ scratch_words (slots m.tree)
  pub string : Bits
  pub lies : find m.tree string ≡ p
  pub hop : MayAnnounce d

-- .. and gives the slot's set and the number of strings whose children's sets are apart, the sets below kept and no slot's
-- else touched
pub record Forms (m : Memory) (scratch : List ℕ) (p w d : ℕ) (scratch' : List ℕ) (r : Formed) : Type 0 where
  pub set : members r.set ≡ set_below w m p d
  pub splits : r.splits ≡ splits hop_bound w (leaves_below w m p d)
  pub stored : Stored m scratch' w p d
  pub others : (k : ℕ) → (LiesBelow m.tree w p k → ⊥) → set_in scratch' k ≡ set_in scratch k
  pub same_length : length scratch' ≡ length scratch
