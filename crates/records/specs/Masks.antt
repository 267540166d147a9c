-- THE MASKS: the mask of length l has the highest l of an address's bits set.
use Rattle.std.specs.Prelude.{List, [], ◌∷◌, ℕ, zero, suc, ◌-◌, ◌^◌}
use Rattle.rules.specs.Numbers.{ipv4, width}

abbrev pub mask_of : ℕ → ℕ
mask_of l = 2 ^ width ipv4 - 2 ^ (width ipv4 - l)

abbrev pub masks_from : ℕ → ℕ → List ℕ
masks_from l zero = []
masks_from l (suc n) = mask_of l ∷ masks_from (suc l) n

-- the table: the masks of the lengths 0 to 32, in order
unfoldable pub mask_table : List ℕ
mask_table = masks_from 0 (suc (width ipv4))
