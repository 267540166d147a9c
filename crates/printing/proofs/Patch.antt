-- Laws of a patch. Where there is room, it is its bytes stored one by one; the laws follow from those of stores.
use mathlib.Core.Path.{◌≡◌, sym, ap, ◌∙◌}
use mathlib.Core.List.{List, [], ◌∷◌, ◌++◌, append_assoc}
use Prim.Native.Nat.{ℕ, suc, ◌+◌, ◌≤◌, ◌<◌}
use native.Mathlib.Omega.{arith}
use native.Mathlib.Nat.{add-zero, zero-add}
use lib.ListN.{length, get_or, take, drop, set, length-append, take-append-drop}
use lib.Seq.{sets, length-sets, sets-eq, take-append_seam, take-suc, length-take-le}
use Rattle.printing.specs.Printing.{patch}

patch_sets : (at : ℕ) (bytes l : List ℕ) → at + length bytes ≤ length l → patch at bytes l ≡ sets l at bytes
unfolding patch
patch_sets at bytes l room = sym (sets-eq bytes l at room ∙ append_assoc (take at l) bytes (drop (at + length bytes) l))

sets_more : (at : ℕ) (xs ys l : List ℕ) → sets (sets l at xs) (at + length xs) ys ≡ sets l at (xs ++ ys)
sets_more at [] ys l = ap (λ k. sets l k ys) (add-zero at)
sets_more at (x ∷ xs) ys l =
    ap (λ k. sets (sets (set l at x) (suc at) xs) k ys) (omega arith) ∙ sets_more (suc at) xs ys (set l at x)

pub patch_length : (at : ℕ) (bytes l : List ℕ) → at + length bytes ≤ length l → length (patch at bytes l) ≡ length l
patch_length at bytes l room = ap length (patch_sets at bytes l room) ∙ length-sets l at bytes

pub patch_none : (at : ℕ) (l : List ℕ) → patch at [] l ≡ l
unfolding patch
patch_none at l = ap (λ k. take at l ++ drop k l) (add-zero at) ∙ take-append-drop at l

-- stores behind a patch lengthen it, ..
pub patch_stores : (at : ℕ) (xs ys l : List ℕ) → at + length xs + length ys ≤ length l
    → sets (patch at xs l) (at + length xs) ys ≡ patch at (xs ++ ys) l
patch_stores at xs ys l room =
    ap (λ m. sets m (at + length xs) ys) (patch_sets at xs l (omega arith))
    ∙ sets_more at xs ys l
    ∙ sym (patch_sets at (xs ++ ys) l (omega (arith, length-append xs ys)))

-- .. and so does a patch
pub patch_more : (at : ℕ) (xs ys l : List ℕ) → at + length xs + length ys ≤ length l
    → patch (at + length xs) ys (patch at xs l) ≡ patch at (xs ++ ys) l
patch_more at xs ys l room =
    patch_sets (at + length xs) ys (patch at xs l) (omega (arith, patch_length at xs l (omega arith))) ∙ patch_stores at xs ys l room

-- a patch of a list's first elements, lengthened by the next
pub patch_next : (at i : ℕ) (bytes l : List ℕ) → i < length bytes → at + length bytes ≤ length l
    → set (patch at (take i bytes) l) (at + i) (get_or bytes i 0) ≡ patch at (take (suc i) bytes) l
patch_next at i bytes l more room =
    let long = length-take-le i bytes (omega arith) in
    ap (λ n. set (patch at (take i bytes) l) (at + n) (get_or bytes i 0)) (sym long)
    ∙ patch_stores at (take i bytes) (get_or bytes i 0 ∷ []) l (omega arith)
    ∙ ap (λ xs. patch at xs l) (sym (take-suc bytes i 0 more))

-- a store is a patch of one element
pub patch_store : (at v : ℕ) (l : List ℕ) → at < length l → set l at v ≡ patch at (v ∷ []) l
patch_store at v l room = sym (patch_sets at (v ∷ []) l (omega arith))

-- a patch of the front
pub patch_front : (bytes l : List ℕ) → patch 0 bytes l ≡ bytes ++ drop (length bytes) l
unfolding patch
patch_front bytes l = ap (λ k. bytes ++ drop k l) (zero-add (length bytes))

pub patch_take : (bytes l : List ℕ) → take (length bytes) (patch 0 bytes l) ≡ bytes
patch_take bytes l = ap (take (length bytes)) (patch_front bytes l) ∙ take-append_seam bytes (drop (length bytes) l)
