-- Entries put into the output: bytes below a string, room for the parts, and the rule at a string as the code follows it.
use mathlib.Core.Path.{◌≡◌, refl, sym, ap, ap₂, subst, ◌∙◌}
use mathlib.Core.Bool.{Bool, true, false}
use mathlib.Core.List.{List, [], ◌∷◌, ◌++◌, append-nil, append_assoc}
use mathlib.Core.Option.{none, some}
use mathlib.Core.Logic.{inl, inr}
use Prim.Native.Nat.{ℕ, zero, suc, ◌+◌, ◌-◌, ◌*◌, ◌≤◌}
use native.Mathlib.Omega.{arith}
use native.Mathlib.Nat.{add-mul, suc-mul, zero-mul, one-mul}
use lib.ListN.{length, length-append, length-map}
use Rattle.theory.specs.Bits.{Bits}
use Rattle.theory.specs.Hops.{Hops, least}
use Rattle.theory.specs.Ledger.{Entry, ◌via◌}
use Rattle.theory.specs.Smallest.{entry, choose, move, under, here}
use Rattle.theory.proofs.Hops.{by_test}
use Rattle.rules.specs.Numbers.{width, record_bytes, hop_bound}
use Rattle.rules.specs.Records.{announces, print, print_table}
use Rattle.rules.proofs.Records.{print_length}
use Rattle.memory.specs.declared.Path.{Path}
use Rattle.sets.specs.declared.HopSet.{HopSet}
use Rattle.sets.specs.Sets.{members}
use Rattle.printing.specs.Printing.{patch, CanPrint}
use Rattle.printing.proofs.Patch.{patch_length, patch_none, patch_more}
use Rattle.squeezing.specs.declared.Standing.{Standing}
use Rattle.squeezing.specs.Entries.{entry_of, hop_after, bytes_below, Room, Puts, string_of, CanEnter, Enters}

-- BYTES BELOW A STRING
module _ (k : ℕ) where
  bytes_append : (s : Bits) (es fs : List Entry) → bytes_below k s (es ++ fs) ≡ bytes_below k s es ++ bytes_below k s fs
  bytes_append s [] fs = refl
  bytes_append s (q via h ∷ es) fs =
      ap (λ l. print k (announces (s ++ q) h) ++ l) (bytes_append s es fs)
      ∙ sym (append_assoc (print k (announces (s ++ q) h)) (bytes_below k s es) (bytes_below k s fs))

  bytes_under : (s : Bits) (b : Bool) (es : List Entry) → bytes_below k s (under b es) ≡ bytes_below k (s ++ (b ∷ [])) es
  bytes_under s b [] = refl
  bytes_under s b (q via h ∷ es) =
      ap₂ (λ p l. print k (announces p h) ++ l) (sym (append_assoc s (b ∷ []) q)) (bytes_under s b es)

  pub bytes_top : (es : List Entry) → bytes_below k [] es ≡ print_table k es
  bytes_top [] = refl
  bytes_top (q via h ∷ es) = ap (λ l. print k (announces q h) ++ l) (bytes_top es)

  pub bytes_length : (s : Bits) (es : List Entry) → length (bytes_below k s es) ≡ length es * record_bytes k
  bytes_length s [] = sym (zero-mul (record_bytes k))
  bytes_length s (q via h ∷ es) =
      length-append (print k (announces (s ++ q) h)) (bytes_below k s es)
      ∙ omega (arith, print_length k (announces (s ++ q) h), bytes_length s es, suc-mul (length es) (record_bytes k))

-- what is put within the output keeps its length
pub puts_length : (k : ℕ) {s : Bits} {T : List Entry} {a b : ℕ} {out out' : List ℕ} → Puts k s T a out b out' → Room k a T out
    → length out' ≡ length out
puts_length k {s = s} {T = T} {a = a} {out = out} puts fits =
    ap length puts.bytes ∙ patch_length a (bytes_below k s T) out (omega (arith, bytes_length k s T, fits))

-- ROOM for a table made of a string's own entries and those below its two sides: for each part, when its turn comes
module _ (k : ℕ) (H A B : List Entry) (at : ℕ) (output : List ℕ) (room : Room k at (H ++ (under false A ++ under true B)) output) where
  sizes : length (H ++ (under false A ++ under true B)) * record_bytes k
      ≡ length H * record_bytes k + (length A * record_bytes k + length B * record_bytes k)
  sizes =
      ap (λ n. n * record_bytes k)
      (length-append H (under false A ++ under true B)
      ∙ ap (λ n. length H + n) (length-append (under false A) (under true B) ∙ ap₂ ◌+◌ (length-map A (move false)) (length-map B (move true))))
      ∙ add-mul (length H) (length A + length B) (record_bytes k)
      ∙ ap (λ n. length H * record_bytes k + n) (add-mul (length A) (length B) (record_bytes k))

  pub room_own : Room k at H output
  room_own = omega (arith, sizes, room)

  module _ (s : Bits) (at₁ : ℕ) (out₁ : List ℕ) (own : Puts k s H at output at₁ out₁) where
    len₁ : length out₁ ≡ length output
    len₁ = puts_length k own room_own

    pub room_zero : Room k at₁ A out₁
    room_zero = omega (arith, sizes, room, own.end, len₁)

    module _ (at₂ : ℕ) (out₂ : List ℕ) (zeros : Puts k (s ++ (false ∷ [])) A at₁ out₁ at₂ out₂) where
      len₂ : length out₂ ≡ length out₁
      len₂ = puts_length k zeros room_zero

      pub room_one : Room k at₂ B out₂
      room_one = omega (arith, sizes, room, own.end, zeros.end, len₁, len₂)

      -- THE THREE PARTS make the table
      pub puts_all : (at₃ : ℕ) (out₃ : List ℕ) → Puts k (s ++ (true ∷ [])) B at₂ out₂ at₃ out₃
          → Puts k s (H ++ (under false A ++ under true B)) at output at₃ out₃
      puts_all at₃ out₃ ones =
          let h = bytes_below k s H in
          let a = bytes_below k (s ++ (false ∷ [])) A in
          let b = bytes_below k (s ++ (true ∷ [])) B in
          let lh = bytes_length k s H in
          let la = bytes_length k (s ++ (false ∷ [])) A in
          let lb = bytes_length k (s ++ (true ∷ [])) B in
          let e₁ : at₁ ≡ at + length h = omega (arith, own.end) in
          let e₂ : at₂ ≡ at + length (h ++ a) = omega (arith, own.end, zeros.end, length-append h a) in
          let two : out₂ ≡ patch at (h ++ a) output =
          zeros.bytes ∙ ap₂ (λ x l. patch x a l) e₁ own.bytes ∙ patch_more at h a output (omega (arith, sizes, room)) in
          let three : out₃ ≡ patch at ((h ++ a) ++ b) output =
          ones.bytes ∙ ap₂ (λ x l. patch x b l) e₂ two ∙ patch_more at (h ++ a) b output (omega (arith, sizes, room, length-append h a)) in
          let all : bytes_below k s (H ++ (under false A ++ under true B)) ≡ (h ++ a) ++ b =
          bytes_append k s H (under false A ++ under true B)
          ∙ ap (λ l. h ++ l) (bytes_append k s (under false A) (under true B) ∙ ap₂ ◌++◌ (bytes_under k s false A) (bytes_under k s true B))
          ∙ sym (append_assoc h a b) in
          record { bytes = three ∙ ap (λ l. patch at l output) (sym all); end = omega (arith, own.end, zeros.end, ones.end, sizes) }

-- THE RULE AT A STRING: no entry where the hop in force above is in the set, else the least hop's
entry_in_lem : (N : ℕ) (x : Hops) (c : ℕ) → x c ≡ true → (entry N x c ≡ none) × (choose N x c ≡ c)
entry_in_lem N x c e = (rw e, rw e)

entry_out : (N : ℕ) (x : Hops) (c : ℕ) → x c ≡ false → (entry N x c ≡ some (least N x)) × (choose N x c ≡ least N x)
entry_out N x c e = (rw e, rw e)

least_most : (N : ℕ) (x : Hops) → least N x ≤ N
least_most zero x = omega arith
least_most (suc N) x =
    elim (by_test (x zero)) [ inl e ↦ rw e (omega arith) | inr e ↦ rw e (omega (arith, least_most N (λ k. x (suc k)))) ]

module _ (k w : ℕ) (path : Path) (x : HopSet) (c at : ℕ) (output : List ℕ) (told : Bool) (test : told ≡ members x c) where
  in_set : told ≡ true → (entry_of (members x) c ≡ none) × (hop_after (members x) c ≡ c)
  unfolding entry_of hop_after
  in_set e = entry_in_lem hop_bound (members x) c (sym test ∙ e)

  out_of_set : told ≡ false → (entry_of (members x) c ≡ some (least hop_bound (members x))) × (hop_after (members x) c ≡ least hop_bound (members x))
  unfolding entry_of hop_after
  out_of_set e = entry_out hop_bound (members x) c (sym test ∙ e)

  pub enters_none : told ≡ true → (r : Standing) → r.hop ≡ c → r.at ≡ at → Enters k w path x c at output output r
  enters_none e r hop place = record {
    puts = subst (λ o. Puts k (string_of k w path) (here o) at output r.at output) (sym (in_set e).0)
        record { bytes = sym (patch_none at output); end = omega (arith, place, zero-mul (record_bytes k)) };
    hop = hop ∙ sym (in_set e).1;
  }

  module _ (e : told ≡ false) (h : ℕ) (is : h ≡ least hop_bound (members x)) where
    own : entry_of (members x) c ≡ some h
    own = (out_of_set e).0 ∙ ap some (sym is)

    pub can_print : CanEnter k w path x c at output → CanPrint output at k path (width k - w) h
    can_print can =
        let room : Room k at (here (some h)) output = subst (λ o. Room k at (here o) output) own can.room in
        record {
          room = omega (arith, one-mul (record_bytes k));
          fits = can.path_short.fits;
          short = omega arith;
          clear = can.path_short.clear;
          two_bytes = omega (arith, is, least_most hop_bound (members x));
        }

    pub enters_one : (output' : List ℕ) (r : Standing) → output' ≡ patch at (print k (announces (string_of k w path) h)) output → r.hop ≡ h
        → r.at ≡ at + record_bytes k → Enters k w path x c at output output' r
    enters_one output' r put hop place =
        let s = string_of k w path in
        let line : print k (announces s h) ≡ bytes_below k s (here (some h)) =
        ap (λ q. print k (announces q h)) (sym (append-nil s)) ∙ sym (append-nil (print k (announces (s ++ []) h))) in
        record {
          puts = subst (λ o. Puts k s (here o) at output r.at output') (sym own)
              record { bytes = put ∙ ap (λ l. patch at l output) line; end = omega (arith, place, one-mul (record_bytes k)) };
          hop = hop ∙ is ∙ sym (out_of_set e).1;
        }
