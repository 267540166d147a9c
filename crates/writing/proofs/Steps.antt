-- Each end of the call, in the code's terms: the refusals, and the table as the sets and the entries below slot 0 give it.
use mathlib.Core.Path.{◌≡◌, refl, sym, ap, ap₂, subst, subst₂, ◌∙◌}
use mathlib.Core.Logic.{inl, inr}
use mathlib.Core.Bool.{Bool, true, false, cond}
use mathlib.Core.List.{List, [], ◌++◌}
use mathlib.Core.Option.{none, some}
use Prim.Native.Nat.{ℕ, ◌+◌, ◌-◌, ◌/◌, ◌^◌, ◌≤◌, ◌<◌}
use native.Mathlib.Omega.{arith}
use native.Mathlib.Nat.{zero-div}
use lib.Dec.{ltb}
use lib.ListN.{length, drop}
use borrow.Author.Tests.{eq-eqb, lt-ltb, le-ltb}
use Rattle.theory.specs.Hops.{Hops, only}
use Rattle.theory.specs.Ledger.{Ledger, Entry}
use Rattle.theory.specs.Smallest.{Leaves, set_of, table, splits}
use Rattle.theory.specs.Theorem.{leaves}
use Rattle.theory.proofs.Hops.{by_test}
use Rattle.rules.specs.Numbers.{ipv4, width, record_bytes, discard, MayAnnounce, hop_bound, no_route, scratch_words}
use Rattle.rules.specs.Records.{print_table}
use Rattle.rules.specs.Writing.{smallest_table}
use Rattle.rules.proofs.Records.{table_length}
use Rattle.rules.proofs.Smallest.{count_splits}
use Rattle.memory.specs.declared.Path.{Path}
use Rattle.memory.specs.Path.{path_bit}
use Rattle.memory.specs.Layout.{Memory, slots, Whole, ledger_of, zeros}
use Rattle.memory.proofs.Ledger.{within_rules}
use Rattle.lent.specs.Lent.{bad_lent, lent_fault, Checked}
use Rattle.sets.specs.Sets.{members}
use Rattle.printing.specs.Printing.{patch, ClearFrom}
use Rattle.printing.proofs.Patch.{patch_front}
use Rattle.squeezing.specs.declared.Formed.{Formed}
use Rattle.squeezing.specs.Below.{leaves_below}
use Rattle.squeezing.specs.Stored.{CanForm, Forms}
use Rattle.squeezing.specs.Entries.{table_below, bytes_below, Room, Puts, string_of, CanWrite}
use Rattle.squeezing.proofs.Below.{ledger_below}
use Rattle.squeezing.proofs.Forming.{splits_room}
use Rattle.squeezing.proofs.Entering.{bytes_top}
use Rattle.std.proofs.Common.{Ok, Err}
use Rattle.refusals.specs.declared.Refusal.{Refusal}
use Rattle.refusals.specs.declared.Refusal.TheVariants.{BadSlices, ShortOutput}
use Rattle.refusals.specs.Numbered.{number_of}
use Rattle.refusals.specs.Counted.{refused_at}
use Rattle.writing.specs.Promise.{outcome_of, bytes_for, into_output, write_fault, write_after, write_of, Writes}
use Rattle.writing.specs.Steps.{Begun}
use Rattle.writing.proofs.Promise.{fault_slices, fault_none}

-- a scratch of the asked length leaves the rules of the lent slices
same_fault : (m : Memory) (s : List ℕ) → length s ≡ scratch_words (slots m.tree) → (x : ℕ) → lent_fault m ≡ some x → write_fault m s ≡ some x
unfolding write_fault lent_fault
same_fault m s same x e =
    elim (by_test (bad_lent m)) [
      | inl bad ↦ rw bad (rw bad at e)
      | inr good ↦ rw (good, eq-eqb (length s) (scratch_words (slots m.tree)) same) (rw good at e)
    ]

-- an empty path is clear
pub clear_path : (w : ℕ) → ClearFrom (record { high = 0; low = 0 }) 0 w
unfolding path_bit
clear_path w i l h =
    elim (by_test (ltb i 64)) [
      | inl e ↦ rw (e, zero-div (2 ^ (63 - i)))
      | inr e ↦ rw (e, zero-div (2 ^ (127 - i)))
    ]

-- the empty string gets one entry at the most
pub one_at_top : (f : Formed) (top : ℕ) → top ≡ cond (members f.set discard) 0 1 → top ≤ 1
one_at_top f top e = go (members f.set discard) e
  where
    go : (x : Bool) → top ≡ cond x 0 1 → top ≤ 1
    go true e = omega arith
    go false e = omega arith

-- the count of the table: the empty string's entry, if it gets one, and the splits; over the width, so that nothing is computed at 32 bits
counted_at : (k : ℕ) (m : Memory) (F : Leaves) (x : Hops) (top n : ℕ) → F ≡ leaves only (ledger_of (width k) m) no_route
    → x ≡ set_of hop_bound (width k) F → top ≡ cond (x discard) 0 1 → n ≡ splits hop_bound (width k) F
    → top + n ≡ length (smallest_table k (ledger_of (width k) m))
counted_at k m F x top n is set_is top-is e =
    ap₂ ◌+◌ (top-is ∙ ap (λ y. cond (y discard) 0 1) (set_is ∙ ap (set_of hop_bound (width k)) is)) (e ∙ ap (splits hop_bound (width k)) is)
    ∙ sym (count_splits k (ledger_of (width k) m) (within_rules (width k) m))

module _ (m : Memory) (s : List ℕ) where
  abbrev w : ℕ
  w = width ipv4

  abbrev L : Ledger ℕ
  L = ledger_of w m

  abbrev T : List Entry
  T = smallest_table ipv4 L

  refuse : (o : List ℕ) (x : Refusal) → write_fault m s ≡ some (number_of x) → Writes m s o s o (Err (refused_at x 0))
  unfolding write_of
  refuse o x e = record { outcome = sym (ap (λ f. write_after f m s o) e) }

  pub refuse_scratch : (o : List ℕ) (a b : ℕ) → (a ≡ b → ⊥) → a ≡ length s → b ≡ scratch_words (slots m.tree) → Writes m s o s o (Err (refused_at BadSlices 0))
  refuse_scratch o a b other is-a is_b = refuse o BadSlices (fault_slices m s (inr (λ e. other (is-a ∙ e ∙ sym is_b))))

  goes_on : lent_fault m ≡ none → length s ≡ scratch_words (slots m.tree) → (o : List ℕ) → write_of m s o ≡ into_output T s o
  unfolding write_of
  goes_on fine sized o = ap (λ f. write_after f m s o) (fault_none m s fine sized)

  module _ (sized : length s ≡ scratch_words (slots m.tree)) where
    pub refuse_lent : (o : List ℕ) (x : Refusal) → Checked m (Err x) → Writes m s o s o (Err (refused_at x 0))
    refuse_lent o x is = refuse o x (same_fault m s sized (number_of x) is)

    pub begun : (lent_fault m ≡ none) × Whole m → Begun m s
    begun checked = record { sized = sized; fine = checked.0; whole = checked.1 }

  -- the sets are formed from slot 0 on, with no route in force above
  module _ (b : Begun m s) where
    pub can_form : (d : ℕ) → MayAnnounce d → CanForm m s 0 d
    can_form d may = record { whole = b.whole; sized = b.sized; string = []; lies = refl; hop = may }

    top_leaves : leaves_below w m 0 no_route ≡ leaves only L no_route
    top_leaves = ap (λ M. leaves only M no_route) (sym (ledger_below w m))

    table_is : table_below w m 0 no_route discard ≡ T
    unfolding table_below smallest_table
    table_is = ap (λ F. table hop_bound w F discard) top_leaves

    module _ (s₁ : List ℕ) (f : Formed) (forms : Forms m s 0 w no_route s₁ f) where
      few_splits_so : f.splits ≤ slots m.tree
      few_splits_so = subst (λ k. k ≤ slots m.tree) (sym forms.splits) (splits_room m b.whole w [] no_route (omega arith))

      zero_scratch : (s₂ : List ℕ) → s₂ ≡ zeros (length s₁) → s₂ ≡ zeros (length s)
      zero_scratch s₂ e = e ∙ ap zeros forms.same_length

      module _ (top : ℕ) (top-is : top ≡ cond (members f.set discard) 0 1) (count : ℕ) (is : count ≡ top + f.splits) where
        counted : count ≡ length T
        counted = is ∙ counted_at ipv4 m (leaves_below w m 0 no_route) (members f.set) top f.splits top_leaves forms.set top-is forms.splits

        short_so : (o s₂ : List ℕ) → s₂ ≡ zeros (length s₁) → length o / record_bytes ipv4 < count
            → Writes m s o s₂ o (Err (refused_at ShortOutput count))
        short_so o s₂ cleared short =
            let less : length o < bytes_for T = omega (arith, counted, short) in
            record {
              outcome =
                  ap₂ (λ c z. outcome_of (Err (refused_at ShortOutput c)) z o) counted (zero_scratch s₂ cleared)
                  ∙ sym (goes_on b.fine b.sized o ∙ rw (lt-ltb (length o) (bytes_for T) less));
            }

        -- THE TABLE, with discard in force above the top
        module _ (o : List ℕ) (fits : count ≤ length o / record_bytes ipv4) where
          abbrev path : Path
          path = record { high = 0; low = 0 }

          room : bytes_for T ≤ length o
          room = omega (arith, counted, fits)

          can_so : CanWrite m s₁ ipv4 0 w no_route discard 0 path o
          can_so = record {
            can = record { whole = b.whole; sized = forms.same_length ∙ b.sized; string = []; lies = refl; hop = omega arith };
            stored = forms.stored;
            chosen = omega arith;
            path_short = record { fits = omega arith; short = omega arith; clear = clear_path w };
            room = subst (λ U. Room ipv4 0 U o) (sym table_is) (omega (arith, room));
          }

          wrote_so : (s₂ o₂ : List ℕ) (at : ℕ) → Puts ipv4 (string_of ipv4 w path) (table_below w m 0 no_route discard) 0 o at o₂
              → s₂ ≡ zeros (length s₁) → Writes m s o s₂ o₂ (Ok count)
          wrote_so s₂ o₂ at puts cleared =
              let bytes : bytes_below ipv4 [] (table_below w m 0 no_route discard) ≡ print_table ipv4 T = ap (bytes_below ipv4 []) table_is ∙ bytes_top ipv4 T in
              let after : o₂ ≡ print_table ipv4 T ++ drop (bytes_for T) o =
              puts.bytes ∙ ap (λ l. patch 0 l o) bytes ∙ patch_front (print_table ipv4 T) o ∙ ap (λ k. print_table ipv4 T ++ drop k o) (table_length ipv4 T) in
              record {
                outcome =
                    (λ i. outcome_of (Ok (counted i)) (zero_scratch s₂ cleared i) (after i))
                    ∙ sym (goes_on b.fine b.sized o ∙ rw (le-ltb (length o) (bytes_for T) room));
              }

    -- The same in the code's terms. What each number has to be stands last, so that a wrong one is what the prover shows.
    module _ (s₁ : List ℕ) (f : Formed) (left d : ℕ) (forms : Forms m s 0 left d s₁ f) where
      at_top : left ≡ w → d ≡ no_route → Forms m s 0 w no_route s₁ f
      at_top full above = subst₂ (λ v e. Forms m s 0 v e s₁ f) full above forms

      -- the count has room in a word
      pub few_splits : left ≡ w → d ≡ no_route → f.splits ≤ slots m.tree
      few_splits full above = few_splits_so s₁ f (at_top full above)

      module _ (top : ℕ) (top-is : top ≡ cond (members f.set discard) 0 1) where
        -- 11
        pub refuse_short : (count unit : ℕ) (o s₂ : List ℕ) → s₂ ≡ zeros (length s₁) → length o / unit < count
            → left ≡ w → d ≡ no_route → count ≡ top + f.splits → unit ≡ record_bytes ipv4 → Writes m s o s₂ o (Err (refused_at ShortOutput count))
        refuse_short count unit o s₂ cleared short full above is u =
            short_so s₁ f (at_top full above) top top-is count is o s₂ cleared (subst (λ n. length o / n < count) u short)

        -- THE TABLE, with discard in force above the top
        module _ (count unit : ℕ) (o : List ℕ) (fits : count ≤ length o / unit) where
          room_for : unit ≡ record_bytes ipv4 → count ≤ length o / record_bytes ipv4
          room_for u = subst (λ n. count ≤ length o / n) u fits

          pub can_write : (e chosen : ℕ) → left ≡ w → d ≡ no_route → count ≡ top + f.splits → unit ≡ record_bytes ipv4
              → e ≡ no_route → chosen ≡ discard → CanWrite m s₁ ipv4 0 w e chosen 0 (record { high = 0; low = 0 }) o
          can_write e chosen full above is u no-route discards =
              subst₂ (λ v c. CanWrite m s₁ ipv4 0 w v c 0 (record { high = 0; low = 0 }) o) (sym no-route) (sym discards)
              (can_so s₁ f (at_top full above) top top-is count is o (room_for u))

          pub wrote : (e chosen at : ℕ) (o₂ : List ℕ)
              → Puts ipv4 (string_of ipv4 w (record { high = 0; low = 0 })) (table_below w m 0 e chosen) 0 o at o₂ → (s₂ : List ℕ)
              → s₂ ≡ zeros (length s₁) → left ≡ w → d ≡ no_route → count ≡ top + f.splits → unit ≡ record_bytes ipv4
              → e ≡ no_route → chosen ≡ discard → Writes m s o s₂ o₂ (Ok count)
          wrote e chosen at o₂ puts s₂ cleared full above is u no-route discards =
              wrote_so s₁ f (at_top full above) top top-is count is o (room_for u) s₂ o₂ at
              (subst₂ (λ v c. Puts ipv4 (string_of ipv4 w (record { high = 0; low = 0 })) (table_below w m 0 v c) 0 o at o₂) no-route discards puts) cleared
