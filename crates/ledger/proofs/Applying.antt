-- One record applied to lent memory does what document 01 says of the plain ledger: what fits is taken, since a memory holds no
-- ledger that needs more slots than it has, and what is refused would not fit, or is not held.
use mathlib.Core.Path.{◌≡◌, refl, sym, ap, subst, ◌∙◌}
use mathlib.Core.Bool.{Bool, true, false, cond}
use mathlib.Core.List.{List}
use Prim.Native.Nat.{ℕ, ◌≤◌}
use native.Mathlib.Omega.{arith}
use lib.Dec.{leb}
use lib.ListN.{take}
use borrow.Author.Tests.{le-leb, lt-leb}
use Rattle.theory.specs.Bits.{bits_of, prefix_of}
use Rattle.theory.specs.Ledger.{Ledger, is_held, announce, withdraw}
use Rattle.rules.specs.Numbers.{ipv4, width, not_held}
use Rattle.rules.specs.Records.{update, Reading, read}
use Rattle.rules.specs.Plain.{needs, taken, refused, if_room, apply}
use Rattle.std.proofs.Common.{Result, Ok, Err}
use Rattle.std.specs.Result.{is_ok, result_or}
use Rattle.refusals.specs.declared.Refusal.{Refusal}
use Rattle.refusals.specs.declared.Refusal.TheVariants as refusal
use Rattle.refusals.specs.declared.Refusal.TheVariants.{NoSlots}
use Rattle.records.specs.declared.Record.TheVariants.{Announces, Withdraws}
use Rattle.records.specs.Promise.{reading_of, InBounds, ReadsRecord}
use Rattle.memory.specs.Path.{path_bit}
use Rattle.memory.specs.declared.Path.{Path}
use Rattle.memory.specs.Layout.{Memory, slots, Whole, ledger_of}
use Rattle.memory.proofs.Room.{needs_fit}
use Rattle.editing.specs.declared.NoSlot.{NoSlot}
use Rattle.editing.specs.declared.NotHeld.{NotHeld}
use Rattle.editing.specs.Edits.{Kept}
use Rattle.editing.specs.Routes.{CanAnnounce, CanWithdraw, Announced, Withdrawn}
use Rattle.editing.proofs.Walking.{kept_self}
use Rattle.ledger.specs.Steps.{IsPathOf, AppliesOne}
use Rattle.ledger.proofs.Paths.{path_prefix}

abbrev w : ℕ
w = width ipv4

-- what a memory holds fits
fits : (m m' : Memory) (L : Ledger ℕ) → Kept m m' → ledger_of w m' ≡ L → leb (needs w L) (slots m.tree) ≡ true
fits m m' L k e =
    le-leb (needs w L) (slots m.tree)
    (subst (λ M. needs w M ≤ slots m.tree) e (omega (arith, needs_fit w m' k.whole, k.same_slots)))

room_taken : (m m' : Memory) (L : Ledger ℕ) → Kept m m' → ledger_of w m' ≡ L → if_room w (slots m.tree) L ≡ taken (ledger_of w m')
room_taken m m' L k e = rw (fits m m' L k e) (ap taken (sym e))

module _ (fields : List ℕ) (m : Memory) (whole : Whole m) where
  abbrev reading : Reading
  reading = read update ipv4 fields

  -- a record that cannot be read leaves everything
  pub applies_faulty : (x : Refusal) → ReadsRecord fields true (Err x) → AppliesOne m m reading (Err x)
  unfolding reading_of InBounds
  applies_faulty x r = record {
    kept = kept_self m whole;
    says = record { refused_so = ap (apply w (slots m.tree) (ledger_of w m)) (sym r.reading); same_ledger = refl; untouched = λ y. refl };
    tidied = λ t. t;
  }

  module _ (address size : ℕ) (path : Path) (is : IsPathOf address path) where
    module _ (h : ℕ) (r : ReadsRecord fields true (Ok (Announces address size h))) where
      pub can_announce : CanAnnounce w m size h
      unfolding InBounds
      can_announce = record {
        route = record { whole = whole; short = r.bounds.prefix.within; fits = omega arith };
        may = r.bounds.may;
      }

      announced : (m' : Memory) (b : Bool) → Announced w m m' (prefix_of (path_bit path) size) h b
          → Announced w m m' (take size (bits_of w address)) h b
      unfolding InBounds
      announced m' b a = subst (λ q. Announced w m m' q h b) (path_prefix address path is size r.bounds.prefix.within) a

      is_announcement : apply w (slots m.tree) (ledger_of w m) reading ≡ if_room w (slots m.tree) (announce (ledger_of w m) (take size (bits_of w address)) h)
      unfolding reading_of
      is_announcement = ap (apply w (slots m.tree) (ledger_of w m)) (sym r.reading)

      announcement_taken : (m' : Memory) (u : Unit {0}) → Announced w m m' (prefix_of (path_bit path) size) h true → AppliesOne m m' reading (Ok u)
      announcement_taken m' u given =
          let a = announced m' true given in
          record {
            kept = a.kept;
            says = is_announcement ∙ room_taken m m' (announce (ledger_of w m) (take size (bits_of w address)) h) a.kept (a.taken refl);
            tidied = a.tidied;
          }

      announcement_refused : (m' : Memory) → Announced w m m' (prefix_of (path_bit path) size) h false → AppliesOne m m' reading (Err NoSlots)
      announcement_refused m' given =
          let a = announced m' false given in
          record {
            kept = a.kept;
            says = record { refused_so = is_announcement ∙ rw (lt-leb _ _ (a.refused refl).1); same_ledger = (a.refused refl).0; untouched = λ room. absurd (room refl) };
            tidied = a.tidied;
          }

      -- what setting the route answers is what the record's answer is
      pub announcement : (m' : Memory) (answer : Result (Unit {0}) NoSlot) → Announced w m m' (prefix_of (path_bit path) size) h (is_ok answer)
          → AppliesOne m m' reading (result_or answer (Err NoSlots))
      announcement m' (Ok u) given = announcement_taken m' u given
      announcement m' (Err e) given = announcement_refused m' given

    module _ (r : ReadsRecord fields true (Ok (Withdraws address size))) where
      pub can_withdraw : CanWithdraw w m size
      unfolding InBounds
      can_withdraw = record { whole = whole; short = r.bounds.within; fits = omega arith }

      withdrawn : (m' : Memory) (b : Bool) → Withdrawn w m m' (prefix_of (path_bit path) size) b
          → Withdrawn w m m' (take size (bits_of w address)) b
      unfolding InBounds
      withdrawn m' b a = subst (λ q. Withdrawn w m m' q b) (path_prefix address path is size r.bounds.within) a

      is_withdrawal : apply w (slots m.tree) (ledger_of w m) reading
          ≡ cond (is_held (ledger_of w m (take size (bits_of w address)))) (if_room w (slots m.tree) (withdraw (ledger_of w m) (take size (bits_of w address))))
          (refused not_held)
      unfolding reading_of
      is_withdrawal = ap (apply w (slots m.tree) (ledger_of w m)) (sym r.reading)

      withdrawal_taken : (m' : Memory) (u : Unit {0}) → Withdrawn w m m' (prefix_of (path_bit path) size) true → AppliesOne m m' reading (Ok u)
      withdrawal_taken m' u given =
          let a = withdrawn m' true given in
          record {
            kept = a.kept;
            says = is_withdrawal
                ∙ rw (a.taken refl).0 (room_taken m m' (withdraw (ledger_of w m) (take size (bits_of w address))) a.kept (a.taken refl).1);
            tidied = a.tidied;
          }

      withdrawal_refused : (m' : Memory) → Withdrawn w m m' (prefix_of (path_bit path) size) false → AppliesOne m m' reading (Err refusal.NotHeld)
      withdrawal_refused m' given =
          let a = withdrawn m' false given in
          record {
            kept = a.kept;
            says = record { refused_so = is_withdrawal ∙ rw (a.refused refl).0; same_ledger = ap (ledger_of w) (a.refused refl).1; untouched = λ y. (a.refused refl).1 };
            tidied = a.tidied;
          }

      -- and likewise of removing it
      pub withdrawal : (m' : Memory) (answer : Result (Unit {0}) NotHeld) → Withdrawn w m m' (prefix_of (path_bit path) size) (is_ok answer)
          → AppliesOne m m' reading (result_or answer (Err refusal.NotHeld))
      withdrawal m' (Ok u) given = withdrawal_taken m' u given
      withdrawal m' (Err e) given = withdrawal_refused m' given
