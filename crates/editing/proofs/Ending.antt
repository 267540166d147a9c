-- How an announcement and a withdrawal end: the promise, from the steps before.
use mathlib.Core.Path.{◌≡◌, refl, sym, ap, subst, ◌∙◌}
use mathlib.Core.Bool.{Bool, true, false}
use mathlib.Core.List.{reverse}
use mathlib.Core.Option.{some}
use Prim.Native.Nat.{ℕ, ◌+◌, ◌-◌, ◌≤◌, ◌<◌}
use native.Mathlib.Omega.{arith}
use lib.ListN.{length}
use Rattle.theory.specs.Bits.{front, prefix_of}
use Rattle.theory.specs.Ledger.{is_held, announce}
use Rattle.theory.proofs.Hops.{never}
use Rattle.theory.proofs.Walk.{front_length}
use Rattle.rules.specs.Plain.{needs}
use Rattle.memory.specs.Layout.{Memory, slots, find, read_hop, hop_at, ledger_of}
use Rattle.memory.specs.Reach.{Reaches}
use Rattle.memory.proofs.Ledger.{hop_none, hop_stored, ledger_front, no_hop}
use Rattle.editing.specs.Edits.{rehop}
use Rattle.editing.specs.Routes.{CanWithdraw, CanAnnounce, OnPath, AtEnd, Reworked, Extended, Stuck, Announced, Withdrawn}
use Rattle.editing.proofs.Setting.{rehop_kept, rehop_announce, rehop_withdraw, rehop_tidy, rehop_done, tidy_but}
use Rattle.editing.proofs.Exhausting.{needs_more, front_more}
use Rattle.editing.proofs.Walking.{kept_self, kept_then, reworked_then}

true_false : {A : Type 0} → true ≡ false → A
true_false e = never refl e

module _ (w : ℕ) (a : Memory) (size h : ℕ) (can : CanAnnounce w a size h) where
  -- nothing has changed yet, and what is tidy is so but for any slot
  pub start : (slot : ℕ) → Reworked w a a 0 slot
  start slot = record { kept = kept_self a can.route.whole; same_ledger = refl; tidied = tidy_but w a slot }

  -- on the way, at the last slot that the path has
  module _ (m : Memory) (f : ℕ → Bool) (d slot : ℕ) (so_far : Reworked w a m 0 slot) (met : Reaches m.tree f size d slot) where
    on : OnPath w m f d slot
    on = record {
      route = record { whole = so_far.kept.whole; short = omega (arith, met.short, can.route.short); fits = can.route.fits };
      there = met.there;
      below = met.below;
    }

    pub at_end : d < size → AtEnd w m f d slot
    at_end l = record { on = on; deeper = omega (arith, can.route.short); no_child = met.ends l }

    -- a slot that was just hung leads nowhere
    pub go_on : (m' : Memory) (next : ℕ) → Extended w m m' f d slot next → d < size
        → (Reworked w a m' 0 next) × (Reaches m'.tree f size (d + 1) next)
    go_on m' next e l = (
      reworked_then w a m m' 0 slot next so_far e.reworked,
      record {
        short = omega arith;
        there = e.there;
        below = omega (arith, e.below, e.reworked.kept.same_slots);
        ends = λ more. e.leaf (f (d + 1)) ∙ sym e.reworked.kept.same_slots;
      },
    )

    -- nothing has changed where no slot is left, so the walk up starts from where the walk down stood
    more_needed : d < size → (m' : Memory) → Stuck w m m' slot → slots m.tree < needs w (announce (ledger_of w m) (prefix_of f size) h)
    more_needed l m' s =
        let more = front_more f d size l in
        subst (λ x. slots m.tree < needs w (announce (ledger_of w m) (reverse x) h)) (sym more.1)
        (needs_more w m on.route.whole (front f d) (f d) more.0 h slot (sym on.there) on.below
        (omega (arith, ap length more.1, front_length f size, can.route.short)) (met.ends l) s.exhausted.all_used)

    pub announce_refused : d < size → (m' m'' : Memory) → Stuck w m m' slot → Reworked w m' m'' slot 0
        → Announced w a m'' (prefix_of f size) h false
    announce_refused l m' m'' s back =
        let down : Reworked w a m' 0 slot = subst (λ x. Reworked w a x 0 slot) (sym s.unchanged) so_far in
        let all = reworked_then w a m' m'' 0 slot 0 down back in
        record {
          kept = all.kept;
          taken = λ e. true_false (sym e);
          refused = λ e. (
            all.same_ledger,
            subst (λ n. n < needs w (announce (ledger_of w a) (prefix_of f size) h)) so_far.kept.same_slots
                (subst (λ L. slots m.tree < needs w (announce L (prefix_of f size) h)) so_far.same_ledger (more_needed l m' s)),
          );
          tidied = all.tidied;
        }

    stored : read_hop (h + 1) ≡ some h
    stored =
        let plain : h + 1 - 1 ≡ h = omega arith in
        hop_stored (h + 1) (omega arith) (omega (arith, can.may)) ∙ ap some plain

    taken_at : d ≡ size → Announced w a (rehop m slot (h + 1)) (prefix_of f size) h true
    taken_at e =
        let at_end : find m.tree (front f size) ≡ slot = ap (λ x. find m.tree (front f x)) (sym e) ∙ sym on.there in
        let short : length (front f size) ≤ w = omega (arith, front_length f size, can.route.short) in
        record {
          kept = kept_then a m (rehop m slot (h + 1)) so_far.kept (rehop_kept w m slot (h + 1) on.route.whole on.below);
          taken = λ q.
              rehop_announce w m slot (h + 1) on.route.whole on.below (front f size) at_end short h stored
              ∙ ap (λ L. announce L (prefix_of f size) h) so_far.same_ledger;
          refused = λ q. true_false q;
          tidied = λ t.
              rehop_done w m slot (h + 1) on.route.whole on.below (front f size) at_end short h stored (so_far.tidied t);
        }

    pub announce_taken : (v : ℕ) → v ≡ h + 1 → d ≡ size → Announced w a (rehop m slot v) (prefix_of f size) h true
    announce_taken v plain e =
        subst (λ x. Announced w a (rehop m slot x) (prefix_of f size) h true) (sym plain) (taken_at e)

module _ (w : ℕ) (m : Memory) (f : ℕ → Bool) (size slot : ℕ) (can : CanWithdraw w m size) (there : slot ≡ find m.tree (front f size)) where
  its_hop : ledger_of w m (prefix_of f size) ≡ hop_at m slot
  its_hop = ledger_front w m f size can.short ∙ ap (hop_at m) (sym there)

  withdraw_refused : is_held (hop_at m slot) ≡ false → Withdrawn w m m (prefix_of f size) false
  withdraw_refused e = record {
    kept = kept_self m can.whole;
    taken = λ q. true_false (sym q);
    refused = λ q. (ap is_held its_hop ∙ e, refl);
    tidied = λ t. t;
  }

  pub withdraw_no_slot : slots m.tree ≤ slot → Withdrawn w m m (prefix_of f size) false
  withdraw_no_slot l = withdraw_refused (ap is_held (no_hop w m can.whole slot l))

  pub withdraw_no_hop : (k : ℕ) → k ≡ slot → is_held (hop_at m k) ≡ false → Withdrawn w m m (prefix_of f size) false
  withdraw_no_hop k asked e = withdraw_refused (subst (λ x. is_held (hop_at m x) ≡ false) asked e)

  module _ (below : slot < slots m.tree) where
    pub withdraw_taken : (k : ℕ) → k ≡ slot → is_held (hop_at m k) ≡ true → (m' : Memory) → Reworked w (rehop m slot 0) m' slot 0
        → Withdrawn w m m' (prefix_of f size) true
    withdraw_taken k asked held m' back =
        let e : is_held (hop_at m slot) ≡ true = subst (λ x. is_held (hop_at m x) ≡ true) asked held in
        let short : length (front f size) ≤ w = omega (arith, front_length f size, can.short) in
        record {
          kept = kept_then m (rehop m slot 0) m' (rehop_kept w m slot 0 can.whole below) back.kept;
          taken = λ q. (
            ap is_held its_hop ∙ e,
            back.same_ledger
                ∙ rehop_withdraw w m slot 0 can.whole below (front f size) (sym there) short hop_none,
          );
          refused = λ q. true_false q;
          tidied = λ t.
              back.tidied
              (rehop_tidy w m slot 0 can.whole below (front f size) (sym there) short (λ q. refl) (tidy_but w m slot t));
        }
