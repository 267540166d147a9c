-- The ledger that a memory holds: it is within the record rules in any memory, a prefix's slot has its hop, and longest match
-- is what a walk along a path has in force.
use Rattle.std.proofs.Common.{◌≡◌, ℕ, zero, suc, ◌+◌, ◌-◌, ◌<◌, ◌≤◌, Bool, true, false, [], reverse, length, get_or, sym, refl, ap, ◌∙◌, ap₂, inl, inr, add-one, arith, lt-ltb, le-leb}
use mathlib.Core.List.{reverse-reverse}
use mathlib.Core.Option.{none, some}
use lib.ListN.{get_or-eq_default}
use borrow.Author.Tests.{lt-leb}
use Rattle.theory.specs.Bits.{Bits, front, prefix_of}
use Rattle.theory.specs.Ledger.{is_held, or_else, longest}
use Rattle.theory.proofs.Hops.{never}
use Rattle.theory.proofs.Longest.{none_some}
use Rattle.theory.proofs.Walk.{best, prefix_length, longest_walk}
use Rattle.rules.specs.Numbers.{highest_hop, MayAnnounce}
use Rattle.rules.specs.Plain.{WithinRules}
use Rattle.memory.specs.Layout.{Memory, slots, Whole, child, find, read_hop, hop_at, ledger_of}
use Rattle.memory.proofs.Find.{same_or, below_or, none_deeper, find_le, step_front}

-- What a stored number stands for.
pub hop_none : read_hop 0 ≡ none
unfolding read_hop
hop_none = refl

holds_none : (v : ℕ) → v ≡ 0 → false ≡ is_held (read_hop v)
holds_none v e = rw (e, hop_none)

pub hop_high : (v : ℕ) → suc highest_hop < v → read_hop v ≡ none
unfolding read_hop
hop_high v l = rw (lt-ltb 0 v (omega arith), lt-leb v (suc highest_hop) l)

pub hop_stored : (v : ℕ) → 0 < v → v ≤ suc highest_hop → read_hop v ≡ some (v - 1)
unfolding read_hop
hop_stored v l h = rw (lt-ltb 0 v l, le-leb v (suc highest_hop) h)

-- a number that stands for a hop lies in the hops' range moved up by 1, so it is not 0, and the hop is 1 less
stored_range : (v : ℕ) → is_held (read_hop v) ≡ true → (0 < v) × (v ≤ suc highest_hop)
stored_range v h =
    elim (below_or 0 v) [
      | inr low ↦ never h (sym (holds_none v (omega arith)))
      | inl low ↦ elim (below_or (suc highest_hop) v) [ inl high ↦ never h (ap is_held (hop_high v high)) | inr high ↦ (low, high) ]
    ]

pub held_stored : (v : ℕ) → is_held (read_hop v) ≡ true → (0 < v) × (read_hop v ≡ some (v - 1))
held_stored v h = let range = stored_range v h in (range.0, hop_stored v range.0 range.1)

pub read_range : (v h : ℕ) → read_hop v ≡ some h → MayAnnounce h
read_range v h e =
    let range = stored_range v (ap is_held e) in
    let stored = hop_stored v range.0 range.1 in
    let less : v - 1 ≡ h = cc in omega arith

module _ (w : ℕ) (m : Memory) where
  pub ledger_at : (s : Bits) → length s ≤ w → ledger_of w m s ≡ hop_at m (find m.tree (reverse s))
  unfolding ledger_of
  ledger_at s l = rw (le-leb (length s) w l)

  pub ledger_long : (s : Bits) → w < length s → ledger_of w m s ≡ none
  unfolding ledger_of
  ledger_long s l = rw (lt-leb (length s) w l)

  -- whatever the lent slices have in them, what is read is within the record rules
  pub within_rules : WithinRules w (ledger_of w m)
  within_rules s h e =
      elim (below_or w (length s)) [
        | inl long ↦ none_some e (ledger_long s long)
        | inr short ↦
            let range = read_range (get_or m.hop (find m.tree (reverse s)) 0) h (sym (ledger_at s short) ∙ e) in
            (short, range)
      ]

  pub ledger_front : (f : ℕ → Bool) (d : ℕ) → d ≤ w → ledger_of w m (prefix_of f d) ≡ hop_at m (find m.tree (front f d))
  ledger_front f d l =
      ledger_at (prefix_of f d) (omega (arith, prefix_length f d)) ∙ ap (λ s. hop_at m (find m.tree s)) (reverse-reverse (front f d))

  module _ (whole : Whole m) where
    pub no_hop : (k : ℕ) → slots m.tree ≤ k → hop_at m k ≡ none
    no_hop k l = rw (get_or-eq_default m.hop 0 {n = k} (omega (arith, whole.hops))) hop_none

    -- where one bit more of a path has no slot, what is in force stays so
    pub best_stays : (f : ℕ → Bool) (x d e : ℕ) → find m.tree (front f (suc d)) ≡ slots m.tree → d ≤ e → e ≤ w
        → best (ledger_of w m) x f d ≡ best (ledger_of w m) x f e
    best_stays f x d zero h l u = let q : d ≡ 0 = omega arith in ap (best (ledger_of w m) x f) q
    best_stays f x d (suc e) h l u =
        elim (same_or d (suc e)) [
          | inl q ↦ ap (best (ledger_of w m) x f) q
          | inr q ↦
              let none_here : find m.tree (front f (suc e)) ≡ slots m.tree = none_deeper m.tree whole.shaped f (suc d) (suc e) h (omega arith) in
              let not-held : ledger_of w m (prefix_of f (suc e)) ≡ none =
              ledger_front f (suc e) u ∙ no_hop (find m.tree (front f (suc e))) (omega arith) in
              best_stays f x d e h (omega arith) (omega arith) ∙ sym (ap (λ o. or_else o (best (ledger_of w m) x f e)) not-held)
        ]

  -- LONGEST MATCH BY A WALK: what is in force at first, after one bit more, and at the end
  module _ (f : ℕ → Bool) (x : ℕ) where
    pub best_first : {r : ℕ} → r ≡ or_else (hop_at m 0) x → r ≡ best (ledger_of w m) x f 0
    best_first e = e ∙ ap (λ o. or_else o x) (sym (ledger_at [] (omega arith)))

    pub best_next : (d : ℕ) {k above r : ℕ} → k ≡ find m.tree (front f (d + 1)) → above ≡ best (ledger_of w m) x f d → d < w
        → r ≡ or_else (hop_at m k) above → r ≡ best (ledger_of w m) x f (d + 1)
    best_next d {k} {above} {r} e q l h =
        rw add-one (h ∙ ap₂ or_else (ap (hop_at m) (rw add-one at e) ∙ sym (ledger_front f (suc d) (omega arith))) q)

    pub longest_whole : (d : ℕ) {found : ℕ} → found ≡ best (ledger_of w m) x f d → d ≡ w → found ≡ longest (ledger_of w m) x (prefix_of f w)
    longest_whole d e q = e ∙ ap (best (ledger_of w m) x f) q ∙ sym (longest_walk (ledger_of w m) x f w)

    -- where a string one bit longer has no slot, the hop in force stays ..
    pub longest_stopped : Whole m → (d : ℕ) {k found : ℕ} → k ≡ find m.tree (front f (d + 1)) → slots m.tree ≤ k → d < w
        → found ≡ best (ledger_of w m) x f d → found ≡ longest (ledger_of w m) x (prefix_of f w)
    longest_stopped whole d {k} {found} e n l q =
        let here : find m.tree (front f (suc d)) ≡ slots m.tree =
        let same-slot : k ≡ find m.tree (front f (suc d)) = rw add-one at e in
        omega (arith, find_le m.tree whole.shaped (front f (suc d))) in
        q ∙ best_stays whole f x d w here (omega arith) (omega arith) ∙ sym (longest_walk (ledger_of w m) x f w)

    -- .. and so it does where the bit has no child
    pub longest_ended : Whole m → (d : ℕ) {slot found : ℕ} {right : Bool} → slot ≡ find m.tree (front f d) → right ≡ f d
        → child m.tree right slot ≡ slots m.tree → d < w → found ≡ best (ledger_of w m) x f d
        → found ≡ longest (ledger_of w m) x (prefix_of f w)
    longest_ended whole d there turn ends l q =
        longest_stopped whole d (step_front m.tree f d there turn refl) (omega arith) l q
