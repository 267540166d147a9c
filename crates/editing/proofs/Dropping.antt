-- Taking a bare slot out: the ledger stays, and tidy memory stays tidy but for the parent, which may be bare now.
use mathlib.Core.Path.{◌≡◌, sym, ap, ap₂, subst, ◌∙◌}
use mathlib.Core.Logic.{◌⊎◌, inl, inr, ⊎_map}
use mathlib.Core.Bool.{Bool, true, false}
use mathlib.Core.List.{◌∷◌}
use Prim.Native.Nat.{ℕ, ◌-◌, ◌≤◌, ◌<◌}
use native.Mathlib.Omega.{arith}
use lib.ListN.{length, get_or}
use Rattle.theory.specs.Bits.{Bits}
use Rattle.memory.specs.Layout.{Memory, slots, Whole, link, mark, child, find, read_hop, ledger_of}
use Rattle.memory.specs.Tidy.{bare, Chained, Free, Used, TidyBut, Tidy}
use Rattle.memory.proofs.Find.{Counts, same_or, counts_of, parent_below, none_of, mark_parent, mark_side, mark_positive, one_string}
use Rattle.memory.proofs.Ledger.{hop_none}
use Rattle.memory.proofs.Chain.{chain_freed}
use Rattle.memory.proofs.Bare.{bare_hop, bare_leaf}
use Rattle.editing.specs.Edits.{Dropped}
use Rattle.editing.proofs.Moving.{side_or, child_same, stays, comes, goes, Edit, moved, ledger_kept}
use Rattle.editing.proofs.Hanging.{string_not_free, busy_kept, marked_before, plain_kept}

module _ (w : ℕ) (m m' : Memory) (p : ℕ) (b : Bool) (k : ℕ) (s0 : Bits) (whole : Whole m) (dropped : Dropped m m' p b k)
    (above : find m.tree s0 ≡ p) (there : find m.tree (b ∷ s0) ≡ k) (slot-k : k < slots m.tree) (short : length (b ∷ s0) ≤ w)
    (unheld : bare m (w - length (b ∷ s0)) k ≡ true) where
  same_slots : slots m'.tree ≡ slots m.tree
  same_slots = dropped.kept.same_slots

  was_child : child m.tree b p ≡ k
  was_child = ap (child m.tree b) (sym above) ∙ there

  was_counted : Counts m.tree b p k
  was_counted = subst (Counts m.tree b p) was_child (counts_of m.tree b p (omega (arith, was_child)))

  gone : child m'.tree b p ≡ slots m.tree
  gone = none_of m'.tree b p (λ y n. omega (arith, n.positive, n.linked, dropped.no_link)) ∙ same_slots

  not_there : (x : ℕ) (c : Bool) → Counts m'.tree c x k → ⊥
  not_there x c n = omega (arith, n.marked, dropped.no_mark, mark_positive x c)

  -- only its parent led to the slot
  only_parent : (x : ℕ) (c : Bool) → (x ≡ p → c ≡ b → ⊥) → child m.tree c x ≡ k → ⊥
  only_parent x c apart e =
      let n = subst (Counts m.tree c x) e (counts_of m.tree c x (omega arith)) in
      let marks : mark x c ≡ mark p b = sym n.marked ∙ was_counted.marked in
      apart (mark_parent x p c b marks) (mark_side x p c b marks)

  child_elsewhere : (x : ℕ) (c : Bool) → (x ≡ k → ⊥) → (x ≡ p → c ≡ b → ⊥) → child m'.tree c x ≡ child m.tree c x
  child_elsewhere x c not-k apart =
      child_same m.tree m'.tree k same_slots dropped.other_marks c x (dropped.other_links x c not-k apart) (not_there x c)
      (only_parent x c apart)

  its_string : (s : Bits) → find m.tree s ≡ k → s ≡ b ∷ s0
  its_string s e = one_string m.tree whole.shaped s (b ∷ s0) (e ∙ sym there) (omega arith)

  dropped_edit : Edit w m.tree m'.tree k (λ s. ⊥)
  dropped_edit = record {
    shaped = whole.shaped;
    shaped' = dropped.kept.whole.shaped;
    same_slots = same_slots;
    positive = was_counted.positive;
    slot = slot-k;
    one_step = λ s c l not-k.
        let elsewhere : (find m.tree s ≡ p → c ≡ b → ⊥)
        → ((child m'.tree c (find m.tree s) ≡ child m.tree c (find m.tree s)) × (child m.tree c (find m.tree s) ≡ k → ⊥))
        ⊎ ((⊥ × (child m'.tree c (find m.tree s) ≡ k))
        ⊎ ((child m.tree c (find m.tree s) ≡ k) × (child m'.tree c (find m.tree s) ≡ slots m.tree))) =
        λ apart. inl (child_elsewhere (find m.tree s) c not-k apart, only_parent (find m.tree s) c apart) in
        elim (same_or (find m.tree s) p) [
          | inl at_p ↦
              elim (side_or c b) [
                | inl at_b ↦ inr (inr (ap₂ (child m.tree) at_b at_p ∙ was_child, ap₂ (child m'.tree) at_b at_p ∙ gone))
                | inr not-b ↦ elsewhere (λ x y. not-b y)
              ]
          | inr not-p ↦ elsewhere (λ x y. not-p x)
        ];
    leaf = λ s c l e. bare_leaf m (w - length (b ∷ s0)) k unheld (omega (arith, ap length (its_string s e))) c;
    new_none = λ s e. absurd e;
    new_leaf = λ s e c. absurd e;
  }

  pub dropped_ledger : ledger_of w m' ≡ ledger_of w m
  dropped_ledger =
      ledger_kept w m m' whole dropped.kept.whole k (λ s. ⊥) dropped_edit dropped.other_hops
      (ap read_hop dropped.no_hop ∙ hop_none) (λ s l e. bare_hop m (w - length (b ∷ s0)) k unheld)

  string_kept : (s : Bits) → length s ≤ w → (find m.tree s ≡ k → ⊥) → find m'.tree s ≡ find m.tree s
  string_kept s l not-k =
      elim (moved w m.tree m'.tree k (λ s. ⊥) dropped_edit s l) [
        | stays e q ↦ e
        | comes e q ↦ absurd e
        | goes e q ↦ absurd (not-k e)
      ]

  pub parent_kept : find m'.tree s0 ≡ p
  parent_kept = string_kept s0 (omega arith) (λ e. omega (arith, ap length (its_string s0 e))) ∙ above

  module _ (tidy : TidyBut w m k) where
    dropped_slot : (j : ℕ) → 0 < j → j < slots m'.tree → (j ≡ p → ⊥) → Free m' j ⊎ Used w m' j
    dropped_slot j pos l not-p =
        elim (same_or j k) [
          | inl at-k ↦ inl (subst (Free m') (sym at-k) record { no_mark = dropped.no_mark; no_hi = dropped.no_hi; no_hop = dropped.no_hop })
          | inr not-k ↦
              ⊎_map
              (λ f. record {
                no_mark = dropped.other_marks j pos not-k ∙ f.no_mark;
                no_hi = dropped.other_links j true not-k (λ x y. not-p x) ∙ f.no_hi;
                no_hop = dropped.other_hops j not-k ∙ f.no_hop;
              })
              (λ u. record {
                string = u.string;
                short = u.short;
                there = string_kept u.string u.short (λ e. not-k (sym u.there ∙ e)) ∙ u.there;
                busy =
                    busy_kept m m' (w - length u.string) j same_slots (ap read_hop (dropped.other_hops j not-k))
                    (λ c h. child_elsewhere j c not-k (λ x y. not-p x)) u.busy;
              })
              (tidy.each_slot j pos (omega (arith, same_slots)) not-k)
        ]

    dropped_neat : (j : ℕ) (c : Bool) → (j ≡ 0) ⊎ (0 < get_or m'.tree.up j 0)
        → (link m'.tree c j ≡ 0) ⊎ (child m'.tree c j ≡ link m'.tree c j)
    dropped_neat j c used =
        elim (same_or j k) [
          | inl at-k ↦ absurd (not_used used at-k)
          | inr not-k ↦
              let elsewhere : (j ≡ p → c ≡ b → ⊥) → (link m'.tree c j ≡ 0) ⊎ (child m'.tree c j ≡ link m'.tree c j) =
              λ apart.
              let same-link = dropped.other_links j c not-k apart in
              ⊎_map (λ e. same-link ∙ e) (λ e. child_elsewhere j c not-k apart ∙ e ∙ sym same-link)
              (tidy.neat j c (marked_before m.tree m'.tree k dropped.other_marks j not-k used)) in
              elim (same_or j p) [
                | inl at_p ↦
                    elim (side_or c b) [
                      | inl at_b ↦ inl (ap₂ (link m'.tree) at_b at_p ∙ dropped.no_link)
                      | inr not-b ↦ elsewhere (λ x y. not-b y)
                    ]
                | inr not-p ↦ elsewhere (λ x y. not-p x)
              ]
        ]
      where
        not_used : {j : ℕ} → (j ≡ 0) ⊎ (0 < get_or m'.tree.up j 0) → j ≡ k → ⊥
        not_used (inl z) e = omega (arith, was_counted.positive)
        not_used (inr l) e = omega (arith, ap (λ x. get_or m'.tree.up x 0) e, dropped.no_mark)

    above_not_free : (j : ℕ) → 0 < j → get_or m.tree.up j 0 ≡ 0 → j ≡ p → ⊥
    above_not_free = string_not_free m.tree s0 p above (parent_below m.tree whole.shaped was_counted)

    dropped_chained : Chained m'.tree
    dropped_chained =
        chain_freed m.tree m'.tree same_slots k was_counted.positive slot-k
        (omega (arith, was_counted.marked, mark_positive p b)) dropped.head dropped.no_mark dropped.next
        (λ j pos not-k is_free. (dropped.other_marks j pos not-k, dropped.other_links j false not-k (λ e q. above_not_free j pos is_free e)))
        (λ j pos not-k is_free. sym (dropped.other_marks j pos not-k) ∙ is_free)
        tidy.chained

    pub dropped_tidy : TidyBut w m' p
    dropped_tidy = record {
      each_slot = dropped_slot;
      neat = dropped_neat;
      plain = plain_kept m m' k dropped.no_hop dropped.other_hops tidy.plain;
      chained = dropped_chained;
    }

-- a tip that is not bare, or that is slot 0, is no exception
pub tip_done : (w : ℕ) (m : Memory) (tip : ℕ) (s : Bits) → find m.tree s ≡ tip → length s ≤ w → bare m (w - length s) tip ≡ false
    → TidyBut w m tip → Tidy w m
tip_done w m tip s there short busy tidy = record {
  each_slot = λ k pos l other.
      elim (same_or k tip) [
        | inl e ↦ inr (subst (Used w m) (sym e) record { string = s; short = short; there = there; busy = busy })
        | inr e ↦ tidy.each_slot k pos l e
      ];
  neat = tidy.neat;
  plain = tidy.plain;
  chained = tidy.chained;
}
