-- Hanging an idle slot below another: the ledger stays, the new string lies in the slot, and tidy memory stays tidy but for it.
use mathlib.Core.Path.{◌≡◌, refl, sym, ap, ap₂, subst, ◌∙◌}
use mathlib.Core.Logic.{◌⊎◌, inl, inr, ⊎_map}
use mathlib.Core.Bool.{Bool, true, false}
use mathlib.Core.List.{[], ◌∷◌}
use mathlib.Core.Option.{none}
use Prim.Native.Nat.{ℕ, ◌-◌, ◌≤◌, ◌<◌}
use native.Mathlib.Omega.{arith}
use lib.ListN.{length, get_or}
use borrow.Author.Tests.{eq-eqb}
use Rattle.theory.specs.Bits.{Bits}
use Rattle.theory.specs.Ledger.{is_held}
use Rattle.theory.proofs.Hops.{never}
use Rattle.memory.specs.Layout.{Tree, Memory, slots, Shaped, Whole, link, mark, child, find, read_hop, hop_at, ledger_of}
use Rattle.memory.specs.Tidy.{bare, head_of, Chained, Free, Used, TidyBut}
use Rattle.memory.proofs.Find.{Counts, same_or, not_none, child_counts, counts_of, none_of, mark_parent, mark_side, mark_positive, one_string}
use Rattle.memory.proofs.Ledger.{hop_none}
use Rattle.memory.proofs.Chain.{chained_head, chain_taken}
use Rattle.memory.proofs.Bare.{bare_hop, bare_leaf, busy_child, busy_hop, busy_why}
use Rattle.editing.specs.Spare.{idle, Hinted}
use Rattle.editing.specs.Edits.{Hung}
use Rattle.editing.proofs.Rising.{rises_string}
use Rattle.editing.proofs.Moving.{side_or, child_same, child_gone, stays, comes, goes, Edit, moved, ledger_kept}

-- an idle slot is bare wherever a string lies in it
pub idle_bare : (w : ℕ) (m : Memory) (k : ℕ) → Shaped m.tree → k < slots m.tree → idle w m k ≡ true
    → (s : Bits) → length s ≤ w → find m.tree s ≡ k → bare m (w - length s) k ≡ true
unfolding idle
idle_bare w m k shaped l h s short e = rw (rises_string m.tree shaped w s k e l short) at h

-- in tidy memory it is free
pub idle_free : (w : ℕ) (m : Memory) (tip k : ℕ) → Shaped m.tree → TidyBut w m tip → 0 < k → k < slots m.tree → (k ≡ tip → ⊥)
    → idle w m k ≡ true → Free m k
idle_free w m tip k shaped tidy p l other h =
    elim (tidy.each_slot k p l other) [
      | inl free ↦ free
      | inr used ↦ never (idle_bare w m k shaped l h used.string used.short used.there) used.busy
    ]

-- a string's slot is the first one or has a mark
pub string_marked : (t : Tree) (s : Bits) → find t s < slots t → (find t s ≡ 0) ⊎ (0 < get_or t.up (find t s) 0)
string_marked t [] l = inl refl
string_marked t (c ∷ s) l =
    let n = counts_of t c (find t s) l in
    inr (omega (arith, n.marked, mark_positive (find t s) c))

-- so it is not free
pub string_not_free : (t : Tree) (s : Bits) (p : ℕ) → find t s ≡ p → p < slots t → (j : ℕ) → 0 < j → get_or t.up j 0 ≡ 0 → j ≡ p → ⊥
string_not_free t s p there l j pos free e =
    elim (string_marked t s (omega arith)) [
      | inl first ↦ omega arith
      | inr marked ↦ omega (arith, ap (λ x. get_or t.up x 0) (e ∙ sym there))
    ]

-- a slot that no edit touched is as busy as before
pub busy_kept : (m m' : Memory) (left k : ℕ) → slots m'.tree ≡ slots m.tree → hop_at m' k ≡ hop_at m k
    → ((c : Bool) → child m.tree c k < slots m.tree → child m'.tree c k ≡ child m.tree c k)
    → bare m left k ≡ false → bare m' left k ≡ false
busy_kept m m' left k same_slots same-hop same-child busy =
    elim (busy_why m left k busy) [
      | inl held ↦ busy_hop m' left k (ap is_held same-hop ∙ held)
      | inr leads ↦
          busy_child m' left k leads.side leads.bits_left
          (omega (arith, same-child leads.side leads.leads, same_slots, leads.leads))
    ]

-- a hop that stands for none is 0 still, where only slot k's has changed, to 0
pub plain_kept : (m m' : Memory) (k : ℕ) → get_or m'.hop k 0 ≡ 0 → ((x : ℕ) → (x ≡ k → ⊥) → get_or m'.hop x 0 ≡ get_or m.hop x 0)
    → ((j : ℕ) → hop_at m j ≡ none → get_or m.hop j 0 ≡ 0) → (j : ℕ) → hop_at m' j ≡ none → get_or m'.hop j 0 ≡ 0
plain_kept m m' k no_hop other_hops plain j e =
    elim (same_or j k) [
      | inl at-k ↦ ap (λ x. get_or m'.hop x 0) at-k ∙ no_hop
      | inr not-k ↦ other_hops j not-k ∙ plain j (ap read_hop (sym (other_hops j not-k)) ∙ e)
    ]

-- a slot other than k that is in use after an edit of slot k was in use before
pub marked_before : (t t' : Tree) (k : ℕ) → ((x : ℕ) → 0 < x → (x ≡ k → ⊥) → get_or t'.up x 0 ≡ get_or t.up x 0)
    → (j : ℕ) → (j ≡ k → ⊥) → (j ≡ 0) ⊎ (0 < get_or t'.up j 0) → (j ≡ 0) ⊎ (0 < get_or t.up j 0)
marked_before t t' k other_marks j not-k (inl e) = inl e
marked_before t t' k other_marks j not-k (inr l) =
    elim (same_or j 0) [ inl e ↦ inl e | inr e ↦ inr (omega (arith, other_marks j (not_none j e) not-k)) ]

module _ (w : ℕ) (m m' : Memory) (p : ℕ) (b : Bool) (k : ℕ) (s0 : Bits) (whole : Whole m) (hung : Hung m m' p b k)
    (there : find m.tree s0 ≡ p) (slot-p : p < slots m.tree) (short : length s0 < w) (no_child : child m.tree b p ≡ slots m.tree)
    (positive : 0 < k) (slot-k : k < slots m.tree) (other : k ≡ p → ⊥) (unused : idle w m k ≡ true)
    (hinted : Hinted m.tree p → k ≡ head_of m.tree) where
  same_slots : slots m'.tree ≡ slots m.tree
  same_slots = hung.kept.same_slots

  new_counts : Counts m'.tree b p k
  new_counts = record { positive = positive; linked = hung.new_link; marked = hung.new_mark }

  new_child : child m'.tree b p ≡ k
  new_child = child_counts m'.tree b p k new_counts

  pub no_new_child : (c : Bool) → child m'.tree c k ≡ slots m.tree
  no_new_child c = none_of m'.tree c k (λ y n. omega (arith, n.positive, n.linked, hung.no_links c)) ∙ same_slots

  -- elsewhere nothing counts for the new slot
  not_there : (x : ℕ) (c : Bool) → (x ≡ p → c ≡ b → ⊥) → Counts m'.tree c x k → ⊥
  not_there x c apart n =
      let marks : mark x c ≡ mark p b = sym n.marked ∙ hung.new_mark in
      apart (mark_parent x p c b marks) (mark_side x p c b marks)

  child_elsewhere : (x : ℕ) (c : Bool) → (x ≡ k → ⊥) → (x ≡ p → c ≡ b → ⊥) → (child m.tree c x ≡ k → ⊥)
      → child m'.tree c x ≡ child m.tree c x
  child_elsewhere x c not-k apart no-k =
      child_same m.tree m'.tree k same_slots hung.other_marks c x (hung.other_links x c not-k apart) (not_there x c apart) no-k

  hung_edit : Edit w m.tree m'.tree k (λ s. s ≡ b ∷ s0)
  hung_edit = record {
    shaped = whole.shaped;
    shaped' = hung.kept.whole.shaped;
    same_slots = same_slots;
    positive = positive;
    slot = slot-k;
    one_step = λ s c l not-k.
        let ordinary : (find m.tree s ≡ p → c ≡ b → ⊥)
        → ((child m'.tree c (find m.tree s) ≡ child m.tree c (find m.tree s)) × (child m.tree c (find m.tree s) ≡ k → ⊥))
        ⊎ (((c ∷ s ≡ b ∷ s0) × (child m'.tree c (find m.tree s) ≡ k))
        ⊎ ((child m.tree c (find m.tree s) ≡ k) × (child m'.tree c (find m.tree s) ≡ slots m.tree))) =
        λ apart.
        elim (same_or (child m.tree c (find m.tree s)) k) [
          | inl e ↦
              inr (inr (
                e,
                child_gone m.tree m'.tree k same_slots hung.other_marks c (find m.tree s)
                    (hung.other_links (find m.tree s) c not-k apart) (not_there (find m.tree s) c apart) e slot-k,
              ))
          | inr e ↦ inl (child_elsewhere (find m.tree s) c not-k apart e, e)
        ] in
        elim (same_or (find m.tree s) p) [
          | inl at_p ↦
              elim (side_or c b) [
                | inl at_b ↦
                    inr (inl (
                      ap₂ (λ d r. d ∷ r) at_b (one_string m.tree whole.shaped s s0 (at_p ∙ sym there) (omega arith)),
                      ap₂ (child m'.tree) at_b at_p ∙ new_child,
                    ))
                | inr not-b ↦ ordinary (λ x y. not-b y)
              ]
          | inr not_p ↦ ordinary (λ x y. not_p x)
        ];
    leaf = λ s c l e. bare_leaf m (w - length s) k (idle_bare w m k whole.shaped slot-k unused s (omega arith) e) (omega arith) c;
    new_none = λ s e. ap (find m.tree) e ∙ ap (child m.tree b) there ∙ no_child;
    new_leaf = λ s e c. no_new_child c;
  }

  pub hung_ledger : ledger_of w m' ≡ ledger_of w m
  hung_ledger =
      ledger_kept w m m' whole hung.kept.whole k (λ s. s ≡ b ∷ s0) hung_edit hung.other_hops
      (ap read_hop hung.no_hop ∙ hop_none)
      (λ s l e. bare_hop m (w - length s) k (idle_bare w m k whole.shaped slot-k unused s l e))

  -- a string whose slot is another one keeps it
  string_kept : (s : Bits) → length s ≤ w → (find m.tree s ≡ k → ⊥) → find m.tree s < slots m.tree → find m'.tree s ≡ find m.tree s
  string_kept s l not-k slot-s =
      elim (moved w m.tree m'.tree k (λ s. s ≡ b ∷ s0) hung_edit s l) [
        | stays e q ↦ e
        | comes e q ↦ absurd (omega (arith, ap (find m.tree) e ∙ ap (child m.tree b) there ∙ no_child))
        | goes e q ↦ absurd (not-k e)
      ]

  parent_kept : find m'.tree s0 ≡ p
  parent_kept = string_kept s0 (omega arith) (λ e. other (sym e ∙ there)) (omega arith) ∙ there

  pub hung_there : find m'.tree (b ∷ s0) ≡ k
  hung_there = ap (child m'.tree b) parent_kept ∙ new_child

  module _ (tidy : TidyBut w m p) where
    free : Free m k
    free = idle_free w m p k whole.shaped tidy positive slot-k other unused

    no_link_to : (x : ℕ) (c : Bool) → child m.tree c x ≡ k → ⊥
    no_link_to x c e =
        let n = counts_of m.tree c x (omega arith) in
        omega (arith, n.marked, mark_positive x c, ap (λ y. get_or m.tree.up y 0) e, free.no_mark)

    hung_slot : (j : ℕ) → 0 < j → j < slots m'.tree → (j ≡ k → ⊥) → Free m' j ⊎ Used w m' j
    hung_slot j pos l not-k =
        elim (same_or j p) [
          | inl at_p ↦ inr record {
            string = s0;
            short = omega arith;
            there = parent_kept ∙ sym at_p;
            busy =
                subst (λ x. bare m' (w - length s0) x ≡ false) (sym at_p)
                (busy_child m' (w - length s0) p b (omega arith) (omega (arith, new_child, same_slots)));
          }
          | inr not_p ↦
              ⊎_map
              (λ f. record {
                no_mark = hung.other_marks j pos not-k ∙ f.no_mark;
                no_hi = hung.other_links j true not-k (λ x y. not_p x) ∙ f.no_hi;
                no_hop = hung.other_hops j not-k ∙ f.no_hop;
              })
              (λ u. record {
                string = u.string;
                short = u.short;
                there = string_kept u.string u.short (λ e. not-k (sym u.there ∙ e)) (omega (arith, u.there, same_slots)) ∙ u.there;
                busy =
                    busy_kept m m' (w - length u.string) j same_slots (ap read_hop (hung.other_hops j not-k))
                    (λ c h. child_elsewhere j c not-k (λ x y. not_p x) (no_link_to j c)) u.busy;
              })
              (tidy.each_slot j pos (omega (arith, same_slots)) not_p)
        ]

    hung_neat : (j : ℕ) (c : Bool) → (j ≡ 0) ⊎ (0 < get_or m'.tree.up j 0)
        → (link m'.tree c j ≡ 0) ⊎ (child m'.tree c j ≡ link m'.tree c j)
    hung_neat j c used =
        elim (same_or j k) [
          | inl at-k ↦ inl (ap (link m'.tree c) at-k ∙ hung.no_links c)
          | inr not-k ↦
              let ordinary : (j ≡ p → c ≡ b → ⊥) → (link m'.tree c j ≡ 0) ⊎ (child m'.tree c j ≡ link m'.tree c j) =
              λ apart.
              let same-link = hung.other_links j c not-k apart in
              ⊎_map (λ e. same-link ∙ e)
              (λ e. child_elsewhere j c not-k apart (no_link_to j c) ∙ e ∙ sym same-link)
              (tidy.neat j c (marked_before m.tree m'.tree k hung.other_marks j not-k used)) in
              elim (same_or j p) [
                | inl at_p ↦
                    elim (side_or c b) [
                      | inl at_b ↦ inr (ap₂ (child m'.tree) at_b at_p ∙ new_child ∙ sym hung.new_link ∙ sym (ap₂ (link m'.tree) at_b at_p))
                      | inr not-b ↦ ordinary (λ x y. not-b y)
                    ]
                | inr not_p ↦ ordinary (λ x y. not_p x)
              ]
        ]

    not_p : (j : ℕ) → 0 < j → get_or m.tree.up j 0 ≡ 0 → j ≡ p → ⊥
    not_p = string_not_free m.tree s0 p there slot-p

    -- the chain's first slot is free, as this one is, so it was taken
    was_first : head_of m.tree ≡ k
    was_first =
        let first = chained_head m.tree tidy.chained k positive slot-k free.no_mark in
        sym (hinted record { slot = first.1; other = not_p (head_of m.tree) first.0 first.2; free = first.2 })

    hung_chained : Chained m'.tree
    hung_chained =
        chain_taken m.tree m'.tree same_slots k was_first slot-k
        (hung.head ∙ rw (eq-eqb (head_of m.tree) k was_first))
        (λ j pos not-k is_free. (hung.other_marks j pos not-k, hung.other_links j false not-k (λ e q. not_p j pos is_free e)))
        (λ j pos is_free.
        let not-k : j ≡ k → ⊥ = λ e. omega (arith, ap (λ x. get_or m'.tree.up x 0) e, hung.new_mark, mark_positive p b) in
        (not-k, sym (hung.other_marks j pos not-k) ∙ is_free))
        tidy.chained

    pub hung_tidy : TidyBut w m' k
    hung_tidy = record {
      each_slot = hung_slot;
      neat = hung_neat;
      plain = plain_kept m m' k hung.no_hop hung.other_hops tidy.plain;
      chained = hung_chained;
    }
