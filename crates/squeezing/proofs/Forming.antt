-- Forming the sets: what a call leaves in the scratch at what is no slot, at a full string and at a string with two children,
-- and that the number of splits never outgrows the slots.
use mathlib.Core.Path.{◌≡◌, refl, sym, ap, ap₂, subst, ◌∙◌}
use mathlib.Core.Bool.{Bool, true, false, cond, not}
use mathlib.Core.List.{List, [], ◌∷◌, ◌++◌, reverse, reverse-reverse}
use mathlib.Core.Option.{Option, none, some}
use Prim.Native.Nat.{ℕ, zero, suc, ◌+◌, ◌≤◌, ◌<◌}
use native.Mathlib.Omega.{arith}
use lib.ListN.{length, get_or}
use mir.Val.{bool_byte}
use Rattle.theory.specs.Bits.{Bits}
use Rattle.theory.specs.Hops.{Hops, only, some_below, common, join}
use Rattle.theory.specs.Ledger.{Ledger, held, is_held, or_else, longest}
use Rattle.theory.specs.Smallest.{Leaves, half, set_of, splits}
use Rattle.theory.specs.Theorem.{AllAllowed}
use Rattle.theory.proofs.Hops.{only_allowed}
use Rattle.theory.proofs.Longest.{longest_keeps}
use Rattle.theory.proofs.Pigeonhole.{count_within}
use Rattle.theory.proofs.Splits.{splits_held, splits_throughout}
use Rattle.rules.specs.Numbers.{hop_bound, highest_hop, MayAnnounce}
use Rattle.memory.specs.Layout.{Tree, Memory, slots, Whole, child, find, hop_at}
use Rattle.memory.proofs.Find.{none_below, one_string}
use Rattle.memory.proofs.Ledger.{read_range}
use Rattle.sets.specs.declared.HopSet.{HopSet}
use Rattle.sets.specs.Sets.{members, set_in, Keeps}
use Rattle.squeezing.specs.declared.Formed.{Formed}
use Rattle.squeezing.specs.Below.{in_force, descend, held_below, leaves_below, set_below, LiesBelow}
use Rattle.squeezing.specs.Stored.{Stored, CanForm, Forms}
use Rattle.squeezing.proofs.Below.{leaves_none, set_none, walk_range, walk_slot, descend_find, append_same, sides_apart, own_apart, lies_down}

module _ (m : Memory) where
  abbrev n : ℕ
  n = slots m.tree

  itself : (w p : ℕ) → LiesBelow m.tree w p p
  itself w p = record { string = []; short = omega arith; lies = refl }

  -- what the scratch holds below a slot stays where the words of the slots below stay
  pub stored_same : (a b : List ℕ) (w p d : ℕ) → ((k : ℕ) → k < n → LiesBelow m.tree w p k → set_in b k ≡ set_in a k)
      → Stored m a w p d → Stored m b w p d
  stored_same a b zero p d same x = λ l. same p l (itself 0 p) ∙ x l
  stored_same a b (suc w) p d same x = (
    (λ l. same p l (itself (suc w) p) ∙ x.0 l),
    stored_same a b w (child m.tree false p) (in_force m p d) (λ k l y. same k l (lies_down m.tree p false y)) x.1,
    stored_same a b w (child m.tree true p) (in_force m p d) (λ k l y. same k l (lies_down m.tree p true y)) x.2,
  )

  module _ (whole : Whole m) where
    stored_none : (a : List ℕ) (w p d : ℕ) → n ≤ p → Stored m a w p d
    stored_none a zero p d l = λ h. absurd (omega arith)
    stored_none a (suc w) p d l = (
      (λ h. absurd (omega arith)),
      stored_none a w (child m.tree false p) (in_force m p d) (omega (arith, none_below m.tree whole.shaped false p l)),
      stored_none a w (child m.tree true p) (in_force m p d) (omega (arith, none_below m.tree whole.shaped true p l)),
    )

  -- WHAT IS NO SLOT is answered without a look: one hop throughout
  pub form_none : {a : List ℕ} {p w d : ℕ} {r : Formed} → CanForm m a p d → n ≤ p → (members r.set ≡ only d) × (r.splits ≡ 0) → Forms m a p w d a r
  form_none {a} {p} {w} {d} can l is = record {
    set = is.0 ∙ sym (set_none m can.whole w p d l);
    splits = is.1 ∙ sym (ap (splits hop_bound w) (leaves_none m can.whole w p d l) ∙ splits_throughout hop_bound w (only d) (only_allowed hop_bound d (omega (arith, can.hop))).member);
    stored = stored_none can.whole a w p d l;
    others = λ k h. refl;
    same_length = refl;
  }

  -- A FULL STRING has the set of its one hop
  pub form_full : (a b : List ℕ) (p d : ℕ) (r : Formed) → Keeps a p r.set b → members r.set ≡ only (in_force m p d) → r.splits ≡ 0
      → Forms m a p 0 d b r
  form_full a b p d r keeps is none-split = record {
    set = is;
    splits = none-split;
    stored = λ h. keeps.there ∙ is;
    others = λ k h. keeps.elsewhere k (λ e. h (subst (LiesBelow m.tree 0 p) (sym e) (itself 0 p)));
    same_length = keeps.same_length;
  }

  -- A STRING WITH TWO CHILDREN: first what lies below its 0, then what lies below its 1, then its own set. No slot lies below both
  -- sides, so what is stored stays.
  module _ (a b c after : List ℕ) (p w d : ℕ) (r₀ r₁ r : Formed) (can : CanForm m a p d) (l : p < n)
      (f₀ : Forms m a (child m.tree false p) w (in_force m p d) b r₀) (f₁ : Forms m b (child m.tree true p) w (in_force m p d) c r₁)
      (keeps : Keeps c p r.set after) where
    abbrev t : Tree
    t = m.tree

    own : (s : Bool) (k : ℕ) → LiesBelow t w (child t s p) k → k ≡ p → ⊥
    own s k x e =
        own_apart t can.whole.shaped can.string w s (omega (arith, can.lies))
        (subst (λ j. LiesBelow t w (child t s j) j) (sym can.lies) (subst (LiesBelow t w (child t s p)) e x))

    not_both : (k : ℕ) → k < n → LiesBelow t w (child t false p) k → LiesBelow t w (child t true p) k → ⊥
    not_both k h x y =
        sides_apart t can.whole.shaped can.string w k h
        (subst (λ j. LiesBelow t w (child t false j) k) (sym can.lies) x)
        (subst (λ j. LiesBelow t w (child t true j) k) (sym can.lies) y)

    pub form_node : members r.set ≡ join hop_bound (members r₀.set) (members r₁.set)
        → r.splits ≡ splits hop_bound (suc w) (leaves_below (suc w) m p d) → Forms m a p (suc w) d after r
    form_node joined counted =
        let is : members r.set ≡ set_below (suc w) m p d = joined ∙ ap₂ (join hop_bound) f₀.set f₁.set in
        record {
          set = is;
          splits = counted;
          stored = (
            (λ h. keeps.there ∙ is),
            stored_same b after w (child t false p) (in_force m p d)
                (λ k h x. keeps.elsewhere k (own false k x) ∙ f₁.others k (not_both k h x))
                f₀.stored,
            stored_same c after w (child t true p) (in_force m p d) (λ k h x. keeps.elsewhere k (own true k x)) f₁.stored,
          );
          others = λ k h.
              keeps.elsewhere k (λ e. h (subst (LiesBelow t (suc w) p) (sym e) (itself (suc w) p)))
              ∙ f₁.others k (λ x. h (lies_down t p true x))
              ∙ f₀.others k (λ x. h (lies_down t p false x));
          same_length = keeps.same_length ∙ f₁.same_length ∙ f₀.same_length;
        }

  -- NO MORE SPLITS THAN SLOTS: no more than routes held below, and each of these has a slot of its own
  module _ (whole : Whole m) (w : ℕ) (q : Bits) where
    abbrev below_it : Ledger ℕ
    below_it = held_below w m (find m.tree q)

    held_room : held w below_it ≤ n
    held_room =
        count_within w n (λ s. is_held (below_it s)) (λ s. descend m.tree s (find m.tree q)) (λ s l h. walk_slot m whole s w (find m.tree q) h)
        (λ s r e l.
        let same-slot = sym (descend_find m.tree s q) ∙ e ∙ descend_find m.tree r q in
        let one = one_string m.tree whole.shaped (reverse s ++ q) (reverse r ++ q) same-slot (omega (arith, descend_find m.tree s q)) in
        sym (reverse-reverse s) ∙ ap reverse (append_same (reverse s) (reverse r) q one) ∙ reverse-reverse r)

    pub allowed : (d : ℕ) → MayAnnounce d → AllAllowed hop_bound w (leaves_below w m (find m.tree q) d)
    allowed d real a e =
        let high = longest_keeps (λ h. h ≤ highest_hop) below_it d (λ s h e. walk_range m s w (find m.tree q) h e) real a in
        only_allowed hop_bound (longest below_it d a) (omega arith)

    pub splits_room : (d : ℕ) → MayAnnounce d → splits hop_bound w (leaves_below w m (find m.tree q) d) ≤ n
    splits_room d real = omega (arith, splits_held hop_bound w below_it d (allowed d real), held_room)

-- ONE CALL OF THE RECURSION, in the code's terms.
else_range : (m : Memory) (p d : ℕ) → MayAnnounce d → MayAnnounce (in_force m p d)
else_range m p d real = by_hop (hop_at m p) (λ h. read_range (get_or m.hop p 0) h)
  where
    by_hop : (o : Option ℕ) → ((h : ℕ) → o ≡ some h → MayAnnounce h) → MayAnnounce (or_else o d)
    by_hop none range = real
    by_hop (some h) range = range h refl

pub in_range : (m : Memory) {a : List ℕ} {p d e : ℕ} → CanForm m a p d → e ≡ in_force m p d → MayAnnounce e
in_range m {p = p} {d = d} can here = subst MayAnnounce (sym here) (else_range m p d can.hop)

pub can_child : (m : Memory) (s : Bool) {a b : List ℕ} {p d c e : ℕ} → CanForm m a p d → length b ≡ length a → e ≡ in_force m p d
    → c ≡ child m.tree s p → CanForm m b c e
can_child m s can same here is = record {
  whole = can.whole;
  sized = same ∙ can.sized;
  string = s ∷ can.string;
  lies = ap (child m.tree s) can.lies ∙ sym is;
  hop = in_range m can here;
}

forms_at : (m : Memory) (a b : List ℕ) (r : Formed) {p p' w w' d d' : ℕ} → p ≡ p' → w ≡ w' → d ≡ d' → Forms m a p w d b r → Forms m a p' w' d' b r
forms_at m a b r {p' = p'} {w = w} {w' = w'} {d = d} i j k f =
    subst (λ z. Forms m a p' w' z b r) k (subst (λ z. Forms m a p' z d b r) j (subst (λ z. Forms m a z w d b r) i f))

pub form_full_at : (m : Memory) (a b : List ℕ) (p left d e : ℕ) (r : Formed) → Keeps a p r.set b → left ≡ 0 → e ≡ in_force m p d
    → (members r.set ≡ only e) × (r.splits ≡ 0) → Forms m a p left d b r
form_full_at m a b p left d e r keeps full here is =
    forms_at m a b r refl (sym full) refl (form_full m a b p d r keeps (is.0 ∙ ap only here) is.1)

-- have two sets a hop in common?
abbrev pub met : HopSet → HopSet → Bool
met a b = some_below hop_bound (common (members a) (members b))

pub split_is : (met : Bool) {told said : Bool} {k : ℕ} → told ≡ not met → k ≡ bool_byte said → said ≡ told → k ≡ cond met 0 1
split_is true e is same = is ∙ ap bool_byte (same ∙ e)
split_is false e is same = is ∙ ap bool_byte (same ∙ e)

-- the splits of a string are its children's, and one more where their sets are apart
node_splits : (N w : ℕ) (F : Leaves) (x₀ x₁ : Hops) (k₀ k₁ x : ℕ) → x₀ ≡ set_of N w (half false F) → x₁ ≡ set_of N w (half true F)
    → k₀ ≡ splits N w (half false F) → k₁ ≡ splits N w (half true F) → x ≡ cond (some_below N (common x₀ x₁)) 0 1
    → k₀ + k₁ + x ≡ splits N (suc w) F
node_splits N w F x₀ x₁ k₀ k₁ x i j e₀ e₁ e =
    let own : x ≡ cond (some_below N (common (set_of N w (half false F)) (set_of N w (half true F)))) 0 1 =
    e ∙ ap₂ (λ y z. cond (some_below N (common y z)) 0 1) i j in
    omega arith

module _ {m : Memory} {a b c : List ℕ} {p w d e c₀ c₁ : ℕ} {r₀ r₁ : Formed} (can : CanForm m a p d)
    (here : e ≡ in_force m p d) (is₀ : c₀ ≡ child m.tree false p) (is₁ : c₁ ≡ child m.tree true p)
    (f₀ : Forms m a c₀ w e b r₀) (f₁ : Forms m b c₁ w e c r₁) where
  g₀ : Forms m a (child m.tree false p) w (in_force m p d) b r₀
  g₀ = forms_at m a b r₀ is₀ refl here f₀

  g₁ : Forms m b (child m.tree true p) w (in_force m p d) c r₁
  g₁ = forms_at m b c r₁ is₁ refl here f₁

  total : (x : ℕ) → x ≡ cond (met r₀.set r₁.set) 0 1 → r₀.splits + r₁.splits + x ≡ splits hop_bound (suc w) (leaves_below (suc w) m p d)
  total x apart =
      node_splits hop_bound w (leaves_below (suc w) m p d) (members r₀.set) (members r₁.set) r₀.splits r₁.splits x
      g₀.set g₁.set g₀.splits g₁.splits apart

  pub form_room : (x : ℕ) → x ≡ cond (met r₀.set r₁.set) 0 1 → r₀.splits + r₁.splits + x ≤ slots m.tree
  form_room x apart =
      subst (λ k. k ≤ slots m.tree) (sym (total x apart))
      (subst (λ k. splits hop_bound (suc w) (leaves_below (suc w) m k d) ≤ slots m.tree) can.lies
      (splits_room m can.whole (suc w) can.string d can.hop))

  -- the children's splits alone, before it is known whether their sets are apart
  pub form_sum : r₀.splits + r₁.splits ≤ slots m.tree
  form_sum = omega (arith, form_room (cond (met r₀.set r₁.set) 0 1) refl)

  pub form_step : (left x : ℕ) (r : Formed) {after : List ℕ} → x ≡ cond (met r₀.set r₁.set) 0 1 → left ≡ suc w → p < slots m.tree → Keeps c p r.set after
      → members r.set ≡ join hop_bound (members r₀.set) (members r₁.set) → r.splits ≡ r₀.splits + r₁.splits + x
      → Forms m a p left d after r
  form_step left x r {after} apart more l keeps joined sum =
      forms_at m a after r refl (sym more) refl (form_node m a b c after p w d r₀ r₁ r can l g₀ g₁ keeps joined (sum ∙ total x apart))
