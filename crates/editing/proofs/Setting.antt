-- Setting a slot's hop: the ledger changes for that slot's string alone.
use mathlib.Core.Path.{◌≡◌, refl, sym, ap, subst, ◌∙◌, fun_ext}
use mathlib.Core.Logic.{inl, inr, ⊎_map}
use mathlib.Core.Bool.{true, cond}
use mathlib.Core.List.{reverse, reverse-reverse}
use mathlib.Core.Option.{none, some}
use Prim.Native.Nat.{ℕ, ◌-◌, ◌≤◌, ◌<◌}
use native.Mathlib.Omega.{arith}
use lib.ListN.{length, get_or, set, length-set, length-reverse}
use lib.Seq.{get_or-set_same, get_or-set_other}
use Rattle.theory.specs.Bits.{Bits, same}
use Rattle.theory.specs.Ledger.{is_held, announce, withdraw}
use Rattle.theory.proofs.Hops.{by_test, never}
use Rattle.theory.proofs.Longest.{none_some}
use Rattle.theory.proofs.Strings.{same_self, same_true}
use Rattle.memory.specs.Layout.{Memory, slots, Whole, find, read_hop, hop_at, ledger_of}
use Rattle.memory.specs.Tidy.{TidyBut, Tidy}
use Rattle.memory.proofs.Find.{same_or, below_or, one_string}
use Rattle.memory.proofs.Ledger.{ledger_at, ledger_long}
use Rattle.memory.proofs.Bare.{busy_hop}
use Rattle.editing.specs.Edits.{Kept, rehop}
use Rattle.editing.proofs.Hanging.{busy_kept}
use Rattle.editing.proofs.Dropping.{tip_done}

module _ (w : ℕ) (m : Memory) (k v : ℕ) (whole : Whole m) (slot-k : k < slots m.tree) where
  hop_there : hop_at (rehop m k v) k ≡ read_hop v
  hop_there = ap read_hop (get_or-set_same m.hop k v 0 (omega (arith, whole.hops)))

  hop_elsewhere : (j : ℕ) → (j ≡ k → ⊥) → hop_at (rehop m k v) j ≡ hop_at m j
  hop_elsewhere j other = ap read_hop (get_or-set_other m.hop k j v 0 other)

  pub rehop_kept : Kept m (rehop m k v)
  rehop_kept = record {
    same_slots = refl;
    whole = record { shaped = whole.shaped; hops = length-set m.hop k v ∙ whole.hops };
    ledger = λ e. e;
  }

  module _ (s0 : Bits) (there : find m.tree s0 ≡ k) (short : length s0 ≤ w) where
    ledger_set : (s : Bits) → ledger_of w (rehop m k v) s ≡ cond (same (reverse s0) s) (read_hop v) (ledger_of w m s)
    ledger_set s =
        elim (by_test (same (reverse s0) s)) [
          | inl e ↦
              let q = same_true (reverse s0) s e in
              let l : length s ≤ w = omega (arith, ap length q, length-reverse s0) in
              let back : reverse s ≡ s0 = ap reverse (sym q) ∙ reverse-reverse s0 in
              rw e (ledger_at w (rehop m k v) s l ∙ ap (hop_at (rehop m k v)) (ap (find m.tree) back ∙ there) ∙ hop_there)
          | inr e ↦
              elim (below_or w (length s)) [
                | inl l ↦ rw e (ledger_long w (rehop m k v) s l ∙ sym (ledger_long w m s l))
                | inr l ↦
                    let other : find m.tree (reverse s) ≡ k → ⊥ = λ h.
                    let back = one_string m.tree whole.shaped s0 (reverse s) (there ∙ sym h) (omega arith) in
                    never (subst (λ x. same (reverse s0) x ≡ true) (ap reverse back ∙ reverse-reverse s) (same_self (reverse s0))) e in
                    rw e (ledger_at w (rehop m k v) s l ∙ hop_elsewhere (find m.tree (reverse s)) other ∙ sym (ledger_at w m s l))
              ]
        ]

    pub rehop_announce : (h : ℕ) → read_hop v ≡ some h → ledger_of w (rehop m k v) ≡ announce (ledger_of w m) (reverse s0) h
    rehop_announce h e = fun_ext (λ s. ledger_set s ∙ ap (λ o. cond (same (reverse s0) s) o (ledger_of w m s)) e)

    pub rehop_withdraw : read_hop v ≡ none → ledger_of w (rehop m k v) ≡ withdraw (ledger_of w m) (reverse s0)
    rehop_withdraw e = fun_ext (λ s. ledger_set s ∙ ap (λ o. cond (same (reverse s0) s) o (ledger_of w m s)) e)

    pub rehop_tidy : (read_hop v ≡ none → v ≡ 0) → TidyBut w m k → TidyBut w (rehop m k v) k
    rehop_tidy canonical tidy = record {
      each_slot = λ j pos l other.
          ⊎_map
          (λ f. record {
            no_mark = f.no_mark;
            no_hi = f.no_hi;
            no_hop = get_or-set_other m.hop k j v 0 other ∙ f.no_hop;
          })
          (λ u. record {
            string = u.string;
            short = u.short;
            there = u.there;
            busy = busy_kept m (rehop m k v) (w - length u.string) j refl (hop_elsewhere j other) (λ c q. refl) u.busy;
          })
          (tidy.each_slot j pos l other);
      neat = tidy.neat;
      plain = λ j e.
          elim (same_or j k) [
            | inl at-k ↦
                let stored : get_or (set m.hop k v) j 0 ≡ v =
                ap (λ x. get_or (set m.hop k v) x 0) at-k ∙ get_or-set_same m.hop k v 0 (omega (arith, whole.hops)) in
                stored ∙ canonical (ap read_hop (sym stored) ∙ e)
            | inr other ↦ get_or-set_other m.hop k j v 0 other ∙ tidy.plain j (sym (hop_elsewhere j other) ∙ e)
          ];
      chained = tidy.chained;
    }

    pub rehop_done : (h : ℕ) → read_hop v ≡ some h → TidyBut w m k → Tidy w (rehop m k v)
    rehop_done h e tidy =
        tip_done w (rehop m k v) k s0 there short (busy_hop (rehop m k v) (w - length s0) k (ap is_held (hop_there ∙ e)))
        (rehop_tidy (λ n. none_some e n) tidy)

-- tidy memory is tidy but for any slot
pub tidy_but : (w : ℕ) (m : Memory) (k : ℕ) → Tidy w m → TidyBut w m k
tidy_but w m k tidy = record {
  each_slot = λ j pos l other. tidy.each_slot j pos l (λ e. omega arith);
  neat = tidy.neat;
  plain = tidy.plain;
  chained = tidy.chained;
}
