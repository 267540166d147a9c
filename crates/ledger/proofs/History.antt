-- Memory reached from zeros holds the plain ledger of the accepted records, is tidy, and never gets refusal 2.
use mathlib.Core.Path.{◌≡◌, sym, ap, subst, ◌∙◌}
use mathlib.Core.List.{List}
use mathlib.Core.Option.{none}
use Prim.Native.Nat.{ℕ, ◌≤◌, ◌<◌}
use native.Mathlib.Omega.{arith}
use lib.ListN.{get_or}
use Rattle.rules.specs.Numbers.{ipv4, width, most_slots}
use Rattle.rules.specs.Plain.{Reached, at_first, after, updated}
use Rattle.memory.specs.Layout.{Memory, slots, ledger_of, zeroed}
use Rattle.memory.specs.Tidy.{head_of}
use Rattle.memory.proofs.Chain.{chained_head}
use Rattle.memory.proofs.Zeros.{zeroed_ledger, zeroed_slots, zeroed_whole, zeroed_tidy, zeroed_head}
use Rattle.std.proofs.Common.{Result}
use Rattle.refusals.specs.declared.Refused.{Refused}
use Rattle.lent.specs.Lent.{lent_fault}
use Rattle.ledger.specs.Promise.{after_fault, update_of, Updates}
use Rattle.ledger.specs.History.{ReachedMemory, at_zeros, by_update, Sound}
use Rattle.lent.proofs.Faults.{no_fault}

-- what is left where the call is let through
pub ledger_after : (m m' : Memory) (list : List ℕ) (r : Result ℕ Refused) → Updates m list m' r → lent_fault m ≡ none
    → ledger_of (width ipv4) m' ≡ (updated ipv4 (slots m.tree) (ledger_of (width ipv4) m) list).ledger
unfolding update_of
ledger_after m m' list r u e = u.ledger ∙ ap (λ o. (after_fault o m list).ledger) e

module _ (n : ℕ) (some_slot : 0 < n) (few : n ≤ most_slots) where
  pub zeroed_fine : lent_fault (zeroed n) ≡ none
  zeroed_fine =
      let whole = zeroed_whole n some_slot (omega arith) in
      (no_fault (zeroed n)
      record {
        los = whole.shaped.los;
        his = whole.shaped.his;
        hops = whole.hops;
        some_slot = λ e. omega (arith, zeroed_slots n);
        few = omega (arith, zeroed_slots n);
      }
      (omega (arith, zeroed_head n)) tt).0

  -- REFUSAL 2 NEVER COMES, and every later answer is about the plain ledger of the accepted records
  pub sound : (m : Memory) → ReachedMemory n m → Sound n m
  sound m at_zeros = record {
    let_through = zeroed_fine;
    plain = subst (Reached ipv4 n) (sym (zeroed_ledger n (width ipv4))) at_first;
    tidy = zeroed_tidy n some_slot (width ipv4);
    same_slots = zeroed_slots n;
  }
  sound m (by_update {m = before} reached list r u) =
      let was = sound before reached in
      record {
        let_through = u.no_2_later was.let_through;
        plain =
            subst (Reached ipv4 n)
            (ap (λ k. (updated ipv4 k (ledger_of (width ipv4) before) list).ledger) (sym was.same_slots)
            ∙ sym (ledger_after before m list r u was.let_through))
            (after was.plain list);
        tidy = u.tidy was.tidy;
        same_slots = u.same_lengths.ups ∙ was.same_slots;
      }

  -- NO SLOT IS SEARCHED FOR before the memory is full: where any slot is free, the chain's first one is
  pub first_serves : (m : Memory) → ReachedMemory n m → (k : ℕ) → 0 < k → k < n → get_or m.tree.up k 0 ≡ 0
      → (0 < head_of m.tree) × (head_of m.tree < n) × (get_or m.tree.up (head_of m.tree) 0 ≡ 0)
  first_serves m reached k pos slot free =
      let s = sound m reached in
      let first = chained_head m.tree s.tidy.chained k pos (omega (arith, s.same_slots)) free in
      (first.0, omega (arith, first.1, s.same_slots), first.2)
