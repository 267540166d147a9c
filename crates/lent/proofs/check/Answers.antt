-- The tests are those of rule 1 and then that of rule 2.
use Rattle.std.proofs.Common.{inl, inr, arith}
use Rattle.memory.specs.Views.{memory_in}
use Rattle.lent.proofs.Faults.{GoodLent, fault_slices, fault_ledger, no_fault}
use Rattle.lent.proofs.check.Goals as goal
use Rattle.lent.proofs.check.Goals.{Else-count-gt-MOST_SLOTS}

pub returns-then-lo-count : goal.returns-then-lo-count
returns-then-lo-count c =
    fault_slices _ (λ g. elim c.then-lo-count.either [
      | inl los ↦ los g.los
      | inr (inl his) ↦ his.1 g.his
      | inr (inr hops) ↦ hops.2 g.hops
    ])

pub returns-then-count-eq0 : goal.returns-then-count-eq0
returns-then-count-eq0 c =
    fault_slices _ (λ g. elim c.then-count-eq0.either [ inl none ↦ absurd (omega (arith, g.some_slot, none)) | inr more ↦ absurd (omega (arith, g.few, more.1)) ])

-- what the tests of rule 1 let through
good : (c : Else-count-gt-MOST_SLOTS) → GoodLent (memory_in c.args.memory.now)
good c = record {
  los = c.if-lo-count.false;
  his = c.if-hi-count.false;
  hops = c.if-hop-count.false;
  some_slot = λ none. absurd (omega (arith, none, c.if-count-eq0.false));
  few = c.if-count-gt-MOST_SLOTS.false;
}

pub returns-then-up-count : goal.returns-then-up-count
returns-then-up-count c = fault_ledger _ (good (goal.at.returns-then-up-count c).Else-count-gt-MOST_SLOTS) (omega (arith, c.if-up-count.true))

pub returns : goal.returns
returns c = no_fault _ (good (goal.at.returns c).Else-count-gt-MOST_SLOTS) (omega (arith, c.if-up-count.false)) tt
