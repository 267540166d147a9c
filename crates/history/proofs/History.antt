-- DEMAND 3: any run of calls from zeroed memory replies what a plain ledger of the accepted records replies.
use Rattle.std.proofs.Common.{Result, Ok}
use Rattle.refusals.specs.declared.Refused.{Refused}
use mathlib.Core.Path.{◌≡◌, refl, sym, ap, ap₂, subst, subst₂, ◌∙◌}
use mathlib.Core.Logic.{inl, inr}
use mathlib.Core.Bool.{false}
use mathlib.Core.List.{List, [], ◌∷◌, ◌++◌}
use mathlib.Core.Option.{none}
use Prim.Native.Nat.{ℕ, ◌*◌, ◌≤◌, ◌<◌}
use native.Mathlib.Omega.{arith}
use lib.Dec.{eqb}
use lib.ListN.{length, take}
use borrow.Author.Tests.{eqb-true, eqb-false}
use Rattle.theory.specs.Bits.{Each}
use Rattle.theory.specs.Ledger.{Ledger, nothing}
use Rattle.theory.proofs.Hops.{by_test}
use Rattle.rules.specs.Numbers.{ipv4, width, record_bytes, most_slots, scratch_words}
use Rattle.rules.specs.Plain.{updated}
use Rattle.rules.specs.Lookup.{hop_of}
use Rattle.rules.specs.Writing.{smallest_table, ForwardAlike}
use Rattle.memory.specs.Layout.{Memory, slots, ledger_of, zeroed}
use Rattle.memory.proofs.Find.{not_none}
use Rattle.memory.proofs.Zeros.{zeroed_ledger, zeroed_slots}
use Rattle.lent.specs.Lent.{bad_lent, lent_fault}
use Rattle.lent.proofs.Faults.{good_of}
use Rattle.ledger.specs.Promise.{after_fault, update_of, reported, found_after}
use Rattle.ledger.proofs.History.{zeroed_fine}
use Rattle.writing.specs.Promise.{bytes_for, write_of, Writes}
use Rattle.writing.proofs.Promise.{fault_slices, fault_none}
use Rattle.history.specs.Runs.{Ask, writing, Reply, updated_so, found_so, wrote_so, plain_reply, plain_after, plain_replies, plain_ledger, Call, update, lookup, lookup_list, write, Run, fresh, next}
use Rattle.history.specs.Theorem.{NotTwo, HoldsOfRun, WritesSmallest}
use Rattle.history.proofs.Two.{plain_not_two}
use Rattle.history.proofs.Table.{writes_smallest, same_bytes}

-- ONE CALL on memory that 1 and 2 let through: the plain ledger's reply, the plain ledger after it, and memory that 1 and 2 let
-- through again
pub record Follows (n : ℕ) (m : Memory) (a : Ask) (m' : Memory) (r : Reply) : Type 0 where
  pub reply : r ≡ plain_reply n (ledger_of (width ipv4) m) a
  pub ledger : ledger_of (width ipv4) m' ≡ plain_after n (ledger_of (width ipv4) m) a
  pub same_slots : slots m'.tree ≡ n
  pub let_through : lent_fault m' ≡ none

module _ (n : ℕ) (m : Memory) (fine : lent_fault m ≡ none) (sized : slots m.tree ≡ n) where
  updates_so : (list : List ℕ) → update_of m list ≡ updated ipv4 n (ledger_of (width ipv4) m) list
  unfolding update_of
  updates_so list = ap (λ f. after_fault f m list) fine ∙ ap (λ k. updated ipv4 k (ledger_of (width ipv4) m) list) sized

  writes_so : (scratch output : List ℕ) → wrote_so (write_of m scratch output) ≡ plain_reply n (ledger_of (width ipv4) m) (writing scratch output)
  unfolding write_of
  writes_so scratch output =
      ap wrote_so
      (elim (by_test (eqb (length scratch) (scratch_words n))) [
        | inl e ↦ rw (fault_none m scratch fine (eqb-true (length scratch) (scratch_words n) e ∙ ap scratch_words (sym sized)), e)
        | inr e ↦ rw (fault_slices m scratch (inr (λ q. eqb-false (length scratch) (scratch_words n) e (q ∙ ap scratch_words sized))), e)
      ])

  one_call : (a : Ask) (m' : Memory) (r : Reply) → Call m a m' r → Follows n m a m' r
  one_call a m' r (update list _ u meets) = record {
    reply = ap updated_so (meets.answer ∙ ap reported (updates_so list));
    ledger = meets.ledger ∙ ap (λ a. a.ledger) (updates_so list);
    same_slots = meets.same_lengths.ups ∙ sized;
    let_through = meets.no_2_later fine;
  }
  one_call a m' r (lookup x f meets) = record {
    reply = ap found_so (meets.answer ∙ ap (λ o. found_after o m x) fine);
    ledger = refl;
    same_slots = sized;
    let_through = fine;
  }
  one_call a m' r (lookup_list list x f meets) = record { reply = ap found_so meets.answer; ledger = refl; same_slots = sized; let_through = fine }
  one_call a m' r (write scratch output _ _ w meets) =
      record { reply = ap wrote_so meets.outcome ∙ writes_so scratch output; ledger = refl; same_slots = sized; let_through = fine }

-- A plain ledger goes on where it stood.
module _ (n : ℕ) (a : Ask) where
  replies_on : (L : Ledger ℕ) (asks : List Ask)
      → plain_replies n L (asks ++ (a ∷ [])) ≡ plain_replies n L asks ++ (plain_reply n (plain_ledger n L asks) a ∷ [])
  replies_on L [] = refl
  replies_on L (b ∷ asks) = ap (λ rs. plain_reply n L b ∷ rs) (replies_on (plain_after n L b) asks)

  ledger_on : (L : Ledger ℕ) (asks : List Ask) → plain_ledger n L (asks ++ (a ∷ [])) ≡ plain_after n (plain_ledger n L asks) a
  ledger_on L [] = refl
  ledger_on L (b ∷ asks) = ledger_on (plain_after n L b) asks

each_on : (replies : List Reply) (r : Reply) → Each NotTwo replies → NotTwo r → Each NotTwo (replies ++ (r ∷ []))
each_on [] r all last = (last, tt)
each_on (q ∷ replies) r all last = (all.0, each_on replies r all.1 last)

-- THE HISTORY THEOREM
pub history : (n : ℕ) → 0 < n → n ≤ most_slots → (asks : List Ask) (m : Memory) (replies : List Reply) → Run n asks m replies
    → HoldsOfRun n asks m replies
history n some_slot few asks m replies fresh = record {
  answers = refl;
  ledger = zeroed_ledger n (width ipv4);
  same_slots = zeroed_slots n;
  not_two = tt;
  let_through = zeroed_fine n some_slot few;
}
history n some_slot few asks m replies (next {asks = before} {m = m₀} {replies = said} {a = a} {r = r} run call) =
    let was = history n some_slot few before m₀ said run in
    let now = one_call n m₀ was.let_through was.same_slots a m r call in
    let reply : r ≡ plain_reply n (plain_ledger n nothing before) a = now.reply ∙ ap (λ L. plain_reply n L a) was.ledger in
    record {
      answers = ap₂ (λ rs q. rs ++ (q ∷ [])) was.answers reply ∙ sym (replies_on n a nothing before);
      ledger = now.ledger ∙ ap (λ L. plain_after n L a) was.ledger ∙ sym (ledger_on n a nothing before);
      same_slots = now.same_slots;
      not_two = each_on said r was.not_two (subst NotTwo (sym reply) (plain_not_two n (plain_ledger n nothing before) a));
      let_through = now.let_through;
    }

-- WHAT IS THEN WRITTEN is the plain ledger's smallest table
pub history_writes : (n : ℕ) → 0 < n → n ≤ most_slots → (asks : List Ask) (m : Memory) (replies : List Reply) → Run n asks m replies
    → (scratch output scratch' output' : List ℕ) (r : Result ℕ Refused) → Writes m scratch output scratch' output' r
    → length scratch ≡ scratch_words n → bytes_for (smallest_table ipv4 (plain_ledger n nothing asks)) ≤ length output
    → WritesSmallest (plain_ledger n nothing asks) (scratch_words n) output scratch' output' r
history_writes n some_slot few asks m replies run scratch output scratch' output' r meets sized room =
    let after = history n some_slot few asks m replies run in
    let same : ledger_of (width ipv4) m ≡ plain_ledger n nothing asks = after.ledger in
    subst₂ (λ L k. WritesSmallest L k output scratch' output' r) same sized
    (writes_smallest m scratch output scratch' output' r meets (fault_none m scratch after.let_through (sized ∙ ap scratch_words (sym after.same_slots)))
    (rw same room))

-- THE SAME IN DEMAND 3'S WORDS: all that is asked of the memory is that refusal 1 lets it through
slots_lent : (n : ℕ) → bad_lent (zeroed n) ≡ false → (0 < n) × (n ≤ most_slots)
slots_lent n fits =
    let good = good_of (zeroed n) fits in
    (not_none n (λ e. good.some_slot (zeroed_slots n ∙ e)), omega (arith, good.few, zeroed_slots n))

pub demand_3 : (n : ℕ) → bad_lent (zeroed n) ≡ false → (asks : List Ask) (m : Memory) (replies : List Reply) → Run n asks m replies
    → (scratch output scratch' output' : List ℕ) (r : Result ℕ Refused) → Writes m scratch output scratch' output' r
    → length scratch ≡ scratch_words n → bytes_for (smallest_table ipv4 (plain_ledger n nothing asks)) ≤ length output
    → HoldsOfRun n asks m replies × WritesSmallest (plain_ledger n nothing asks) (scratch_words n) output scratch' output' r
demand_3 n fits asks m replies run scratch output scratch' output' r meets sized room =
    let lent = slots_lent n fits in (
      history n lent.0 lent.1 asks m replies run,
      history_writes n lent.0 lent.1 asks m replies run scratch output scratch' output' r meets sized room,
    )

-- two histories whose ledgers forward alike: both write the same count and the same bytes
pub histories_same_bytes : (n : ℕ) → 0 < n → n ≤ most_slots → (asks : List Ask) (m : Memory) (replies : List Reply) → Run n asks m replies
    → (n₂ : ℕ) → 0 < n₂ → n₂ ≤ most_slots → (asks₂ : List Ask) (m₂ : Memory) (replies₂ : List Reply) → Run n₂ asks₂ m₂ replies₂
    → ForwardAlike ipv4 (plain_ledger n nothing asks) (plain_ledger n₂ nothing asks₂)
    → (scratch output scratch' output' : List ℕ) (r : Result ℕ Refused) (c : ℕ) → Writes m scratch output scratch' output' r → r ≡ Ok c
    → (scratch₂ output₂ scratch₂' output₂' : List ℕ) (r₂ : Result ℕ Refused) (c₂ : ℕ) → Writes m₂ scratch₂ output₂ scratch₂' output₂' r₂ → r₂ ≡ Ok c₂
    → (c ≡ c₂) × (take (c * record_bytes ipv4) output' ≡ take (c * record_bytes ipv4) output₂')
histories_same_bytes n some_slot few asks m replies run n₂ some-slot₂ few₂ asks₂ m₂ replies₂ run₂ alike =
    let one = (history n some_slot few asks m replies run).ledger in
    let other = (history n₂ some-slot₂ few₂ asks₂ m₂ replies₂ run₂).ledger in
    same_bytes m m₂ (λ x l. ap (λ L. hop_of ipv4 L x) one ∙ alike x l ∙ ap (λ L. hop_of ipv4 L x) (sym other))
