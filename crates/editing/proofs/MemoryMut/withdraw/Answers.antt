-- The slot is looked for; where it holds a hop, that is set to none and what is bare now is freed.
use Rattle.std.proofs.Common.{◌≡◌, ◌<◌, sym, subst, arith}
use Rattle.theory.specs.Bits.{front}
use Rattle.memory.specs.Path.{path_bit}
use Rattle.memory.specs.Layout.{slots, find}
use Rattle.editing.specs.Held.{memory_held}
use Rattle.editing.proofs.Ending.{withdraw_no_slot, withdraw_no_hop, withdraw_taken}
use Rattle.editing.proofs.MemoryMut.withdraw.Goals as goal

pub returns-in_default-clause-withdrawn : goal.returns-in_default-clause-withdrawn
returns-in_default-clause-withdrawn c =
    let lent = memory_held c.args.self.now in
    let bits = front (path_bit c.args.path) c.args.size in
    let none-there : find lent.tree bits ≡ slots lent.tree = subst (λ m. find m.tree bits ≡ slots m.tree) c.view.ensures c.in_default.ensures in
    withdraw_no_slot c.args.width lent (path_bit c.args.path) c.args.size (slots lent.tree) c.requires (sym none-there) (omega arith)

pub returns-then-not-holds-clause-withdrawn : goal.returns-then-not-holds-clause-withdrawn
returns-then-not-holds-clause-withdrawn c =
    let lent = memory_held c.args.self.now in
    let bits = front (path_bit c.args.path) c.args.size in
    let there : c.in-Some.slot ≡ find lent.tree bits = subst (λ m. c.in-Some.slot ≡ find m.tree bits) c.view.ensures c.in-Some.ensures.0 in
    withdraw_no_hop c.args.width lent (path_bit c.args.path) c.args.size c.in-Some.slot c.requires there _ (omega arith)
    (sym c.if-not-holds.ensures)

pub returns-clause-withdrawn : goal.returns-clause-withdrawn
returns-clause-withdrawn c =
    let lent = memory_held c.args.self.now in
    let bits = front (path_bit c.args.path) c.args.size in
    let there : c.in-Some.slot ≡ find lent.tree bits = subst (λ m. c.in-Some.slot ≡ find m.tree bits) c.view.ensures c.in-Some.ensures.0 in
    let below : c.in-Some.slot < slots lent.tree = subst (λ m. c.in-Some.slot < slots m.tree) c.view.ensures c.in-Some.ensures.1 in
    withdraw_taken c.args.width lent (path_bit c.args.path) c.args.size c.in-Some.slot c.requires there below
    _ (omega arith) (sym c.if-not-holds.ensures) _ c.prune.ensures.reworked
