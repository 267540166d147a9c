-- At each turn the slot is that of the bits passed and the hop is the one in force there; where the walk finds no slot, it stays.
use Rattle.std.proofs.Common.{◌≡◌, ◌+◌, refl, arith}
use Rattle.theory.specs.Bits.{front}
use Rattle.rules.specs.Numbers.{no_route}
use Rattle.memory.specs.Path.{path_bit}
use Rattle.memory.specs.Layout.{find}
use Rattle.memory.specs.Views.{memory_in}
use Rattle.memory.proofs.Find.{step_front}
use Rattle.memory.proofs.Ledger.{best_first, best_next, longest_whole, longest_ended}
use Rattle.memory.proofs.MemoryView.longest_match.Goals as goal

pub loop-depth-init : goal.loop-depth-init
loop-depth-init c = record {
  below = c.requires.0.shaped.some_slot;
  there = refl;
  in_force = best_first c.args.width (memory_in c.args.self.now) (path_bit c.args.path) no_route c.hop_or-found.ensures;
}

pub returns-in_default : goal.returns-in_default
returns-in_default c =
    longest_ended c.args.width (memory_in c.args.self.now) (path_bit c.args.path) no_route c.requires.0 c.loop-depth.depth
    c.loop-depth.invariant.there c.bit.ensures c.in_default.ensures c.loop-depth-test.true c.loop-depth.invariant.in_force

pub loop-depth-preserved : goal.loop-depth-preserved
loop-depth-preserved c =
    let memory = memory_in c.args.self.now in
    let bits = path_bit c.args.path in
    let there : c.in-Some.next ≡ find memory.tree (front bits (c.loop-depth.depth + 1)) =
    step_front memory.tree bits c.loop-depth.depth c.loop-depth.invariant.there c.bit.ensures c.in-Some.ensures.0 in
    record {
      below = c.in-Some.ensures.1;
      there = there;
      in_force =
          best_next c.args.width memory bits no_route c.loop-depth.depth there (omega (arith, c.loop-depth.invariant.in_force)) c.loop-depth-test.true
          c.hop_or-found-in-loop-depth.ensures;
    }

pub returns : goal.returns
returns c =
    longest_whole c.args.width (memory_in c.args.self.now) (path_bit c.args.path) no_route c.loop-depth.depth
    c.loop-depth.invariant.in_force (omega arith)
