-- The words are stored one after the other, and the flag behind them.
use mathlib.Core.Path.{refl}
use native.Mathlib.Omega.{arith}
use borrow.Author.Rules.{rules}
use Rattle.sets.proofs.Filling.{filled_none, filled_more}
use Rattle.sets.proofs.Members.{word_of_lem, keeps}
use Rattle.sets.proofs.HopSet.keep.Goals as goal

pub loop-k-init : goal.loop-k-init
loop-k-init c = filled_none _ _ _

pub loop-k-preserved : goal.loop-k-preserved
loop-k-preserved c =
    let turn = c.loop-k in
    let within = c.loop-k-test.true in
    filled_more _ _ _ turn.k turn.invariant (omega (arith, within, c.requires)) _ _ refl (word_of_lem _ turn.k within)

pub returns : goal.returns
returns c = keeps _ _ c.requires _ (search rules) c.loop-k.k _ (omega (arith, c.loop-k-test.false)) c.loop-k.invariant c.from.ensures
