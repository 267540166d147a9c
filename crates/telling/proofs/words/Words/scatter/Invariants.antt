-- So far as the loop has come, each cell has the word that was drawn for it.
use Rattle.std.proofs.Common.{◌≡◌, ℕ, suc, ◌%◌, ◌<◌, get_or}
use Rattle.telling.specs.Words.{drawn}
use Rattle.telling.proofs.words.Words.scatter.Given as goal

abbrev pub invariant-loop-cell : goal.invariant-loop-cell
invariant-loop-cell l =
    (l.self.0 ≡ drawn l.cell-index l.fn.self.0)
    × ((k : ℕ) → k < l.cell-index → get_or l.cells k 0 ≡ drawn (suc k) l.fn.self.0 % l.bound)
