-- What writing asks and leaves (Entries), in the words of the code: from a source, at slot p, with the output as it was and as it is.
use Rattle.std.specs.Prelude.{List, ℕ}
use Rattle.memory.specs.declared.Path.{Path}
use Rattle.memory.specs.Views.{memory_in}
use Rattle.squeezing.specs.declared.Level.{Level}
use Rattle.squeezing.specs.declared.Source.{Source}
use Rattle.squeezing.specs.declared.Standing.{Standing}
use Rattle.squeezing.specs.Entries.{Puts, string_of, table_below, CanWrite}

abbrev pub CanWriteFrom : Source → ℕ → Level → Path → Standing → List ℕ → Type 0
CanWriteFrom source p level path standing output =
    CanWrite (memory_in source.memory) source.scratch.now source.bytes p level.left level.above standing.hop standing.at path output

abbrev pub PutsFrom : Source → ℕ → Level → Path → Standing → List ℕ → ℕ → List ℕ → Type 0
PutsFrom source p level path standing output at' output' =
    let table = table_below level.left (memory_in source.memory) p level.above standing.hop in
    Puts source.bytes (string_of source.bytes level.left path) table standing.at output at' output'
