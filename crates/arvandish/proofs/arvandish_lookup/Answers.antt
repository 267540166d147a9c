-- The list lookup's answer is document 01's; the struct is the one for it.
use Rattle.std.proofs.Common.{ap, ◌∙◌}
use Rattle.answers.specs.Answers.{found_for}
use Rattle.arvandish.proofs.arvandish_lookup.Goals as goal

pub returns : goal.returns
returns c = record { answer = c.from.ensures.told ∙ ap found_for c.lookup_list.ensures.answer }
