-- Sets, then the count and the room, then the entries: each end is one law of proofs/Steps.
use Rattle.std.proofs.Common.{refl, arith}
use Rattle.writing.proofs.Steps.{can_form, one_at_top, few_splits, refuse_short, can_write, wrote}
use Rattle.writing.proofs.squeeze.Goals as goal

pub form_sets-formed-requires : goal.form_sets-formed-requires
form_sets-formed-requires c =
    can_form _ _ c.requires _ (omega arith)

pub overflow_add-count : goal.overflow_add-count
overflow_add-count c =
    record { fits = omega (arith, one_at_top c.form_sets-formed.result _ c.top_entries.ensures, few_splits _ _ c.requires _ _ _ _ c.form_sets-formed.ensures refl refl, c.requires.whole.shaped.few) }

pub returns-then-output-count : goal.returns-then-output-count
returns-then-output-count c =
    rw c.at.ensures (refuse_short _ _ c.requires _ _ _ _ c.form_sets-formed.ensures _ c.top_entries.ensures _ _ _ _ (c.fill.ensures.after (λ y e. e)) c.if-output-count.true
    refl refl refl refl)

pub returns : goal.returns
returns c =
    wrote _ _ c.requires _ _ _ _ c.form_sets-formed.ensures _ c.top_entries.ensures _ _ _ c.if-output-count.false _ _ _ _
    c.write_entries.ensures _ (c.fill-2.ensures.after (λ y e. e)) refl refl refl refl refl refl

pub write_entries-requires : goal.write_entries-requires
write_entries-requires c =
    can_write _ _ c.requires _ _ _ _ c.form_sets-formed.ensures _ c.top_entries.ensures _ _ _ c.if-output-count.false _ _
    refl refl refl refl refl refl
