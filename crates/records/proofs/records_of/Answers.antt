-- What is left behind the last whole record says whether there is anything; the arrays are document 01's pieces.
use Rattle.std.proofs.Common.{refl, sym, ◌∙◌, eqb-true, eq-eqb, ne_eqb}
use Rattle.std.proofs.lemmas.Bool.{eqb-false}
use Rattle.rules.specs.Numbers.{ipv4, record_bytes}
use Rattle.records.proofs.Chunks.{chunks_pieces}
use Rattle.records.proofs.records_of.Goals as goal

pub returns-then-not-is_empty : goal.returns-then-not-is_empty
returns-then-not-is_empty c =
    (ne_eqb _ _ (λ e. eqb-false _ _ (sym c.is_empty.ensures ∙ c.if-not-is_empty.true) (c.as_chunks.ensures.back_len ∙ e)), refl)

pub returns : goal.returns
returns c = (
  eq-eqb _ _ (sym c.as_chunks.ensures.back_len ∙ eqb-true _ _ (sym c.is_empty.ensures ∙ c.if-not-is_empty.false)),
  c.as_chunks.ensures.front ∙ chunks_pieces (record_bytes ipv4) _ c.args.list.now,
)
