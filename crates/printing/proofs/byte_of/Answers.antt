-- The byte is one of the word where it stands, as the definition has it.
use Rattle.std.proofs.Common.{get_or, ap, ◌∙◌, ◌-◌, ◌/◌, ◌%◌, ◌^◌, lt-ltb, le-ltb, arith}
use Rattle.printing.specs.Printing.{path_byte}
use Rattle.printing.proofs.Bytes.{word_byte}
use Rattle.printing.proofs.byte_of.Goals as goal

pub returns-then-i-lt8 : goal.returns-then-i-lt8
unfolding path_byte
returns-then-i-lt8 c =
    rw (lt-ltb c.args.i 8 c.if-i-lt8.true)
    (ap (λ bs. get_or bs c.args.i 0) c.to_be_bytes.ensures ∙ word_byte c.args.path.high c.args.i c.if-i-lt8.true)

pub returns-else-i-lt8 : goal.returns-else-i-lt8
unfolding path_byte
returns-else-i-lt8 c =
    rw (le-ltb c.args.i 8 c.if-i-lt8.false)
    (ap (λ bs. get_or bs (c.args.i - 8) 0) c.to_be_bytes-else-i-lt8.ensures
    ∙ word_byte c.args.path.low (c.args.i - 8) (omega arith)
    ∙ ap (λ e. c.args.path.low / 2 ^ e % 256) (omega arith))
