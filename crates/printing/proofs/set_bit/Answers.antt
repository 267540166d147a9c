-- The bit is set in the half where it stands.
use Rattle.printing.proofs.Setting.{set_high, set_low}
use Rattle.printing.proofs.set_bit.Goals as goal

pub returns-then-place-lt64 : goal.returns-then-place-lt64
returns-then-place-lt64 c = set_high _ _ c.if-place-lt64.true

pub returns-else-place-lt64 : goal.returns-else-place-lt64
returns-else-place-lt64 c = set_low _ _ c.if-place-lt64.false c.requires
