-- A REFUSAL WITH ITS COUNT.
use Rattle.std.specs.Prelude.{ℕ}
use Rattle.refusals.specs.declared.Refusal.{Refusal}
use Rattle.refusals.specs.declared.Refused.{Refused}

abbrev pub refused_at : Refusal → ℕ → Refused
refused_at refusal count = record { refusal = refusal; count = count }
