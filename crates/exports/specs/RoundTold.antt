-- What a caller in C gets of a round file that is read (T-03).
use Rattle.std.specs.Prelude.{ℕ}
use Rattle.rounds.specs.declared.file.Round.{Round}

abbrev pub round : ℕ → ℕ → Round
round start count = record { start = start; count = count }
