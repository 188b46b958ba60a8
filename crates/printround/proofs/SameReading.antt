-- T-13, T-14: what is printed goes by what the section's reading answers and leaves, and by the round file.
-- Assumes nothing.
use Prim.Native.Nat.{ℕ}
use mathlib.Core.Path.{◌≡◌}
use mathlib.Core.List.{List, []}
use Rattle.cells.specs.Read.{read_of}
use Rattle.rounds.specs.Round.{version_read}
use Rattle.printround.specs.Printed.{lent, choices_lent, file_of, unless_refused, section_of}
use Rattle.agreement.specs.Agree.{Agree}
use Rattle.agreement.proofs.Uncounted.{bytes_that_don't_count}

-- Two sections of one reading print the same of every round file.
pub printed_alike : (s s' : List ℕ) → read_of s [] lent ≡ read_of s' [] lent → (file : List ℕ)
    → section_of s file ≡ section_of s' file
unfolding section_of
printed_alike s s' e file i =
    unless_refused (e i).answer (file_of (e i).memory (version_read file choices_lent))

-- T-14: two sections that agree on the bytes that count, with no graphics, print the same of every round file.
pub printed_same : (s s' : List ℕ) → Agree s [] s' [] → (file : List ℕ) → section_of s file ≡ section_of s' file
printed_same s s' h = printed_alike s s' (bytes_that_don't_count s [] s' [] h lent).same_reading
