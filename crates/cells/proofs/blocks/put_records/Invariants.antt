-- What is left to put makes the whole.
use Rattle.std.proofs.Common.{◌≡◌, List, ℕ, ◌+◌, ◌*◌, drop}
use Rattle.records.specs.Put.{put, joined}
use Rattle.cells.proofs.blocks.put_records.Given as goal

abbrev pub invariant-loop-e : goal.invariant-loop-e
invariant-loop-e g l =
    (l.p ≡ l.at + 8 * l.e-index)
    × ((f : _ → List ℕ) → ((x : _) (r : List ℕ) → goal.F-post g l.bytes_of x r → r ≡ f x)
    → put l.section l.p (joined f (drop l.e-index l.entries)) ≡ put l.initial.section l.at (joined f l.entries))
