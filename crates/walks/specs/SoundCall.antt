-- Section 5: the call `sound`. It says yes exactly where the cell is sound.
use Rattle.std.specs.Prelude.{ℕ, suc, Bool, cond, List, [], ◌∷◌, ltb, length, set}
use Rattle.cells.specs.Memory.{Memory, over_limit}
use Rattle.cells.specs.Cell.{numbers}
use Rattle.cells.specs.CellOf.{cell_of}
use Rattle.walks.specs.Sound.{sound}
use Rattle.std.specs.Prelude.{Result, Ok, Err}
use Rattle.numbers.specs.declared.refusal.Refusal.{Refusal}
use Rattle.numbers.specs.declared.refusal.Refusal.TheVariants.{TooShort, AtLimit}
use Rattle.numbers.specs.declared.refusal.Lent.TheVariants as lent

abbrev pub verdict : Bool → Result Bool Refusal
verdict b = Ok b

-- The scratch after each number's place was stored at the number, from place i up: of equal numbers the last one's
-- place stays.
unfoldable pub indexed : List ℕ → ℕ → List ℕ → List ℕ
indexed [] i s = s
indexed (k ∷ ks) i s = indexed ks (suc i) (set s k i)

-- what the call answers, and the scratch after it
pub record SoundLeft : Type 0 where
  pub answer : Result Bool Refusal
  pub scratch : List ℕ

abbrev pub sound_left : Result Bool Refusal → List ℕ → SoundLeft
sound_left a s = record { answer = a; scratch = s }

-- Causes of refusal: 14 a struct over a limit; 7 at 0, 1 and 4 a list shorter than its count; 7 at 6 the scratch has
-- fewer than 65,536 entries. A refusal leaves the scratch as it was.
unfoldable pub sound_call : Memory → List ℕ → SoundLeft
sound_call m scratch =
    cond (over_limit m.ynd) (sound_left (Err AtLimit) scratch)
    (cond (ltb (length m.nodes) m.ynd.node_count) (sound_left (Err (TooShort lent.Nodes)) scratch)
    (cond (ltb (length m.links) m.ynd.link_count) (sound_left (Err (TooShort lent.Links)) scratch)
    (cond (ltb (length m.refs) m.ynd.ref_count) (sound_left (Err (TooShort lent.Refs)) scratch)
    (cond (ltb (length scratch) 65536) (sound_left (Err (TooShort lent.Scratch)) scratch)
    (sound_left (verdict (sound (cell_of m))) (indexed (numbers (cell_of m).nodes) 0 scratch))))))
