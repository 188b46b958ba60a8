-- What a caller in C gets of a located array, of the root, of a record, and of the layout of a written section.
use Rattle.std.specs.Prelude.{ℕ, ◌+◌, cond, List, [], ◌∷◌, leb, ltb, length, Option, Some, None, Result, Ok, Err}
use Rattle.numbers.specs.Refusals.{decided, when, unless}
use Rattle.numbers.specs.declared.refusal.Array.{Array}
use Rattle.numbers.specs.declared.refusal.Refusal.{Refusal}
use Rattle.numbers.specs.declared.refusal.Refusal.TheVariants.{BadArray, AtLimit, SystemTooLong}
use Rattle.records.specs.Root.{root_words}
use Rattle.records.specs.declared.layout.Places.{Places}
use Rattle.records.specs.declared.section.Part.{Part}
use Rattle.records.specs.declared.section.Section.{Section}
use Rattle.records.specs.declared.section.Section.TheVariants.{System, Graphics}
use Rattle.cells.specs.Checks.{root_read, sizes_check}
use Rattle.exports.specs.Found.{Told, told_of, value_told}

abbrev pub section_number : Section → ℕ
section_number System = 0
section_number Graphics = 1

-- section, offset and length where the address is good, else what the lent array held
abbrev pub part_or : Option Part → List ℕ → List ℕ
part_or (Some p) old = section_number p.section ∷ p.offset ∷ p.len ∷ []
part_or None old = old

-- The root that reading goes by, as it is written: of no bytes that of `Ynd::new` (T-02). 2 at 0 a section over its
-- limit; 1 from 1 to 111 bytes.
unfoldable pub root_told : List ℕ → List ℕ → Told (List ℕ)
root_told s old = told_of (sizes_check (length s) 0) (λ accepted. root_words (root_read s)) old

-- A record of so many bytes at an offset of a section, whose bytes are `new`. 3 at its array's place where it does not
-- end inside.
unfoldable pub record_told : Array → ℕ → List ℕ → ℕ → List ℕ → List ℕ → Told (List ℕ)
record_told array width s at new old =
    value_told (cond (leb (at + width) (length s)) (Ok new) (Err (BadArray array))) old

-- the addresses of refs, heightmap bytes, junctions, links and nodes, and the length of the whole
pub record Laid : Type 0 where
  pub addresses : List ℕ
  pub total : ℕ

abbrev pub laid : List ℕ → ℕ → Laid
laid a n = record { addresses = a; total = n }

-- Section 4's limits: 14 over 65,536 nodes or 4,096 junctions; 2 at 0 a section over 16,777,216 bytes.
abbrev pub laid_out : ℕ → ℕ → Places → Result Places Refusal
laid_out nodes junctions p =
    unless
    (decided
    (when (ltb 65536 nodes) AtLimit
    ∷ when (ltb 4096 junctions) AtLimit
    ∷ when (ltb 16777216 p.total) SystemTooLong
    ∷ [])) (Ok p)

abbrev pub laid_told : ℕ → ℕ → Places → Laid → Told Laid
laid_told nodes junctions p old =
    told_of (laid_out nodes junctions p)
    (λ q. laid (q.refs ∷ q.heightmap ∷ q.junctions ∷ q.links ∷ q.nodes ∷ []) q.total) old
