-- What the parts of renumbering a member require of each other. No public function's contract cites them.
use Rattle.std.specs.Prelude.{ℕ, ◌<◌, ◌≡◌, cond, List, ◌++◌, eqb, get_or, take, drop}
use Rattle.cells.specs.Order.{Old, new_number}
use Rattle.sets.specs.SetRenumber.{Change}
use Rattle.sets.specs.SetParts.{areas_of, count_of}
use Rattle.sets.specs.Leave.{start_of}
use Rattle.sets.specs.RenumberMember.{correct_part}
use Rattle.cells.specs.declared.node_entry.NodeEntry.{NodeEntry}
use Rattle.cells.specs.declared.link.PathLink.{PathLink}

-- a table with a number of 16 bits for each number of 16 bits
pub record Table (t : List ℕ) : Type 0 where
  pub few : (k : ℕ) → k < 65536 → get_or t k 0 < 65536

-- it is the new number
pub record Tells (o : Old) (t : List ℕ) : Type 0 where
  pub told : (k : ℕ) → k < 65536 → get_or t k 0 ≡ new_number o k

-- a link of another cell: one that names the area gets its new number
unfoldable pub relabelled : Old → ℕ → PathLink → PathLink
relabelled o area l = cond (eqb l.area_id area) (record l { node_id = new_number o l.node_id }) l

-- what the correction goes by, as the code has it
abbrev pub change_in : List (List ℕ) → List NodeEntry → ℕ → Old → Change
change_in ws nodes j o = record { areas = areas_of ws nodes; member = j; old = o }

-- the links with the part of the member i corrected
abbrev pub part_corrected : Change → List (List ℕ) → ℕ → List PathLink → List PathLink
part_corrected x ws i l =
    let s = start_of 16 ws i in
    let z = count_of 16 ws i in
    take s l ++ (correct_part x i (count_of 11 ws i) (take z (drop s l)) ++ drop z (drop s l))
