-- The file name of a cell, read back, gives the cell's area. One computed test of the 1,024 areas. Assumes nothing.
use Rattle.std.proofs.Common.{◌≡◌, ℕ, ◌+◌, ◌*◌, ◌<◌, Bool, true, false, eqb, take, ap, arith, refl, eqb-true}
use Rattle.std.proofs.lemmas.Bool.{agree_below_at}
use Rattle.std.specs.Prelude.{Option, Some, None, Result, Ok, Err, ◌++◌}
use Rattle.numbers.specs.Grid.{in_grid, area_id}
use Rattle.numbers.specs.Names.{nodes, ynd, named, name_of_area, name_for, cell_file_name, area_id_from_file_name}
use Rattle.numbers.specs.declared.names.FileName.{FileName}
use Rattle.numbers.specs.declared.refusal.Refusal.{Refusal}
use Rattle.numbers.proofs.GridLaws.{in_grid_law}
use Rattle.numbers.proofs.NameLaws.{four, area_name}

-- what the bytes up to the count say
abbrev pub area_named : FileName → Option ℕ
area_named f = area_id_from_file_name (take f.count f.bytes)

-- the same of what `cell_file_name` gives
abbrev pub area_of_name : Result FileName Refusal → Option ℕ
area_of_name (Ok f) = area_named f
area_of_name (Err r) = None

is : ℕ → Option ℕ → Bool
is n (Some m) = eqb m n
is n None = false

is_known : (n : ℕ) (a : Option ℕ) → is n a ≡ true → a ≡ Some n
unfolding is
is_known n (Some m) e = ap Some (eqb-true m n e)
is_known n None e = cc

back : ℕ → Bool
unfolding is named area_id_from_file_name
back n = is n (area_named (named (nodes ++ four n ++ ynd)))

area_back : (n : ℕ) → n < 1024 → area_named (named (name_of_area n)) ≡ Some n
unfolding back
area_back n h =
    rw (area_name n h) (is_known n (area_named (named (nodes ++ four n ++ ynd)))
    (agree_below_at back (λ _. true) 1024 n refl h))

pub name_back : (cx cy : ℕ) → in_grid cx cy ≡ true → area_of_name (cell_file_name cx cy) ≡ Some (cy * 32 + cx)
unfolding area_id name_for
name_back cx cy e = rw e (area_back (cy * 32 + cx) (omega (arith, in_grid_law cx cy e)))
