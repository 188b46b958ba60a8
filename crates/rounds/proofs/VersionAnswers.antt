-- T-11: answers at named files and rounds of version 2, where a believable slip would give another one.
-- Assumes nothing.
use Prim.Native.Nat.{ℕ}
use mathlib.Core.Path.{◌≡◌, refl}
use mathlib.Core.List.{[], ◌∷◌}
use Rattle.records.specs.Bytes.{number_at, number_bytes}
use Rattle.records.specs.Put.{put}
use Rattle.cells.specs.Memory.{Memory, memory, over_limit, nodes_causes}
use Rattle.cells.specs.Nodes.{no_entry, first_area}
use Rattle.cells.specs.CellOf.{nodes_of}
use Rattle.cells.specs.Lookup.{first_with, find}
use Rattle.cells.specs.LookupCall.{numbers_in, find_in, node_call}
use Rattle.cells.specs.declared.ynd.Ynd.{Ynd}
use Rattle.walks.specs.WalkCall.{route, walk_call, walk_left}
use Rattle.walks.specs.declared.walk.End.TheVariants.{Done}
use Rattle.rounds.specs.declared.file.Version.TheVariants.{One, Two}
use Rattle.rounds.specs.Round.{head_bytes, rest_bytes, file_bytes, has_version, rest_read, version_read}
use Rattle.rounds.specs.Round.{version_left, written, written_left}
use Rattle.rounds.specs.Follow.{follow_round, follow_version}
use Rattle.std.specs.Prelude.{Ok, Err}
use Rattle.numbers.specs.declared.refusal.Refusal.TheVariants.{TooShort, NoSuchPlace, NoRoundFile, WrongLength}
use Rattle.numbers.specs.declared.refusal.Refusal.TheVariants.{OtherArea}
use Rattle.numbers.specs.declared.refusal.Lent.TheVariants as lent

-- ---- reading

-- area 489, start 7, one choice
pub area_489 : version_read (82 ∷ 78 ∷ 68 ∷ 2 ∷ 0 ∷ 233 ∷ 1 ∷ 7 ∷ 0 ∷ 1 ∷ 0 ∷ 4 ∷ []) (8 ∷ 9 ∷ [])
    ≡ version_left (Ok (record { version = (Two 489); start = 7; count = 1 })) (4 ∷ 9 ∷ [])
unfolding version_read has_version number_at rest_read put
area_489 = refl

-- ten bytes, which version 1 would take for a round with one choice: 16, for version 2 has eleven at least
pub ten_bytes : version_read (82 ∷ 78 ∷ 68 ∷ 2 ∷ 0 ∷ 7 ∷ 0 ∷ 1 ∷ 0 ∷ 4 ∷ []) (8 ∷ 9 ∷ [])
    ≡ version_left (Err WrongLength) (8 ∷ 9 ∷ [])
unfolding version_read has_version number_at rest_read
ten_bytes = refl

-- version 3, however long
pub version_three : version_read (82 ∷ 78 ∷ 68 ∷ 3 ∷ 0 ∷ 7 ∷ 0 ∷ 0 ∷ 0 ∷ []) [] ≡ version_left (Err NoRoundFile) []
unfolding version_read has_version number_at
version_three = refl

-- version 513 has the low byte of version 1
pub version_513 : version_read (82 ∷ 78 ∷ 68 ∷ 1 ∷ 2 ∷ 7 ∷ 0 ∷ 0 ∷ 0 ∷ []) [] ≡ version_left (Err NoRoundFile) []
unfolding version_read has_version number_at
version_513 = refl

-- version 1 by the same reader
pub version_one : version_read (82 ∷ 78 ∷ 68 ∷ 1 ∷ 0 ∷ 7 ∷ 0 ∷ 1 ∷ 0 ∷ 4 ∷ []) (8 ∷ 9 ∷ [])
    ≡ version_left (Ok (record { version = One; start = 7; count = 1 })) (4 ∷ 9 ∷ [])
unfolding version_read has_version number_at rest_read put
version_one = refl

-- ---- writing

pub written_two : written (head_bytes (Two 489)) 7 (4 ∷ []) (1 ∷ 1 ∷ 1 ∷ 1 ∷ 1 ∷ 1 ∷ 1 ∷ 1 ∷ 1 ∷ 1 ∷ 1 ∷ 1 ∷ 9 ∷ [])
    ≡ written_left (Ok 12) (82 ∷ 78 ∷ 68 ∷ 2 ∷ 0 ∷ 233 ∷ 1 ∷ 7 ∷ 0 ∷ 1 ∷ 0 ∷ 4 ∷ 9 ∷ [])
unfolding written file_bytes head_bytes rest_bytes number_bytes put
written_two = refl

-- ---- following

abbrev cell : ℕ → Ynd
cell n = record {
  vft = 0;
  vehicle_node_count = 0;
  ped_node_count = 0;
  unknowns = [];
  node_count = n;
  link_count = 0;
  junction_count = 0;
  heightmap_count = 0;
  ref_count = 0;
}

-- a cell of one node of this area, whose number is 7
abbrev one : ℕ → Memory
one area = memory (cell 1) (record no_entry { area_id = area; node_id = 7 } ∷ []) [] [] [] []

-- the cell's area: followed from the number, as a round of version 1
pub own_round : follow_version (one 5) (Two 5) 7 [] (9 ∷ [])
    ≡ walk_left (Ok (record { end = Done; count = 1 })) (0 ∷ [])
unfolding follow_version follow_round first_area node_call nodes_causes over_limit find_in numbers_in
    find first_with walk_call route nodes_of
own_round = refl

-- 19 before 13: another area, and a number that no node has
pub another_area : follow_version (one 5) (Two 6) 99 [] (9 ∷ []) ≡ walk_left (Err OtherArea) (9 ∷ [])
unfolding follow_version first_area
another_area = refl

-- 19 before 14 and 7 too: a struct that counts 70,000 nodes, and one that counts two where one is lent
abbrev counted : ℕ → Memory
counted n = memory (cell n) (record no_entry { area_id = 5; node_id = 7 } ∷ []) [] [] [] []

pub before_limit : follow_version (counted 70000) (Two 6) 99 [] (9 ∷ []) ≡ walk_left (Err OtherArea) (9 ∷ [])
unfolding follow_version first_area
before_limit = refl

pub before_short : follow_version (counted 2) (Two 6) 99 [] (9 ∷ []) ≡ walk_left (Err OtherArea) (9 ∷ [])
unfolding follow_version first_area
before_short = refl

-- of the cell's own area the list that is too short is told
pub own_and_short : follow_version (counted 2) (Two 5) 99 [] (9 ∷ [])
    ≡ walk_left (Err (TooShort lent.Nodes)) (9 ∷ [])
unfolding follow_version follow_round first_area node_call nodes_causes over_limit
own_and_short = refl

-- an island's area is compared in full: with the bit 1024 it isn't the area without it
pub island_in_full : follow_version (one 1029) (Two 5) 7 [] (9 ∷ []) ≡ walk_left (Err OtherArea) (9 ∷ [])
unfolding follow_version first_area
island_in_full = refl

-- an empty cell's area is 0: it is the cell that was meant, and the number isn't there
pub empty_cell : follow_version (memory (cell 0) [] [] [] [] []) (Two 0) 7 [] (9 ∷ [])
    ≡ walk_left (Err NoSuchPlace) (9 ∷ [])
unfolding follow_version follow_round first_area node_call nodes_causes over_limit find_in numbers_in find first_with
empty_cell = refl

-- version 1 belongs to the cell it is followed in
pub any_cell : follow_version (one 1029) One 7 [] (9 ∷ []) ≡ walk_left (Ok (record { end = Done; count = 1 })) (0 ∷ [])
unfolding follow_version follow_round first_area node_call nodes_causes over_limit find_in numbers_in find
    first_with walk_call route nodes_of
any_cell = refl
