-- Answers at named files and rounds, where a believable slip would give another one, over the definitions that the
-- contracts cite.
-- Assumes nothing.
use Prim.Native.Nat.{ℕ}
use mathlib.Core.Path.{◌≡◌, refl}
use mathlib.Core.List.{[], ◌∷◌}
use Rattle.records.specs.Bytes.{number_at, number_bytes}
use Rattle.records.specs.Put.{put}
use Rattle.cells.specs.Memory.{Memory, memory, over_limit, nodes_causes}
use Rattle.cells.specs.Nodes.{no_entry}
use Rattle.cells.specs.declared.node_entry.NodeEntry.{NodeEntry}
use Rattle.cells.specs.CellOf.{nodes_of}
use Rattle.cells.specs.Lookup.{first_with, find}
use Rattle.cells.specs.LookupCall.{numbers_in, find_in, node_call}
use Rattle.cells.specs.declared.ynd.Ynd.{Ynd}
use Rattle.walks.specs.WalkCall.{route, walk_call, walk_left}
use Rattle.walks.specs.declared.walk.End.TheVariants.{Done}
use Rattle.rounds.specs.declared.file.Version.TheVariants.{One}
use Rattle.rounds.specs.Round.{head_bytes, rest_bytes, file_bytes, has_version, rest_read, round_read}
use Rattle.rounds.specs.Round.{round_left, written, written_left}
use Rattle.rounds.specs.Follow.{follow_round}
use Rattle.std.specs.Prelude.{Ok, Err}
use Rattle.numbers.specs.declared.refusal.Refusal.TheVariants.{TooShort, NoSuchPlace, NoRoundFile, WrongLength}
use Rattle.numbers.specs.declared.refusal.Lent.TheVariants as lent

-- ---- reading

-- fewer than five bytes: 15, the mark alone too
pub mark_alone : round_read (82 ∷ 78 ∷ 68 ∷ []) [] ≡ round_left (Err NoRoundFile) []
unfolding round_read has_version number_at
mark_alone = refl

-- 15 before 16: version 2, and under 9 bytes
pub version_first : round_read (82 ∷ 78 ∷ 68 ∷ 2 ∷ 0 ∷ []) [] ≡ round_left (Err NoRoundFile) []
unfolding round_read has_version number_at
version_first = refl

-- five bytes that are mark and version are no round
pub head_alone : round_read (82 ∷ 78 ∷ 68 ∷ 1 ∷ 0 ∷ []) [] ≡ round_left (Err WrongLength) []
unfolding round_read has_version number_at rest_read
head_alone = refl

-- 16 before 7: one choice too few, and no memory for any
pub one_choice_short : round_read (82 ∷ 78 ∷ 68 ∷ 1 ∷ 0 ∷ 7 ∷ 0 ∷ 2 ∷ 0 ∷ 5 ∷ []) [] ≡ round_left (Err WrongLength) []
unfolding round_read has_version number_at rest_read
one_choice_short = refl

-- one byte more than 9 plus the count: 16, though there is memory
pub one_byte_more : round_read (82 ∷ 78 ∷ 68 ∷ 1 ∷ 0 ∷ 7 ∷ 0 ∷ 1 ∷ 0 ∷ 5 ∷ 6 ∷ []) (8 ∷ 9 ∷ [])
    ≡ round_left (Err WrongLength) (8 ∷ 9 ∷ [])
unfolding round_read has_version number_at rest_read
one_byte_more = refl

-- memory one short: 7 at 8
pub one_entry_short : round_read (82 ∷ 78 ∷ 68 ∷ 1 ∷ 0 ∷ 7 ∷ 0 ∷ 2 ∷ 0 ∷ 5 ∷ 6 ∷ []) (9 ∷ [])
    ≡ round_left (Err (TooShort lent.List)) (9 ∷ [])
unfolding round_read has_version number_at rest_read
one_entry_short = refl

-- start 258, low byte first; later entries stay
pub two_choices : round_read (82 ∷ 78 ∷ 68 ∷ 1 ∷ 0 ∷ 2 ∷ 1 ∷ 2 ∷ 0 ∷ 5 ∷ 6 ∷ []) (8 ∷ 8 ∷ 9 ∷ [])
    ≡ round_left (Ok (record { start = 258; count = 2 })) (5 ∷ 6 ∷ 9 ∷ [])
unfolding round_read has_version number_at rest_read put
two_choices = refl

-- ---- writing

pub written_file : written (head_bytes One) 258 (5 ∷ 6 ∷ []) (1 ∷ 1 ∷ 1 ∷ 1 ∷ 1 ∷ 1 ∷ 1 ∷ 1 ∷ 1 ∷ 1 ∷ 1 ∷ 9 ∷ [])
    ≡ written_left (Ok 11) (82 ∷ 78 ∷ 68 ∷ 1 ∷ 0 ∷ 2 ∷ 1 ∷ 2 ∷ 0 ∷ 5 ∷ 6 ∷ 9 ∷ [])
unfolding written file_bytes head_bytes rest_bytes number_bytes put
written_file = refl

-- one byte too few: nothing is written
pub file_one_short : written (head_bytes One) 258 [] (1 ∷ 2 ∷ 3 ∷ 4 ∷ 5 ∷ 6 ∷ 7 ∷ 8 ∷ [])
    ≡ written_left (Err (TooShort lent.List)) (1 ∷ 2 ∷ 3 ∷ 4 ∷ 5 ∷ 6 ∷ 7 ∷ 8 ∷ [])
unfolding written file_bytes head_bytes rest_bytes number_bytes
file_one_short = refl

-- ---- following

abbrev cell : ℕ → Ynd
cell n = record {
  vft = 0;
  vehicle_node_count = 0;
  ped_node_count = 0;
  unknowns = [];
  node_count = n;
  link_count = 0;
  junction_count = 0;
  heightmap_count = 0;
  ref_count = 0;
}

-- a node of area 5 with this number, without links
abbrev node : ℕ → NodeEntry
node k = record no_entry { area_id = 5; node_id = k }

abbrev nodes : Memory
nodes = memory (cell 3) (node 7 ∷ node 4 ∷ node 4 ∷ []) [] [] [] []

-- the start is a number, no place
pub by_number : follow_round nodes 7 [] (9 ∷ []) ≡ walk_left (Ok (record { end = Done; count = 1 })) (0 ∷ [])
unfolding follow_round node_call nodes_causes over_limit find_in numbers_in find first_with walk_call route
    nodes_of
by_number = refl

-- no node has the number 0, though there is a place 0
pub no_such_number : follow_round nodes 0 [] (9 ∷ []) ≡ walk_left (Err NoSuchPlace) (9 ∷ [])
unfolding follow_round node_call nodes_causes over_limit find_in numbers_in find first_with
no_such_number = refl

-- of two nodes with the number, what `node` finds: the first
pub first_of_two : follow_round nodes 4 [] (9 ∷ []) ≡ walk_left (Ok (record { end = Done; count = 1 })) (1 ∷ [])
unfolding follow_round node_call nodes_causes over_limit find_in numbers_in find first_with walk_call route
    nodes_of
first_of_two = refl

-- a number can't be missed in a list that isn't there: 7 at 0 before 13
pub nodes_not_there : follow_round (memory (cell 1) [] [] [] [] []) 0 [] (9 ∷ [])
    ≡ walk_left (Err (TooShort lent.Nodes)) (9 ∷ [])
unfolding follow_round node_call nodes_causes over_limit
nodes_not_there = refl

-- 13 before 7 at 8
pub number_before_visited : follow_round nodes 0 [] [] ≡ walk_left (Err NoSuchPlace) []
unfolding follow_round node_call nodes_causes over_limit find_in numbers_in find first_with
number_before_visited = refl
