-- Answers at named inputs of the stores of own words, shorter lists, all links of a node and heightmaps.
-- Assumes nothing.
use Prim.Native.Nat.{ℕ}
use mathlib.Core.Path.{◌≡◌, refl}
use mathlib.Core.List.{List, [], ◌∷◌}
use lib.ListN.{replicate}
use Rattle.records.specs.Put.{put}
use Rattle.cells.specs.Memory.{Memory, memory, refuse, over_limit}
use Rattle.cells.specs.Edit.{held_in}
use Rattle.cells.specs.Add.{with_counts, done}
use Rattle.cells.specs.Nodes.{no_entry, no_link, no_map, no_ref}
use Rattle.cells.specs.EntryForms.{with_range}
use Rattle.cells.specs.Truncate.{fewer, truncate_nodes, truncate_refs}
use Rattle.cells.specs.Replace.{place_for, pool_after}
use Rattle.cells.specs.PutLinks.{room_for_links, put_links}
use Rattle.cells.specs.PutHeightmap.{room_for_map, mapped, put_heightmap}
use Rattle.cells.specs.declared.ynd.Ynd.{Ynd}
use Rattle.cells.specs.declared.node_entry.NodeEntry.{NodeEntry}
use Rattle.cells.specs.declared.link.PathLink.{PathLink}
use Rattle.cells.specs.declared.junction_entry.JunctionEntry.{JunctionEntry}
use Rattle.std.specs.Prelude.{Err}
use Rattle.numbers.specs.declared.refusal.Refusal.TheVariants.{TooShort, WrongSize, NoSuchPlace, AtLimit}
use Rattle.numbers.specs.declared.refusal.Lent.TheVariants as lent

-- nodes, links, junctions and values counted
abbrev counts : ℕ → ℕ → ℕ → ℕ → Ynd
counts n l j h = record {
  vft = 9;
  vehicle_node_count = 2;
  ped_node_count = 0;
  unknowns = replicate 7 0;
  node_count = n;
  link_count = l;
  junction_count = j;
  heightmap_count = h;
  ref_count = 1;
}

-- a node with c links from s and five tags, a junction with a map of this size from s, a link to a number
abbrev node : ℕ → ℕ → NodeEntry
node c s =
    record no_entry {
      area_id = 7;
      flags2 = 5;
      link_count = c;
      link_id = s;
      unused0 = 71;
      unused1 = 72;
      unused2 = 73;
      unused3 = 74;
      unused4 = 75;
    }

abbrev junction : ℕ → ℕ → ℕ → JunctionEntry
junction width height s = record no_map { width = width; height = height; heightmap_ptr = s }

abbrev link : ℕ → PathLink
link k = record no_link { area_id = 7; node_id = k }

-- two nodes, with two links and one; two junctions, with two values and one; room for three links and four values more
abbrev links : List PathLink
links = link 1 ∷ link 2 ∷ link 3 ∷ link 0 ∷ link 0 ∷ link 0 ∷ []

abbrev heights : List ℕ
heights = 11 ∷ 12 ∷ 13 ∷ 0 ∷ 0 ∷ 0 ∷ 0 ∷ []

abbrev yard : Memory
yard = memory (counts 2 3 2 3) (node 2 0 ∷ node 1 2 ∷ []) links (junction 2 1 0 ∷ junction 1 1 2 ∷ []) heights
    (no_ref ∷ [])

-- ---- all links of a node

-- fewer stand where the old ones stood, and no other range moves
pub fewer_links : put_links yard 0 (link 8 ∷ [])
    ≡ done (memory (counts 2 3 2 3) (node 1 0 ∷ node 1 2 ∷ [])
    (link 8 ∷ link 2 ∷ link 3 ∷ link 0 ∷ link 0 ∷ link 0 ∷ []) yard.junctions heights yard.refs)
unfolding put_links room_for_links over_limit place_for pool_after held_in with_range put with_counts
fewer_links = refl

-- as many, too
pub as_many_links : put_links yard 0 (link 8 ∷ link 9 ∷ [])
    ≡ done (memory (counts 2 3 2 3) (node 2 0 ∷ node 1 2 ∷ [])
    (link 8 ∷ link 9 ∷ link 3 ∷ link 0 ∷ link 0 ∷ link 0 ∷ []) yard.junctions heights yard.refs)
unfolding put_links room_for_links over_limit place_for pool_after held_in with_range put with_counts
as_many_links = refl

-- more stand behind all others
pub more_links_law : put_links yard 0 (link 8 ∷ link 9 ∷ link 10 ∷ [])
    ≡ done (memory (counts 2 6 2 3) (node 3 3 ∷ node 1 2 ∷ [])
    (link 1 ∷ link 2 ∷ link 3 ∷ link 8 ∷ link 9 ∷ link 10 ∷ []) yard.junctions heights yard.refs)
unfolding put_links room_for_links over_limit place_for pool_after held_in with_range put with_counts
more_links_law = refl

-- cleared
pub no_links : put_links yard 1 []
    ≡ done (memory (counts 2 3 2 3) (node 2 0 ∷ node 0 0 ∷ []) links yard.junctions heights yard.refs)
unfolding put_links room_for_links over_limit place_for pool_after held_in with_range put with_counts
no_links = refl

-- 13 before 14, 14 before 7, 7 with its place
pub no_such_node : put_links yard 2 (replicate 256 (link 8)) ≡ refuse NoSuchPlace yard
unfolding put_links room_for_links over_limit place_for pool_after held_in
no_such_node = refl

pub too_many_links : put_links yard 1 (replicate 256 (link 8)) ≡ refuse AtLimit yard
unfolding put_links room_for_links over_limit place_for pool_after held_in
too_many_links = refl

pub links_lacking : put_links yard 1 (replicate 4 (link 8)) ≡ refuse (TooShort lent.Links) yard
unfolding put_links room_for_links over_limit place_for pool_after held_in
links_lacking = refl

-- a struct over a limit, whichever lists the call is lent
pub over_junctions : room_for_links (over_limit (counts 2 3 4097 3)) 2 1 0 3 0 0 ≡ Err AtLimit
unfolding room_for_links over_limit
over_junctions = refl

pub at_the_limits : over_limit (counts 65536 3 4096 3) ≡ over_limit (counts 0 0 0 0)
unfolding over_limit
at_the_limits = refl

-- the count of all links would pass 32 bits
pub links_past_words : room_for_links (over_limit (counts 2 4294967295 2 3)) 2 1 2 (pool_after 1 2 4294967295) 2 6
    ≡ Err AtLimit
unfolding room_for_links over_limit pool_after
links_past_words = refl

-- ---- a heightmap

pub smaller_map : put_heightmap yard 0 1 1 (21 ∷ [])
    ≡ done (memory (counts 2 3 2 3) yard.nodes links (junction 1 1 0 ∷ junction 1 1 2 ∷ [])
    (21 ∷ 12 ∷ 13 ∷ 0 ∷ 0 ∷ 0 ∷ 0 ∷ []) yard.refs)
unfolding put_heightmap room_for_map over_limit place_for pool_after held_in mapped put with_counts
smaller_map = refl

-- of other sides, and as many values
pub turned_map : put_heightmap yard 0 1 2 (21 ∷ 22 ∷ [])
    ≡ done (memory (counts 2 3 2 3) yard.nodes links (junction 1 2 0 ∷ junction 1 1 2 ∷ [])
    (21 ∷ 22 ∷ 13 ∷ 0 ∷ 0 ∷ 0 ∷ 0 ∷ []) yard.refs)
unfolding put_heightmap room_for_map over_limit place_for pool_after held_in mapped put with_counts
turned_map = refl

pub larger_map : put_heightmap yard 0 2 2 (21 ∷ 22 ∷ 23 ∷ 24 ∷ [])
    ≡ done (memory (counts 2 3 2 7) yard.nodes links (junction 2 2 3 ∷ junction 1 1 2 ∷ [])
    (11 ∷ 12 ∷ 13 ∷ 21 ∷ 22 ∷ 23 ∷ 24 ∷ []) yard.refs)
unfolding put_heightmap room_for_map over_limit place_for pool_after held_in mapped put with_counts
larger_map = refl

pub no_values : put_heightmap yard 1 5 0 []
    ≡ done (memory (counts 2 3 2 3) yard.nodes links (junction 2 1 0 ∷ junction 5 0 0 ∷ []) heights yard.refs)
unfolding put_heightmap room_for_map over_limit place_for pool_after held_in mapped put with_counts
no_values = refl

-- 12 before 7
pub not_its_size : put_heightmap yard 1 2 3 (replicate 5 1) ≡ refuse WrongSize yard
unfolding put_heightmap room_for_map over_limit place_for pool_after held_in
not_its_size = refl

pub values_lacking : put_heightmap yard 1 5 1 (replicate 5 1) ≡ refuse (TooShort lent.Heightmap) yard
unfolding put_heightmap room_for_map over_limit place_for pool_after held_in
values_lacking = refl

-- ---- shorter lists

pub one_node_law : truncate_nodes yard 1
    ≡ done (memory (counts 1 3 2 3) yard.nodes links yard.junctions heights yard.refs)
unfolding truncate_nodes fewer over_limit with_counts
one_node_law = refl

pub same_refs : truncate_refs yard 1 ≡ done yard
unfolding truncate_refs fewer over_limit with_counts
same_refs = refl

pub three_of_two : truncate_nodes yard 3 ≡ refuse NoSuchPlace yard
unfolding truncate_nodes fewer over_limit
three_of_two = refl
