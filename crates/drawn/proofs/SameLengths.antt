-- An edit keeps the lengths of the lists that it was lent. Assumes nothing.
use Prim.Native.Nat.{ℕ, ◌*◌}
use native.Mathlib.Omega.{arith}
use mathlib.Core.Path.{◌≡◌, refl}
use mathlib.Core.List.{List}
use lib.ListN.{length, get_or, set, length-set}
use Rattle.numbers.specs.declared.refusal.Lent.TheVariants as lent
use Rattle.numbers.specs.Positions.{quantised, dequantised}
use Rattle.records.specs.Put.{put}
use Rattle.records.proofs.Puts.{length_put}
use Rattle.cells.proofs.Editing.Conditions.{link_start, value_start}
use Rattle.cells.specs.NodeAccess.{new_node}
use Rattle.cells.specs.Memory.{Memory, memory, over_limit}
use Rattle.cells.specs.Edit.{link_range, value_range, start_at, range_kept, node_entry, link_entry, ref_entry}
use Rattle.cells.specs.Edit.{sized_entry, height_entry}
use Rattle.cells.specs.Edit as stores
use Rattle.cells.specs.Add.{more_nodes, more_links, more_refs, more_junctions, room_for, room_for_junction}
use Rattle.cells.specs.Add as adds
use Rattle.cells.specs.AddLink.{held_at, at_in, inserted, nodes_after, room_for_link}
use Rattle.cells.specs.EntryForms.{with_range, node_as_entry, junction_as_entry, moved_to}
use Rattle.cells.specs.AddLink as links
use Rattle.cells.specs.Truncate.{fewer, counted, fewer_nodes, fewer_junctions, fewer_refs}
use Rattle.cells.specs.Truncate as shorter
use Rattle.cells.specs.PutLinks.{links_start, links_after, links_call, links_stored}
use Rattle.cells.specs.PutLinks as whole-links
use Rattle.cells.specs.PutHeightmap.{values_held, values_after, map_start, map_call, map_stored, mapped}
use Rattle.cells.specs.PutHeightmap as whole-maps
use Rattle.cells.proofs.Editing.EditLaws.{held_bound}
use Rattle.cells.proofs.Editing.AddLaws.{junction_room}
use Rattle.cells.proofs.Editing.Inserted.{accepted, behind_bound, held_few}
use Rattle.cells.proofs.Editing.Replacing.{links_room, map_room}
use Rattle.drawn.specs.Changes.{Edit, edited}
use Rattle.drawn.specs.Changes.{add_node, add_link, add_ref, add_junction}
use Rattle.drawn.specs.Changes.{put_node, set_position, put_link, put_ref, put_junction, put_height}
use Rattle.drawn.specs.Changes.{put_links, put_heightmap, truncate_nodes, truncate_junctions, truncate_refs}
use Rattle.drawn.specs.Changes.{set_vft, set_vehicle_node_count, set_ped_node_count, set_unknowns}
use Rattle.drawn.proofs.Accepted.{by_answer, by_entry}
use Rattle.drawn.proofs.TidyReplaced.{place_ends}
use Rattle.drawn.proofs.TidyAdded.{inserted_long}
use Rattle.cells.proofs.Editing.LinkAdded.{after_long}
use Rattle.cells.specs.declared.junction_entry.JunctionEntry.{JunctionEntry}
use Rattle.cells.specs.declared.node_entry.NodeEntry.{NodeEntry}
use Rattle.records.specs.declared.junction_ref.NodeJunctionRef.{NodeJunctionRef}
use Rattle.cells.specs.declared.link.PathLink.{PathLink}
use Rattle.cells.specs.Nodes.{no_entry, no_link, no_ref, no_map}

pub record SameLengths (m d : Memory) : Type 0 where
  pub nodes : length d.nodes ≡ length m.nodes
  pub links : length d.links ≡ length m.links
  pub junctions : length d.junctions ≡ length m.junctions
  pub heights : length d.heights ≡ length m.heights
  pub refs : length d.refs ≡ length m.refs

pub as_long : (m : Memory) → SameLengths m m
as_long m = record { nodes = refl; links = refl; junctions = refl; heights = refl; refs = refl }

-- one list of the same length in place of one
module _ (m : Memory) where
  nodes_long : (l : List NodeEntry) → length l ≡ length m.nodes → SameLengths m
      (memory m.ynd l m.links m.junctions m.heights m.refs)
  nodes_long l e = record { nodes = e; links = refl; junctions = refl; heights = refl; refs = refl }

  links_long : (l : List PathLink) → length l ≡ length m.links → SameLengths m
      (memory m.ynd m.nodes l m.junctions m.heights m.refs)
  links_long l e = record { nodes = refl; links = e; junctions = refl; heights = refl; refs = refl }

  junctions_long : (l : List JunctionEntry) → length l ≡ length m.junctions → SameLengths m
      (memory m.ynd m.nodes m.links l m.heights m.refs)
  junctions_long l e = record { nodes = refl; links = refl; junctions = e; heights = refl; refs = refl }

  heights_long : (l : List ℕ) → length l ≡ length m.heights → SameLengths m
      (memory m.ynd m.nodes m.links m.junctions l m.refs)
  heights_long l e = record { nodes = refl; links = refl; junctions = refl; heights = e; refs = refl }

  refs_long : (l : List NodeJunctionRef) → length l ≡ length m.refs → SameLengths m
      (memory m.ynd m.nodes m.links m.junctions m.heights l)
  refs_long l e = record { nodes = refl; links = refl; junctions = refl; heights = refl; refs = e }

pub edit_long : (m : Memory) (e : Edit) → SameLengths m (edited m e).memory
unfolding edited adds.add_node links.add_link adds.add_ref adds.add_junction stores.put_node stores.set_position
    stores.put_link stores.put_ref stores.put_junction stores.put_height whole-links.put_links
    whole-maps.put_heightmap shorter.truncate_nodes shorter.truncate_junctions shorter.truncate_refs
edit_long m (add_node area at) =
    let n = m.ynd.node_count in
    let w = node_as_entry (new_node area n (dequantised (quantised at))) in
    by_answer (SameLengths m) (room_for (over_limit m.ynd) 65536 n (length m.nodes) lent.Nodes) m
    (memory (more_nodes m.ynd) (set m.nodes n w) m.links m.junctions m.heights m.refs) (as_long m)
    (λ e. record { nodes = length-set m.nodes n w; links = refl; junctions = refl; heights = refl; refs = refl })
edit_long m (add_link p x) =
    let n = m.ynd.node_count in
    let l = m.ynd.link_count in
    let e = held_at m.nodes p l in
    let at = at_in m.nodes p l in
    by_answer (SameLengths m) (room_for_link (over_limit m.ynd) n l p e (length m.nodes) (length m.links)) m
    (memory (more_links m.ynd) (nodes_after n l p m.nodes)
    (inserted at l x m.links) m.junctions m.heights m.refs) (as_long m) (λ d.
    let r = accepted (over_limit m.ynd) n l p e (length m.nodes) (length m.links) d in
    let inside = (behind_bound (link_start (get_or m.nodes p no_entry)) e l (held_few m.nodes p l)).0 in
    record {
      nodes = after_long n l p m.nodes r.place r.nodes_fit;
      links = inserted_long at l x m.links no_link inside r.links_fit;
      junctions = refl;
      heights = refl;
      refs = refl;
    })
edit_long m (add_ref r) =
    let n = m.ynd.ref_count in
    by_answer (SameLengths m) (room_for (over_limit m.ynd) 4294967295 n (length m.refs) lent.Refs) m
    (memory (more_refs m.ynd) m.nodes m.links m.junctions m.heights (set m.refs n r)) (as_long m)
    (λ e. record {
      nodes = refl;
      links = refl;
      junctions = refl;
      heights = refl;
      refs = length-set m.refs n
          r;
    })
edit_long m (add_junction j values) =
    let n = m.ynd.junction_count in
    let v = m.ynd.heightmap_count in
    let w = start_at (junction_as_entry j) v in
    by_answer (SameLengths m) (room_for_junction (over_limit m.ynd) n v (j.width * j.height) (length values)
    (length m.junctions) (length m.heights)) m
    (memory (more_junctions m.ynd (length values)) m.nodes m.links (set m.junctions n w)
    (put m.heights v values) m.refs) (as_long m) (λ e.
    let r = junction_room (over_limit m.ynd) n v (j.width * j.height) (length values) (length m.junctions)
    (length m.heights) e in
    record {
      nodes = refl;
      links = refl;
      junctions = length-set m.junctions n w;
      heights = length_put m.heights v values r.heights_fit;
      refs = refl;
    })
edit_long m (put_node p x) =
    by_entry (λ l. SameLengths m (memory m.ynd l m.links m.junctions m.heights m.refs)) (node_entry m.ynd m.nodes p)
    (range_kept (node_as_entry x)) no_entry m.nodes (as_long m) (λ i e. nodes_long m _ (length-set m.nodes i _))
edit_long m (set_position p at) =
    by_entry (λ l. SameLengths m (memory m.ynd l m.links m.junctions m.heights m.refs)) (node_entry m.ynd m.nodes p)
    (moved_to (dequantised (quantised at))) no_entry m.nodes (as_long m)
    (λ i e. nodes_long m _ (length-set m.nodes i _))
edit_long m (put_link p k x) =
    by_entry (λ l. SameLengths m (memory m.ynd m.nodes l m.junctions m.heights m.refs))
    (link_entry m.ynd m.nodes (length m.links) p k) (λ old. x) no_link m.links (as_long m)
    (λ i e. links_long m _ (length-set m.links i _))
edit_long m (put_ref p r) =
    by_entry (λ l. SameLengths m (memory m.ynd m.nodes m.links m.junctions m.heights l)) (ref_entry m.ynd m.refs p)
    (λ old. r) no_ref m.refs (as_long m) (λ i e. refs_long m _ (length-set m.refs i _))
edit_long m (put_junction p j) =
    by_entry (λ l. SameLengths m (memory m.ynd m.nodes m.links l m.heights m.refs))
    (sized_entry (over_limit m.ynd) m.ynd.junction_count (length m.junctions) p (j.width * j.height)
    (value_range m.junctions p).count)
    (λ old. start_at (junction_as_entry j) old.heightmap_ptr) no_map m.junctions (as_long m)
    (λ i e. junctions_long m _ (length-set m.junctions i _))
edit_long m (put_height p k v) =
    by_entry (λ l. SameLengths m (memory m.ynd m.nodes m.links m.junctions l m.refs))
    (height_entry m.ynd m.junctions (length m.heights) p k) (λ x. v) 0 m.heights (as_long m)
    (λ i e. heights_long m _ (length-set m.heights i _))
edit_long m (put_links p ls) =
    let l = m.ynd.link_count in
    let c = length ls in
    let at = links_start m p c in
    let after = links_after m p c in
    by_answer (SameLengths m) (links_call m p c) m (links_stored m p ls) (as_long m) (λ d.
    let r = links_room (over_limit m.ynd) m.ynd.node_count p c after (length m.nodes) (length m.links) d in
    let place = place_ends (link_start (get_or m.nodes p no_entry)) (held_at m.nodes p l) c l
    (held_bound (link_range m.nodes p) l).0 in
    record {
      nodes = length-set m.nodes p (with_range (get_or m.nodes p no_entry) at c);
      links = length_put m.links at ls (omega (arith, place, r.links_fit));
      junctions = refl;
      heights = refl;
      refs = refl;
    })
edit_long m (put_heightmap p width height values) =
    let l = m.ynd.heightmap_count in
    let c = length values in
    let at = map_start m p c in
    let after = values_after m p c in
    by_answer (SameLengths m) (map_call m p c (width * height)) m (map_stored m p width height values) (as_long m)
    (λ d.
    let r = map_room (over_limit m.ynd) m.ynd.junction_count p c (width * height) after (length m.junctions)
    (length m.heights) d in
    let place = place_ends (value_start (get_or m.junctions p no_map)) (values_held m p) c l
    (held_bound (value_range m.junctions p) l).0 in
    record {
      nodes = refl;
      links = refl;
      junctions = length-set m.junctions p (mapped width height at (get_or m.junctions p no_map));
      heights = length_put m.heights at values (omega (arith, place, r.heights_fit));
      refs = refl;
    })
edit_long m (truncate_nodes k) =
    by_answer (SameLengths m) (fewer (over_limit m.ynd) m.ynd.node_count k) m (counted (fewer_nodes m.ynd k) m)
    (as_long m)
    (λ e. record { nodes = refl; links = refl; junctions = refl; heights = refl; refs = refl })
edit_long m (truncate_junctions k) =
    by_answer (SameLengths m) (fewer (over_limit m.ynd) m.ynd.junction_count k) m
    (counted (fewer_junctions m.ynd k) m) (as_long m)
    (λ e. record { nodes = refl; links = refl; junctions = refl; heights = refl; refs = refl })
edit_long m (truncate_refs k) =
    by_answer (SameLengths m) (fewer (over_limit m.ynd) m.ynd.ref_count k) m (counted (fewer_refs m.ynd k) m)
    (as_long m)
    (λ e. record { nodes = refl; links = refl; junctions = refl; heights = refl; refs = refl })
edit_long m (set_vft v) = record { nodes = refl; links = refl; junctions = refl; heights = refl; refs = refl }
edit_long m (set_vehicle_node_count v) =
    record { nodes = refl; links = refl; junctions = refl; heights = refl; refs = refl }
edit_long m (set_ped_node_count v) =
    record { nodes = refl; links = refl; junctions = refl; heights = refl; refs = refl }
edit_long m (set_unknowns words) = record { nodes = refl; links = refl; junctions = refl; heights = refl; refs = refl }
