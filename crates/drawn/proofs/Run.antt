-- Every cell that calls can make is tidy.
-- Assumes nothing but that the arguments fit their types.
use Prim.Native.Nat.{ℕ}
use mathlib.Core.Path.{◌≡◌, refl}
use mathlib.Core.List.{List, [], ◌∷◌}
use lib.ListN.{length}
use Rattle.std.specs.Prelude.{Ok, Err}
use Rattle.numbers.specs.Refusals.{Answer}
use Rattle.cells.specs.Memory.{Memory}
use Rattle.cells.specs.Read.{read_of}
use Rattle.drawn.specs.Tidy.{Tidy}
use Rattle.drawn.specs.Changes.{Edit, edited, Change, new, reading, renumbering, write_read, edit, after, run}
use Rattle.drawn.specs.Changes.{add_node, add_link, add_ref, add_junction}
use Rattle.drawn.specs.Changes.{put_node, set_position, put_link, put_ref, put_junction, put_height}
use Rattle.drawn.specs.Changes.{put_links, put_heightmap, truncate_nodes, truncate_junctions, truncate_refs}
use Rattle.drawn.specs.Changes.{set_vft, set_vehicle_node_count, set_ped_node_count, set_unknowns}
use Rattle.drawn.proofs.ReadRefused.{read_refused}
use Rattle.drawn.specs.Fits.{EditFits, ChangeFits}
use Rattle.drawn.proofs.TidyCalls.{new_tidy, read_tidy, renumber_tidy, write_read_tidy}
use Rattle.drawn.proofs.TidyStored.{put_node_tidy, set_position_tidy, put_link_tidy, put_ref_tidy, put_junction_tidy}
use Rattle.drawn.proofs.TidyStored.{put_height_tidy}
use Rattle.drawn.proofs.TidyReplaced.{own_tidy, truncate_nodes_tidy, truncate_junctions_tidy, truncate_refs_tidy}
use Rattle.drawn.proofs.TidyReplaced.{put_links_tidy, put_heightmap_tidy}
use Rattle.drawn.proofs.TidyAdded.{add_node_tidy, add_link_tidy, add_ref_tidy, add_junction_tidy}
use Rattle.drawn.specs.Fits.{AllFit}

pub edit_tidy : (m : Memory) → Tidy m → (e : Edit) → EditFits e → Tidy (edited m e).memory
unfolding edited
edit_tidy m h (add_node area at) fits = add_node_tidy m h area at
edit_tidy m h (add_link p x) fits = add_link_tidy m h p x
edit_tidy m h (add_ref r) fits = add_ref_tidy m h r
edit_tidy m h (add_junction j values) fits = add_junction_tidy m h j values
edit_tidy m h (put_node p x) fits = put_node_tidy m h p x
edit_tidy m h (set_position p at) fits = set_position_tidy m h p at
edit_tidy m h (put_link p k x) fits = put_link_tidy m h p k x
edit_tidy m h (put_ref p r) fits = put_ref_tidy m h p r
edit_tidy m h (put_junction p j) fits = put_junction_tidy m h p j
edit_tidy m h (put_height p k v) fits = put_height_tidy m h p k v
edit_tidy m h (put_links p ls) fits = put_links_tidy m h p ls
edit_tidy m h (put_heightmap p width height values) fits = put_heightmap_tidy m h p width height values
edit_tidy m h (truncate_nodes k) fits = truncate_nodes_tidy m h k
edit_tidy m h (truncate_junctions k) fits = truncate_junctions_tidy m h k
edit_tidy m h (truncate_refs k) fits = truncate_refs_tidy m h k
edit_tidy m h (set_vft v) fits = own_tidy m h v m.ynd.vehicle_node_count m.ynd.ped_node_count m.ynd.unknowns
edit_tidy m h (set_vehicle_node_count v) fits = own_tidy m h m.ynd.vft v m.ynd.ped_node_count m.ynd.unknowns
edit_tidy m h (set_ped_node_count v) fits = own_tidy m h m.ynd.vft m.ynd.vehicle_node_count v m.ynd.unknowns
edit_tidy m h (set_unknowns words) fits = own_tidy m h m.ynd.vft m.ynd.vehicle_node_count m.ynd.ped_node_count words

-- ---- lists of calls

pub reading_tidy : (s g : List ℕ) (m : Memory) → Tidy m → Tidy (read_of s g m).memory
reading_tidy s g m h = go (read_of s g m).answer refl
  where
    go : (a : Answer) → (read_of s g m).answer ≡ a → Tidy (read_of s g m).memory
    go (Ok tt) e = read_tidy s g m e
    go (Err cause) e = rw (read_refused s g m cause e) h

pub change_tidy : (m : Memory) → Tidy m → (k : Change) → ChangeFits k → Tidy (after m k)
unfolding after
change_tidy m h new fits = new_tidy m.nodes m.links m.junctions m.heights m.refs
change_tidy m h (reading s g) fits = reading_tidy s g m h
change_tidy m h (renumbering scratch places) fits = renumber_tidy m (length scratch) places h
change_tidy m h (write_read section) fits = write_read_tidy m section h
change_tidy m h (edit e) fits = edit_tidy m h e fits

pub run_tidy : (m : Memory) → Tidy m → (ks : List Change) → AllFit ks → Tidy (run m ks)
unfolding run AllFit
run_tidy m h [] fits = h
run_tidy m h (k ∷ ks) fits = run_tidy (after m k) (change_tidy m h k fits.0) ks fits.1

-- from a new cell, in whatever lists are lent; from any accepted reading, into whatever memory is lent
pub made_new : (lent : Memory) (ks : List Change) → AllFit ks → Tidy (run (after lent new) ks)
unfolding after
made_new lent ks fits = run_tidy (after lent new)
    (new_tidy lent.nodes lent.links lent.junctions lent.heights lent.refs) ks fits

pub made_read : (system graphics : List ℕ) (lent : Memory) → (read_of system graphics lent).answer ≡ (Ok tt)
    → (ks : List Change) → AllFit ks → Tidy (run (read_of system graphics lent).memory ks)
made_read system graphics lent e ks fits = run_tidy (read_of system graphics lent).memory
    (read_tidy system graphics lent e) ks fits
