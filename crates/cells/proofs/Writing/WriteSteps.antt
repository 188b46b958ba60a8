-- The call's answer, by the tests that lead to it.
use Prim.Native.Nat.{ℕ, ◌+◌, ◌*◌, ◌≤◌}
use native.Mathlib.Omega.{arith}
use mathlib.Core.Path.{◌≡◌, refl, sym, ap, ◌∙◌}
use mathlib.Core.Bool.{Bool, true, false}
use mathlib.Core.List.{List, [], ◌∷◌, ◌++◌, map}
use lib.Dec.{ltb}
use lib.ListN.{length, drop}
use borrow.Author.Tests.{le-ltb, le-leb, ltb-false}
use Rattle.records.specs.Layout.{sizes, places_of, header_size, header_bytes, lay, section_bytes}
use Rattle.records.specs.Put.{put, stored_to}
use Rattle.records.proofs.Puts.{put_start, then}
use Rattle.records.proofs.Laid.{lay_total, header_length, section_length}
use Rattle.records.specs.declared.layout.Places.{Places}
use Rattle.cells.specs.Entries.{links_in, values_in}
use Rattle.cells.specs.WriteChecks.{links_within, values_within, maps_cut, accepted, check_nodes, check_junctions}
use Rattle.cells.specs.Blocks.{refs_block, junctions_block, links_block, nodes_block, arrays, blocks, root_for}
use Rattle.cells.specs.Blocks.{written}
use Rattle.cells.specs.Memory.{Memory, over_limit}
use Rattle.cells.specs.Write.{WriteLeft, left, refuse, or_else, after, stored, write_held}
use Rattle.cells.specs.WriteCounts.{write_counts, Cut, Counted, Sized}
use Rattle.std.specs.List.{All}
use Rattle.cells.specs.declared.counts.Counts.{Counts}
use Rattle.cells.proofs.Sequences.Tests.{by_test}
use Rattle.cells.proofs.Forms.Limits.{within}
use Rattle.cells.proofs.Writing.BlockLaws.{nodes_length, links_length, junctions_length, refs_length}
use Rattle.cells.proofs.Writing.Ranges.{link_count_law, value_count_law, node_counts, junction_counts}
use Rattle.cells.proofs.Writing.WriteTotals.{nodes_total, junctions_total}
use Rattle.std.specs.Prelude.{Result, Ok, Err}
use Rattle.numbers.specs.Refusals.{Answer, done, refuse_if, and_then}
use Rattle.numbers.specs.declared.refusal.Refusal.{Refusal}
use Rattle.numbers.specs.declared.refusal.Refusal.TheVariants.{TooManyRefs, WrongSize, AtLimit}
use Rattle.cells.specs.declared.node_entry.NodeEntry.{NodeEntry}
use Rattle.cells.specs.declared.link.PathLink.{PathLink}
use Rattle.cells.specs.declared.junction_entry.JunctionEntry.{JunctionEntry}

-- ---- the checks 14, 12 and 8 to 11

-- the counts by the list, and by its length
pub nodes_say : (links : List PathLink) (place before : ℕ) (ns : List NodeEntry)
    → check_nodes (links_within (length links)) place before ns
    ≡ check_nodes (λ n. length (links_in links n)) place before ns
nodes_say links place before ns = ap (λ (f : NodeEntry → ℕ). check_nodes f place before ns) (sym (node_counts links))

pub junctions_say : (heights : List ℕ) (place before : ℕ) (js : List JunctionEntry)
    → check_junctions (values_within (length heights)) place before js
    ≡ check_junctions (λ j. length (values_in heights j)) place before js
junctions_say heights place before js = ap (λ (f : JunctionEntry → ℕ). check_junctions f place before js)
    (sym (junction_counts heights))

module _ (h : Memory) where
  abbrev answer : Result Counts Refusal
  answer = write_counts h

  pub ready : Cut h → (k : Counts) → k.heights ≤ 131070 → All Sized h.junctions → answer ≡ Ok k → Counted h k
  unfolding write_counts
  ready cut k heights sized told =
      by_test (over_limit h.ynd)
      (λ t.
      let r : Err AtLimit ≡ Ok k = rw t at told in
      cc)
      (λ o. by_test (maps_cut h.ynd.heightmap_count h.junctions)
      (λ t.
      let r : Err WrongSize ≡ Ok k = rw (o, t) at told in
      cc)
      (λ w. go o w (check_nodes (links_within (length h.links)) 0 0 h.nodes)
      (check_junctions (values_within (length h.heights)) 0 0 h.junctions) refl refl))
    where
      go : over_limit h.ynd ≡ false → maps_cut h.ynd.heightmap_count h.junctions ≡ false → (a b : Result ℕ Refusal)
          → check_nodes (links_within (length h.links)) 0 0 h.nodes ≡ a
          → check_junctions (values_within (length h.heights)) 0 0 h.junctions ≡ b → Counted h k
      go o w (Err x) b ea eb =
          let r : Err x ≡ Ok k = rw (o, w, sym (nodes_say h.links 0 0 h.nodes) ∙ ea) at told in
          cc
      go o w (Ok l) (Err x) ea eb =
          let r : Err x ≡ Ok k = rw (
            o,
            w,
            sym (nodes_say h.links 0 0 h.nodes)
                ∙ ea,
            sym (junctions_say h.heights 0 0 h.junctions) ∙ eb,
          ) at told in
          cc
      go o w (Ok l) (Ok v) ea eb =
          by_test (ltb 65535 h.ynd.ref_count)
          (λ t.
          let r : Err TooManyRefs ≡ Ok k = rw (
            o,
            w,
            sym (nodes_say h.links 0 0 h.nodes)
                ∙ ea,
            sym (junctions_say h.heights 0 0 h.junctions) ∙ eb,
            t,
          ) at told in
          cc)
          (λ u.
          let r : Ok (record {
            nodes = length h.nodes;
            links = l;
            junctions = length h.junctions;
            heights = v;
            refs = length h.refs;
          }) ≡ Ok k = rw (
            o,
            w,
            sym (nodes_say h.links 0 0 h.nodes)
                ∙ ea,
            sym (junctions_say h.heights 0 0 h.junctions) ∙ eb,
            u,
          ) at told in
          let e : ◌≡◌ {A = Counts} (record {
            nodes = length h.nodes;
            links = l;
            junctions = length h.junctions;
            heights = v;
            refs = length h.refs;
          }) k = cc in
          let p = nodes_total (links_in h.links) (links_within (length h.links)) (link_count_law h.links) 0 0
          h.nodes l (omega arith) ea in
          let q = junctions_total (values_in h.heights) (values_within (length h.heights))
          (value_count_law h.heights) 0 0 h.junctions v eb in
          let few = ltb-false 65535 h.ynd.ref_count u in
          let limits = within h.ynd o in
          record {
            nodes_told = ap accepted ea;
            junctions_told = ap accepted eb;
            nodes_are = sym (ap (λ (x : Counts). x.nodes) e);
            nodes_few = omega (arith, ap (λ (x : Counts). x.nodes) e, cut.nodes_cut, limits.0);
            links_are = omega (arith, ap (λ (x : Counts). x.links) e, p.0);
            links_few = omega (arith, ap (λ (x : Counts). x.links) e, p.1);
            junctions_are = sym (ap (λ (x : Counts). x.junctions) e);
            junctions_few = omega (arith, ap (λ (x : Counts). x.junctions) e, cut.junctions_cut, limits.1);
            heights_are = omega (arith, ap (λ (x : Counts). x.heights) e, q);
            heights_few = heights;
            refs_are = sym (ap (λ (x : Counts). x.refs) e);
            refs_few = omega (arith, ap (λ (x : Counts). x.refs) e, cut.refs_cut, few);
            sized = sized;
            maps_told = w;
          })

-- ---- where what is counted is written

module _ (h : Memory) (k : Counts) (t : Counted h k) where
  -- the arrays' sizes
  pub refs_are : 8 * k.refs ≡ length (refs_block h.refs)
  refs_are = omega (arith, t.refs_are, refs_length h.refs)

  pub junctions_are : 12 * k.junctions ≡ length (junctions_block h.heights h.junctions)
  junctions_are = omega (arith, t.junctions_are, junctions_length h.heights h.junctions)

  pub links_are : 8 * k.links ≡ length (links_block h.links h.nodes)
  links_are = omega (arith, t.links_are, links_length h.links h.nodes)

  pub nodes_are : 40 * k.nodes ≡ length (nodes_block h.links h.nodes)
  nodes_are = omega (arith, t.nodes_are, nodes_length h.links h.nodes)

  sized : ◌≡◌ {A = List ℕ} (sizes k.refs k.heights k.junctions k.links k.nodes) (map length (blocks h))
  unfolding arrays
  sized =
      let r : k.refs * 8 ≡ length (refs_block h.refs) = omega (arith, refs_are) in
      let j : k.junctions * 12 ≡ length (junctions_block h.heights h.junctions) = omega (arith, junctions_are) in
      let l : k.links * 8 ≡ length (links_block h.links h.nodes) = omega (arith, links_are) in
      let n : k.nodes * 40 ≡ length (nodes_block h.links h.nodes) = omega (arith, nodes_are) in
      λ i. r i ∷ t.heights_are i ∷ j i ∷ l i ∷ n i ∷ []

  module _ (p : Places) (e : p ≡ places_of (sizes k.refs k.heights k.junctions k.links k.nodes)) where
    pub placed : p ≡ places_of (map length (blocks h))
    placed = e ∙ ap places_of sized

    pub ending : p.total ≡ length (written h)
    unfolding places_of written
    ending = ap (λ (x : Places). x.total) placed ∙ sym (section_length (root_for h (map length (blocks h))) (blocks h))

    -- the root that the code makes
    pub rooted : record {
      vft = h.ynd.vft;
      nodes = p.nodes;
      node_count = k.nodes;
      vehicle_node_count = h.ynd.vehicle_node_count;
      ped_node_count = h.ynd.ped_node_count;
      links = p.links;
      link_count = k.links;
      junctions = p.junctions;
      heightmap = p.heightmap;
      refs = p.refs;
      ref_count = k.refs;
      junction_count = k.junctions;
      heightmap_count = k.heights;
      unknowns = h.ynd.unknowns;
    } ≡ root_for h (map length (blocks h))
    unfolding root_for
    rooted = λ i. record {
      vft = h.ynd.vft;
      nodes = (placed i).nodes;
      node_count = t.nodes_are i;
      vehicle_node_count = h.ynd.vehicle_node_count;
      ped_node_count = h.ynd.ped_node_count;
      links = (placed i).links;
      link_count = t.links_are i;
      junctions = (placed i).junctions;
      heightmap = (placed i).heightmap;
      refs = (placed i).refs;
      ref_count = t.refs_are i;
      junction_count = t.junctions_are i;
      heightmap_count = t.heights_are i;
      unknowns = h.ynd.unknowns;
    }

-- ---- then 7

abbrev pub counts_of : Memory → Result Counts Refusal
counts_of h = write_counts h

module _ (h : Memory) (lack : Answer) (s : List ℕ) where
  abbrev next : WriteLeft
  next = after lack s (stored h s)

  abbrev if_counted : Result Counts Refusal → WriteLeft
  if_counted (Err cause) = refuse cause s
  if_counted (Ok k) = next

  by_counts : if_counted (counts_of h) ≡ write_held h lack s
  unfolding write_held write_counts
  by_counts =
      go (over_limit h.ynd) (maps_cut h.ynd.heightmap_count h.junctions)
      (check_nodes (λ n. length (links_in h.links n)) 0 0 h.nodes)
      (check_junctions (λ j. length (values_in h.heights j)) 0 0 h.junctions)
      (ltb 65535 h.ynd.ref_count)
    where
      go : (o w : Bool) (a b : Result ℕ Refusal) (c : Bool)
          → if_counted (refuse_if o AtLimit (refuse_if w WrongSize (and_then a λ l. and_then b λ v. refuse_if c
          TooManyRefs (Ok (record {
            nodes = length h.nodes;
            links = l;
            junctions = length h.junctions;
            heights =
                v;
            refs = length h.refs;
          })))))
          ≡ or_else o (refuse AtLimit s) (or_else w (refuse WrongSize s)
          (after a s (after b s (or_else c (refuse TooManyRefs s) next))))
      go true w a b c = refl
      go false true a b c = refl
      go false false (Err x) b c = refl
      go false false (Ok l) (Err x) c = refl
      go false false (Ok l) (Ok v) true = refl
      go false false (Ok l) (Ok v) false = refl

  pub counts_refused : (cause : Refusal) → counts_of h ≡ Err cause → refuse cause s ≡ write_held h lack s
  counts_refused cause e = ap if_counted (sym e) ∙ by_counts

  module _ (k : Counts) (e : counts_of h ≡ Ok k) where
    pub list_refused : (cause : Refusal) → lack ≡ Err cause → refuse cause s ≡ write_held h lack s
    list_refused cause g = ap (λ (c : Answer). after c s (stored h s)) (sym g) ∙ ap if_counted (sym e) ∙ by_counts

    pub goes_on : lack ≡ Ok tt → stored h s ≡ write_held h lack s
    goes_on g = ap (λ (c : Answer). after c s (stored h s)) (sym g) ∙ ap if_counted (sym e) ∙ by_counts

-- the header and the arrays behind it
pub arrays_room : (h : Memory) → length (written h) ≡ header_size + length (lay header_size (blocks h))
unfolding written
arrays_room h = section_length (root_for h (map length (blocks h))) (blocks h) ∙ sym (lay_total header_size (blocks h))

-- a section that has room
pub stored_fits : (h : Memory) (s : List ℕ) → length (written h) ≤ length s → stored h s
    ≡ left (Ok (length (written h))) (written h ++ drop (length (written h)) s)
unfolding stored
stored_fits h s fits = rw (le-ltb (length s) (length (written h)) fits)

-- what ends inside is stored
pub stored_in : (end len : ℕ) → end ≤ len → stored_to end len ≡ done
stored_in end len h = rw (le-leb end len h)

-- the header put, and the arrays behind it
pub section_put : (h : Memory) (s : List ℕ) → length (written h) ≤ length s
    → put (put s 0 (header_bytes (root_for h (map length (blocks h))))) header_size (lay header_size (blocks h))
    ≡ written h ++ drop (length (written h)) s
unfolding written section_bytes
section_put h s fits =
    let r = root_for h (map length (blocks h)) in
    then s _ _ 0 header_size (header_bytes r) (lay header_size (blocks h)) refl refl
    (omega (arith, header_length r)) (omega arith) ∙ put_start s (written h)
