-- Refusals that never come on a tidy cell in its own lists: 7 for a list shorter than its count, 14 for a struct over
-- a
-- limit, 12 for a heightmap that is cut. What each call says instead. Assumes nothing.
use Prim.Native.Nat.{ℕ, suc, ◌+◌, ◌≤◌, ◌<◌}
use native.Mathlib.Omega.{arith}
use mathlib.Core.Path.{◌≡◌, refl, ◌∙◌}
use mathlib.Core.Bool.{false, not, cond}
use mathlib.Core.List.{List, [], ◌∷◌}
use lib.Dec.{eqb, ltb, leb}
use lib.ListN.{length, get_or, take}
use lib.Seq.{get_or-take, length-take-le}
use lib.ListN.{get_elem?}
use borrow.Author.Tests.{le-ltb, lt-ltb, lt-leb, leb-false, ltb-true, ltb-false}
use Rattle.std.specs.Prelude.{Ok, Err}
use Rattle.numbers.specs.Refusals.{Answer, when, decided, refuse_if}
use Rattle.numbers.specs.declared.refusal.Refusal.TheVariants.{TooShort, TooManyRefs, WrongSize, NoSuchPlace, AtLimit}
use Rattle.numbers.specs.declared.refusal.Lent.{Lent}
use Rattle.numbers.specs.declared.refusal.Lent.TheVariants as lent
use Rattle.records.specs.Put.{put}
use Rattle.cells.proofs.Editing.Conditions.{link_start, link_count, value_start}
use Rattle.cells.specs.Nodes.{value_count, first_area, no_entry, no_map}
use Rattle.cells.specs.Memory.{Memory, over_limit, short, nodes_causes}
use Rattle.cells.specs.Edit.{entry_at, range_entry, sized_entry, held_in, node_entry, link_entry, ref_entry}
use Rattle.cells.specs.Edit.{junction_entry, height_entry}
use Rattle.cells.specs.AddLink.{room_for_link}
use Rattle.cells.specs.Add.{room_for, room_for_junction}
use Rattle.cells.specs.PutLinks.{room_for_links, links_after, links_call}
use Rattle.cells.specs.PutHeightmap.{room_for_map, values_after, map_call}
use Rattle.cells.specs.Truncate.{fewer}
use Rattle.cells.specs.Renumber.{answer_of, left_by, renumber}
use Rattle.cells.specs.Write.{held, write_held, write_call, WriteLeft, refuse, or_else, stored}
use Rattle.cells.specs.Write as write
use Rattle.cells.specs.Entries.{links_in, values_in}
use Rattle.cells.specs.WriteChecks.{values_within, maps_cut, check_nodes, check_junctions}
use Rattle.cells.specs.LookupCall.{area_of_first, area_id_call, find_in, node_call, below, place_of, ref_in}
use Rattle.cells.specs.LookupCall.{junction_of_call}
use Rattle.cells.specs.CellOf.{nodes_of, cell_of}
use Rattle.cells.specs.Cell.{numbers}
use Rattle.cells.proofs.Sequences.Tests.{by_test}
use Rattle.cells.proofs.Forms.Limits.{not_over}
use Rattle.walks.specs.Sound.{sound}
use Rattle.walks.specs.SoundCall.{sound_left, verdict, indexed, sound_call}
use Rattle.walks.specs.Walk.{link_at, shown_of}
use Rattle.walks.specs.WalkCall.{route, walk_call}
use Rattle.walks.specs.Shown.{seen_node, or_none, or_no_link, values_at, values_left, shown_node, shown_junction}
use Rattle.walks.specs.Shown.{shown_values, shown_link}
use Rattle.walks.proofs.WalksAlike.{route_left}
use Rattle.drawn.specs.Tidy.{Tidy}
use Rattle.drawn.proofs.TidyAsRead.{never_short}
use Rattle.cells.specs.declared.junction_entry.JunctionEntry.{JunctionEntry}

-- ---- entries and ranges in general

entry_fits : (n len : ℕ) (list : Lent) (p : ℕ) → n ≤ len
    → entry_at false n len list p ≡ refuse_if (leb n p) NoSuchPlace (Ok p)
unfolding entry_at
entry_fits n len list p h = by_test (leb n p) (λ t. rw t) (λ f. rw (f, le-ltb len n h))

-- all of a range is held
all_held : (s c l : ℕ) → (0 < c → s + c ≤ l) → held_in (record { start = s; count = c }) l ≡ c
unfolding held_in
all_held s c l h =
    by_test (ltb 0 c) (λ t. let k = h (ltb-true 0 c t) in omega arith) (λ f. omega (arith, ltb-false 0 c f))

range_fits : (n len : ℕ) (a : Lent) (l pool : ℕ) (b : Lent) (p s c k : ℕ) → n ≤ len → l ≤ pool
    → (p < n → 0 < c → s + c ≤ l)
    → range_entry false n len a l pool b p (record { start = s; count = c }) k
    ≡ refuse_if (leb n p) NoSuchPlace (refuse_if (leb c k) NoSuchPlace (Ok (s + k)))
unfolding range_entry
range_fits n len a l pool b p s c k h g inside = by_test (leb n p)
    (λ t. rw t)
    (λ f.
    let lent : p < len = omega (arith, leb-false n p f) in
    let all = all_held s c l (inside (leb-false n p f)) in
    by_test (leb c k)
    (λ t. rw (f, lt-ltb p len lent, all, t))
    (λ t. rw (f, lt-ltb p len lent, all, t, le-ltb len n h, le-ltb pool l g)))

-- no map is cut
none_cut : (pool : ℕ) (js : List JunctionEntry)
    → ((i : ℕ) → i < length js → value_count (get_or js i no_map) ≤ values_within pool (get_or js i no_map))
    → maps_cut pool js ≡ false
unfolding maps_cut
none_cut pool [] h = refl
none_cut pool (j ∷ js) h =
    rw (le-ltb (values_within pool j) (value_count j) (h 0 (omega arith)))
    (none_cut pool js (λ i lt. h (suc i) (omega arith)))

all_within : (pool : ℕ) (j : JunctionEntry) → (0 < value_count j → value_start j + value_count j ≤ pool)
    → value_count j ≤ values_within pool j
unfolding values_within
all_within pool j h = by_test (ltb 0 (value_count j))
    (λ t. let k = h (ltb-true 0 (value_count j) t) in omega arith)
    (λ f. omega (arith, ltb-false 0 (value_count j) f))

-- ---- what each call says of a tidy cell

module _ (m : Memory) (h : Tidy m) where
  -- the struct is over no limit
  pub never_over : over_limit m.ynd ≡ false
  never_over = not_over m.ynd h.few_nodes h.few_junctions

  -- node, ref and junction by place: 13 or there
  pub node_entry_fits : (p : ℕ) → node_entry m.ynd m.nodes p ≡ refuse_if (leb m.ynd.node_count p) NoSuchPlace (Ok p)
  unfolding node_entry
  node_entry_fits p = rw never_over (entry_fits m.ynd.node_count (length m.nodes) lent.Nodes p h.nodes_lie)

  pub ref_entry_fits : (p : ℕ) → ref_entry m.ynd m.refs p ≡ refuse_if (leb m.ynd.ref_count p) NoSuchPlace (Ok p)
  unfolding ref_entry
  ref_entry_fits p = rw never_over (entry_fits m.ynd.ref_count (length m.refs) lent.Refs p h.refs_lie)

  pub junction_entry_fits : (p : ℕ)
      → junction_entry m.ynd m.junctions p ≡ refuse_if (leb m.ynd.junction_count p) NoSuchPlace (Ok p)
  unfolding junction_entry
  junction_entry_fits p =
      rw never_over (entry_fits m.ynd.junction_count (length m.junctions) lent.Junctions p h.junctions_lie)

  -- a junction to be stored: 13, 12 or there
  pub sized_entry_fits : (p values held : ℕ)
      → sized_entry (over_limit m.ynd) m.ynd.junction_count (length m.junctions) p values held
      ≡ refuse_if (leb m.ynd.junction_count p) NoSuchPlace (refuse_if (not (eqb values held)) WrongSize (Ok p))
  unfolding sized_entry
  sized_entry_fits p values held =
      let n = m.ynd.junction_count in
      let len = length m.junctions in
      by_test (leb n p)
      (λ t. rw t)
      (λ f.
      let lent : p < len = omega (arith, leb-false n p f, h.junctions_lie) in
      by_test (eqb values held)
      (λ t. rw (f, never_over, lt-ltb p len lent, t, le-ltb len n h.junctions_lie))
      (λ t. rw (f, never_over, lt-ltb p len lent, t)))

  -- a node's link and a junction's value: 13 or there
  pub link_entry_fits : (p k : ℕ) → link_entry m.ynd m.nodes (length m.links) p k
      ≡ refuse_if (leb m.ynd.node_count p) NoSuchPlace
      (refuse_if (leb (link_count (get_or m.nodes p no_entry)) k) NoSuchPlace (Ok (link_start
      (get_or m.nodes p no_entry) + k)))
  unfolding link_entry
  link_entry_fits p k =
      let w = get_or m.nodes p no_entry in
      rw never_over (range_fits m.ynd.node_count (length m.nodes) lent.Nodes m.ynd.link_count
      (length m.links) lent.Links
      p (link_start w) (link_count w) k h.nodes_lie h.links_lie (λ lt. h.links_apart.inside p lt))

  pub height_entry_fits : (p k : ℕ) → height_entry m.ynd m.junctions (length m.heights) p k
      ≡ refuse_if (leb m.ynd.junction_count p) NoSuchPlace
      (refuse_if (leb (value_count (get_or m.junctions p no_map)) k) NoSuchPlace
      (Ok (value_start (get_or m.junctions p no_map) + k)))
  unfolding height_entry
  height_entry_fits p k =
      let w = get_or m.junctions p no_map in
      rw never_over (range_fits m.ynd.junction_count (length m.junctions) lent.Junctions m.ynd.heightmap_count
      (length m.heights) lent.Heightmap p (value_start w) (value_count w) k h.junctions_lie h.values_lie
      (λ lt. h.values_apart.inside p lt))

  -- adding a link: 13, at a limit 14, no room 7 at 1; never 7 at 0
  pub link_room : (p e : ℕ)
      → room_for_link (over_limit m.ynd) m.ynd.node_count m.ynd.link_count p e (length m.nodes) (length m.links)
      ≡ decided
      (when (leb m.ynd.node_count p) NoSuchPlace
      ∷ when (leb 4294967295 m.ynd.link_count) AtLimit
      ∷ when (leb 255 e) AtLimit
      ∷ when (leb (length m.links) m.ynd.link_count) (TooShort lent.Links)
      ∷ [])
  unfolding room_for_link
  link_room p e = rw (never_over, le-ltb (length m.nodes) m.ynd.node_count h.nodes_lie) refl

  -- adding a node or a ref: 14 at the limit, 7 no room; a junction: 12 too
  pub node_room : room_for (over_limit m.ynd) 65536 m.ynd.node_count (length m.nodes) lent.Nodes
      ≡ decided
      (when (leb 65536 m.ynd.node_count) AtLimit
      ∷ when (leb (length m.nodes) m.ynd.node_count) (TooShort lent.Nodes)
      ∷ [])
  unfolding room_for
  node_room = rw never_over refl

  pub ref_room : room_for (over_limit m.ynd) 4294967295 m.ynd.ref_count (length m.refs) lent.Refs
      ≡ decided
      (when (leb 4294967295 m.ynd.ref_count) AtLimit
      ∷ when (leb (length m.refs) m.ynd.ref_count) (TooShort lent.Refs)
      ∷ [])
  unfolding room_for
  ref_room = rw never_over refl

  pub junction_room_fits : (size v : ℕ)
      → room_for_junction (over_limit m.ynd) m.ynd.junction_count m.ynd.heightmap_count size v (length m.junctions)
      (length m.heights)
      ≡ decided
      (when (leb 4096 m.ynd.junction_count) AtLimit
      ∷ when (ltb 4294967295 (m.ynd.heightmap_count + v)) AtLimit
      ∷ when (not (eqb v size)) WrongSize
      ∷ when (leb (length m.junctions) m.ynd.junction_count) (TooShort lent.Junctions)
      ∷ when (ltb (length m.heights) (m.ynd.heightmap_count + v)) (TooShort lent.Heightmap)
      ∷ [])
  unfolding room_for_junction
  junction_room_fits size v = rw never_over refl

  -- all links of a node: 13, at a limit 14, no room 7 at 1; a heightmap: 13, 14, 12, 7 at 3; shorter lists: 13
  pub links_room_fits : (p c : ℕ) → links_call m p c
      ≡ decided
      (when (leb m.ynd.node_count p) NoSuchPlace
      ∷ when (ltb 255 c) AtLimit
      ∷ when (ltb 4294967295 (links_after m p c)) AtLimit
      ∷ when (ltb (length m.links) (links_after m p c)) (TooShort lent.Links)
      ∷ [])
  unfolding room_for_links
  links_room_fits p c = rw (never_over, le-ltb (length m.nodes) m.ynd.node_count h.nodes_lie) refl

  pub map_room_fits : (p c size : ℕ) → map_call m p c size
      ≡ decided
      (when (leb m.ynd.junction_count p) NoSuchPlace
      ∷ when (ltb 4294967295 (values_after m p c)) AtLimit
      ∷ when (not (eqb c size)) WrongSize
      ∷ when (ltb (length m.heights) (values_after m p c)) (TooShort lent.Heightmap)
      ∷ [])
  unfolding room_for_map
  map_room_fits p c size = rw (never_over, le-ltb (length m.junctions) m.ynd.junction_count h.junctions_lie) refl

  pub fewer_fits : (n k : ℕ) → fewer (over_limit m.ynd) n k ≡ decided (when (ltb n k) NoSuchPlace ∷ [])
  unfolding fewer
  fewer_fits n k = rw never_over refl

  -- renumbering: 7 at 6 and at 7 only
  pub renumber_answer : (s : ℕ) (ps : List ℕ) → (renumber m s ps).answer
      ≡ decided
      (when (ltb s 65536) (TooShort lent.Scratch) ∷ when (ltb (length ps) m.ynd.node_count)
      (TooShort lent.NewPlaces) ∷ [])
  unfolding renumber answer_of
  renumber_answer s ps =
      go (answer_of (over_limit m.ynd) m.ynd.node_count (short m) s (length ps))
      ∙ rw (never_over, never_short m h) refl
    where
      go : (a : Answer) → (left_by a m ps).answer ≡ a
      go (Ok tt) = refl
      go (Err cause) = refl

  -- no heightmap is cut
  pub never_cut : maps_cut (held m).ynd.heightmap_count (held m).junctions ≡ false
  unfolding held
  never_cut = none_cut m.ynd.heightmap_count (take m.ynd.junction_count m.junctions) (λ i lt.
      let long = length-take-le m.ynd.junction_count m.junctions h.junctions_lie in
      let inside : i < m.ynd.junction_count = omega (arith, long) in
      rw (get_or-take m.ynd.junction_count m.junctions i no_map inside)
      (all_within m.ynd.heightmap_count (get_or m.junctions i no_map) (h.values_apart.inside i inside)))

  -- writing: 8 to 11, then 7 at 5; never 14, 12 or 7 at 0 to 4
  pub write_left : (s : List ℕ) → write_call m s
      ≡ write.after (check_nodes (λ n. length (links_in (held m).links n)) 0 0 (held m).nodes) s
      (write.after (check_junctions (λ j. length (values_in (held m).heights j)) 0 0 (held m).junctions) s
      (or_else (ltb 65535 m.ynd.ref_count) (refuse TooManyRefs s) (stored (held m) s)))
  unfolding write_call write_held held
  write_left s = rw (never_over, never_cut, never_short m h) refl

  -- ---- lookups, `sound`, `walk` and what a walk shows

  pub area_id_fits : area_id_call m.ynd m.nodes ≡ Ok (area_of_first (take m.ynd.node_count m.nodes))
  unfolding area_id_call nodes_causes
  area_id_fits = rw (never_over, le-ltb (length m.nodes) m.ynd.node_count h.nodes_lie) refl

  pub node_fits : (k : ℕ) → node_call m.ynd m.nodes k ≡ Ok (find_in m.ynd.node_count m.nodes k)
  unfolding node_call nodes_causes
  node_fits k = rw (never_over, le-ltb (length m.nodes) m.ynd.node_count h.nodes_lie) refl

  pub junction_of_fits : (a k : ℕ) → junction_of_call m.ynd m.nodes m.refs a k
      ≡ Ok (below m.ynd.junction_count
      (place_of (ref_in (first_area (take m.ynd.node_count m.nodes)) (take m.ynd.ref_count m.refs) a k)))
  unfolding junction_of_call nodes_causes
  junction_of_fits a k =
      rw (
        never_over,
        le-ltb (length m.nodes) m.ynd.node_count h.nodes_lie,
        le-ltb
            (length m.refs) m.ynd.ref_count h.refs_lie,
      ) refl

  -- `sound`: only 7 at 6, the scratch
  pub sound_fits : (scratch : List ℕ) → sound_call m scratch
      ≡ cond (ltb (length scratch) 65536) (sound_left (Err (TooShort lent.Scratch)) scratch)
      (sound_left (verdict (sound (cell_of m))) (indexed (numbers (cell_of m).nodes) 0 scratch))
  unfolding sound_call
  sound_fits scratch = rw (
    never_over,
    le-ltb (length m.nodes) m.ynd.node_count h.nodes_lie,
    le-ltb (length m.links) m.ynd.link_count h.links_lie,
    le-ltb (length m.refs) m.ynd.ref_count h.refs_lie,
  ) refl

  -- `walk`: only 13, and 7 at 8, the visited list
  pub walk_fits : (choices : List ℕ) (start : ℕ) (visited : List ℕ) → start < m.ynd.node_count
      → walk_call m choices start visited ≡ route_left (route (nodes_of m) choices start) visited
  unfolding walk_call
  walk_fits choices start visited lt = rw (
    lt-leb m.ynd.node_count start lt,
    never_over,
    le-ltb (length m.nodes) m.ynd.node_count h.nodes_lie,
    le-ltb (length m.links) m.ynd.link_count h.links_lie,
  ) refl

  pub shown_node_fits : (p : ℕ)
      → shown_node m p ≡ refuse_if (leb m.ynd.node_count p) NoSuchPlace (Ok (seen_node (cell_of m) p))
  unfolding shown_node
  shown_node_fits p = rw (
    never_over,
    le-ltb (length m.nodes) m.ynd.node_count h.nodes_lie,
    le-ltb (length m.links) m.ynd.link_count h.links_lie,
    le-ltb (length m.junctions) m.ynd.junction_count h.junctions_lie,
    le-ltb (length m.refs) m.ynd.ref_count h.refs_lie,
  ) refl

  pub shown_junction_fits : (p : ℕ) → shown_junction m p
      ≡ refuse_if (leb m.ynd.junction_count p) NoSuchPlace (or_none (get_elem? (cell_of m).junctions p))
  unfolding shown_junction
  shown_junction_fits p = rw (junction_entry_fits p) (by_test (leb m.ynd.junction_count p) (λ t. rw t) (λ f. rw f))

  -- 7 at 3 only where the list for the values is too short
  pub shown_values_fits : (p : ℕ) (old : List ℕ) → shown_values m p old
      ≡ cond (leb m.ynd.junction_count p) (values_left (Err NoSuchPlace) old)
      (cond (ltb (length old) (length (values_at m p))) (values_left (Err (TooShort lent.Heightmap)) old)
      (values_left (Ok (length (values_at m p))) (put old 0 (values_at m p))))
  unfolding shown_values
  shown_values_fits p old =
      rw (junction_entry_fits p, le-ltb (length m.heights) m.ynd.heightmap_count h.values_lie)
      (by_test (leb m.ynd.junction_count p) (λ t. rw t) (λ f.
      by_test (ltb (length old) (length (values_at m p))) (λ t. rw (f, t)) (λ g. rw (f, g))))

  pub shown_link_fits : (p b : ℕ) → shown_link m p b
      ≡ refuse_if (leb m.ynd.node_count p) NoSuchPlace (or_no_link (shown_of (link_at (cell_of m).nodes p b)))
  unfolding shown_link
  shown_link_fits p b = rw (
    never_over,
    le-ltb (length m.nodes) m.ynd.node_count h.nodes_lie,
    le-ltb (length m.links) m.ynd.link_count h.links_lie,
  ) refl
