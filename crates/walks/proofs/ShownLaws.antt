-- What a walk shows, by the words in memory.
use Prim.Native.Nat.{ℕ, ◌-◌, ◌<◌, ◌≤◌, min}
use native.Mathlib.Omega.{arith}
use native.Mathlib.Nat.{min-eq_left, min-eq_right, min-le_right, le-min}
use mathlib.Core.Path.{◌≡◌, refl, ap, sym, ◌∙◌}
use mathlib.Core.Bool.{false, cond}
use mathlib.Core.List.{List, map}
use mathlib.Core.Option.{Option, none, some}
use lib.Dec.{ltb}
use lib.ListN.{length, get_or, get_elem?, take, drop, length-map, length-drop, length-take}
use lib.Seq.{length-take-le, get_or-take}
use borrow.Author.Tests.{le-ltb, ltb-true, ltb-false}
use Rattle.std.specs.Prelude.{Some, None, MatchOption, IsSomeAnd}
use Rattle.std.specs.declared.option.Option as std
use Rattle.cells.specs.Memory.{Memory, over_limit, nodes_causes}
use Rattle.cells.specs.Edit.{junction_entry}
use Rattle.cells.proofs.Editing.EditLaws.{entry_held}
use Rattle.cells.specs.Nodes.{no_entry, no_map, value_count}
use Rattle.cells.specs.declared.node_entry.NodeEntry.{NodeEntry}
use Rattle.cells.specs.Cell.{Node, Cell, node_at, first_of}
use Rattle.cells.specs.declared.link.PathLink.{PathLink}
use Rattle.cells.specs.CellOf.{junction_with, nodes_of, junctions_of, refs_of, cell_of}
use Rattle.cells.specs.Lookup.{ref_of, junction_at, junction_of}
use Rattle.cells.specs.LookupCall.{place_of, ref_in, below, junction_of_call}
use Rattle.cells.proofs.Sequences.Tests.{by_test}
use Rattle.cells.proofs.Lookups.LookupLaws.{area_held}
use Rattle.walks.specs.Walk.{see, link_at, seen_link, shown_of}
use Rattle.walks.specs.Shown.{seen_by, inside, junction_place, seen_node, shown_node, seen_junction}
use Rattle.walks.specs.Shown.{shown_junction, values_at}
use Rattle.walks.specs.Shown.{or_no_link, shown_link}
use Rattle.walks.specs.Parts.{chosen}
use Rattle.walks.specs.ShownParts.{seen_of}
use Rattle.walks.specs.declared.shown.SeenNode.{SeenNode}
use Rattle.walks.specs.declared.shown.SeenJunction.{SeenJunction}
use Rattle.walks.specs.declared.shown.SeenLink.{SeenLink}
use Rattle.walks.proofs.Ranges.{cut_all, cut_part}
use Rattle.std.proofs.lemmas.List.{get_or-map, take_min}
use Rattle.walks.proofs.StepLaws.{elem_at, elem_past, node_in, linked, link_found}
use Rattle.std.specs.Prelude.{Result, Ok, Err}
use Rattle.numbers.specs.Refusals.{Cause, done, decided}
use Rattle.walks.specs.PlaceCauses.{place_causes}
use Rattle.walks.proofs.PlaceCases.{place_asked}
use Rattle.numbers.specs.declared.refusal.Refusal.TheVariants.{TooShort}
use Rattle.numbers.specs.declared.refusal.Lent.TheVariants as lent
use Rattle.numbers.specs.declared.refusal.Refusal.{Refusal}

-- ---- a range, cut where the list ends

module _ {A : Type 0} (xs : List A) (l start count : ℕ) where
  abbrev end : ℕ
  end = min l (length xs)

  module _ (n : ℕ) (is : n ≡ min count (end - start)) (lt : start < end) where
    pub cut_held : take n (drop start xs) ≡ take count (drop start (take l xs))
    cut_held = by_test (ltb (end - start) count)
        (λ t. let h : end - start < count = ltb-true _ _ t in
        ap (λ (k : ℕ). take k (drop start xs)) (is ∙ min-eq_right {n = end - start} {m = count} (omega arith))
        ∙ sym (cut_part end start count xs (min-le_right l (length xs)) (omega arith) (omega arith)) ∙ front)
        (λ f. let h : count ≤ end - start = ltb-false _ _ f in
        ap (λ (k : ℕ). take k (drop start xs)) (is ∙ min-eq_left {n = count} {m = end - start} h)
        ∙ sym (cut_all end start count xs (omega arith)) ∙ front)
      where
        front : take count (drop start (take end xs)) ≡ take count (drop start (take l xs))
        front = ap (λ (t : List A). take count (drop start t)) (take_min l xs)

-- ---- what is asked first of a node and of a link

module _ (m : Memory) (p : ℕ) where
  abbrev causes : List Cause
  causes = place_causes m.ynd (length m.nodes) (length m.links) p

  -- what is asked of a node after that, and the answer
  abbrev node_then : Result SeenNode Refusal
  node_then =
      cond (ltb (length m.junctions) m.ynd.junction_count) (Err (TooShort lent.Junctions))
      (cond (ltb (length m.refs) m.ynd.ref_count) (Err (TooShort lent.Refs))
      (Ok (seen_node (cell_of m) p)))

  pub node_asked : done ≡ decided causes → node_then ≡ shown_node m p
  unfolding shown_node
  node_asked = place_asked m.ynd (length m.nodes) (length m.links) p (λ r. r) node_then

  module _ (b : ℕ) where
    abbrev link_then : Result (std.Option SeenLink) Refusal
    link_then = or_no_link (shown_of (link_at (cell_of m).nodes p b))

    pub link_asked : done ≡ decided causes → link_then ≡ shown_link m p b
    unfolding shown_link
    link_asked = place_asked m.ynd (length m.nodes) (length m.links) p (λ r. r) link_then

-- ---- a node

-- the place of the junction that a node is shown with is that of its junction
junction_found : (c : Cell) (a k : ℕ) → junction_at c.junctions (junction_place c a k) ≡ junction_of c a k
unfolding junction_place junction_of
junction_found c a k = go (ref_of (first_of c.nodes) c.refs a k)
  where
    go : (o : Option ℕ) → junction_at c.junctions (inside (length c.junctions) o) ≡ junction_at c.junctions o
    go none = refl
    go (some j) = by_test (ltb j (length c.junctions)) (λ t. rw t)
        (λ f. rw f (sym (elem_past c.junctions j (ltb-false _ _ f))))

pub junction_shown : (c : Cell) (p : ℕ)
    → junction_at c.junctions (junction_place c (see c p).area (node_at c.nodes p).number) ≡ (see c p).junction
unfolding see
junction_shown c p = junction_found c (node_at c.nodes p).area (node_at c.nodes p).number

module _ (m : Memory) where
  abbrev n : ℕ
  n = m.ynd.node_count

  abbrev l : ℕ
  l = m.ynd.link_count

  abbrev pool : List PathLink
  pool = take l m.links

  junctions_long : m.ynd.junction_count ≤ length m.junctions → length (junctions_of m) ≡ m.ynd.junction_count
  unfolding junctions_of
  junctions_long h = length-map (take m.ynd.junction_count m.junctions)
      (junction_with (take m.ynd.heightmap_count m.heights)) ∙ length-take-le _ m.junctions h

  module _ (within : over_limit m.ynd ≡ false) (nodes : n ≤ length m.nodes) (links : l ≤ length m.links)
      (junctions : m.ynd.junction_count ≤ length m.junctions) (refs : m.ynd.ref_count ≤ length m.refs) where
    junction_place_law : (a k : ℕ) → junction_of_call m.ynd m.nodes m.refs a k
        ≡ Ok (place_of (junction_place (cell_of m) a k))
    unfolding junction_of_call junction_place cell_of ref_in refs_of nodes_causes
    junction_place_law a k = rw (within, le-ltb _ _ nodes, le-ltb _ _ refs, area_held m, junctions_long junctions)
        (ap Ok (go (ref_of _ _ a k)))
      where
        go : (o : Option ℕ) → below m.ynd.junction_count (place_of o) ≡ place_of (inside m.ynd.junction_count o)
        go none = refl
        go (some j) = by_test (ltb j m.ynd.junction_count) (λ t. rw t) (λ f. rw f)

    module _ (p : ℕ) (lt : p < n) where
      abbrev w : NodeEntry
      w = get_or m.nodes p no_entry

      held_long : min w.link_count (l - w.link_id) ≡ length (take w.link_count (drop w.link_id pool))
      held_long = sym (rw (length-take, length-drop, length-take-le l m.links links))

      -- by the node's own fields
      abbrev seen_as : Node → SeenNode
      seen_as x = seen_by x.area x.body (length x.links) (place_of (junction_place (cell_of m) x.area x.number))

      seen_fields : seen_node (cell_of m) p ≡ seen_as (node_at (nodes_of m) p)
      unfolding seen_node see cell_of
      seen_fields = refl

      seen_words : (count : ℕ) (j : std.Option ℕ) → count ≡ min w.link_count (l - w.link_id)
          → Ok j ≡ junction_of_call m.ynd m.nodes m.refs w.area_id w.node_id
          → seen_of w count j ≡ seen_node (cell_of m) p
      unfolding seen_of
      seen_words count j ec ej =
          let ec' : count ≡ length (take w.link_count (drop w.link_id pool)) = ec ∙ held_long in
          let ej'' : Ok j ≡ Ok (place_of (junction_place (cell_of m) w.area_id w.node_id)) = ej
          ∙ junction_place_law w.area_id w.node_id in
          let ej' : j ≡ place_of (junction_place (cell_of m) w.area_id w.node_id) = cc in
          (λ i. seen_of w (ec' i) (ej' i)) ∙ ap seen_as (sym (node_in m nodes p lt)) ∙ sym seen_fields

      pub node_answered : done ≡ decided (place_causes m.ynd (length m.nodes) (length m.links) p)
          → (r : SeenNode) (count : ℕ) (j : std.Option ℕ) → r ≡ seen_of w count j → count
          ≡ min w.link_count (l - w.link_id)
          → Ok j ≡ junction_of_call m.ynd m.nodes m.refs w.area_id w.node_id → Ok r ≡ shown_node m p
      node_answered asked r count j er ec ej =
          ap Ok (er ∙ seen_words count j ec ej)
          ∙ (rw (le-ltb _ _ junctions, le-ltb _ _ refs) at (node_asked m p asked))

  module _ (p : ℕ) where
    -- ---- a junction

    abbrev values : List ℕ
    values = take m.ynd.heightmap_count m.heights

    abbrev many : ℕ
    many = m.ynd.junction_count

    junction_at_law : (i : ℕ) → i < many → i < length m.junctions → get_elem? (cell_of m).junctions i
        ≡ some (junction_with values (get_or m.junctions i no_map))
    unfolding cell_of junctions_of
    junction_at_law i lt h =
        let long : i < length (take many m.junctions) = rw length-take (le-min lt h) in
        elem_at (map (junction_with values) (take many m.junctions)) i (junction_with values no_map)
        (rw length-map long)
        ∙ ap some (get_or-map (junction_with values) (take many m.junctions) i no_map (junction_with values no_map) long
        ∙ ap (junction_with values) (get_or-take many m.junctions i no_map lt))

    pub junction_answered : (i : ℕ) → Ok i ≡ junction_entry m.ynd m.junctions p → (r : SeenJunction)
        → ((hs : List ℕ) → r ≡ seen_junction (junction_with hs (get_or m.junctions i no_map))) → Ok r
        ≡ shown_junction m p
    unfolding shown_junction
    junction_answered i e r at =
        let held = entry_held m.ynd m.junctions p i e in
        rw (← e, junction_at_law i held.0 held.1) (ap Ok (at values))

    -- ---- its values

    pub values_answered : p < many → p < length m.junctions → (start count : ℕ) → start
        ≡ (get_or m.junctions p no_map).heightmap_ptr
        → count ≡ value_count (get_or m.junctions p no_map) → take count (drop start values) ≡ values_at m p
    unfolding values_at
    values_answered lt h start count es ec = rw (junction_at_law p lt h) (λ i. take (ec i) (drop (es i) values))

    -- ---- the link chosen

    module _ (b : ℕ) (lt : p < n) (asked : done ≡ decided (place_causes m.ynd (length m.nodes) (length m.links) p))
      where
        by_link : (o : Option PathLink) → link_at (nodes_of m) p b ≡ o → or_no_link (shown_of o) ≡ shown_link m p b
        unfolding cell_of
        by_link o e = ap (λ (x : Option PathLink). or_no_link (shown_of x)) (sym e) ∙ link_asked m p b asked

        abbrev found : std.Option PathLink
        found = chosen (take l m.links) (get_or m.nodes p no_entry) b

        abbrev pub shown_for : std.Option PathLink → std.Option SeenLink
        shown_for (Some l) = Some (seen_link l)
        shown_for None = None

        for_linked : (o : std.Option PathLink) → Ok (shown_for o) ≡ or_no_link (shown_of (linked o))
        for_linked (Some w) = refl
        for_linked None = refl

        pub link_answered : (o : std.Option SeenLink) → o ≡ shown_for found → Ok o ≡ shown_link m p b
        link_answered o e =
            let at : link_at (nodes_of m) p b ≡ linked found =
            link_found m p b ∙ ap (λ (w : NodeEntry). linked (chosen (take l m.links) w b))
            (get_or-take n m.nodes p no_entry lt) in
            ap Ok e ∙ for_linked found ∙ by_link (linked found) at

        pub link_said : (o : std.Option SeenLink)
            → MatchOption found (o ≡ None) (λ w. IsSomeAnd o (λ r. r ≡ seen_link w)) → o
            ≡ shown_for found
        link_said o h = go found o h
          where
            go : (f : std.Option PathLink) (o : std.Option SeenLink)
                → MatchOption f (o ≡ None) (λ w. IsSomeAnd o (λ r. r ≡ seen_link w)) → o ≡ shown_for f
            go None o h = h
            go (Some w) (Some r) h = ap Some h
            go (Some w) None h = absurd h

-- for the function that shows a link
pub ruleset link_cases = (link_answered, link_said)
