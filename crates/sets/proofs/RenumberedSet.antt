-- A sound set in which one member is renumbered: each crossing walk is the one before, its locations moved, and the
-- set is sound.
use Rattle.std.proofs.lemmas.List.{map-set}
use Prim.Native.Nat.{ℕ, ◌<◌}
use native.Mathlib.Omega.{arith}
use native.Mathlib.Nat.{zero-add}
use mathlib.Core.Path.{◌≡◌, refl, ap, sym, ◌∙◌}
use mathlib.Core.Bool.{Bool, true, false, cond}
use mathlib.Core.List.{List, [], ◌∷◌}
use mathlib.Core.Option.{Option, none, some}
use lib.Dec.{eqb}
use lib.ListN.{length, set, length-map, length-set}
use lib.Seq.{get_or-set_same, get_or-set_other, set-get_or}
use borrow.Author.Tests.{eqb-true, eqb-false}
use Rattle.std.specs.List.{All}
use Rattle.std.proofs.lemmas.List.Elements.{All-from_get_or}
use Rattle.cells.specs.Lists.{every}
use Rattle.cells.specs.Order.{Old, parted, keep, new_place, new_number, renamed}
use Rattle.cells.specs.Cell.{Node, Cell, no_node, node_at, numbers, ped_flags, first_of, is_ped_node}
use Rattle.cells.specs.Cell.{is_vehicle_node, ordered, old_nodes, renumber_cell}
use Rattle.cells.specs.Nodes.{relinked}
use Rattle.cells.specs.Lookup.{first_with, find}
use Rattle.cells.proofs.Sequences.Tests.{and_left, and_right, by_test, every_at, every_any, every_map, every_keep}
use Rattle.cells.proofs.Sequences.Tests.{every_append, if_any, map_option}
use Rattle.cells.proofs.Renumbering.NewCell.{new_at, new_length, new_number_law, number_is, every_number}
use Rattle.walks.specs.Sound.{differing, sound}
use Rattle.walks.specs.Walk.{link_at, shown_of, see}
use Rattle.walks.proofs.Numbers.{Has, named_has, first_is, find_is, new_is}
use Rattle.walks.proofs.NewSound.{Sound, sound_parts, sound_new, new_area, new_differ}
use Rattle.walks.proofs.NewWalks.{move, move_next, AllNext, Simulates, walk_alike, see_new, link_new}
use Rattle.sets.specs.Members.{no_cell, cell_at, area_of, areas, member_for, map_from}
use Rattle.sets.specs.Crossing.{Location, enter, world_in, crossing}
use Rattle.sets.specs.SetSound.{has_node, link_arrives, node_arrives, member_arrives, set_sound}
use Rattle.sets.specs.SetRenumber.{Change, is_member, corrected, correct_link, correct_node, correct_cell}
use Rattle.sets.specs.SetRenumber.{change_of, renumber_cells}
use Rattle.sets.specs.SetCalls.{moves_to}
use Rattle.sets.specs.SetClaim.{Stands}
use Rattle.sets.proofs.SetLists.{every_all, from_at, from_all, length_from, from_map, map_from_same}
use Rattle.sets.proofs.MemberLaws.{member_inside, names_own, take_in, area_at, next_is}
use Rattle.sets.proofs.CorrectedCell.{numbers_same, first_same, node_same, link_same, see_same, correct_sound}
use Rattle.cells.specs.declared.link.PathLink.{PathLink}

-- an empty cell's area is 0
no_area : (ns : List Node) → length ns ≡ 0 → first_of ns ≡ 0
no_area [] e = refl
no_area (n ∷ ns) e = absurd (omega arith)

-- renumbering keeps a sound cell's area, also an empty one's
pub area_kept : (c : Cell) → sound c ≡ true → area_of (renumber_cell c) ≡ area_of c
area_kept c s = by_size c.nodes refl
  where
    by_size : (ns : List Node) → c.nodes ≡ ns → area_of (renumber_cell c) ≡ area_of c
    by_size [] e = no_area (renumber_cell c).nodes (new_length c ∙ ap length e) ∙ sym (no_area c.nodes (ap length e))
    by_size (n ∷ ns) e = new_area c (sound_parts c (rw e (omega arith)) s)

-- every node's number in the member i is its place
abbrev pub Numbered : List Cell → ℕ → Type 0
Numbered cs i = (q : ℕ) → q < length (cell_at cs i).nodes → (node_at (cell_at cs i).nodes q).number ≡ q

-- What is to be known of a member i of the set ds, where a node at place p of it stood before, and the number k was
-- the number n k.
pub record View (c d : Cell) (g : PathLink → PathLink) (f : ℕ → ℕ) (n : ℕ → ℕ) : Type 0 where
  pub same_count : length d.nodes ≡ length c.nodes
  pub inside : (p : ℕ) → p < length c.nodes → f p < length c.nodes
  pub see_same : (p : ℕ) → p < length c.nodes → see d (f p) ≡ see c p
  pub link_same : (p b : ℕ) → p < length c.nodes → link_at d.nodes (f p) b ≡ map_option g (link_at c.nodes p b)
  pub has_same : (k q : ℕ) → Has (numbers c.nodes) k q → Has (numbers d.nodes) (n k) (f q)
  pub differ_same : 0 < length c.nodes → differing (numbers d.nodes) ≡ true

module _ (cs : List Cell) (j : ℕ) (lj : j < length cs) (s : set_sound cs ≡ true) where
  abbrev ds : List Cell
  ds = renumber_cells cs j

  abbrev cj : Cell
  cj = cell_at cs j

  abbrev x : Change
  x = change_of cs j

  abbrev o : Old
  o = old_nodes cj.nodes

  -- how the member i's nodes are moved, and how the numbers that name them change
  abbrev f : ℕ → ℕ → ℕ
  f i p = cond (eqb i j) (new_place (ped_flags cj.nodes) p) p

  abbrev n : ℕ → ℕ → ℕ
  n i k = cond (eqb i j) (new_number o k) k

  -- ---- the members

  pub same_length : length ds ≡ length cs
  unfolding renumber_cells
  same_length = length-set (map_from (correct_cell x) 0 cs) j (renumber_cell cj) ∙ length_from (correct_cell x) 0 cs

  at_own : cell_at ds j ≡ renumber_cell cj
  unfolding renumber_cells
  at_own = get_or-set_same (map_from (correct_cell x) 0 cs) j (renumber_cell cj) no_cell
      (rw (length_from (correct_cell x) 0 cs) lj)

  at_other : (i : ℕ) → i < length cs → eqb i j ≡ false → cell_at ds i ≡ correct_cell x i (cell_at cs i)
  unfolding renumber_cells
  at_other i lt e =
      get_or-set_other (map_from (correct_cell x) 0 cs) j i (renumber_cell cj) no_cell (eqb-false i j e)
      ∙ from_map (correct_cell x) 0 cs i no_cell no_cell lt
      ∙ ap (λ (k : ℕ). correct_cell x k (cell_at cs i)) (zero-add i)

  pub sound_at : (i : ℕ) → i < length cs → sound (cell_at cs i) ≡ true
  unfolding set_sound
  sound_at i lt = every_at sound cs i no_cell (and_left _ _ s) lt

  arrives_at : (i : ℕ) → i < length cs → member_arrives cs i (cell_at cs i) ≡ true
  unfolding set_sound
  arrives_at i lt = rw zero-add at (from_at (member_arrives cs) 0 cs i no_cell (and_right (every sound cs) _ s) lt)

  pub areas_same : areas ds ≡ areas cs
  unfolding renumber_cells
  areas_same =
      map-set area_of (map_from (correct_cell x) 0 cs) j (renumber_cell cj)
      ∙ (λ i. set (map_from_same area_of (correct_cell x) (λ k c. first_same x k c.nodes) 0 cs i) j
      (area_kept cj (sound_at j lj) i))
      ∙ ap (set (areas cs) j) (sym (area_at cs j))
      ∙ set-get_or (areas cs) j 0

  -- the own links of the member renumbered are those that name it
  relink_own : (l : PathLink) → relinked o l ≡ correct_link x j l
  unfolding renamed corrected
  relink_own l = rw (names_own (areas cs) j l.area_id, area_at cs j)

  -- ---- each member

  view_own : View cj (renumber_cell cj) (correct_link x j) (new_place (ped_flags cj.nodes)) (new_number o)
  view_own = record {
    same_count = new_length cj;
    inside = λ p lt. (new_at cj.nodes p lt).0;
    see_same = λ p lt. see_new cj (part p lt) p lt;
    link_same = λ p b lt. link_new cj (part p lt) p b lt ∙ same (link_at cj.nodes p b);
    has_same = λ k q h.
        let lt : q < length cj.nodes = rw length-map at h.inside in
        let m : new_place (ped_flags cj.nodes) q < length cj.nodes = (new_at cj.nodes q lt).0 in
        rw (new_is o k q (part q lt).differ h)
        (record {
          inside = rw length-map (omega (arith, new_length cj));
          number = number_is
              (renumber_cell cj).nodes _ ∙ new_number_law cj _ m;
        });
    differ_same = λ z. new_differ cj;
  }
    where
      part : (p : ℕ) → p < length cj.nodes → Sound cj
      part p lt = sound_parts cj (omega arith) (sound_at j lj)

      same : (l : Option PathLink) → map_option (relinked o) l ≡ map_option (correct_link x j) l
      same (some l) = ap {B = Option PathLink} some (relink_own l)
      same none = refl

  view_other : (i : ℕ) → i < length cs
      → View (cell_at cs i) (correct_cell x i (cell_at cs i)) (correct_link x i) (λ p. p) (λ k. k)
  view_other i li = record {
    same_count = length-map (cell_at cs i).nodes (correct_node x i);
    inside = λ p lt. lt;
    see_same = λ p lt. see_same x i (cell_at cs i) p;
    link_same = λ p b lt. link_same x i (cell_at cs i).nodes p b;
    has_same = λ k q h. rw (numbers_same x i (cell_at cs i).nodes) h;
    differ_same = λ z. rw (numbers_same x i (cell_at cs i).nodes)
        (sound_parts (cell_at cs i) z (sound_at i li)).differ;
  }

  view : (i : ℕ) → i < length cs → View (cell_at cs i) (cell_at ds i) (correct_link x i) (f i) (n i)
  view i li = go (eqb i j) refl
    where
      go : (b : Bool) → eqb i j ≡ b → View (cell_at cs i) (cell_at ds i) (correct_link x i)
          (λ p. cond b (new_place (ped_flags cj.nodes) p) p) (λ k. cond b (new_number o k) k)
      go true t = let e : i ≡ j = eqb-true i j t in rw (e, at_own) view_own
      go false t = rw (at_other i li t) (view_other i li)

  -- a number that names a node of the member k names it still
  found : (k a q : ℕ) → k < length cs → Has (numbers (cell_at cs k).nodes) a q
      → (find (numbers (cell_at cs k).nodes) a ≡ some q)
      × (find (numbers (cell_at ds k).nodes) (n k a) ≡ some (f k q))
      × (first_with (numbers (cell_at ds k).nodes) (n k a) ≡ some (f k q)) × (q < length (cell_at cs k).nodes)
  found k a q lk h =
      let v = view k lk in
      let lt : q < length (cell_at cs k).nodes = rw length-map at h.inside in
      let z : 0 < length (cell_at cs k).nodes = omega arith in (
        find_is (numbers (cell_at cs k).nodes) a q (sound_parts (cell_at cs k) z (sound_at k lk)).differ h,
        find_is (numbers (cell_at ds k).nodes) (n k a) (f k q) (v.differ_same z) (v.has_same a q h),
        first_is (numbers (cell_at ds k).nodes) (n k a) (f k q) (v.differ_same z) (v.has_same a q h),
        lt,
      )

  -- the member that a link names is there
  there : (i a k : ℕ) → i < length cs → member_for (areas cs) i a ≡ some k → k < length cs
  there i a k li e = rw length-map at (member_inside (areas cs) i a k (rw length-map li) e)

  -- ---- the walk

  -- a link leads to the node that it led to
  leads_same : (i : ℕ) → i < length cs → (l : Option PathLink) → if_any (link_arrives cs i) l
      → (take_in ds i (map_option (correct_link x i) l) ≡ move_next (moves_to cs j) (take_in cs i l))
      × AllNext (Stands cs) (take_in cs i l)
  unfolding corrected
  leads_same i li none h = (refl, tt)
  leads_same i li (some l) h = rw areas_same (go (member_for (areas cs) i l.area_id)
      (λ k e. there i l.area_id k li e) h)
    where
      go : (r : Option ℕ) → ((k : ℕ) → r ≡ some k → k < length cs) → has_node cs l.node_id r ≡ true
          → (enter ds l.area_id (cond (is_member j r) (new_number o l.node_id) l.node_id) r
          ≡ move_next (moves_to cs j) (enter cs l.area_id l.node_id r))
          × AllNext (Stands cs) (enter cs l.area_id l.node_id r)
      go none m h = (refl, tt)
      go (some k) m h =
          let w = named_has (numbers (cell_at cs k).nodes) l.node_id h in
          let g = found k l.node_id w.0 (m k refl) w.1 in
          rw (g.0, g.1) (refl, record { in_set = m k refl; in_cell = g.3 })

  -- the links of a node arrive
  chosen : (t : Location) (b : ℕ) → Stands cs t
      → if_any (link_arrives cs t.member) (link_at (cell_at cs t.member).nodes t.place b)
  chosen t b h =
      every_any (link_arrives cs t.member) (node_at (cell_at cs t.member).nodes t.place).links b
      (every_at (node_arrives cs t.member) (cell_at cs t.member).nodes t.place no_node
      (arrives_at t.member h.in_set) h.in_cell)

  body_same : (i : ℕ) (l : Option PathLink) → shown_of (map_option (correct_link x i) l) ≡ shown_of l
  body_same i (some l) = refl
  body_same i none = refl

  pub simulates : Simulates (Stands cs) (world_in cs) (world_in ds) (moves_to cs j)
  simulates = record {
    next_same = λ t b h. rw (
      next_is ds (moves_to cs j t) b,
      next_is cs t b,
      (view t.member h.in_set).link_same
          t.place b h.in_cell,
    ) (leads_same t.member h.in_set (link_at (cell_at cs t.member).nodes t.place b)
        (chosen t b h)).0;
    next_ok = λ t b h. rw (next_is cs t b)
        (leads_same t.member h.in_set (link_at (cell_at cs t.member).nodes t.place b) (chosen t b h)).1;
    see_same = λ t h. (view t.member h.in_set).see_same t.place h.in_cell;
    link_same = λ t b h. ap shown_of ((view t.member h.in_set).link_same t.place b h.in_cell)
        ∙ body_same t.member (link_at (cell_at cs t.member).nodes t.place b);
  }

  pub crossing_same : (bs : List ℕ) (t : Location) → Stands cs t → crossing ds bs (moves_to cs j t)
      ≡ move (moves_to cs j) (crossing cs bs t)
  unfolding crossing
  crossing_same = walk_alike simulates

  pub stands_on : (t : Location) → Stands cs t → Stands ds (moves_to cs j t)
  stands_on t h =
      let v = view t.member h.in_set in
      record {
        in_set = omega (arith, same_length, h.in_set);
        in_cell = omega
            (arith, v.same_count, v.inside t.place h.in_cell);
      }

  pub same_nodes : (i : ℕ) → i < length cs → length (cell_at ds i).nodes ≡ length (cell_at cs i).nodes
  same_nodes i li = (view i li).same_count

  -- ---- soundness

  link_arrives_law : (i : ℕ) → i < length cs → (l : PathLink) → link_arrives cs i l ≡ true
      → link_arrives ds i (correct_link x i l) ≡ true
  unfolding corrected
  link_arrives_law i li l h = rw areas_same (go (member_for (areas cs) i l.area_id) (λ k e. there i l.area_id k li e) h)
    where
      go : (r : Option ℕ) → ((k : ℕ) → r ≡ some k → k < length cs) → has_node cs l.node_id r ≡ true
          → has_node ds (cond (is_member j r) (new_number o l.node_id) l.node_id) r ≡ true
      go none m h = refl
      go (some k) m h =
          let w = named_has (numbers (cell_at cs k).nodes) l.node_id h in
          rw (found k l.node_id w.0 (m k refl) w.1).2

  own_arrives : member_arrives ds j (renumber_cell cj) ≡ true
  unfolding renumber_cell parted
  own_arrives =
      let all = arrives_at j lj in
      every_number o (node_arrives ds j) (node_arrives cs j)
      (λ k m h. every_map (link_arrives ds j) (relinked o) (link_arrives cs j)
      (λ l t. ap (link_arrives ds j) (relink_own l) ∙ link_arrives_law j lj l t) m.links h)
      0 (ordered cj.nodes)
      (every_append (node_arrives cs j) (keep is_vehicle_node cj.nodes) (keep is_ped_node cj.nodes)
      (every_keep (node_arrives cs j) is_vehicle_node cj.nodes all)
      (every_keep (node_arrives cs j) is_ped_node cj.nodes all))

  other_arrives : (i : ℕ) → i < length cs → member_arrives ds i (correct_cell x i (cell_at cs i)) ≡ true
  other_arrives i li =
      every_map (node_arrives ds i) (correct_node x i) (node_arrives cs i)
      (λ m h. every_map (link_arrives ds i) (correct_link x i) (link_arrives cs i) (link_arrives_law i li) m.links h)
      (cell_at cs i).nodes (arrives_at i li)

  member_sound : (i : ℕ) → i < length cs → (sound (cell_at ds i) ≡ true) × (member_arrives ds i (cell_at ds i) ≡ true)
  member_sound i li = by_test (eqb i j)
      (λ t. let e : i ≡ j = eqb-true i j t in rw (e, at_own) (sound_new cj (sound_at j lj), own_arrives))
      (λ t. rw (at_other i li t) (
        correct_sound x i (cell_at cs i) (area_at cs i) t (sound_at i li),
        other_arrives i
            li,
      ))

  pub set_sound_law : set_sound ds ≡ true
  unfolding set_sound
  set_sound_law =
      cc (
        every_all sound ds no_cell (λ i lt. (member_sound i (rw (← same_length) lt)).0),
        from_all (member_arrives ds) 0 ds no_cell (λ i lt. rw zero-add (member_sound i (rw (← same_length) lt)).1),
      )

  -- ---- numbers

  pub numbered_own : Numbered ds j
  numbered_own = rw at_own (λ q lt. new_number_law cj q (rw (← new_length cj) lt))

  pub numbered_all : (i : ℕ) → i < length cs → Numbered cs i → Numbered ds i
  numbered_all i li h = by_test (eqb i j)
      (λ t. let e : i ≡ j = eqb-true i j t in rw e numbered_own)
      (λ t. rw (at_other i li t) (λ q lt. ap (λ (m : Node). m.number) (node_same x i (cell_at cs i).nodes q)
      ∙ h q (rw length-map at lt)))

  -- ---- what holds of each member

  pub members_hold : (P : Cell → Type 0) → P (renumber_cell cj)
      → ((i : ℕ) → i < length cs → P (correct_cell x i (cell_at cs i))) → All P ds
  members_hold P own other = All-from_get_or P ds no_cell (λ i lt.
      by_test (eqb i j)
      (λ t. let e : i ≡ j = eqb-true i j t in rw (e, at_own) own)
      (λ t. let li : i < length cs = rw (← same_length) lt in rw (at_other i li t) (other i li)))
