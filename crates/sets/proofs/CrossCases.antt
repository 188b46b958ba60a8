-- What the call of a crossing walk answers.
use Rattle.std.proofs.lemmas.Bool.{not-false, or_parts}
use Prim.Native.Nat.{ℕ, ◌≤◌, ◌<◌}
use native.Mathlib.Omega.{arith}
use mathlib.Core.Path.{◌≡◌, refl, ap, sym, ◌∙◌}
use mathlib.Core.Bool.{Bool, true, false, cond, not}
use mathlib.Core.List.{List, [], ◌∷◌, ◌++◌, map}
use lib.Dec.{ltb, leb}
use lib.ListN.{length, get_or, drop, length-map, get_or-eq_default}
use borrow.Author.Tests.{leb-false, ltb-true, ltb-false}
use Rattle.numbers.specs.Refusals.{when, decided, unless}
use Rattle.numbers.proofs.Refusing.{decided_append, passed}
use Rattle.cells.specs.Memory.{over_limit}
use Rattle.cells.specs.Cell.{Cell}
use Rattle.cells.proofs.Forms.Limits.{within as limits}
use Rattle.cells.specs.CellOf.{cell_of}
use Rattle.cells.proofs.Sequences.Tests.{by_test, true_false}
use Rattle.walks.specs.Walk.{Trail, walk_in}
use Rattle.walks.specs.WalkParts.{traced, over, TrailLeft, trail_left, stored_in}
use Rattle.walks.specs.Claim.{places}
use Rattle.sets.specs.Members.{no_cell, cell_at}
use Rattle.sets.specs.Crossing.{Location, world_in, crossing}
use Rattle.sets.specs.MemberList.{cells_of, node_count, nodes_together, over_set}
use Rattle.sets.specs.MemberList.{unless as kept_unless}
use Rattle.sets.specs.CrossingCall.{location_words, CrossingLeft, crossing_left, crossed_by}
use Rattle.sets.specs.CellSet.{CellSet, ynd_of, members_of, holds_list}
use Rattle.sets.specs.SetStored.{member_in}
use Rattle.sets.specs.CrossMember.{cross_causes, cross_member}
use Rattle.sets.specs.SetParts.{count_of, Holding, bare, areas_of}
use Rattle.sets.specs.CrossParts.{walked_set, cells_in, Lent, start_causes}
use Rattle.walks.specs.declared.walk.Walked.{Walked}
use Rattle.sets.proofs.CellSetLaws.{members_many, member_at_law, areas_held}
use Rattle.sets.proofs.RoomLaws.{any_found, few_members, members_over, holding}
use Rattle.sets.proofs.MemberCells.{nodes_at}
use Rattle.sets.proofs.CrossSame.{SameRoute, same_route}
use Rattle.std.specs.Prelude.{Ok, Err, Result}
use Rattle.numbers.specs.declared.refusal.Refusal.{Refusal}
use Rattle.numbers.specs.Refusals.{Answer}
use Rattle.numbers.specs.declared.refusal.Refusal.TheVariants.{TooShort, NoSuchPlace, AtLimit}
use Rattle.numbers.specs.declared.refusal.Lent.TheVariants as lent
use Rattle.cells.specs.declared.node_entry.NodeEntry.{NodeEntry}
use Rattle.cells.specs.declared.link.PathLink.{PathLink}

-- ---- what an accepted start says

pub each_within : (ws : List (List ℕ)) → over_set (bare ws) ≡ false → (i : ℕ) → i < length ws
    → over_limit (ynd_of (get_or ws i [])) ≡ false
unfolding over_set
each_within ws o i lt = by_test (over_limit (ynd_of (get_or ws i [])))
    (λ t. true_false (any_found ws i lt t
    ∙ (or_parts (ltb 65536 (nodes_together (bare ws))) _ (or_parts (ltb 9 (length (bare ws))) _ o).1).1))
    (λ f. f)

pub record Starts (ws : List (List ℕ)) (nodes : List NodeEntry) (links : List PathLink) (s : Location) : Type 0 where
  pub member : s.member < length ws
  pub place : s.place < count_of 10 ws s.member
  pub over : over_set (bare ws) ≡ false
  pub nodes_hold : Holding 10 15 ws (length nodes)
  pub links_hold : Holding 11 16 ws (length links)

pub starts : (ws : List (List ℕ)) (nodes : List NodeEntry) (links : List PathLink) (s : Location)
    → (Ok tt) ≡ decided (start_causes ws (length nodes) (length links) s) → Starts ws nodes links s
unfolding start_causes
starts ws nodes links s e =
    let cs = start_causes ws (length nodes) (length links) s in
    record {
      member = leb-false _ _ (passed cs 0 (sym e));
      place = leb-false _ _ (passed cs 1 (sym e));
      over = passed cs 2 (sym e);
      nodes_hold = holding 10 15 ws (length nodes)
          (not-false (holds_list 10 15 ws (length nodes)) (passed cs 3 (sym e)));
      links_hold = holding 11 16 ws (length links)
          (not-false (holds_list 11 16 ws (length links)) (passed cs 4 (sym e)));
    }

pub lent_by : (all : List ℕ) (ws : List (List ℕ)) (nodes : List NodeEntry) (links : List PathLink) (s : Location)
    → Starts ws nodes links s
    → all ≡ areas_of ws nodes → Lent all ws nodes
lent_by all ws nodes links s h e = record {
  few = few_members ws h.over;
  within = each_within ws h.over;
  nodes_hold = h.nodes_hold;
  areas_are = e;
}

pub start_small : {ws : List (List ℕ)} {nodes : List NodeEntry} {links : List PathLink} {s : Location}
    → Starts ws nodes links s → s.place < 65536
unfolding ynd_of
start_small {ws} {s = s} h =
    omega (arith, h.place, (limits _ (each_within ws h.over s.member h.member)).0)

-- ---- what is left of a walk whose places go into a list

abbrev left_of : TrailLeft (List ℕ) → CrossingLeft
left_of x = crossing_left x.answer x.visited

left_is : (t : Trail Location) (visited : List (List ℕ)) → left_of (stored_in location_words t visited)
    ≡ crossed_by (decided (when (ltb (length visited) (length (places t))) (TooShort lent.List) ∷ [])) t visited
unfolding stored_in
left_is t visited = go (ltb (length visited) (length (places t)))
  where
    go : (b : Bool) → left_of (cond b (trail_left (Err (TooShort lent.List)) visited)
        (trail_left (Ok (traced t)) (over (map location_words (places t)) visited)))
        ≡ crossed_by (decided (when b (TooShort lent.List) ∷ [])) t visited
    go true = refl
    go false = rw (length-map (places t) location_words) refl

-- ---- the call

module _ (y : CellSet) (bs : List ℕ) (s : Location) (visited : List (List ℕ)) where
  abbrev ws : List (List ℕ)
  ws = y.members

  abbrev trail : Trail Location
  trail = crossing (cells_of (members_of y)) bs s

  abbrev start : Answer
  start = decided (start_causes ws (length y.nodes) (length y.links) s)

  count_is : s.member < length ws → node_count (member_in y s.member) ≡ count_of 10 ws s.member
  unfolding ynd_of
  count_is lt = ap node_count (member_at_law y s.member lt)

  -- the causes at the start, then the visited list
  causes_split : (count room : ℕ) → decided (cross_causes y s count room)
      ≡ unless start (decided (when (ltb room count) (TooShort lent.List) ∷ []))
  unfolding cross_causes start_causes
  causes_split count room = by_test (leb (length ws) s.member)
      (λ t. rw t refl)
      (λ f.
      let lt : s.member < length ws = leb-false _ _ f in
      rw (f, count_is lt, members_over y)
      (decided_append
      (when (leb (count_of 10 ws s.member) s.place) NoSuchPlace
      ∷ when (over_set (bare ws)) AtLimit
      ∷ when (not (holds_list 10 15 ws (length y.nodes))) (TooShort lent.Nodes)
      ∷ when (not (holds_list 11 16 ws (length y.links))) (TooShort lent.Links)
      ∷ [])
      (when (ltb room count) (TooShort lent.List) ∷ [])))

  pub call_split : cross_member y bs s visited
      ≡ crossed_by (unless start
      (decided (when (ltb (length visited) (length (places trail))) (TooShort lent.List) ∷ []))) trail visited
  unfolding cross_member
  call_split = ap (λ (a : Answer). crossed_by a trail visited) (causes_split (length (places trail)) (length visited))

  -- the other three lists don't count
  abbrev seen : Trail Location
  seen = crossing (cells_in ws y.nodes y.links) bs s

  module _ (done : (Ok tt) ≡ start) where
    h : Starts ws y.nodes y.links s
    h = starts ws y.nodes y.links s done

    past : (z : CellSet) → z.members ≡ ws → (i : ℕ) → length ws ≤ i → cell_at (cells_of (members_of z)) i ≡ no_cell
    past z e i le = get_or-eq_default (cells_of (members_of z)) no_cell {n = i}
        (let n : length (cells_of (members_of z)) ≤ i = omega (
          arith,
          length-map (members_of z) cell_of,
          members_many z,
          ap length e,
        ) in n)

    same_nodes : (i : ℕ) → (cell_at (cells_of (members_of y)) i).nodes
        ≡ (cell_at (cells_of (members_of (walked_set ws y.nodes y.links))) i).nodes
    same_nodes i = by_test (ltb i (length ws))
        (λ t.
        let lt = ltb-true i (length ws) t in
        nodes_at y i lt (h.nodes_hold.held i lt) (h.links_hold.held i lt)
        ∙ sym (nodes_at (walked_set ws y.nodes y.links) i lt (h.nodes_hold.held i lt) (h.links_hold.held i lt)))
        (λ f.
        let le = ltb-false i (length ws) f in
        ap (λ (c : Cell). c.nodes) (past y refl i le ∙ sym (past (walked_set ws y.nodes y.links) refl i le)))

    same_trail : SameRoute trail seen
    unfolding cells_in
    same_trail = same_route (cells_of (members_of y)) (cells_of (members_of (walked_set ws y.nodes y.links)))
        same_nodes
        (sym (areas_held y) ∙ areas_held (walked_set ws y.nodes y.links)) bs s

    accepted : cross_member y bs s visited
        ≡ crossed_by (decided (when (ltb (length visited) (length (places seen))) (TooShort lent.List) ∷ [])) seen
        visited
    accepted =
        call_split
        ∙ ap (λ (a : Answer). crossed_by (unless a
        (decided (when (ltb (length visited) (length (places trail))) (TooShort lent.List) ∷ []))) trail visited)
        (sym done)
        ∙ by_route (same_trail.ending) (same_trail.visits)
      where
        by_route : trail.ending ≡ seen.ending → places trail ≡ places seen
            → crossed_by (decided (when (ltb (length visited) (length (places trail))) (TooShort lent.List) ∷ []))
            trail visited
            ≡ crossed_by (decided (when (ltb (length visited) (length (places seen))) (TooShort lent.List) ∷ []))
            seen visited
        by_route e p = λ i. kept_unless (decided (when (ltb (length visited) (length (p i))) (TooShort lent.List)
            ∷ []))
            (λ cause. crossing_left (Err cause) visited)
            (crossing_left (Ok (record { end = (e i); count = (length (p i)) }))
            (map location_words (p i) ++ drop (length (p i)) visited))

    pub walked : (a : Result Walked Refusal) (after : List (List ℕ))
        → trail_left a after ≡ stored_in location_words (walk_in (world_in (cells_in ws y.nodes y.links)) bs s) visited
        → crossing_left a after ≡ cross_member y bs s visited
    unfolding crossing
    walked a after e = ap left_of e ∙ left_is seen visited ∙ sym accepted
