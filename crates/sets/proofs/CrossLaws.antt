-- One step of a crossing walk, by the words in memory.
use Prim.Native.Nat.{ℕ, ◌-◌, ◌≤◌, ◌<◌}
use native.Mathlib.Omega.{arith}
use mathlib.Core.Path.{◌≡◌, refl, ap, sym, ◌∙◌}
use mathlib.Core.List.{List, []}
use mathlib.Core.Option.{Option, none, some}
use lib.ListN.{length, get_or, take, drop, length-drop, length-map}
use borrow.Author.Tests.{le-ltb}
use Rattle.cells.specs.Cell.{Node, Cell, no_node, numbers}
use Rattle.cells.specs.CellOf.{nodes_of, cell_of}
use Rattle.cells.proofs.Forms.Limits.{within as limits}
use Rattle.std.proofs.lemmas.List.{get_or_past}
use Rattle.std.specs.declared.option.Option as std
use Rattle.cells.specs.Memory.{Memory, nodes_causes}
use Rattle.cells.specs.Lookup.{find}
use Rattle.cells.specs.LookupCall.{Place, numbers_in, place_of, find_in, node_call}
use Rattle.cells.specs.declared.ynd.Ynd.{Ynd}
use Rattle.walks.specs.Walk.{link_at}
use Rattle.walks.specs.declared.walk.End.{End}
use Rattle.sets.specs.declared.world.World.{World}
use Rattle.walks.specs.declared.walk.End.TheVariants.{NoLink, NoNode}
use Rattle.walks.specs.Parts.{chosen}
use Rattle.walks.specs.WalkParts.{step_of}
use Rattle.walks.proofs.ScratchLaws.{numbers_long}
use Rattle.walks.proofs.StepLaws.{find_inside, linked, link_found}
use Rattle.walks.proofs.WalksAlike.{nodes_long}
use Rattle.numbers.specs.declared.refusal.Refusal.{Refusal}
use Rattle.sets.specs.Members.{no_cell, cell_at, areas, member_for}
use Rattle.sets.specs.Crossing.{Location, location, arrive_in, enter, next_in}
use Rattle.sets.specs.CellSet.{ynd_of, members_of}
use Rattle.sets.specs.Leave.{start_of}
use Rattle.sets.specs.SetParts.{named_of, count_of}
use Rattle.sets.specs.CrossParts.{walked_set, cells_in, Lent}
use Rattle.sets.proofs.PartLaws.{rest, part_inside}
use Rattle.sets.proofs.CellSetLaws.{members_many, areas_many, areas_held}
use Rattle.sets.proofs.MemberLaws.{take_in, next_is, member_inside}
use Rattle.sets.proofs.MemberCells.{from_start, numbers_at, nodes_at}
use Rattle.std.specs.Prelude.{Result, Ok, Err, Some, None}
use Rattle.cells.specs.declared.link.PathLink.{PathLink}
use Rattle.cells.specs.declared.node_entry.NodeEntry.{NodeEntry}
use Rattle.cells.specs.Nodes.{no_entry}

-- ---- what `node` finds in a member

-- what the code makes of it
abbrev arrived : ℕ → Place → Result Location End
arrived k (Ok (Some q)) = Ok (location k q)
arrived k (Ok None) = Err NoNode
arrived k (Err a) = Err NoNode

-- its nodes lent from where the part starts
module _ (x : World) (number : ℕ) {k start : ℕ} {v : Ynd} {o : Place} (lt : k < length x.members.now)
    (es : start ≡ start_of 15 x.members.now k) (ev : v ≡ ynd_of (get_or x.members.now k []))
    (e : o ≡ node_call v (take (length x.nodes.now - start) (drop start x.nodes.now)) number) where
  abbrev ws : List (List ℕ)
  ws = x.members.now

  abbrev part : List NodeEntry
  part = drop (start_of 15 ws k) x.nodes.now

  abbrev ks : List ℕ
  ks = numbers (cell_at (cells_in ws x.nodes.now x.links.now) k).nodes

  part_held : count_of 10 ws k ≤ length part
  part_held =
      let h = x.lent.nodes_hold in
      omega (arith, length-drop (start_of 15 ws k) x.nodes.now, part_inside h k lt, h.held k lt)

  numbers_here : ks ≡ numbers_in (count_of 10 ws k) part
  unfolding cells_in
  numbers_here = numbers_at (walked_set ws x.nodes.now x.links.now) k lt (x.lent.nodes_hold.held k lt)

  told : o ≡ Ok (place_of (find ks number))
  unfolding node_call nodes_causes find_in ynd_of
  told =
      e
      ∙ ap (λ (l : List NodeEntry). node_call v l number) (rest x.nodes.now start)
      ∙ (λ i. node_call (ev i) (drop (es i) x.nodes.now) number)
      ∙ rw (x.lent.within k lt, le-ltb (length part) (count_of 10 ws k) part_held)
      (ap (λ (ns : List ℕ). Ok (place_of (find ns number))) (sym numbers_here))

  arrives : arrived k o ≡ step_of (arrive_in k (find ks number))
  arrives = ap (arrived k) told ∙ on (find ks number)
    where
      on : (f : Option ℕ) → arrived k (Ok (place_of f)) ≡ step_of (arrive_in k f)
      on (some p) = refl
      on none = refl

  pub there : (q : ℕ) → o ≡ Ok (Some q) → Ok (location k q) ≡ step_of (arrive_in k (find ks number))
  there q is = ap (arrived k) (sym is) ∙ arrives

  pub not_there : o ≡ Ok None → Err NoNode ≡ step_of (arrive_in k (find ks number))
  not_there is = ap (arrived k) (sym is) ∙ arrives

  pub not_asked : (x : Refusal) → o ≡ Err x → Err NoNode ≡ step_of (arrive_in k (find ks number))
  not_asked x is = ap (arrived k) (sym is) ∙ arrives

  -- a place is a small number
  pub place_small : (q : ℕ) → o ≡ Ok (Some q) → q < 65536
  unfolding ynd_of
  place_small q is = go (find ks number) (find_inside ks number) (sym is ∙ told)
    where
      go : (f : Option ℕ) → ((j : ℕ) → f ≡ some j → j < length ks) → ◌≡◌ {A = Place} (Ok (Some q)) (Ok (place_of f))
          → q < 65536
      go (some j) h f =
          let z : q ≡ j = cc in
          omega (
            arith,
            z,
            h j refl,
            ap length numbers_here,
            numbers_long (count_of 10 ws k) part part_held,
            (limits _ (x.lent.within k lt)).0,
          )
      go none h f = absurd (cc)

-- ---- by a link

-- a member that a link names is there
pub named_there : (all : List ℕ) (i a k : ℕ) → i < length all → Some k ≡ named_of (member_for all i a)
    → k < length all
named_there all i a k lt e = go (member_for all i a) (λ j f. member_inside all i a j lt f) e
  where
    go : (o : Option ℕ) → ((j : ℕ) → o ≡ some j → j < length all) → Some k ≡ named_of o → k < length all
    go (some j) h e = let z : k ≡ j = cc in omega (arith, h j refl, z)
    go none h e = let z : ◌≡◌ {A = ℕ} 0 1 = cc in absurd (omega arith)

-- the areas are as many as the members
pub lent_many : (all : List ℕ) (ws : List (List ℕ)) (nodes : List NodeEntry) → Lent all ws nodes
    → length all ≡ length ws
lent_many all ws nodes h = ap length h.areas_are ∙ areas_many ws nodes

-- ---- the step

module _ (x : World) (t : Location) (b : ℕ) where
  abbrev all : List (List ℕ)
  all = x.members.now

  abbrev cs : List Cell
  cs = cells_in all x.nodes.now x.links.now

  step_by : (l : Option PathLink) → link_at (cell_at cs t.member).nodes t.place b ≡ l
      → step_of (next_in cs t b) ≡ step_of (take_in cs t.member l)
  step_by l e = ap step_of (next_is cs t b ∙ ap (take_in cs t.member) e)

  -- no such member has no nodes
  pub no_member : length all ≤ t.member → Err NoLink ≡ step_of (next_in cs t b)
  unfolding cells_in no_node
  no_member le =
      let y = walked_set all x.nodes.now x.links.now in
      let none_there : cell_at cs t.member ≡ no_cell = get_or_past cs t.member no_cell
      (omega (arith, length-map (members_of y) cell_of, members_many y, le)) in
      sym (step_by none (ap (λ (c : Cell). link_at c.nodes t.place b) none_there))

  module _ (lt : t.member < length all) where
    abbrev here : Memory
    here = from_start (walked_set all x.nodes.now x.links.now) t.member lt

    nodes_here : (cell_at cs t.member).nodes ≡ nodes_of here
    unfolding cells_in
    nodes_here = nodes_at (walked_set all x.nodes.now x.links.now) t.member lt (x.lent.nodes_hold.held t.member lt)
        (x.links_hold.held t.member lt)

    areas_here : x.areas.now ≡ areas cs
    unfolding cells_in
    areas_here = x.lent.areas_are ∙ areas_held (walked_set all x.nodes.now x.links.now)

    -- the member's own nodes and links, and what the choice finds there
    module _ {own : List NodeEntry} (eo : own ≡ take (count_of 10 all t.member)
        (drop (start_of 15 all t.member) x.nodes.now))
        {links : List PathLink} (el : links ≡ take (count_of 11 all t.member)
        (drop (start_of 16 all t.member) x.links.now))
        {o : std.Option PathLink} (is : o ≡ chosen links (get_or own t.place no_entry) b) where
      link_is : link_at (cell_at cs t.member).nodes t.place b ≡ linked o
      unfolding ynd_of
      link_is =
          ap (λ (ns : List Node). link_at ns t.place b) nodes_here
          ∙ link_found here t.place b
          ∙ ap linked (sym (is ∙ (λ i. chosen (el i) (get_or (eo i) t.place no_entry) b)))

      pub no_link : o ≡ None → Err NoLink ≡ step_of (next_in cs t b)
      no_link e = sym (step_by none (link_is ∙ ap linked e))

      -- a link that is there: on by what it names
      pub by_link : (w : PathLink) → o ≡ Some w → (r : Result Location End)
          → r ≡ step_of (enter cs w.area_id w.node_id (member_for x.areas.now t.member w.area_id))
          → r ≡ step_of (next_in cs t b)
      by_link w e r h =
          h
          ∙ ap (λ (areas : List ℕ). step_of (enter cs w.area_id w.node_id
          (member_for areas t.member w.area_id)))
          areas_here
          ∙ sym (step_by (some w) (link_is ∙ ap linked e))

-- for the check
pub ruleset arrive_laws = (there, not_there, not_asked)

pub ruleset named_laws = (lent_many, named_there)

pub ruleset step_laws = (no_member, no_link, by_link)

-- ---- a member has as many nodes as its entry says
pub nodes_count : (x : World) (i : ℕ) → i < length x.members.now
    → length (cell_at (cells_in x.members.now x.nodes.now x.links.now) i).nodes ≡ count_of 10 x.members.now i
unfolding cells_in cell_of ynd_of
nodes_count x i lt =
    let y = walked_set x.members.now x.nodes.now x.links.now in
    let ws = x.members.now in
    let hn = x.lent.nodes_hold in
    let hl = x.links_hold in
    ap length (nodes_at y i lt (hn.held i lt) (hl.held i lt))
    ∙ nodes_long (from_start y i lt) (record {
      within = x.lent.within i lt;
      nodes_lie = omega (arith, length-drop (start_of 15 ws i) x.nodes.now, part_inside hn i lt, hn.held i lt);
      links_lie = omega (arith, length-drop (start_of 16 ws i) x.links.now, part_inside hl i lt, hl.held i lt);
    })
