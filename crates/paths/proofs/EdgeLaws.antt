-- Where a choice leads and how long its link is, by the entries in memory.
use Prim.Native.Nat.{ℕ, zero, suc, ◌+◌, ◌<◌, ◌≤◌}
use native.Mathlib.Omega.{arith}
use mathlib.Core.Path.{◌≡◌, refl, ap, sym, ◌∙◌}
use mathlib.Core.Bool.{Bool, true, false, cond}
use mathlib.Core.List.{List, [], ◌∷◌}
use mathlib.Core.Option.{Option as Found, none, some}
use mathlib.Core.Logic.{⊎_elim}
use lib.ListN.{length, get_or, take}
use Rattle.std.specs.Prelude.{nat_lt, slice_get}
use lib.Seq.{get_or-take, take_all}
use Rattle.std.proofs.Common.{length-take}
use borrow.Author.Tests.{le-ltb}
use Rattle.std.proofs.lemmas.Bool.{cases_lt}
use Rattle.cells.specs.Memory.{Memory}
use Rattle.cells.specs.Nodes.{first_area, no_entry, no_link}
use Rattle.cells.specs.Area.{belongs}
use Rattle.cells.specs.Cell.{Node, numbers, first_of}
use Rattle.cells.specs.CellOf.{nodes_of, cell_of}
use Rattle.cells.specs.Lookup.{find}
use Rattle.cells.specs.LookupCall.{numbers_in, place_of, find_in}
use Rattle.walks.specs.Walk.{to, stop, next, link_at, take_link, arrive}
use Rattle.walks.specs.declared.walk.End.TheVariants.{Left}
use Rattle.walks.proofs.SoundWords.{numbers_same}
use Rattle.walks.proofs.ScratchLaws.{numbers_long}
use Rattle.walks.specs.Parts.{chosen}
use Rattle.walks.proofs.StepLaws.{find_inside, words, linked, link_found}
use Rattle.cells.proofs.Lookups.LookupLaws.{area_held}
use Rattle.paths.specs.ShortestPath.{length_of, length_at}
use Rattle.paths.specs.Labels.{Links}
use Rattle.paths.specs.Search.{ShortLinks, edge_by, edge_of}
use Rattle.paths.specs.declared.search.Edge.{Edge}
use Rattle.std.specs.Prelude.{Option, Some, None}
use Rattle.cells.specs.declared.link.PathLink.{PathLink}
use Rattle.cells.specs.declared.node_entry.NodeEntry.{NodeEntry}

-- a link leads to a place of the cell
pub next_inside : (ns : List Node) (p b q : ℕ) → next ns p b ≡ to q → q < length (numbers ns)
unfolding next
next_inside ns p b q e = at (link_at ns p b) e
  where
    found : (o : Found ℕ) → ((j : ℕ) → o ≡ some j → j < length (numbers ns)) → arrive o ≡ to q → q
        < length (numbers ns)
    found (some j) h e = let z : j ≡ q = cc in omega (arith, h j refl)
    found none h e = let z : ◌≡◌ {A = ℕ} 0 1 = cc in absurd (omega arith)

    own : (l : PathLink) (t : Bool) → cond t (arrive (find (numbers ns) l.node_id)) (stop
        (Left l.area_id l.node_id)) ≡ to q
        → q < length (numbers ns)
    own l true e = found (find (numbers ns) l.node_id) (find_inside (numbers ns) l.node_id) e
    own l false e = let z : ◌≡◌ {A = ℕ} 0 1 = cc in absurd (omega arith)

    at : (o : Found PathLink) → take_link ns o ≡ to q → q < length (numbers ns)
    at (some l) e = own l (belongs (first_of ns) l.area_id) e
    at none e = let z : ◌≡◌ {A = ℕ} 0 1 = cc in absurd (omega arith)

-- by the place that the link's number finds
abbrev edge_to : ℕ → Option ℕ → Option Edge
edge_to len (Some q) = Some (record { to = q; length = len })
edge_to len None = None

elem_short : (ls : List PathLink) → ShortLinks ls → (i : ℕ) → length_of (linked (slice_get ls i)) ≤ 255
elem_short [] h i = omega arith
elem_short (x ∷ xs) h zero = let few : x.length < 256 = h 0 (omega arith) in omega arith
elem_short (x ∷ xs) h (suc i) = elem_short xs (λ j lt. h (suc j) (omega arith)) i

module _ (m : Memory) where
  abbrev n : ℕ
  n = m.ynd.node_count

  abbrev l : ℕ
  l = m.ynd.link_count

  abbrev count : ℕ → ℕ
  count p = (get_or m.nodes p no_entry).link_count

  same_numbers : numbers (nodes_of m) ≡ numbers_in n m.nodes
  unfolding cell_of
  same_numbers = numbers_same m

  module _ (fits : n ≤ length m.nodes) where
    -- a choice beyond the count
    link_past : (p b : ℕ) → p < n → count p ≤ b → link_at (nodes_of m) p b ≡ none
    unfolding chosen
    link_past p b lt le = link_found m p b ∙ rw (get_or-take n m.nodes p no_entry lt, le-ltb _ _ le)

    -- a link is within the count
    pub link_within : (p b q : ℕ) → p < n → next (nodes_of m) p b ≡ to q → b < count p
    unfolding next
    link_within p b q lt e = ⊎_elim (λ y. y) (λ le. absurd (no (rw (link_past p b lt le) at e))) (cases_lt b (count p))
      where
        no : take_link (nodes_of m) none ≡ to q → ⊥
        no e = let z : ◌≡◌ {A = ℕ} 0 1 = cc in omega arith

    module _ (lengths : ShortLinks m.links) where
      short : (p b : ℕ) → length_at (nodes_of m) p b ≤ 255
      unfolding length_at chosen
      short p b = rw (link_found m p b) (go (nat_lt b (words m p).link_count))
        where
          own : ShortLinks (take l m.links)
          own i lt =
              let long = length-take l m.links in
              let same = get_or-take l m.links i no_link (omega arith) in
              let few = lengths i (omega arith) in
              omega (arith, few, ap (λ (x : PathLink). x.length) same)

          go : (t : Bool) → length_of (linked (cond t (slice_get (take l m.links)
              ((words m p).link_id + b)) None)) ≤ 255
          go true = elem_short (take l m.links) own ((words m p).link_id + b)
          go false = omega arith

      pub links_of : n ≤ 65536 → Links (nodes_of m) n
      links_of few = record {
        few = few;
        short = λ p b lt. short p b;
        lead_in = λ p b q e. omega (
          arith,
          next_inside (nodes_of m) p b q e,
          ap length same_numbers,
          numbers_long n m.nodes fits,
        );
      }

  -- ---- by the link chosen, of a cell with no more nodes than it counts

  module _ (whole : length m.nodes ≡ n) (p b : ℕ) {o : Option PathLink}
      (is : o ≡ chosen (take l m.links) (get_or m.nodes p no_entry) b) where
    own_nodes : take n m.nodes ≡ m.nodes
    own_nodes = rw (← whole) (take_all (length m.nodes) m.nodes (omega arith))

    link_is : link_at (nodes_of m) p b ≡ linked o
    link_is = link_found m p b ∙ ap (λ (ws : List NodeEntry). linked (chosen (take l m.links) (get_or ws p no_entry) b))
        own_nodes
        ∙ ap linked (sym is)

    pub edge_none : o ≡ None → None ≡ edge_of (nodes_of m) p b
    unfolding edge_of next
    edge_none e = rw (link_is, e)

    module _ (w : PathLink) (e : o ≡ Some w) {own : ℕ} (from : own ≡ first_area (take (length m.nodes) m.nodes))
        {t : Bool}
        (h : t ≡ belongs own w.area_id) where
      belongs_is : belongs (first_of (nodes_of m)) w.area_id ≡ t
      belongs_is =
          (λ i. belongs (area_held m i) w.area_id)
          ∙ sym (h ∙ (λ i. belongs ((from ∙ (λ j. first_area (take (whole j) m.nodes))) i) w.area_id))

      pub edge_left : t ≡ false → None ≡ edge_of (nodes_of m) p b
      unfolding edge_of next
      edge_left f = rw (link_is, e, belongs_is, f)

      edge_own : t ≡ true → {r : Option ℕ} → r ≡ find_in (length m.nodes) m.nodes w.node_id
          → edge_to w.length r ≡ edge_of (nodes_of m) p b
      unfolding edge_of next length_at find_in
      edge_own y f = ap (edge_to w.length) f
          ∙ rw (link_is, e, belongs_is, y, whole, same_numbers) (go (find _ _))
        where
          go : (x : Found ℕ) → edge_to w.length (place_of x)
              ≡ edge_by w.length (arrive x)
          go (some q) = refl
          go none = refl

      module _ (y : t ≡ true) {r : Option ℕ} (f : r ≡ find_in (length m.nodes) m.nodes w.node_id) where
        pub edge_nowhere : r ≡ None → (a : Option Edge) → a ≡ None → a ≡ edge_of (nodes_of m) p b
        edge_nowhere q a e = e ∙ ap (edge_to w.length) (sym q) ∙ edge_own y f

        pub edge_there : (q : ℕ) → r ≡ Some q → (len : ℕ) → len ≡ w.length
            → Some (record { to = q; length = len }) ≡ edge_of (nodes_of m) p b
        edge_there q at len e =
            (λ i. Some (record { to = q; length = e i }))
            ∙ ap (edge_to w.length) (sym at) ∙ edge_own y f

-- for the function that follows
pub ruleset edge_laws = (edge_none, edge_left, edge_nowhere, edge_there)
