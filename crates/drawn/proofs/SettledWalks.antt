-- A settled cell is as sound, is renumbered alike, and its walks are those of the cell, with every node and junction
-- that is shown settled.
use Prim.Native.Nat.{ℕ, suc}
use mathlib.Core.Path.{◌≡◌, refl, sym, ap, ◌∙◌}
use mathlib.Core.Bool.{not, ◌&&◌, ◌||◌, cond}
use mathlib.Core.List.{List, [], ◌∷◌, map, map-map}
use mathlib.Core.Option.{Option, none, some}
use lib.Dec.{eqb}
use lib.ListN.{length, get_or, get_elem?, length-map, get_or-map}
use lib.Ieee.{of_bits, to_bits, round}
use Rattle.std.proofs.lemmas.List.{map-append}
use Rattle.numbers.specs.Steps.{step_of, unstep}
use Rattle.cells.specs.Lists.{every}
use Rattle.cells.specs.Order.{keep, parted, Old}
use Rattle.cells.specs.Area.{belongs}
use Rattle.cells.specs.Lookup.{first_with, find, ref_of, junction_at, junction_of, is_some}
use Rattle.cells.specs.Cell.{Node, Junction, Cell, no_body, no_node, node_at, is_ped_node, is_vehicle_node}
use Rattle.cells.specs.Cell.{first_of, numbers, ped_flags, old_nodes, ordered, renode, number_nodes}
use Rattle.cells.specs.Nodes.{rereffed}
use Rattle.cells.specs.Cell.{renumber_cell}
use Rattle.walks.specs.Sound.{sound, node_sound, is_empty, differing}
use Rattle.walks.specs.Walk.{Next, to, stop, link_at, arrive, leads, take_link, next, Seen, see, World, Visit, Trail}
use Rattle.walks.specs.Walk.{go_on, walk_in, world_of, walk}
use Rattle.walks.specs.Walk as walk-spec
use Rattle.walks.specs.WalkCall.{Route, step_on, route}
use Rattle.walks.specs.declared.walk.End.TheVariants as end
use Rattle.walks.proofs.Ranges.{every_mapped}
use Rattle.cells.proofs.Sequences.Tests.{map_keep, map_at, map_option}
use Rattle.drawn.specs.Settled.{settled_step, settled_body, settled_node, settled_junction, settled, settled_option}
use Rattle.drawn.specs.Settled.{settled_seen, settled_visit, settled_trail}
use Rattle.cells.specs.declared.link.PathLink.{PathLink}

abbrev all : List Node → List Node
all ns = map settled_node ns

first_same : (ns : List Node) → first_of (all ns) ≡ first_of ns
first_same [] = refl
first_same (n ∷ ns) = refl

numbers_same : (ns : List Node) → numbers (all ns) ≡ numbers ns
numbers_same ns = map-map (λ n. n.number) settled_node ns

pub flags_same : (ns : List Node) → ped_flags (all ns) ≡ ped_flags ns
flags_same ns = map-map is_ped_node settled_node ns

-- ---- sound

empty_same : (ns : List Node) → is_empty (all ns) ≡ is_empty ns
empty_same [] = refl
empty_same (n ∷ ns) = refl

node_sound_law : (ns : List Node) (n : Node) → node_sound (all ns) (settled_node n) ≡ node_sound ns n
node_sound_law ns n = λ i. eqb n.area (first_same ns i) && every
    (λ l. not (belongs (first_same ns i) l.area_id) || is_some (first_with (numbers_same ns i) l.node_id)) n.links

pub sound_same : (c : Cell) → sound (settled c) ≡ sound c
unfolding sound settled
sound_same c = λ i.
    empty_same c.nodes i
    || (every_mapped (node_sound (all c.nodes)) settled_node (node_sound c.nodes)
    (node_sound_law c.nodes) c.nodes i && differing (numbers_same c.nodes i)
    && every (λ r. not (belongs (first_same c.nodes i) r.area_id) || is_some
    (first_with (numbers_same c.nodes i) r.node_id)) c.refs)

-- ---- renumbered

old_same : (ns : List Node) → old_nodes (all ns) ≡ old_nodes ns
old_same ns = λ i. record { area = first_same ns i; numbers = numbers_same ns i; peds = flags_same ns i }

number_same : (o : Old) (k : ℕ) (ns : List Node) → number_nodes o k (all ns) ≡ all (number_nodes o k ns)
unfolding number_nodes
number_same o k [] = refl
number_same o k (n ∷ ns) = ap (λ (t : List Node). settled_node (renode o k n) ∷ t) (number_same o (suc k) ns)

ordered_same : (ns : List Node) → ordered (all ns) ≡ all (ordered ns)
unfolding parted
ordered_same ns = rw (map-append, map_keep, map_keep)

pub renumber_settled : (c : Cell) → renumber_cell (settled c) ≡ settled (renumber_cell c)
unfolding renumber_cell settled
renumber_settled c = λ i. record {
  nodes = ((λ j. number_nodes (old_same c.nodes j) 0 (ordered_same c.nodes j)) ∙ number_same (old_nodes c.nodes) 0
      (ordered c.nodes)) i;
  junctions = map settled_junction c.junctions;
  refs = map (rereffed (old_same c.nodes i)) c.refs;
  vehicles = (ap length (map_keep settled_node is_vehicle_node c.nodes) ∙ length-map
      (keep is_vehicle_node c.nodes) settled_node) i;
  peds = (ap length (map_keep settled_node is_ped_node c.nodes) ∙ length-map
      (keep is_ped_node c.nodes) settled_node) i;
  vft = c.vft;
  words = c.words;
}

-- ---- walked

pub step_none_2 : settled_step 2 0 ≡ 0
unfolding unstep step_of to_bits of_bits round
step_none_2 = refl

pub step_none_5 : settled_step 5 0 ≡ 0
unfolding unstep step_of to_bits of_bits round
step_none_5 = refl

none_settled : no_node ≡ settled_node no_node
unfolding no_node no_body
none_settled = sym (λ i. record {
  area = 0;
  number = 0;
  links = [];
  body = record no_body { position = record { x = step_none_2 i; y = step_none_2 i; z = step_none_5 i } };
})

pub node_same : (ns : List Node) (p : ℕ) → node_at (all ns) p ≡ settled_node (node_at ns p)
node_same ns p = ap (get_or (all ns) p) none_settled ∙ get_or-map settled_node ns p no_node

pub next_same : (ns : List Node) (p b : ℕ) → next (all ns) p b ≡ next ns p b
unfolding next
next_same ns p b = ap (λ (n : Node). take_link (all ns) (get_elem? n.links b)) (node_same ns p) ∙ go
    (get_elem? (node_at ns p).links b)
  where
    go : (l : Option PathLink) → take_link (all ns) l ≡ take_link ns l
    go (some l) = λ i. cond (belongs (first_same ns i) l.area_id) (arrive (find (numbers_same ns i) l.node_id))
        (stop (end.Left l.area_id l.node_id))
    go none = refl

pub route_same : (ns : List Node) (bs : List ℕ) (p : ℕ) → route (all ns) bs p ≡ route ns bs p
unfolding route
route_same ns [] p = refl
route_same ns (b ∷ bs) p = ap (step_on p (route (all ns) bs)) (next_same ns p b) ∙ go (next ns p b) (route_same ns bs)
  where
    go : (x : Next ℕ) → ((q : ℕ) → route (all ns) bs q ≡ route ns bs q) → step_on p (route (all ns) bs) x ≡ step_on p
        (route ns bs) x
    go (to q) ih = ap (λ (r : Route). step_on p (λ z. r) (to q)) (ih q)
    go (stop e) ih = refl

option : (o : Option Junction) → map_option settled_junction o ≡ settled_option o
option (some j) = refl
option none = refl

junction_same : (c : Cell) (a k : ℕ) → junction_of (settled c) a k ≡ settled_option (junction_of c a k)
unfolding junction_of settled
junction_same c a k = ap (λ (o : ℕ). junction_at (map settled_junction c.junctions) (ref_of o c.refs a k))
    (first_same c.nodes) ∙ go (ref_of (first_of c.nodes) c.refs a k)
  where
    go : (r : Option ℕ) → junction_at (map settled_junction c.junctions) r ≡ settled_option (junction_at c.junctions r)
    go (some j) = map_at settled_junction c.junctions j ∙ option (get_elem? c.junctions j)
    go none = refl

see_same : (c : Cell) (p : ℕ) → see (settled c) p ≡ settled_seen (see c p)
unfolding see settled
see_same c p =
    ap (λ (n : Node). record {
      area = n.area;
      body = n.body;
      count = length n.links;
      junction = junction_of
          (settled c) n.area n.number;
    }) (node_same c.nodes p)
    ∙ ap (λ (j : Option Junction). record {
      area = (node_at c.nodes p).area;
      body = settled_body
          (node_at c.nodes p).body;
      count = length (node_at c.nodes p).links;
      junction = j;
    })
    (junction_same c (node_at c.nodes p).area (node_at c.nodes p).number)

-- every walk: the same places and the same end; of each node and junction shown the settled one
pub walk_settled : (c : Cell) (bs : List ℕ) (p : ℕ) → walk (settled c) bs p ≡ settled_trail (walk c bs p)
unfolding walk walk_in settled
walk_settled c [] p = λ i. record {
  ending = end.Done;
  visits =
      record { place = p; seen = see_same c p i; link = none } ∷ [];
}
walk_settled c (b ∷ bs) p =
    let d = settled c in
    (λ i. go_on (record {
      place = p;
      seen = see_same c p i;
      link = walk-spec.shown_of
          (get_elem? (node_same c.nodes p i).links b);
    }) (walk d bs) (next_same c.nodes p b i))
    ∙ go (next c.nodes p b) (walk_settled c bs)
  where
    v : Visit ℕ
    v = record { place = p; seen = see c p; link = walk-spec.shown_of (link_at c.nodes p b) }

    go : (x : Next ℕ) → ((q : ℕ) → walk (settled c) bs q ≡ settled_trail (walk c bs q)) → go_on (settled_visit v)
        (walk (settled c) bs) x ≡ settled_trail (go_on v (walk c bs) x)
    go (to q) ih = ap (λ (t : Trail ℕ). go_on (settled_visit v) (λ z. t) (to q)) (ih q)
    go (stop e) ih = refl
