-- What is asked before the search, and the answers after it.
use Prim.Native.Nat.{ℕ, ◌+◌, ◌*◌, ◌/◌, ◌%◌, ◌<◌, ◌≤◌}
use native.Mathlib.Omega.{arith}
use mathlib.Core.Path.{◌≡◌, refl, ap, sym, ◌∙◌, subst, transport}
use mathlib.Core.Bool.{false}
use mathlib.Core.List.{List, map, ◌++◌}
use mathlib.Core.Logic.{◌⊎◌}
use lib.ListN.{length, take, drop}
use lib.Seq.{get_or-take, take-length, length-take-le}
use borrow.Author.Tests.{leb-false, ltb-false}
use Rattle.numbers.specs.Refusals.{decided, done}
use Rattle.numbers.proofs.Refusing.{passed}
use Rattle.cells.specs.Cell.{Node}
use Rattle.cells.specs.Memory.{memory, over_limit}
use Rattle.cells.specs.CellOf.{nodes_of, node_with}
use Rattle.cells.specs.declared.ynd.Ynd.{Ynd}
use Rattle.cells.proofs.Forms.Limits.{within}
use Rattle.walks.specs.WalkCall.{route}
use Rattle.walks.specs.WalkParts.{lent, over}
use Rattle.paths.specs.ShortestPath.{distance, Unreachable, ShortestPath}
use Rattle.paths.specs.PathCall.{path_causes, Searched, unreachable, short, path, PathLeft, searched}
use Rattle.paths.specs.Labels.{unlabelled, choices_to, places_to, Back}
use Rattle.paths.specs.Scratch.{label_at, from_at, by_at, Traced}
use Rattle.paths.specs.Search.{ShortCounts, ShortLinks, Lent, Searching}
use Rattle.paths.specs.declared.path.Shortest.{Shortest}
use Rattle.paths.proofs.Relabel.{label_steps}
use Rattle.paths.proofs.Least as least
use Rattle.paths.proofs.SearchLaws.{finished}
use Rattle.paths.proofs.EdgeLaws.{link_within}
use Rattle.paths.proofs.RelaxLaws.{all_links}
use Rattle.std.specs.Prelude.{Result, Ok, Err}
use Rattle.numbers.specs.declared.refusal.Refusal.{Refusal}
use Rattle.numbers.specs.declared.refusal.Refusal.TheVariants.{TooShort, NoPath}
use Rattle.numbers.specs.declared.refusal.Lent.TheVariants as lent
use Rattle.cells.specs.declared.node_entry.NodeEntry.{NodeEntry}
use Rattle.cells.specs.declared.link.PathLink.{PathLink}
use Rattle.cells.specs.declared.junction_entry.JunctionEntry.{JunctionEntry}
use Rattle.records.specs.declared.junction_ref.NodeJunctionRef.{NodeJunctionRef}
use Rattle.cells.specs.Nodes.{no_entry}

-- ---- what is asked before the search

-- what an accepted list of causes says
pub record Accepted (y : Ynd) (nodes links p q room : ℕ) : Type 0 where
  pub from_in : p < y.node_count
  pub to_in : q < y.node_count
  pub limits : over_limit y ≡ false
  pub nodes_fit : y.node_count ≤ nodes
  pub links_fit : y.link_count ≤ links
  pub scratch_fits : 4 * y.node_count ≤ room

pub accepted : (y : Ynd) (nodes links p q room : ℕ) → decided (path_causes y nodes links p q room) ≡ done
    → Accepted y nodes links p q room
unfolding path_causes
accepted y nodes links p q room e =
    let cs = path_causes y nodes links p q room in
    record {
      from_in = leb-false y.node_count p (passed cs 0 e);
      to_in = leb-false y.node_count q (passed cs 1 e);
      limits = passed cs 2 e;
      nodes_fit = ltb-false nodes y.node_count (passed cs 3 e);
      links_fit = ltb-false links y.link_count (passed cs 4 e);
      scratch_fits = ltb-false room (4 * y.node_count) (passed cs 5 e);
    }

-- ---- after the search

pub lent_so : (y : Ynd) (nodes : List NodeEntry) (links : List PathLink) (p q room : ℕ)
    → Accepted y (length nodes) (length links) p q room → ShortCounts nodes → ShortLinks links
    → Lent y nodes links
lent_so y nodes links p q room a c s = record
    { few = (within y a.limits).0; nodes_fit = a.nodes_fit; links_fit = a.links_fit; counts = c; short = s }

-- the nodes that count are the cell's
pub own_nodes : (y : Ynd) (nodes : List NodeEntry) (links : List PathLink) → y.node_count ≤ length nodes
    → nodes_of (lent y (take y.node_count nodes) links) ≡ nodes_of (lent y nodes links)
unfolding nodes_of
own_nodes y nodes links le =
    let own = take y.node_count nodes in
    let e : take y.node_count own ≡ own
    = ap (λ (k : ℕ). take k own) (sym (length-take-le y.node_count nodes le)) ∙ take-length own in
    ap (map (node_with (take y.link_count links))) e

pub own_lent : (y : Ynd) (nodes : List NodeEntry) (links : List PathLink) → Lent y nodes links
    → Lent y (take y.node_count nodes) links
own_lent y nodes links l = record {
  few = l.few;
  nodes_fit = omega (arith, length-take-le y.node_count nodes l.nodes_fit);
  links_fit = l.links_fit;
  counts = λ i lt.
      let long = length-take-le y.node_count nodes l.nodes_fit in
      let same = get_or-take y.node_count nodes i no_entry (omega arith) in
      let few = l.counts i (omega (arith, l.nodes_fit)) in
      omega (arith, few, ap (λ (n : NodeEntry). n.link_count) same);
  short = l.short;
}

-- whatever the lists that are not lent
pub same_nodes : (y : Ynd) (nodes : List NodeEntry) (links : List PathLink) (js : List JunctionEntry) (hs : List ℕ)
    (rs : List NodeJunctionRef)
    → nodes_of (lent y nodes links) ≡ nodes_of (memory y nodes links js hs rs)
unfolding nodes_of
same_nodes y nodes links js hs rs = refl

pub answered : (y : Ynd) (nodes : List NodeEntry) (links : List PathLink) (p q : ℕ) (scratch choices places : List ℕ)
    (a : Result Shortest Refusal) (s c t : List ℕ)
    → decided (path_causes y (length nodes) (length links) p q (length scratch)) ≡ done
    → Searched (nodes_of (lent y nodes links)) y.node_count p q choices places a c t
    → (js : List JunctionEntry) (hs : List ℕ) (rs : List NodeJunctionRef)
    → PathLeft (memory y nodes links js hs rs) p q scratch choices places a s c t
answered y nodes links p q scratch choices places a s c t e x js hs rs =
    searched e (subst (λ (ns : List Node). Searched ns y.node_count p q choices places a c t)
    (same_nodes y nodes links js hs rs) x)

module _ (y : Ynd) (nodes : List NodeEntry) (links : List PathLink) (l : Lent y nodes links) (p q : ℕ) (s : List ℕ)
    (h : Searching (nodes_of (lent y nodes links)) p y.node_count s 0 y.node_count 0) (lq : q < y.node_count) where
  abbrev N : ℕ
  N = y.node_count

  abbrev ns : List Node
  ns = nodes_of (lent y nodes links)

  abbrev d : ℕ → ℕ
  d = label_at s

  abbrev steps : ℕ
  steps = d q % 4294967296

  abbrev bs : List ℕ
  bs = choices_to (from_at s) (by_at s) steps q

  found_back : Back N (label_at s) (from_at s) (by_at s)
  found_back =
      least.back ns p N d (from_at s) (by_at s) (all_links y nodes links l p) h.labels
      (finished ns p N (all_links y nodes links l p) s h)
      (λ u b v lu x. omega (
        arith,
        link_within (lent y nodes links) l.nodes_fit u b v lu x,
        l.counts u (omega
            (arith, l.nodes_fit)),
      ))

  found_few : d q < unlabelled → steps < N
  found_few k = label_steps ns p N d (from_at s) (by_at s) (all_links y nodes links l p) h.labels q lq k

  -- of a place that is reached
  pub found_traced : (label : ℕ) → label ≡ d q → label < unlabelled → Traced s q (label % 4294967296)
  found_traced label e k = record {
    n = N;
    few = l.few;
    room = h.kept.room;
    back = found_back;
    inside = lq;
    labelled = omega arith;
    left = sym (ap (λ (x : ℕ). x % 4294967296) e);
  }

  pub found_room : (label : ℕ) → label ≡ d q → label < unlabelled → label % 4294967296 < N
  found_room label e k = omega (arith, ap (λ (x : ℕ). x % 4294967296) e, found_few (omega arith))

  found_unreachable : unlabelled ≤ d q → Unreachable ns p q
  found_unreachable k = least.unreachable ns p N d (from_at s) (by_at s) (all_links y nodes links l p) h.labels
      (finished ns p N (all_links y nodes links l p) s h) q k

  found_path : d q < unlabelled → ShortestPath ns p q bs
  found_path k = least.shortest_path ns p N d (from_at s) (by_at s) (all_links y nodes links l p) h.labels
      (finished ns p N (all_links y nodes links l p) s h) q lq k

  found_sum : d q < unlabelled → distance ns bs p ≡ d q / 4294967296
  found_sum k = (least.remembered_path ns p N d (from_at s) (by_at s) (all_links y nodes links l p) h.labels
      (finished ns p N (all_links y nodes links l p) s h) steps q lq k refl).sum

  found_places : d q < unlabelled → (route ns bs p).places ≡ places_to (from_at s) steps q
  found_places k = (least.remembered_path ns p N d (from_at s) (by_at s) (all_links y nodes links l p) h.labels
      (finished ns p N (all_links y nodes links l p) s h) steps q lq k refl).places

  found_long : length bs ≡ steps
  found_long = least.choices_long (from_at s) (by_at s) steps q

  module _ (choices places : List ℕ) (label : ℕ) (e : label ≡ d q) where
    pub answer_unreachable : unlabelled ≤ label → Searched ns N p q choices places (Err NoPath) choices places
    answer_unreachable k = unreachable (found_unreachable (omega arith))

    pub answer_short : label < unlabelled → (length choices < N) ⊎ (length places < N)
        → Searched ns N p q choices places (Err (TooShort lent.List)) choices places
    answer_short k o = short bs (found_path (omega arith)).leads o

    whole_path : label < unlabelled → N ≤ length choices → N ≤ length places → (c t : List ℕ)
        → c ≡ over (choices_to (from_at s) (by_at s) (label % 4294967296) q) choices
        → t ≡ over (places_to (from_at s) (label % 4294967296) q) places
        → Searched ns N p q choices places (Ok (record {
          distance = label / 4294967296;
          links = label % 4294967296;
        })) c t
    whole_path k lc lp c t ec et =
        let f : d q < unlabelled = omega arith in
        let sum : label / 4294967296 ≡ distance ns bs p = ap (λ (x : ℕ). x / 4294967296) e ∙ sym (found_sum f) in
        let count : label % 4294967296 ≡ length bs = ap (λ (x : ℕ). x % 4294967296) e ∙ sym found_long in
        let c-is : c ≡ over bs choices = ec
        ∙ ap (λ (x : ℕ). over (choices_to (from_at s) (by_at s) (x % 4294967296) q) choices) e in
        let t-is : t ≡ over (route ns bs p).places places =
        et ∙ ap (λ (x : ℕ). over (places_to (from_at s) (x % 4294967296) q) places) e
        ∙ ap (λ (x : List ℕ). over x places) (sym (found_places f)) in
        put_in (label / 4294967296) (label % 4294967296) c t sum count c-is t-is
        (path lc lp bs (omega (arith, found_few f, found_long)) (found_path f))
      where
        put_in : (a b : ℕ) (c t : List ℕ) → a ≡ distance ns bs p → b ≡ length bs → c ≡ over bs choices → t
            ≡ over (route ns bs p).places places
            → Searched ns N p q choices places (Ok (record { distance = distance ns bs p; links = length bs }))
            (over bs choices) (over (route ns bs p).places places)
            → Searched ns N p q choices places (Ok (record { distance = a; links = b })) c t
        put_in a b c t e₁ e₂ e₃ e₄ w = transport
            (λ i. Searched ns N p q choices places (Ok (record { distance = sym e₁ i; links = sym e₂ i }))
            (sym e₃ i) (sym e₄ i)) w

    -- what was filled of each list, and the rest of it
    pub answer_path : label < unlabelled → N ≤ length choices → N ≤ length places → (c t : List ℕ)
        → c ≡ choices_to (from_at s) (by_at s) (label % 4294967296) q
        → t ≡ places_to (from_at s) (label % 4294967296) q
        → Searched ns N p q choices places (Ok (record { distance = label / 4294967296; links = label % 4294967296 }))
        (c ++ drop (label % 4294967296) choices) (t ++ drop (label % 4294967296 + 1) places)
    answer_path k lc lp c t ec et =
        let steps = label % 4294967296 in
        let long-c : length (choices_to (from_at s) (by_at s) steps q)
        ≡ steps = least.choices_long (from_at s) (by_at s) steps q in
        let long-t : length (places_to (from_at s) steps q) ≡ steps + 1
        = least.places_long (from_at s) (by_at s) steps q ∙ omega arith in
        whole_path k lc lp _ _
        ((λ i. ec i ++ drop steps choices) ∙ ap (λ (k : ℕ). choices_to (from_at s) (by_at s) steps q
        ++ drop k choices) (sym long-c))
        ((λ i. et i ++ drop (steps + 1) places)
        ∙ ap (λ (k : ℕ). places_to (from_at s) steps q ++ drop k places) (sym long-t))

-- for the functions
pub ruleset path_laws = (accepted, lent_so, own_nodes, own_lent, answered)

pub ruleset found_laws = (found_room, answer_unreachable, length-take-le)
