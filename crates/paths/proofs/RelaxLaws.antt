-- One link, and all links of a place, by what the code finds in memory.
use Prim.Native.Nat.{ℕ, ◌+◌, ◌*◌, ◌-◌, ◌/◌, ◌%◌, ◌<◌, ◌≤◌}
use native.Mathlib.Omega.{arith}
use mathlib.Core.Path.{◌≡◌, refl, ap, sym, ◌∙◌}
use mathlib.Core.List.{List}
use lib.ListN.{length, get_or}
use Rattle.cells.specs.Cell.{Node}
use Rattle.cells.specs.CellOf.{nodes_of}
use Rattle.cells.specs.declared.ynd.Ynd.{Ynd}
use Rattle.walks.specs.Walk.{Next, to, stop, next}
use Rattle.walks.specs.WalkParts.{lent}
use Rattle.walks.specs.declared.walk.End.{End}
use Rattle.paths.specs.ShortestPath.{length_at}
use Rattle.paths.specs.Labels.{unlabelled, weight, Links}
use Rattle.paths.specs.Scratch.{label_at, from_at, by_at, chain_at, Fits, Popped, Cleared}
use Rattle.paths.specs.Search.{Lent, edge_by, edge_of, Offered, passed, taken, Searching, work}
use Rattle.paths.specs.Index.{AllEntered}
use Rattle.cells.specs.Nodes.{number_at, no_entry}
use Rattle.paths.specs.Going.{Ready}
use Rattle.paths.specs.declared.search.Edge.{Edge}
use Rattle.paths.specs.declared.search.Search.{Search}
use Rattle.paths.proofs.IndexLaws.{index_same}
use Rattle.paths.proofs.Relabel.{label_on, new_fits}
use Rattle.paths.proofs.SearchLaws.{passed_over, relaxed, offered, taken_up, up_label, up_work, begun}
use Rattle.paths.proofs.EdgeLaws.{links_of, link_within}
use Rattle.std.specs.Prelude.{Some, None}
use Rattle.cells.specs.declared.node_entry.NodeEntry.{NodeEntry}
use Rattle.cells.specs.declared.link.PathLink.{PathLink}

module _ (ns : List Node) (p b : ℕ) where
  pub edge_next : (edge : Edge) → Some edge ≡ edge_of ns p b → (next ns p b ≡ to edge.to)
      × (edge.length ≡ length_at ns p b)
  unfolding edge_of
  edge_next edge e = go (next ns p b) refl e
    where
      go : (x : Next ℕ) → next ns p b ≡ x → Some edge ≡ edge_by (length_at ns p b) x → (next ns p b ≡ to edge.to)
          × (edge.length ≡ length_at ns p b)
      go (to q) f e =
          let z : ◌≡◌ {A = Edge} edge (record { to = q; length = length_at ns p b }) = cc in
          (f ∙ ap to (sym (ap (λ (x : Edge). x.to) z)), ap (λ (x : Edge). x.length) z)
      go (stop q) f e = let z : ◌≡◌ {A = ℕ} 0 1 = cc in absurd (omega arith)

  pub edge_stop : None ≡ edge_of ns p b → (e : End) × (next ns p b ≡ stop e)
  unfolding edge_of
  edge_stop e = go (next ns p b) refl e
    where
      go : (x : Next ℕ) → next ns p b ≡ x → None ≡ edge_by (length_at ns p b) x → (e : End) × (next ns p b ≡ stop e)
      go (to q) f e = let z : ◌≡◌ {A = ℕ} 0 1 = cc in absurd (omega arith)
      go (stop q) f e = (q, f)

module _ (y : Ynd) (nodes : List NodeEntry) (links : List PathLink) (l : Lent y nodes links) (start : ℕ) where
  abbrev n : ℕ
  n = y.node_count

  abbrev ns : List Node
  ns = nodes_of (lent y nodes links)

  pub all_links : Links ns n
  all_links = links_of (lent y nodes links) l.nodes_fit l.short l.few

  module _ (s : List ℕ) (size u b key : ℕ) (h : Searching ns start n s size u b) (lu : u < n)
      (label : label_at s u ≡ key) (k : key < unlabelled) where
    -- what a link adds
    pub record Linked (v len : ℕ) : Type 0 where
      pub link : next ns u b ≡ to v
      pub inside : v < n
      pub short : len ≤ 255
      pub cost : key + len * 4294967296 + 1 ≡ label_at s u + weight ns u b
      pub small : key + len * 4294967296 + 1 < unlabelled

    pub linked : (edge : Edge) → Some edge ≡ edge_of ns u b → Linked edge.to edge.length
    unfolding weight
    linked edge e =
        let x = edge_next ns u b edge e in
        let on = label_on ns start n (label_at s) (from_at s) (by_at s) all_links h.labels u b lu (omega arith) in
        record {
          link = x.0;
          inside = all_links.lead_in u b edge.to x.0;
          short = omega (arith, x.1, all_links.short u b lu);
          cost = omega (arith, x.1);
          small = omega (arith, x.1, on);
        }

    -- a label that is taken fits
    pub link_fits : (edge : Edge) → Some edge ≡ edge_of ns u b → key + edge.length * 4294967296 + 1
        < label_at s edge.to
        → Fits (key + edge.length * 4294967296 + 1)
    link_fits edge e less =
        let x = linked edge e in
        let f = new_fits ns start n (label_at s) (from_at s) (by_at s) all_links h.labels u b edge.to lu x.inside
        (omega arith) x.link (omega (arith, x.cost)) in
        record {
          sum = omega (arith, f.0, ap (λ (y : ℕ). y / 4294967296) x.cost);
          steps = omega (arith, f.1, ap (λ (y : ℕ). y % 4294967296) x.cost, l.few);
        }

    pub one_taken : (edge : Edge) (new : ℕ) (t : List ℕ) → Some edge ≡ edge_of ns u b
        → Offered n size edge.to (key + edge.length * 4294967296 + 1) u b new s t
        → Searching ns start n t new u (b + 1) × (label_at t u ≡ key) × (work n t new ≤ work n s size)
        × (chain_at t ≡ chain_at s)
    one_taken edge new t e o =
        let x = linked edge e in
        let r = offered ns start n all_links s size u b h lu (omega arith) edge.to
        (key + edge.length * 4294967296 + 1) new x.inside x.link x.cost t o in
        (r.0, r.1 ∙ label, r.2, r.3)

    pub one_stopped : None ≡ edge_of ns u b
        → Searching ns start n s size u (b + 1) × (label_at s u ≡ key) × (work n s size ≤ work n s size)
        × (chain_at s ≡ chain_at s)
    one_stopped e = let x = edge_stop ns u b e in
        (passed_over ns start n all_links s size u b h x.0 x.1, label, omega arith, refl)

  -- no link is left
  pub all_relaxed : (s : List ℕ) (size u b count : ℕ) → Searching ns start n s size u b → u < n
      → count ≡ (get_or nodes u no_entry).link_count → count ≤ b → Searching ns start n s size n 0
  all_relaxed s size u b count h lu e le = relaxed ns start n all_links s size u b h
      (λ c v x. omega (arith, link_within (lent y nodes links) l.nodes_fit u c v lu x))

  -- the loop of the search
  pub search_begun : (s t : List ℕ) (new : ℕ) → start < n → Cleared n s → Offered n 0 start 0 start 0 new s t
      → Searching ns start n t new n 0
  search_begun s t new ls c o = begun ns start n all_links s t new ls c o

  module _ (s t : List ℕ) (size u : ℕ) (h : Searching ns start n s size n 0) (some : 0 < size)
      (p : Popped n size u s t) where
    pub search_up : Searching ns start n t (size - 1) u 0
    search_up = taken_up ns start n all_links s t size u h some p

    pub search_label : label_at t u < unlabelled
    search_label = up_label ns start n all_links s t size u h some p

    pub search_less : (w : List ℕ) (new : ℕ) → work n w new ≤ work n t (size - 1) → work n w new < work n s size
    search_less w new le = omega (arith, up_work ns start n all_links s t size u h some p)

-- the chains stay as they are
pub still_entered : (nodes : List NodeEntry) (k : ℕ) (s t : List ℕ) → chain_at t ≡ chain_at s → AllEntered nodes k s
    → AllEntered nodes k t
still_entered nodes k s t e x = index_same k k (number_at nodes) s t e x

pub begun_entered : (nodes : List NodeEntry) (k v j u b new : ℕ) (r s t : List ℕ) → AllEntered nodes k r
    → chain_at s ≡ chain_at r → Offered k 0 v j u b new s t → AllEntered nodes k t
begun_entered nodes k v j u b new r s t x e (passed le p q) = still_entered nodes k r t (ap chain_at q ∙ e) x
begun_entered nodes k v j u b new r s t x e (taken less tk) = still_entered nodes k r t (tk.same_chains ∙ e) x

pub still_ready : (r : Search) (s t : List ℕ) → length t ≡ length s → chain_at t ≡ chain_at s → Ready r s → Ready r t
still_ready r s t long e h = record {
  room = record { few = h.room.few; room = omega (arith, h.room.room) };
  entered = still_entered r.nodes.now r.ynd.node_count s t e h.entered;
}

-- for the search
pub ruleset search_laws = (search_up, search_label, search_less, still_ready)
