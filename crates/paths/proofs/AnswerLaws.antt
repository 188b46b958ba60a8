-- T-06's sentences, of the call `shortest_path` itself.
use Prim.Native.Nat.{ℕ, suc, ◌*◌, ◌<◌, ◌≤◌}
use native.Mathlib.Omega.{arith}
use mathlib.Core.Path.{◌≡◌, refl, ap, sym, ◌∙◌}
use mathlib.Core.Bool.{true, cond}
use mathlib.Core.List.{List, [], ◌∷◌}
use mathlib.Core.Logic.{◌⊎◌, inl, inr, ⊎_elim}
use lib.Dec.{ltb}
use lib.ListN.{length, take, drop}
use lib.Seq.{take_at}
use borrow.Author.Tests.{lt-leb, le-ltb}
use Rattle.std.proofs.lemmas.List.{nil_from_length}
use Rattle.cells.specs.Memory.{Memory}
use Rattle.cells.specs.Cell.{Node}
use Rattle.cells.specs.CellOf.{nodes_of, cell_of}
use Rattle.walks.specs.Sound.{sound}
use Rattle.walks.specs.Calls.{Call, run, moved}
use Rattle.walks.specs.WalkCall.{route, walk_left, walk_call}
use Rattle.walks.specs.WalkParts.{over}
use Rattle.walks.specs.declared.walk.End.TheVariants as end
use Rattle.walks.proofs.WalksAlike.{Lies, nodes_long, run_lies}
use Rattle.paths.specs.ShortestPath.{distance, Leads, ShortestPath}
use Rattle.paths.specs.PathCall.{per_node, path_causes, asked, Searched, unreachable, short, path, PathLeft}
use Rattle.paths.specs.PathCall.{refused, searched}
use Rattle.paths.specs.SameDistances.{SameDistance, Fits}
use Rattle.paths.specs.declared.path.Shortest.{Shortest}
use Rattle.paths.proofs.Least.{Goes, stay, go, leads_goes}
use Rattle.paths.proofs.PathLaws.{Accepted, accepted}
use Rattle.paths.proofs.DistanceLaws.{distances_unnoticed, run_steps, fit_of}
use Rattle.std.specs.Prelude.{Result, Ok, Err}
use Rattle.numbers.specs.Refusals.{Answer, done}
use Rattle.numbers.proofs.Refusing.{not_refused}
use Rattle.numbers.specs.declared.refusal.Refusal.{Refusal}
use Rattle.numbers.specs.declared.refusal.Refusal.TheVariants.{TooShort}
use Rattle.numbers.specs.declared.refusal.Lent.TheVariants as lent

not_both : {P : Type 0} {a : Answer} {r : Refusal} → a ≡ Err r → a ≡ done → P
not_both e f = not_refused (sym e ∙ f)

-- two answers that are one have one distance and as many links
same_path : {a b : Shortest} → ◌≡◌ {A = Result Shortest Refusal} (Ok a) (Ok b) → (b.distance ≡ a.distance)
    × (b.links ≡ a.links)
same_path {a} {b} e =
    let f : b ≡ a = cc in
    (ap (λ (x : Shortest). x.distance) f, ap (λ (x : Shortest). x.links) f)

-- ---- an answer with a distance

-- what the call found, where it answers with a path
pub record PathOf (m : Memory) (p q : ℕ) (scratch choices places : List ℕ) (sum count : ℕ) (c t : List ℕ) : Type 0
  where
    pub asked_first : asked m p q scratch ≡ done
    pub bs : List ℕ
    pub shortest : ShortestPath (nodes_of m) p q bs
    pub few : length bs < m.ynd.node_count
    pub places_fit : m.ynd.node_count ≤ length places
    pub is_sum : sum ≡ distance (nodes_of m) bs p
    pub is_count : count ≡ length bs
    pub choices_are : c ≡ over bs choices
    pub places_are : t ≡ over (route (nodes_of m) bs p).places places

pub path_of : (m : Memory) (p q : ℕ) (scratch choices places : List ℕ) (a : Result Shortest Refusal)
    (s c t : List ℕ) → PathLeft m p q scratch choices places a s c t
    → (sum count : ℕ) → a ≡ Ok (record { distance = sum; links = count })
    → PathOf m p q scratch choices places sum count c t
path_of m p q scratch choices places a s c t (refused e) sum count f = not_refused f
path_of m p q scratch choices places a s c t (searched e (unreachable n)) sum count f = not_refused f
path_of m p q scratch choices places a s c t (searched e (short bs l o)) sum count f = not_refused f
path_of m p q scratch choices places a s c t (searched e (path x y bs few w)) sum count f =
    let z = same_path f in
    record {
      asked_first = e;
      bs = bs;
      shortest = w;
      few = few;
      places_fit = y;
      is_sum = z.0;
      is_count = z.1;
      choices_are = refl;
      places_are = refl;
    }

-- ---- following it

route_long : (ns : List Node) {p q : ℕ} {bs : List ℕ} → Goes ns p bs q → length (route ns bs p).places
    ≡ suc (length bs)
unfolding route
route_long ns stay = refl
route_long ns (go e g) = rw e (omega (arith, route_long ns g))

walked : (m : Memory) (p q : ℕ) (scratch places bs : List ℕ)
    → Accepted m.ynd (length m.nodes) (length m.links) p q (length scratch)
    → Leads (nodes_of m) p q bs → length bs < m.ynd.node_count → m.ynd.node_count ≤ length places
    → walk_call m bs p places ≡ walk_left (Ok (record { end = end.Done; count = suc (length bs) }))
    (over (route (nodes_of m) bs p).places places)
unfolding walk_call
walked m p q scratch places bs a l few fit =
    let n = m.ynd.node_count in
    let long = route_long (nodes_of m) (leads_goes (nodes_of m) bs p q l) in
    let room : length (route (nodes_of m) bs p).places ≤ length places = omega (arith, long) in
    rw (
      lt-leb n p a.from_in,
      a.limits,
      le-ltb (length m.nodes) n a.nodes_fit,
      le-ltb (length m.links)
          m.ynd.link_count a.links_fit,
      le-ltb (length places) _ room,
    )
    (λ i. walk_left (Ok (record { end = l.done i; count = long i })) (over (route (nodes_of m) bs p).places places))

-- T-06: "The walk comes as choices and places": `walk` by these choices, lent what the call was lent for the
-- places, leaves
-- exactly the places that the call left, and ends *done*
pub path_followed : (m : Memory) (p q : ℕ) (scratch choices places s c t : List ℕ) (sum count : ℕ)
    → PathLeft m p q scratch choices places (Ok (record { distance = sum; links = count })) s c t
    → walk_call m (take count c) p places ≡ walk_left (Ok (record { end = end.Done; count = suc count })) t
path_followed m p q scratch choices places s c t sum count h =
    let x = path_of m p q scratch choices places (Ok (record { distance = sum; links = count })) s c t h sum count
    refl in
    let same : take count c ≡ x.bs = ap (take count) x.choices_are
    ∙ take_at x.bs (drop (length x.bs) choices) count (sym x.is_count) in
    let a = accepted m.ynd (length m.nodes) (length m.links) p q (length scratch) x.asked_first in
    ap (λ (bs : List ℕ). walk_call m bs p places) same
    ∙ walked m p q scratch places x.bs a x.shortest.leads x.few x.places_fit
    ∙ (λ i. walk_left (Ok (record { end = end.Done; count = suc (sym x.is_count i) })) (sym x.places_are i))

-- ---- from a place to itself

here : (ns : List Node) (p : ℕ) → Leads ns p p []
unfolding route
here ns p = record { done = refl; arrives = refl }

-- T-06: "From a place to itself it has no choices and sum 0"
pub self_empty : (ns : List Node) (p : ℕ) (bs : List ℕ) → ShortestPath ns p p bs → bs ≡ []
unfolding distance
self_empty ns p bs w =
    let l = w.least [] (here ns p) in
    nil_from_length bs (omega (arith, w.fewest [] (here ns p) (omega arith)))

-- at the call: no links and sum 0, with both lists as they were but for the place in the first entry; 7 at 8 where
-- a list is
-- too short; never 17
pub self_path : (m : Memory) (p : ℕ) (scratch choices places : List ℕ) (a : Result Shortest Refusal)
    (s c t : List ℕ) → PathLeft m p p scratch choices places a s c t
    → asked m p p scratch ≡ done
    → ((a ≡ Ok (record { distance = 0; links = 0 })) × (c ≡ choices) × (t ≡ over (p ∷ []) places))
    ⊎ ((a ≡ Err (TooShort lent.List)) × ((length choices < m.ynd.node_count)
    ⊎ (length places < m.ynd.node_count)))
unfolding distance route
self_path m p scratch choices places a s c t (refused e) k = not_both e k
self_path m p scratch choices places a s c t (searched e (unreachable n)) k = absurd (n [] (here (nodes_of m) p))
self_path m p scratch choices places a s c t (searched e (short bs l o)) k = inr (refl, o)
self_path m p scratch choices places a s c t (searched e (path x y bs few w)) k =
    let z = self_empty (nodes_of m) p bs w in
    inl (
      (λ i. Ok (record { distance = distance (nodes_of m) (z i) p; links = length (z i) })),
      (λ i. over (z i) choices),
      (λ i. over (route (nodes_of m) (z i) p).places places),
    )

-- ---- after any list of calls

-- what is asked first, of a cell that its lists hold
asked_lies : (m : Memory) (p q : ℕ) (scratch : List ℕ) → Lies m → p < length (cell_of m).nodes → q
    < length (cell_of m).nodes
    → asked m p q scratch ≡ cond (ltb (length scratch) (per_node * length (cell_of m).nodes))
    (Err (TooShort lent.PathScratch)) done
unfolding path_causes
asked_lies m p q scratch l lp lq =
    let n = m.ynd.node_count in
    let long = nodes_long m l in
    let hp : p < n = omega (arith, long) in
    let hq : q < n = omega (arith, long) in
    rw (
      lt-leb n p hp,
      lt-leb n q hq,
      l.within,
      le-ltb (length m.nodes) n l.nodes_lie,
      le-ltb (length m.links)
          m.ynd.link_count l.links_lie,
      long,
    )

refused_same : {x z : Refusal} → ◌≡◌ {A = Answer} (Err x) (Err z) → ◌≡◌ {A = Result Shortest Refusal} (Err x) (Err z)
refused_same e = cc

module _ (ns ms : List Node) (n k p q : ℕ) (f : ℕ → ℕ) (same : SameDistance ns ms f p q) (as_many : k ≡ n)
    (choices places choices' places' : List ℕ) (lc : length choices' ≡ length choices)
    (lt : length places' ≡ length places) where
  too_short : {P : Type 0} → (length choices < n) ⊎ (length places < n) → k ≤ length choices' → k ≤ length places' → P
  too_short o a b = ⊎_elim (λ h. absurd (omega arith)) (λ h. absurd (omega arith)) o

  too_short' : {P : Type 0} → (length choices' < k) ⊎ (length places' < k) → n ≤ length choices → n ≤ length places → P
  too_short' o a b = ⊎_elim (λ h. absurd (omega arith)) (λ h. absurd (omega arith)) o

  searched_same : (a a' : Result Shortest Refusal) (c t c' t' : List ℕ) → Searched ns n p q choices places a c t
      → Searched ms k (f p) (f q) choices' places' a' c' t' → a' ≡ a
  searched_same a a' c t c' t' (unreachable u) (unreachable v) = refl
  searched_same a a' c t c' t' (unreachable u) (short cs l o) = absurd (same.still_unreachable u cs l)
  searched_same a a' c t c' t' (unreachable u) (path x y cs few w) = absurd (same.still_unreachable u cs w.leads)
  searched_same a a' c t c' t' (short bs l o) (unreachable v) = absurd (same.was_unreachable v bs l)
  searched_same a a' c t c' t' (short bs l o) (short cs k o') = refl
  searched_same a a' c t c' t' (short bs l o) (path x y cs few w) = too_short o x y
  searched_same a a' c t c' t' (path x y bs few w) (unreachable v) = absurd (same.was_unreachable v bs w.leads)
  searched_same a a' c t c' t' (path x y bs few w) (short cs l o) = too_short' o x y
  searched_same a a' c t c' t' (path x y bs few w) (path x' y' cs few' w') = let e = same.same_distance bs cs w
      w' in λ i. Ok (record { distance = e.0 i; links = e.1 i })

module _ (m d : Memory) (p q : ℕ) (f : ℕ → ℕ) (scratch choices places scratch' choices' places' : List ℕ)
    (e : asked d (f p) (f q) scratch' ≡ asked m p q scratch) (n : d.ynd.node_count ≡ m.ynd.node_count)
    (ec : length choices' ≡ length choices) (et : length places' ≡ length places)
    (same : SameDistance (nodes_of m) (nodes_of d) f p q) where
  both_left : (a a' : Result Shortest Refusal) (s c t s' c' t' : List ℕ)
      → PathLeft m p q scratch choices places a s c t
      → PathLeft d (f p) (f q) scratch' choices' places' a' s' c' t' → a' ≡ a
  both_left a a' s c t s' c' t' (refused u) (refused v) = refused_same (sym v ∙ e ∙ u)
  both_left a a' s c t s' c' t' (refused u) (searched v w) = not_both (e ∙ u) v
  both_left a a' s c t s' c' t' (searched u w) (refused v) = not_both v (e ∙ u)
  both_left a a' s c t s' c' t' (searched u w) (searched v w') =
      searched_same (nodes_of m) (nodes_of d) m.ynd.node_count d.ynd.node_count p q f same n choices places choices'
      places' ec et a a' c t c' t' w w'

nodes_are : (m : Memory) → nodes_of m ≡ (cell_of m).nodes
unfolding cell_of
nodes_are m = refl

-- T-06, at the call: lent lists of equal lengths before a list of calls and after it, the call answers alike: the
-- same sum and
-- as many links, or the same refusal, 17 and both 7s included. For every sound cell that its lists hold.
pub answers_unnoticed : (m : Memory) → Lies m → Fits (cell_of m) → sound (cell_of m) ≡ true
    → (calls : List Call) (p q : ℕ) → p < length (cell_of m).nodes → q < length (cell_of m).nodes
    → (scratch choices places scratch' choices' places' : List ℕ)
    → length scratch' ≡ length scratch → length choices' ≡ length choices → length places' ≡ length places
    → (a a' : Result Shortest Refusal) (s c t s' c' t' : List ℕ)
    → PathLeft m p q scratch choices places a s c t
    → PathLeft (run m calls) (moved m calls p) (moved m calls q) scratch' choices' places' a' s' c' t'
    → a' ≡ a
answers_unnoticed m l h sd calls p q lp lq scratch choices places scratch' choices' places' es ec et a a' s c t s'
    c' t' x y =
    let d = run m calls in
    let f = moved m calls in
    let ld = run_lies m calls l in
    let st = run_steps m calls (fit_of (cell_of m) h sd) in
    let hp : f p < length (cell_of d).nodes = omega (arith, st.inside p lp, st.same_count) in
    let hq : f q < length (cell_of d).nodes = omega (arith, st.inside q lq, st.same_count) in
    let first : asked d (f p) (f q) scratch' ≡ asked m p q scratch =
    asked_lies d (f p) (f q) scratch' ld hp hq
    ∙ (λ i. cond (ltb (es i) (per_node * st.same_count i)) (Err (TooShort lent.PathScratch)) done)
    ∙ sym (asked_lies m p q scratch l lp lq) in
    let n : d.ynd.node_count ≡ m.ynd.node_count = sym (nodes_long d ld) ∙ st.same_count ∙ nodes_long m l in
    both_left m d p q f scratch choices places scratch' choices' places' first n ec et
    (rw (← nodes_are m, ← nodes_are d) at (distances_unnoticed m h sd calls p q lp lq)) a a' s c t s' c' t' x y
