-- The call `walk`, after a list of calls and before it: refused alike, ending alike, with the places moved.
pub use Rattle.walks.proofs.WalkCases.{route_left}
use Prim.Native.Nat.{ℕ, ◌≤◌, ◌<◌}
use native.Mathlib.Omega.{arith}
use mathlib.Core.Path.{◌≡◌, refl, sym, ap, ◌∙◌}
use mathlib.Core.Bool.{Bool, true, false, cond}
use mathlib.Core.List.{List, [], ◌∷◌}
use lib.Dec.{ltb}
use lib.ListN.{length, take, drop, length-append, length-map}
use lib.Seq.{length-take-le}
use borrow.Author.Tests.{lt-leb, le-ltb}
use Rattle.cells.specs.Lists.{up_to, join_to}
use Rattle.cells.specs.Memory.{Memory, over_limit, short}
use Rattle.cells.specs.Checks.{counts_of, links_at}
use Rattle.cells.specs.Read.{node_in, links_in, filled, cell_read, read_of}
use Rattle.cells.specs.CellOf.{node_with, nodes_of, cell_of}
use Rattle.walks.specs.WalkCall.{Route, route, WalkLeft, walk_call}
use Rattle.walks.specs.declared.walk.End.{End}
use Rattle.walks.specs.declared.walk.Walked.{Walked}
use Rattle.cells.specs.Nodes.{reordered, old_of}
use Rattle.cells.specs.declared.node_entry.NodeEntry.{NodeEntry}
use Rattle.cells.specs.Renumber.{renumber_lists, recounted, answer_of, renumber_memory, new_lists, left_by, renumber}
use Rattle.walks.specs.Calls.{Call, renumbering, write_read, after, run}
use Rattle.cells.specs.WriteRead.{if_read, if_written, write_read_of}
use Rattle.cells.specs.Write.{write_call}
use Rattle.walks.proofs.Routes.{move_route, alike_route}
use Rattle.cells.proofs.Forms.Limits.{not_over}
use Rattle.cells.proofs.Reading.ReadLaws.{length_up_to, length_join_to, length_links}
use Rattle.cells.proofs.Reading.FileRead.{read_all}
use Rattle.cells.proofs.Renumbering.CellRenumbered.{reordered_long, all_relinked_long}
use Rattle.walks.proofs.CallLists.{Alike}
use Rattle.std.specs.Prelude.{Result, Ok, Err}
use Rattle.numbers.specs.Refusals.{Answer}
use Rattle.numbers.specs.declared.refusal.Refusal.{Refusal}
use Rattle.numbers.specs.declared.refusal.Refusal.TheVariants.{TooShort}
use Rattle.numbers.specs.declared.refusal.Lent.TheVariants as lent

-- nodes and links lie whole in the lists, within the limits
pub record Lies (m : Memory) : Type 0 where
  pub within : over_limit m.ynd ≡ false
  pub nodes_lie : m.ynd.node_count ≤ length m.nodes
  pub links_lie : m.ynd.link_count ≤ length m.links

pub nodes_long : (m : Memory) → Lies m → length (cell_of m).nodes ≡ m.ynd.node_count
unfolding cell_of nodes_of
nodes_long m h =
    length-map (take m.ynd.node_count m.nodes) (node_with (take m.ynd.link_count m.links))
    ∙ length-take-le m.ynd.node_count m.nodes h.nodes_lie

-- what a call leaves whose walk is the route r: 7 at 8 if the visited list is too short for its places
cond_answer : (b : Bool) (x y : WalkLeft) → (cond b x y).answer ≡ cond b x.answer y.answer
cond_answer true x y = refl
cond_answer false x y = refl

-- its answer, by the length of the visited list alone
abbrev pub answer_by : End → ℕ → ℕ → Result Walked Refusal
answer_by e count room = cond (ltb room count) (Err (TooShort lent.List)) (Ok (record { end = e; count = count }))

pub left_answer : (r : Route) (visited : List ℕ) → (route_left r visited).answer
    ≡ answer_by r.ending (length r.places) (length visited)
left_answer r visited = cond_answer (ltb (length visited) (length r.places)) _ _

-- the call, where the lists hold the cell
pub walk_left_law : (m : Memory) → Lies m → (choices : List ℕ) (start : ℕ) (visited : List ℕ) → start
    < length (cell_of m).nodes
    → walk_call m choices start visited ≡ route_left (route (nodes_of m) choices start) visited
unfolding walk_call
walk_left_law m h choices start visited lt =
    let inside : start < m.ynd.node_count = omega (arith, nodes_long m h) in
    rw (
      lt-leb m.ynd.node_count start inside,
      h.within,
      le-ltb (length m.nodes) m.ynd.node_count h.nodes_lie,
      le-ltb
          (length m.links) m.ynd.link_count h.links_lie,
    ) refl

-- cells alike, in memory that holds them
module _ (m d : Memory) (f : ℕ → ℕ) (hm : Lies m) (hd : Lies d) (a : Alike (cell_of m) (cell_of d) f)
    (choices : List ℕ) (p : ℕ) (lt : p < length (cell_of m).nodes) where
  -- the call in the later one leaves the walk of the first, each place moved
  pub calls_alike : (visited : List ℕ) → walk_call d choices (f p) visited
      ≡ route_left (move_route f (route (cell_of m).nodes choices p)) visited
  unfolding cell_of
  calls_alike visited =
      walk_left_law d hd choices (f p) visited (omega (arith, a.inside p lt, a.same_count))
      ∙ ap (λ (r : Route). route_left r visited) (alike_route a choices p lt)

  -- of two visited lists of one length, both are too short or neither is
  pub answers_alike : (visited later : List ℕ) → length later ≡ length visited
      → (walk_call d choices (f p) later).answer ≡ (walk_call m choices p visited).answer
  unfolding cell_of
  answers_alike visited later e =
      let r = route (cell_of m).nodes choices p in
      ap (λ (l : WalkLeft). l.answer) (calls_alike later)
      ∙ left_answer (move_route f r) later
      ∙ (λ i. answer_by r.ending (length-map r.places f i) (e i))
      ∙ sym (left_answer r visited)
      ∙ ap (λ (l : WalkLeft). l.answer) (sym (walk_left_law m hm choices p visited lt))

-- ---- the lists hold the cell all along

pub read_lies : (s g : List ℕ) (m : Memory) → (read_of s g m).answer ≡ (Ok tt) → Lies (read_of s g m).memory
unfolding filled cell_read
read_lies s g m e = read_all Lies s g m (λ n l j h r held.
    let k = counts_of n j r in
    record {
      within = not_over _ held.few_nodes held.few_junctions;
      nodes_lie = omega (
        arith,
        length-append (up_to (node_in n) k.nodes) (drop k.nodes m.nodes),
        length_up_to
            (node_in n) k.nodes,
      );
      links_lie = omega (
        arith,
        length-append (join_to (links_in n l) k.nodes) (drop k.links m.links),
        length_join_to (links_in n l) (links_at n) (length_links n l) k.nodes,
      );
    }) e

renumber_lies : (m : Memory) (ps : List ℕ) (s : ℕ) → Lies m → Lies (renumber m s ps).memory
unfolding renumber renumber_memory new_lists renumber_lists recounted reordered over_limit
renumber_lies m ps s h = go (answer_of (over_limit m.ynd) m.ynd.node_count (short m) s (length ps))
  where
    n : ℕ
    n = m.ynd.node_count

    l : ℕ
    l = m.ynd.link_count

    ns : List NodeEntry
    ns = take n m.nodes

    go : (a : Answer) → Lies (left_by a m ps).memory
    go (Err x) = h
    go (Ok tt) = record {
      within = h.within;
      nodes_lie = omega (arith, reordered_long n m.nodes h.nodes_lie, h.nodes_lie);
      links_lie = omega (arith, all_relinked_long (old_of n m.nodes) l m.links h.links_lie, h.links_lie);
    }

write_read_lies : (m : Memory) (s : List ℕ) → Lies m → Lies (write_read_of m s).memory
unfolding write_read_of
write_read_lies m s h = go (write_call m s).answer
  where
    t : List ℕ
    t = (write_call m s).section

    reading : (n : ℕ) (c : Answer) → (read_of (take n t) [] m).answer ≡ c
        → Lies (if_read n t c (read_of (take n t) [] m).memory m s).memory
    reading n (Err x) e = h
    reading n (Ok tt) e = read_lies (take n t) [] m e

    go : (a : Result ℕ Refusal) → Lies (if_written a t m s).memory
    go (Err x) = h
    go (Ok n) = reading n (read_of (take n t) [] m).answer refl

pub run_lies : (m : Memory) (ks : List Call) → Lies m → Lies (run m ks)
unfolding run after
run_lies m [] h = h
run_lies m (renumbering s ps ∷ ks) h = run_lies (renumber m (length s) ps).memory ks (renumber_lies m ps (length s) h)
run_lies m (write_read s ∷ ks) h = run_lies (write_read_of m s).memory ks (write_read_lies m s h)
