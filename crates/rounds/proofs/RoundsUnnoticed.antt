-- Demand 3 at the call that follows a round: after any list of renumberings and write-then-reads of a sound cell, the
-- round from the number that the node has now answers what the round from its first number answered, and shows the
-- same, each place moved.
-- A file names a number: one that was written before a renumbering starts at whichever node then has its number.
use Prim.Native.Nat.{ℕ, ◌<◌}
use native.Mathlib.Omega.{arith}
use mathlib.Core.Path.{◌≡◌, subst, sym, ap, ◌∙◌}
use mathlib.Core.Bool.{true}
use mathlib.Core.List.{List}
use lib.ListN.{length, length-map, get_or-map}
use Rattle.cells.specs.Memory.{Memory}
use Rattle.cells.specs.Read.{read_of}
use Rattle.cells.specs.Cell.{Cell, Node, numbers, no_node}
use Rattle.cells.specs.CellOf.{nodes_of, cell_of}
use Rattle.cells.specs.FileCell.{file_cell}
use Rattle.cells.proofs.Lookups.LookupLaws.{node_held}
use Rattle.cells.proofs.Reading.FileRead.{read_cell}
use Rattle.cells.proofs.WritingBack.Kept.{read_kept}
use Rattle.cells.proofs.WritingBack.KeptCells.{Kept}
use Rattle.walks.specs.Sound.{differing, sound}
use Rattle.walks.specs.Walk.{walk}
use Rattle.walks.specs.WalkCall.{WalkLeft, walk_call, route}
use Rattle.walks.specs.Calls.{Call, run, moved}
use Rattle.walks.specs.Claim.{SameWalk}
use Rattle.walks.proofs.Numbers.{Has, find_is}
use Rattle.walks.proofs.NewSound.{sound_parts}
use Rattle.walks.proofs.CallLists.{Fit, run_fit}
use Rattle.walks.proofs.Routes.{move_route}
use Rattle.walks.proofs.WalksAlike.{Lies, read_lies, run_lies, route_left}
use Rattle.walks.proofs.Demand.{demand_3, walks_unnoticed}
use Rattle.rounds.specs.Follow.{follow_round}
use Rattle.rounds.specs.Numbers.{number_at, present_number}
use Rattle.std.specs.Prelude.{Ok}

-- in a sound cell, a round from a node's number is the walk from its place
pub follow_own : (m : Memory) → Lies m → sound (cell_of m) ≡ true → (choices : List ℕ) (p : ℕ) → p
    < length (nodes_of m)
    → (visited : List ℕ) → follow_round m (number_at m p) choices visited ≡ walk_call m choices p visited
unfolding follow_round cell_of no_node
follow_own m lies s choices p lt visited =
    let ns = nodes_of m in
    let has : Has (numbers ns) (number_at m p) p = record {
      inside = omega (arith, length-map ns (λ n. n.number));
      number = get_or-map (λ (n : Node). n.number) ns p no_node;
    } in
    let differ : differing (numbers ns) ≡ true = (sound_parts (cell_of m) (omega arith) s).differ in
    rw (node_held m (number_at m p) lies.within lies.nodes_lie, find_is (numbers ns) (number_at m p) p differ has)

-- What is said of a round over these choices from the node first at place p: `first` is the cell that document 01
-- defines for the bytes read, m the memory that it was read into, and the calls are those between the two rounds.
pub record Followed (first : Cell) (m : Memory) (calls : List Call) (choices : List ℕ) (p : ℕ) : Type 0 where
  -- the round from the node's present number is the walk from where the node stands
  pub own_walk : (visited : List ℕ) → follow_round (run m calls) (present_number m calls p) choices visited
      ≡ walk_call (run m calls) choices (moved m calls p) visited
  -- it leaves the walk of the first cell, each place moved
  pub same_places : (visited : List ℕ) → follow_round (run m calls) (present_number m calls p) choices visited
      ≡ route_left (move_route (moved m calls) (route first.nodes choices p)) visited
  -- with visited lists of equal length it answers what the round from the node's first number answered
  pub same_answer : (visited later : List ℕ) → length later ≡ length visited
      → (follow_round (run m calls) (present_number m calls p) choices later).answer
      ≡ (follow_round m (number_at m p) choices visited).answer
  -- and what the two walks show is the same
  pub same_shown : SameWalk (moved m calls) (walk first choices p)
      (walk (cell_of (run m calls)) choices (moved m calls p))

module _ (system graphics : List ℕ) (lent : Memory) (e : (read_of system graphics lent).answer ≡ Ok tt)
    (s : sound (file_cell system graphics) ≡ true) (calls : List Call) where
  abbrev first : Memory
  first = (read_of system graphics lent).memory

  abbrev now : Memory
  now = run first calls

  same : cell_of first ≡ file_cell system graphics
  same = read_cell system graphics lent e

  fit : Fit (cell_of first)
  fit = record { is_sound = ap sound same ∙ s; is_kept = subst Kept (sym same) (read_kept system graphics) }

  lies : Lies first
  lies = read_lies system graphics lent e

  module _ (choices : List ℕ) (p : ℕ) (lt : p < length (file_cell system graphics).nodes) where
    still : moved first calls p < length (nodes_of now)
    unfolding cell_of
    still = (demand_3 system graphics lent e s calls).still_there p lt

    from_now : (visited : List ℕ) → follow_round now (present_number first calls p) choices visited
        ≡ walk_call now choices (moved first calls p) visited
    from_now visited =
        follow_own now (run_lies first calls lies) (run_fit first calls fit).is_sound choices (moved first calls p)
        still visited

    from_first : (visited : List ℕ)
        → follow_round first (number_at first p) choices visited ≡ walk_call first choices p visited
    unfolding cell_of
    from_first visited =
        let inside : p < length (nodes_of first) = rw (ap (λ (c : Cell). length c.nodes) same) lt in
        follow_own first lies fit.is_sound choices p inside visited

    answered : (visited later : List ℕ) → length later ≡ length visited
        → (follow_round now (present_number first calls p) choices later).answer
        ≡ (follow_round first (number_at first p) choices visited).answer
    answered visited later l =
        ap (λ (x : WalkLeft). x.answer) (from_now later)
        ∙ (demand_3 system graphics lent e s calls).same_answers choices p lt visited later l
        ∙ sym (ap (λ (x : WalkLeft). x.answer) (from_first visited))

    -- for every sound cell as read, every list of calls, every list of choices and every node
    pub rounds_unnoticed : Followed (file_cell system graphics) first calls choices p
    rounds_unnoticed = record {
      own_walk = from_now;
      same_places = λ visited. from_now visited ∙ walks_unnoticed system graphics lent e s calls choices p lt visited;
      same_answer = answered;
      same_shown = (demand_3 system graphics lent e s calls).same_walks choices p lt;
    }
