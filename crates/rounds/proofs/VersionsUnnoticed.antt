-- Demand 3 at the call that follows a round of either version: the cell's own area stays, so that 19 is answered as
-- before, and what is left is the walk, each place moved. Of every memory that holds a sound cell which storing keeps.
use Prim.Native.Nat.{ℕ, ◌<◌}
use native.Mathlib.Omega.{arith}
use mathlib.Core.Path.{◌≡◌, sym, ap, ◌∙◌}
use mathlib.Core.List.{List, [], ◌∷◌}
use lib.ListN.{length}
use Rattle.cells.specs.Memory.{Memory}
use Rattle.cells.specs.Cell.{first_of}
use Rattle.cells.specs.CellOf.{nodes_of, cell_of}
use Rattle.cells.proofs.Lookups.LookupLaws.{area_held}
use Rattle.walks.specs.Walk.{Seen, Visit, Trail, walk, walk_in, see}
use Rattle.walks.specs.WalkCall.{WalkLeft, walk_left, route}
use Rattle.walks.specs.Calls.{Call, run, moved}
use Rattle.walks.proofs.NewSound.{sound_parts, node_area}
use Rattle.walks.proofs.CallLists.{Alike, Fit, run_alike, run_fit}
use Rattle.walks.proofs.Routes.{move_route}
use Rattle.walks.proofs.WalksAlike.{Lies, run_lies, route_left, walk_left_law, calls_alike}
use Rattle.rounds.specs.Round.{unless}
use Rattle.rounds.specs.Follow.{area_answer, follow_version}
use Rattle.rounds.specs.Numbers.{number_at, present_number}
use Rattle.rounds.specs.declared.file.Version.{Version}
use Rattle.rounds.proofs.RoundsUnnoticed.{follow_own}
use Rattle.std.specs.Prelude.{Err}

abbrev seen_first : Seen → List (Visit ℕ) → Seen
seen_first s [] = s
seen_first s (v ∷ vs) = v.seen

-- What following a round of this version leaves in a cell of this area, where the walk leaves l.
abbrev pub left_by_area : Version → ℕ → List ℕ → WalkLeft → WalkLeft
left_by_area v area visited l =
    unless (area_answer v area) (λ cause. walk_left (Err cause) visited) l

module _ (m : Memory) (fit : Fit (cell_of m)) (lies : Lies m) where
  -- a round from a node's number, in the memory
  pub followed_first : (v : Version) (choices : List ℕ) (p : ℕ) → p < length (nodes_of m) → (visited : List ℕ)
      → follow_version m v (number_at m p) choices visited
      ≡ left_by_area v (first_of (nodes_of m)) visited (route_left (route (nodes_of m) choices p) visited)
  unfolding follow_version cell_of
  followed_first v choices p lt visited =
      (λ i. left_by_area v (sym (area_held m) i) visited
      (follow_own m lies fit.is_sound choices p lt visited i))
      ∙ ap (left_by_area v (first_of (nodes_of m)) visited) (walk_left_law m lies choices p visited lt)

  module _ (calls : List Call) where
    abbrev now : Memory
    now = run m calls

    alike : Alike (cell_of m) (cell_of now) (moved m calls)
    alike = run_alike m calls fit

    -- each node is shown as before, where it now stands
    pub same_seen : (p : ℕ) → p < length (nodes_of m) → see (cell_of now) (moved m calls p) ≡ see (cell_of m) p
    unfolding cell_of walk walk_in
    same_seen p lt = ap (λ (t : Trail ℕ). seen_first (see (cell_of m) p) t.visits) (alike.same_walks [] p lt)

    pub still_inside : (p : ℕ) → p < length (nodes_of m) → moved m calls p < length (nodes_of now)
    unfolding cell_of
    still_inside p lt = omega (arith, alike.inside p lt, alike.same_count)

    -- the cell's own area stays
    pub area_kept : 0 < length (nodes_of m) → first_of (nodes_of now) ≡ first_of (nodes_of m)
    unfolding cell_of see
    area_kept some =
        let f = moved m calls in
        let inside = still_inside 0 some in
        sym (node_area (cell_of now) (sound_parts (cell_of now) (omega arith) (run_fit m calls fit).is_sound) (f 0)
        inside)
        ∙ ap (λ (s : Seen). s.area) (same_seen 0 some)
        ∙ node_area (cell_of m) (sound_parts (cell_of m) some fit.is_sound) 0 some

    -- after the calls: the round from the number that the node has now
    pub followed_now : (v : Version) (choices : List ℕ) (p : ℕ) → p < length (nodes_of m) → (visited : List ℕ)
        → follow_version now v (present_number m calls p) choices visited
        ≡ left_by_area v (first_of (nodes_of m)) visited
        (route_left (move_route (moved m calls) (route (nodes_of m) choices p)) visited)
    unfolding follow_version cell_of
    followed_now v choices p lt visited =
        let f = moved m calls in
        let inside = still_inside p lt in
        let later = run_lies m calls lies in
        let sound_now = (run_fit m calls fit).is_sound in
        (λ i. left_by_area v (sym (area_held now) i) visited
        (follow_own now later sound_now choices (f p) inside visited i))
        ∙ (λ i. left_by_area v (area_kept (omega arith) i) visited
        (calls_alike m now f lies later alike choices p lt visited i))
