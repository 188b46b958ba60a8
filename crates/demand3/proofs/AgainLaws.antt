-- What demand 3 says of a walk, a renumbering with a write-then-read, and the walk again.
use Prim.Native.Nat.{ℕ, ◌<◌}
use native.Mathlib.Omega.{arith}
use mathlib.Core.Path.{◌≡◌, refl, ap, sym, subst, ◌∙◌}
use mathlib.Core.Bool.{Bool, true, false, cond}
use mathlib.Core.List.{List, ◌++◌, map}
use lib.Dec.{leb, ltb}
use lib.ListN.{length, take, drop, length-map}
use lib.Seq.{take-append_seam}
use borrow.Author.Tests.{leb-false}
use Rattle.cells.specs.Memory.{Memory}
use Rattle.cells.specs.Cell.{Cell}
use Rattle.cells.specs.CellOf.{cell_of}
use Rattle.cells.specs.FileCell.{file_cell}
use Rattle.cells.specs.Read.{read_of}
use Rattle.cells.specs.Renumber.{Renumbered, renumber}
use Rattle.cells.specs.WriteRead.{write_read_of}
use Rattle.cells.proofs.Sequences.Tests.{by_test}
use Rattle.cells.proofs.Reading.FileRead.{read_cell}
use Rattle.cells.proofs.Renumbering.CellRenumbered.{places_tell}
use Rattle.walks.specs.Sound.{sound}
use Rattle.walks.specs.SoundCall.{sound_call}
use Rattle.walks.specs.WalkCall.{Route, route, walk_call}
use Rattle.walks.specs.Calls.{after, run, renumbers, moved}
use Rattle.demand3.specs.Again.{AgainLeft, renew, place_after, both_walks, stopped, if_sound, sound_walks, if_read}
use Rattle.demand3.specs.Again.{walk_again, calls, SamePlaces, SameWalks, SameShown}
use Rattle.demand3.specs.declared.again.Walks.TheVariants as walks
use Rattle.walks.proofs.Routes.{move_route}
use Rattle.walks.proofs.WalksAlike.{nodes_long, route_left, walk_left_law, read_lies}
use Rattle.walks.proofs.Demand.{demand_3, walks_unnoticed}
use Rattle.walks.proofs.SoundCases.{says_yes}
use Rattle.std.specs.Prelude.{Result, Ok, Err}
use Rattle.numbers.specs.Refusals.{Answer}
use Rattle.numbers.specs.declared.refusal.Refusal.{Refusal}

-- of one route, and of the same with its places moved
routes_same : (f : ℕ → ℕ) (r : Route) (visited later : List ℕ) → length later ≡ length visited
    → ((route_left (move_route f r) later).answer ≡ (route_left r visited).answer)
    × SamePlaces f (route_left (move_route f r) later).answer (route_left r visited).visited
    (route_left (move_route f r) later).visited
routes_same f r visited later e =
    let long : length (map f r.places) ≡ length r.places = length-map r.places f in
    by_test (ltb (length visited) (length r.places))
    (λ t. rw (long, e, t) (refl, tt))
    (λ g. rw (long, e, g) (
      refl,
      front long ∙ ap (map f) (sym (take-append_seam r.places
          (drop (length r.places) visited))),
    ))
  where
    front : length (map f r.places) ≡ length r.places
        → take (length r.places) (map f r.places ++ drop (length r.places) later) ≡ map f r.places
    front long = ap (λ (k : ℕ). take k (map f r.places ++ drop (length r.places) later)) (sym long)
        ∙ take-append_seam (map f r.places) (drop (length r.places) later)

-- the second walk starts where the list of calls moves the start
start_moved : (m : Memory) (scratch places section : List ℕ) (start : ℕ) → start < length (cell_of m).nodes
    → place_after (renumber m (length scratch) places).answer (renumber m (length scratch) places).places start
    ≡ moved m (calls scratch places section) start
unfolding moved renumbers
start_moved m scratch places section start lt = go (renumber m (length scratch) places).answer refl
  where
    r : Renumbered
    r = renumber m (length scratch) places

    go : (a : Answer) → r.answer ≡ a → place_after r.answer r.places start
        ≡ moved m (calls scratch places section) start
    go (Ok tt) e = rw e (places_tell m places (length scratch) e start lt)
    go (Err cause) e = rw e

module _ (system graphics : List ℕ) (lent : Memory) (scratch places section choices : List ℕ) (start : ℕ)
    (visited later : List ℕ) where
  abbrev m : Memory
  m = (read_of system graphics lent).memory

  abbrev f : ℕ → ℕ
  f = moved m (calls scratch places section)

  abbrev Same : AgainLeft → Type 0
  Same l = SameWalks f l.walks l.visited l.later

  both_same : length later ≡ length visited → (read_of system graphics lent).answer ≡ Ok tt → sound (cell_of m)
      ≡ true → start < m.ynd.node_count
      → Same (both_walks m (length scratch) places section choices start visited later)
  unfolding both_walks renew run after cell_of
  both_same e done s lt =
      let lies = read_lies system graphics lent done in
      let same : cell_of m ≡ file_cell system graphics = read_cell system graphics lent done in
      let inside : start < length (cell_of m).nodes = omega (arith, nodes_long m lies) in
      let first : walk_call m choices start visited
      ≡ route_left (route (file_cell system graphics).nodes choices start) visited =
      walk_left_law m lies choices start visited inside
      ∙ ap (λ (c : Cell). route_left (route c.nodes choices start) visited) same in
      let again : walk_call (write_read_of (renumber m (length scratch) places).memory section).memory choices
      (place_after (renumber m (length scratch) places).answer (renumber m (length scratch) places).places
      start) later
      ≡ route_left (move_route f (route (file_cell system graphics).nodes choices start)) later =
      ap (λ (p : ℕ). walk_call (run m (calls scratch places section)) choices p later)
      (start_moved m scratch places section start inside)
      ∙ walks_unnoticed system graphics lent done (ap sound (sym same) ∙ s) (calls scratch places section) choices
      start (let q : start < length (file_cell system graphics).nodes = rw (← same) inside in q) later in
      rw (first, again) (routes_same f (route (file_cell system graphics).nodes choices start) visited later e)

  pub again_same : length later ≡ length visited
      → Same (walk_again system graphics lent scratch places section choices start visited later)
  unfolding walk_again sound_walks
  again_same e = reading (read_of system graphics lent).answer refl
    where
      starting : (read_of system graphics lent).answer ≡ Ok tt → (sound_call m scratch).answer ≡ Ok true
          → Same (cond (leb m.ynd.node_count start) (stopped m places section visited later walks.NoStart)
          (both_walks m (length scratch) places section choices start visited later))
      starting done s = by_test (leb m.ynd.node_count start) (λ t. rw t tt)
          (λ g. rw g (both_same e done (says_yes m scratch s) (leb-false _ _ g)))

      checking : (read_of system graphics lent).answer ≡ Ok tt → (s : Result Bool Refusal)
          → (sound_call m scratch).answer ≡ s
          → Same (if_sound s (stopped m places section visited later)
          (cond (leb m.ynd.node_count start) (stopped m places section visited later walks.NoStart)
          (both_walks m (length scratch) places section choices start visited later)))
      checking done (Ok true) h = starting done h
      checking done (Ok false) h = tt
      checking done (Err cause) h = tt

      reading : (a : Answer) → (read_of system graphics lent).answer ≡ a
          → Same (if_read a (stopped m places section visited later)
          (sound_walks m scratch places section choices start visited later))
      reading (Ok tt) h = checking h (sound_call m scratch).answer refl
      reading (Err cause) h = tt

  -- of what the call leaves
  pub told : (x : AgainLeft) → x ≡ walk_again system graphics lent scratch places section choices start visited
      later → length later ≡ length visited → Same x
  told x e h = subst Same (sym e) (again_same h)

  -- ---- what the second walk shows

  abbrev Shows : AgainLeft → Type 0
  Shows l = SameShown f (file_cell system graphics) (cell_of l.memory) choices start l.walks

  both_shown : (read_of system graphics lent).answer ≡ Ok tt → sound (cell_of m) ≡ true → start < m.ynd.node_count
      → Shows (both_walks m (length scratch) places section choices start visited later)
  unfolding both_walks renew run after
  both_shown done s lt =
      let same : cell_of m ≡ file_cell system graphics = read_cell system graphics lent done in
      let inside : start < length (cell_of m).nodes = omega (arith, nodes_long m (read_lies system graphics lent done))
      in
      (demand_3 system graphics lent done (ap sound (sym same) ∙ s) (calls scratch places section)).same_walks choices
      start (let q : start < length (file_cell system graphics).nodes = rw (← same) inside in q)

  pub again_shown : Shows (walk_again system graphics lent scratch places section choices start visited later)
  unfolding walk_again sound_walks
  again_shown = reading (read_of system graphics lent).answer refl
    where
      starting : (read_of system graphics lent).answer ≡ Ok tt → (sound_call m scratch).answer ≡ Ok true
          → Shows (cond (leb m.ynd.node_count start) (stopped m places section visited later walks.NoStart)
          (both_walks m (length scratch) places section choices start visited later))
      starting done s = by_test (leb m.ynd.node_count start) (λ t. rw t tt)
          (λ g. rw g (both_shown done (says_yes m scratch s) (leb-false _ _ g)))

      checking : (read_of system graphics lent).answer ≡ Ok tt → (s : Result Bool Refusal)
          → (sound_call m scratch).answer ≡ s
          → Shows (if_sound s (stopped m places section visited later)
          (cond (leb m.ynd.node_count start) (stopped m places section visited later walks.NoStart)
          (both_walks m (length scratch) places section choices start visited later)))
      checking done (Ok true) h = starting done h
      checking done (Ok false) h = tt
      checking done (Err cause) h = tt

      reading : (a : Answer) → (read_of system graphics lent).answer ≡ a
          → Shows (if_read a (stopped m places section visited later)
          (sound_walks m scratch places section choices start visited later))
      reading (Ok tt) h = checking h (sound_call m scratch).answer refl
      reading (Err cause) h = tt

  -- of what the call leaves
  pub told_shown : (x : AgainLeft) → x ≡ walk_again system graphics lent scratch places section choices start
      visited later → Shows x
  told_shown x e = subst Shows (sym e) again_shown
