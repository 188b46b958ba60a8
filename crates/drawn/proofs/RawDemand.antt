-- Demand 3 from every made cell that is sound, raw coordinates included: walks show what they showed, settled once a
-- write-then-read is accepted.
use Prim.Native.Nat.{ℕ, ◌<◌}
use native.Mathlib.Omega.{arith}
use mathlib.Core.Path.{◌≡◌, refl, sym, ap, ◌∙◌, subst}
use mathlib.Core.Bool.{Bool, true, false, ◌||◌, cond}
use mathlib.Core.Logic.{◌⊎◌, inl, inr, ⊎_elim}
use mathlib.Core.List.{List, [], ◌∷◌}
use lib.ListN.{length, take, length-map}
use Rattle.std.specs.Prelude.{Result, Ok, Err}
use Rattle.numbers.specs.Refusals.{Answer}
use Rattle.numbers.specs.declared.refusal.Refusal.{Refusal}
use Rattle.cells.specs.Order.{new_place}
use Rattle.numbers.proofs.Refusing.{not_refused}
use Rattle.cells.specs.Memory.{Memory}
use Rattle.cells.specs.Cell.{Node, Cell, ped_flags, renumber_cell}
use Rattle.cells.specs.CellOf.{cell_of}
use Rattle.cells.specs.Read.{read_of}
use Rattle.cells.specs.Renumber.{renumber}
use Rattle.cells.specs.Write.{write_call}
use Rattle.cells.specs.WriteRead.{if_read, if_written, write_read_of}
use Rattle.cells.proofs.Renumbering.CellRenumbered.{done_call, refused_call}
use Rattle.walks.specs.Sound.{sound}
use Rattle.walks.specs.Walk.{walk}
use Rattle.walks.specs.WalkCall.{Route, WalkLeft, route, walk_call}
use Rattle.cells.proofs.Sequences.Tests.{by_test, true_false}
use Rattle.walks.specs.Calls.{Call, renumbering, write_read, is_done, after, run, renumbers, moved, any_renumbers}
use Rattle.walks.specs.Claim.{Unnoticed}
use Rattle.walks.proofs.CallLists.{Alike, Numbered, alike_refl, alike_trans, alike_renumber, numbered_renumber}
use Rattle.walks.proofs.CallLists.{run_alike}
use Rattle.walks.proofs.NewSound.{sound_new}
use Rattle.walks.proofs.NewWalks.{move}
use Rattle.walks.proofs.Routes.{same_walk, move_route, alike_route}
use Rattle.walks.proofs.WalksAlike.{route_left, answer_by, left_answer, walk_left_law, run_lies}
use Rattle.drawn.specs.Changes as changes
use Rattle.drawn.specs.Settled.{settled_node, settled, settled_trail}
use Rattle.std.specs.Result.{is_ok}
use Rattle.drawn.specs.Settling.{writes, any_writes, first_for}
use Rattle.drawn.specs.Made.{Made}
use Rattle.drawn.proofs.Made.{change_made}
use Rattle.drawn.proofs.DrawnDemand.{made_lies}
use Rattle.drawn.proofs.WriteSettles.{write_read_settles, settled_kept}
use Rattle.drawn.proofs.SettledWalks.{node_same, flags_same, sound_same, renumber_settled, route_same, walk_settled}

-- ---- one call

pub write_read_refused : (m : Memory) (s : List ℕ) (cause : Refusal) → (write_read_of m s).answer ≡ Err cause
    → (write_read_of m s).memory ≡ m
unfolding write_read_of
write_read_refused m s cause w = go (write_call m s).answer w
  where
    t : List ℕ
    t = (write_call m s).section

    back : (n : ℕ) (c : Answer) → (if_read n t c (read_of (take n t) [] m).memory m s).answer ≡ Err cause
        → (if_read n t c (read_of (take n t) [] m).memory m s).memory ≡ m
    back n (Ok tt) u = not_refused (sym u)
    back n (Err x) u = refl

    go : (a : Result ℕ Refusal) → (if_written a t m s).answer ≡ Err cause → (if_written a t m s).memory ≡ m
    go (Err x) u = refl
    go (Ok n) u = back n (read_of (take n t) [] m).answer u

made_renumber : (m : Memory) → Made m → (s ps : List ℕ) → Made (renumber m (length s) ps).memory
unfolding changes.after
made_renumber m h s ps = change_made m h (changes.renumbering s ps) tt

made_write_read : (m : Memory) → Made m → (s : List ℕ) → Made (write_read_of m s).memory
unfolding changes.after
made_write_read m h s = change_made m h (changes.write_read s) tt

-- ---- lists of calls

-- the cell or the settled cell, renumbered
either_renumber : (b : Bool) (c : Cell) → sound c ≡ true → Alike (cond b (settled c) c)
    (cond b (settled (renumber_cell c)) (renumber_cell c)) (new_place (ped_flags c.nodes))
unfolding settled
either_renumber true c s =
    subst (λ (d : Cell). Alike (settled c) d (new_place (ped_flags c.nodes))) (renumber_settled c)
    (subst (λ (f : List Bool). Alike (settled c) (renumber_cell (settled c)) (new_place f)) (flags_same c.nodes)
    (alike_renumber (settled c) (sound_same c ∙ s)))
either_renumber false c s = alike_renumber c s

-- the memory `next` after one call on the cell c, whether it settled it and whether it renumbered it, and the calls
-- after it
abbrev From : Memory → Cell → Bool → Bool → List Call → Type 0
From next c wrote renumbered ks = Alike (cond (wrote || any_writes next ks) (settled c) c) (cell_of (run next ks))
    (λ p. moved next ks (cond renumbered (new_place (ped_flags c.nodes) p) p))

abbrev Later : Memory → List Call → Type 0
Later next ks = sound (cell_of next) ≡ true → Alike (first_for next ks) (cell_of (run next ks)) (moved next ks)

same_on : (next : Memory) (c : Cell) (ks : List Call) → sound c ≡ true → cell_of next ≡ c → Later next ks
    → From next c false false ks
same_on next c ks s q ih = subst
    (λ (d : Cell). Alike (cond (any_writes next ks) (settled d) d) (cell_of (run next ks)) (moved next ks)) q
    (ih (ap sound q ∙ s))

module _ (m : Memory) (ks : List Call) (h : Made m) (s : sound (cell_of m) ≡ true) where
  write_on : (b : List ℕ) → Later (write_read_of m b).memory ks → From (write_read_of m b).memory (cell_of m)
      (is_ok (write_read_of m b).answer) false ks
  write_on b ih = go (write_read_of m b).answer refl
    where
      next : Memory
      next = (write_read_of m b).memory

      go : (a : Result ℕ Refusal) → (write_read_of m b).answer ≡ a → From next (cell_of m) (is_ok a) false ks
      go (Ok n) e =
          let q : cell_of next ≡ settled (cell_of m) = write_read_settles m h b n e in
          subst (λ (d : Cell). Alike d (cell_of (run next ks)) (moved next ks)) q
          (run_alike next ks (record {
            is_sound = ap sound q ∙ sound_same (cell_of m) ∙ s;
            is_kept = rw q (settled_kept m h);
          }))
      go (Err cause) e = same_on next (cell_of m) ks s (ap cell_of (write_read_refused m b cause e)) ih

  renumber_on : (n : ℕ) (ps : List ℕ) → Later (renumber m n ps).memory ks → From (renumber m n ps).memory
      (cell_of m) false (is_done (renumber m n ps).answer) ks
  renumber_on n ps ih = go (renumber m n ps).answer refl
    where
      next : Memory
      next = (renumber m n ps).memory

      go : (a : Answer) → (renumber m n ps).answer ≡ a → From next (cell_of m) false (is_done a) ks
      go (Ok tt) e =
          let q : cell_of next ≡ renumber_cell (cell_of m) = done_call m ps n e in
          alike_trans (either_renumber (any_writes next ks) (cell_of m) s)
          (subst (λ (d : Cell). Alike (cond (any_writes next ks) (settled d) d) (cell_of (run next ks))
          (moved next ks)) q (ih (ap sound q ∙ sound_new (cell_of m) s)))
      go (Err cause) e = same_on next (cell_of m) ks s (ap cell_of (refused_call m ps n cause e)) ih

-- of every list of calls
pub settling_alike : (m : Memory) (ks : List Call) → Made m → sound (cell_of m) ≡ true → Alike (first_for m ks)
    (cell_of (run m ks)) (moved m ks)
unfolding run moved any_writes after writes renumbers
settling_alike m [] h s = alike_refl (cell_of m)
settling_alike m (write_read b ∷ ks) h s = write_on m ks h s b
    (settling_alike (write_read_of m b).memory ks (made_write_read m h b))
settling_alike m (renumbering sc ps ∷ ks) h s = renumber_on m ks h s (length sc) ps
    (settling_alike (renumber m (length sc) ps).memory ks (made_renumber m h sc ps))

-- ---- numbers

settled_long : (c : Cell) → length (settled c).nodes ≡ length c.nodes
unfolding settled
settled_long c = length-map c.nodes settled_node

settled_numbered : (c : Cell) → Numbered c → Numbered (settled c)
unfolding settled
settled_numbered c h q lt = ap (λ (n : Node). n.number) (node_same c.nodes q) ∙ h q
    (let k : q < length c.nodes = omega (arith, length-map c.nodes settled_node) in k)

-- a call leaves numbers that are places, and an accepted renumbering makes them so
call_numbered : (m : Memory) (k : Call) → Made m → (renumbers m k ≡ true) ⊎ Numbered (cell_of m) → Numbered
    (cell_of (after m k))
unfolding after renumbers
call_numbered m (write_read b) h n = ⊎_elim (λ t. true_false (sym t)) (λ o. go o (write_read_of m b).answer refl) n
  where
    go : Numbered (cell_of m) → (a : Result ℕ Refusal) → (write_read_of m b).answer ≡ a → Numbered
        (cell_of (write_read_of m b).memory)
    go o (Ok k) e = subst Numbered (sym (write_read_settles m h b k e)) (settled_numbered (cell_of m) o)
    go o (Err cause) e = subst Numbered (sym (ap cell_of (write_read_refused m b cause e))) o
call_numbered m (renumbering sc ps) h n = go (renumber m (length sc) ps).answer refl n
  where
    go : (a : Answer) → (renumber m (length sc) ps).answer ≡ a → (is_done a ≡ true) ⊎ Numbered (cell_of m) → Numbered
        (cell_of (renumber m (length sc) ps).memory)
    go (Ok tt) e n = subst Numbered (sym (done_call m ps (length sc) e)) (numbered_renumber (cell_of m))
    go (Err cause) e n = ⊎_elim (λ t. true_false (sym t))
        (λ o. subst Numbered (sym (ap cell_of (refused_call m ps (length sc) cause e))) o) n

pub made_after : (m : Memory) (k : Call) → Made m → Made (after m k)
unfolding after
made_after m (write_read b) h = made_write_read m h b
made_after m (renumbering sc ps) h = made_renumber m h sc ps

run_numbered : (m : Memory) (ks : List Call) → Made m → Numbered (cell_of m) → Numbered (cell_of (run m ks))
unfolding run
run_numbered m [] h n = n
run_numbered m (k ∷ ks) h n = run_numbered (after m k) ks (made_after m k h) (call_numbered m k h (inr n))

raw_numbers : (m : Memory) (ks : List Call) → Made m → any_renumbers m ks ≡ true → Numbered (cell_of (run m ks))
unfolding run any_renumbers
raw_numbers m [] h t = true_false (sym t)
raw_numbers m (k ∷ ks) h t = by_test (renumbers m k)
    (λ r. run_numbered (after m k) ks (made_after m k h) (call_numbered m k h (inl r)))
    (λ f. raw_numbers (after m k) ks (made_after m k h) (rw f at t))

-- ---- what the call `walk` answers

either_route : (b : Bool) (c : Cell) (bs : List ℕ) (p : ℕ) → route (cond b (settled c) c).nodes bs p
    ≡ route c.nodes bs p
unfolding settled
either_route true c bs p = route_same c.nodes bs p
either_route false c bs p = refl

either_long : (b : Bool) (c : Cell) → length (cond b (settled c) c).nodes ≡ length c.nodes
either_long true c = settled_long c
either_long false c = refl

raw_answers : (m : Memory) (ks : List Call) → Made m → sound (cell_of m) ≡ true → (choices : List ℕ) (p : ℕ)
    → p < length (first_for m ks).nodes → (visited later : List ℕ) → length later ≡ length visited
    → (walk_call (run m ks) choices (moved m ks p) later).answer ≡ (walk_call m choices p visited).answer
unfolding cell_of
raw_answers m ks h s choices p lt visited later e =
    let d = run m ks in
    let f = moved m ks in
    let l = made_lies m h.tidy in
    let a = settling_alike m ks h s in
    let r = route (cell_of m).nodes choices p in
    let here : p < length (cell_of m).nodes = omega (arith, either_long (any_writes m ks) (cell_of m)) in
    ap (λ (x : WalkLeft). x.answer)
    (walk_left_law d (run_lies m ks l) choices (f p) later (omega (arith, a.inside p lt, a.same_count)))
    ∙ ap (λ (x : Route). (route_left x later).answer)
    (alike_route a choices p lt ∙ ap (move_route f) (either_route (any_writes m ks) (cell_of m) choices p))
    ∙ left_answer (move_route f r) later
    ∙ (λ i. answer_by r.ending (length-map r.places f i) (e i))
    ∙ sym (left_answer r visited)
    ∙ ap (λ (x : WalkLeft). x.answer) (sym (walk_left_law m l choices p visited here))

-- ---- the whole: demand 3 from every made cell that is sound

pub raw_demand_3 : (m : Memory) → Made m → sound (cell_of m) ≡ true → (ks : List Call) → Unnoticed
    (first_for m ks) m ks
raw_demand_3 m h s ks =
    let a = settling_alike m ks h s in
    let f = moved m ks in
    record {
      still_there = λ p lt. omega (arith, a.inside p lt, a.same_count);
      same_walks = λ choices p lt. same_walk f (walk (first_for m ks) choices p)
          (walk (cell_of (run m ks)) choices (f p)) (a.same_walks choices p lt);
      same_answers = raw_answers m ks h s;
      numbered = raw_numbers m ks h;
    }

-- what a walk shows afterwards, by what it showed: settled once a write-then-read was accepted
pub raw_walks : (m : Memory) → Made m → sound (cell_of m) ≡ true → (ks : List Call) (choices : List ℕ) (p : ℕ)
    → p < length (cell_of m).nodes
    → walk (cell_of (run m ks)) choices (moved m ks p) ≡ move (moved m ks)
    (cond (any_writes m ks) (settled_trail (walk (cell_of m) choices p)) (walk (cell_of m) choices p))
raw_walks m h s ks choices p lt =
    (settling_alike m ks h s).same_walks choices p
    (let q : p < length (first_for m ks).nodes = omega (arith, either_long (any_writes m ks) (cell_of m)) in q)
    ∙ ap (move (moved m ks)) (go (any_writes m ks))
  where
    go : (b : Bool) → walk (cond b (settled (cell_of m)) (cell_of m)) choices p ≡ cond b
        (settled_trail (walk (cell_of m) choices p)) (walk (cell_of m) choices p)
    go true = walk_settled (cell_of m) choices p
    go false = refl
