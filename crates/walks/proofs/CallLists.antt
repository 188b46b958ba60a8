-- Whatever list of calls a sound cell has been through, its walks are those that it had, each place moved.
use Prim.Native.Nat.{ℕ, ◌<◌, ◌≤◌}
use native.Mathlib.Omega.{arith}
use mathlib.Core.Path.{◌≡◌, refl, ap, sym, ◌∙◌}
use mathlib.Core.Bool.{Bool, true, false, cond}
use mathlib.Core.List.{List, [], ◌∷◌, map}
use lib.ListN.{length}
use Rattle.cells.specs.Order.{new_place}
use Rattle.cells.specs.Cell.{Cell, node_at, ped_flags, renumber_cell}
use Rattle.walks.specs.Sound.{sound}
use Rattle.walks.specs.Walk.{Visit, Trail, walk}
use Rattle.cells.specs.Memory.{Memory}
use Rattle.cells.specs.CellOf.{cell_of}
use Rattle.cells.specs.Renumber.{renumber}
use Rattle.cells.proofs.WritingBack.KeptCells.{Kept}
use Rattle.walks.specs.Calls.{Call, renumbering, write_read, is_done, after, run, renumbers, moved, any_renumbers}
use Rattle.cells.proofs.Sequences.Tests.{by_test, true_false}
use Rattle.cells.proofs.Renumbering.NewCell.{new_length, new_number_law, new_at}
use Rattle.walks.proofs.NewSound.{sound_parts, sound_new}
use Rattle.walks.proofs.NewWalks.{move_visit, move, walk_new}
use Rattle.cells.proofs.Renumbering.CellRenumbered.{done_call, refused_call, done_few}
use Rattle.cells.proofs.WritingBack.Kept.{kept_again}
use Rattle.cells.proofs.WritingBack.WrittenBack.{write_read_same}
use Rattle.std.specs.Prelude.{Ok, Err}
use Rattle.numbers.specs.Refusals.{Answer}

-- ---- cells that are alike

-- the cell d is the cell c with each node moved by f: every walk shows the same, ends alike and visits the same nodes
pub record Alike (c d : Cell) (f : ℕ → ℕ) : Type 0 where
  pub same_count : length d.nodes ≡ length c.nodes
  pub inside : (p : ℕ) → p < length c.nodes → f p < length c.nodes
  pub same_walks : (choices : List ℕ) (p : ℕ) → p < length c.nodes → walk d choices (f p) ≡ move f (walk c choices p)

-- every node's number is its place
abbrev pub Numbered : Cell → Type 0
Numbered c = (q : ℕ) → q < length c.nodes → (node_at c.nodes q).number ≡ q

pub move_id : {L : Type 0} (t : Trail L) → move (λ p. p) t ≡ t
move_id {L} t = λ i. record { ending = t.ending; visits = go t.visits i }
  where
    go : (l : List (Visit L)) → map (move_visit (λ p. p)) l ≡ l
    go [] = refl
    go (v ∷ vs) = ap {B = List (Visit L)} (λ r. v ∷ r) (go vs)

pub move_move : {L : Type 0} (f g : L → L) (t : Trail L) → move g (move f t) ≡ move (λ p. g (f p)) t
move_move {L} f g t = λ i. record { ending = t.ending; visits = go t.visits i }
  where
    go : (l : List (Visit L)) → map (move_visit g) (map (move_visit f) l) ≡ map (move_visit (λ p. g (f p))) l
    go [] = refl
    go (v ∷ vs) = ap {B = List (Visit L)} (λ r. move_visit (λ p. g (f p)) v ∷ r) (go vs)

pub alike_refl : (c : Cell) → Alike c c (λ p. p)
alike_refl c = record { same_count = refl; inside = λ p lt. lt; same_walks = λ bs p lt. sym (move_id (walk c bs p)) }

pub alike_trans : {c d e : Cell} {f g : ℕ → ℕ} → Alike c d f → Alike d e g → Alike c e (λ p. g (f p))
alike_trans {c} {d} {e} {f} {g} a b = record {
  same_count = b.same_count ∙ a.same_count;
  inside = λ p lt. rw (← a.same_count) (b.inside (f p) (rw a.same_count (a.inside p lt)));
  same_walks = λ bs p lt. b.same_walks bs (f p) (rw a.same_count (a.inside p lt))
      ∙ (ap (move g) (a.same_walks bs p lt) ∙ move_move f g (walk c bs p));
}

pub alike_renumber : (c : Cell) → sound c ≡ true → Alike c (renumber_cell c) (new_place (ped_flags c.nodes))
alike_renumber c s = record {
  same_count = new_length c;
  inside = λ p lt. (new_at c.nodes p lt).0;
  same_walks = λ bs p lt. walk_new c (sound_parts c (omega arith) s) bs p lt;
}

pub numbered_renumber : (c : Cell) → Numbered (renumber_cell c)
numbered_renumber c q lt = new_number_law c q (rw (← new_length c) lt)

-- ---- lists of calls

-- a sound cell that storing keeps
pub record Fit (c : Cell) : Type 0 where
  pub is_sound : sound c ≡ true
  pub is_kept : Kept c

-- one call: the cell c before, d after, each node moved by f
pub record Step (c d : Cell) (f : ℕ → ℕ) (renumbered : Bool) : Type 0 where
  pub fit : Fit d
  pub alike : Alike c d f
  pub kept_numbers : Numbered c → Numbered d
  pub new_numbers : renumbered ≡ true → Numbered d

stays : (c d : Cell) → Fit c → d ≡ c → Step c d (λ p. p) false
stays c d h e = rw e (record {
  fit = h;
  alike = alike_refl c;
  kept_numbers = λ n. n;
  new_numbers = λ f. true_false
      (sym f);
})

renumbered : (c : Cell) → length c.nodes ≤ 65536 → Fit c
    → Step c (renumber_cell c) (new_place (ped_flags c.nodes)) true
renumbered c few h = record {
  fit = record { is_sound = sound_new c h.is_sound; is_kept = kept_again c few h.is_kept };
  alike = alike_renumber c h.is_sound;
  kept_numbers = λ n. numbered_renumber c;
  new_numbers = λ t. numbered_renumber c;
}

abbrev At : Memory → Call → Bool → Type 0
At m k b = Step (cell_of m) (cell_of (after m k)) (λ p. cond b (new_place (ped_flags (cell_of m).nodes) p) p) b

step : (m : Memory) (k : Call) → Fit (cell_of m) → At m k (renumbers m k)
unfolding after renumbers
step m (write_read b) h = stays (cell_of m) _ h (write_read_same m b h.is_kept)
step m (renumbering s ps) h = go (renumber m (length s) ps).answer refl
  where
    go : (a : Answer) → (renumber m (length s) ps).answer ≡ a
        → Step (cell_of m) (cell_of (renumber m (length s) ps).memory)
        (λ p. cond (is_done a) (new_place (ped_flags (cell_of m).nodes) p) p) (is_done a)
    go (Ok tt) e = rw (done_call m ps (length s) e) (renumbered (cell_of m) (done_few m ps (length s) e) h)
    go (Err x) e = stays (cell_of m) _ h (ap cell_of (refused_call m ps (length s) x e))

-- of a sound cell that storing keeps, in memory, and of every list of calls
pub run_alike : (m : Memory) (ks : List Call) → Fit (cell_of m) → Alike (cell_of m) (cell_of (run m ks)) (moved m ks)
unfolding run moved
run_alike m [] h = alike_refl (cell_of m)
run_alike m (k ∷ ks) h = let s = step m k h in alike_trans s.alike (run_alike (after m k) ks s.fit)

-- the cell stays sound, and storing keeps it
pub run_fit : (m : Memory) (ks : List Call) → Fit (cell_of m) → Fit (cell_of (run m ks))
unfolding run
run_fit m [] h = h
run_fit m (k ∷ ks) h = run_fit (after m k) ks (step m k h).fit

run_numbered : (m : Memory) (ks : List Call) → Fit (cell_of m) → Numbered (cell_of m) → Numbered (cell_of (run m ks))
unfolding run
run_numbered m [] h n = n
run_numbered m (k ∷ ks) h n = let s = step m k h in run_numbered (after m k) ks s.fit (s.kept_numbers n)

pub run_numbers : (m : Memory) (ks : List Call) → Fit (cell_of m) → any_renumbers m ks ≡ true
    → Numbered (cell_of (run m ks))
unfolding run any_renumbers
run_numbers m [] h t = true_false (sym t)
run_numbers m (k ∷ ks) h t =
    let s = step m k h in
    by_test (renumbers m k)
    (λ r. run_numbered (after m k) ks s.fit (s.new_numbers r))
    (λ f. run_numbers (after m k) ks s.fit (rw f at t))
