-- The same distances after any list of calls.
use Prim.Native.Nat.{ℕ, ◌+◌, ◌<◌, ◌≤◌}
use native.Mathlib.Omega.{arith}
use mathlib.Core.Path.{◌≡◌, refl, ap, sym, ◌∙◌, subst}
use mathlib.Core.Bool.{true, cond}
use mathlib.Core.List.{List, [], ◌∷◌, map}
use mathlib.Core.Option.{Option, none, some}
use lib.ListN.{length, length-map}
use Rattle.cells.specs.Order.{new_place, Old}
use Rattle.cells.specs.Memory.{Memory}
use Rattle.cells.specs.Read.{read_of}
use Rattle.cells.specs.Renumber.{renumber}
use Rattle.cells.specs.Cell.{Node, Cell, no_node, is_ped_node, ped_flags, old_nodes, renumber_cell}
use Rattle.cells.specs.Nodes.{relinked}
use Rattle.cells.specs.CellOf.{cell_of}
use Rattle.cells.specs.FileCell.{file_cell}
use Rattle.cells.proofs.Sequences.Tests.{map_at, map_option}
use Rattle.cells.proofs.Reading.FileRead.{read_cell}
use Rattle.cells.proofs.Renumbering.NewCell.{none_ped, new_at, new_length, new_node_law}
use Rattle.cells.proofs.Renumbering.Parted.{new_apart}
use Rattle.cells.proofs.Renumbering.CellRenumbered.{done_call, refused_call, done_few}
use Rattle.cells.proofs.WritingBack.Kept.{read_kept}
use Rattle.paths.proofs.WiringBack.{wiring_of, SameWiring, kept_fits, write_read_wiring}
use Rattle.walks.specs.Sound.{sound}
use Rattle.walks.specs.Walk.{Next, to, stop, next, link_at}
use Rattle.walks.specs.Calls.{Call, renumbering, write_read, is_done, after, run, renumbers, moved}
use Rattle.walks.proofs.NewSound.{sound_parts, sound_new}
use Rattle.walks.proofs.NewWalks.{move_next, next_new}
use Rattle.paths.specs.ShortestPath.{length_of, length_at, distance, Leads, ShortestPath}
use Rattle.paths.specs.SameDistances.{SameDistance, Fits, SameDistances}
use Rattle.paths.proofs.EdgeLaws.{next_inside}
use Rattle.paths.proofs.Least.{Goes, stay, go, goes_leads, leads_goes, sum_go}
use Rattle.paths.proofs.WiringLaws.{wired_long, wired_length, wired_next, same_sound, fits_again}
use Rattle.std.specs.Prelude.{Ok, Err}
use Rattle.numbers.specs.Refusals.{Answer, done}
use Rattle.cells.specs.declared.link.PathLink.{PathLink}

-- ---- cells whose choices lead alike

-- d is c with each place moved by f, no two to one: choices lead to the same nodes, over links as long
pub record SameSteps (c d : List Node) (f : ℕ → ℕ) : Type 0 where
  pub same_count : length d ≡ length c
  pub inside : (p : ℕ) → p < length c → f p < length c
  pub apart : (p q : ℕ) → p < length c → q < length c → f p ≡ f q → p ≡ q
  pub same_next : (p b : ℕ) → p < length c → next d (f p) b ≡ move_next f (next c p b)
  pub same_length : (p b : ℕ) → p < length c → length_at d (f p) b ≡ length_at c p b

move_id : (x : Next ℕ) → move_next (λ p. p) x ≡ x
move_id (to q) = refl
move_id (stop e) = refl

move_move : (f g : ℕ → ℕ) (x : Next ℕ) → move_next g (move_next f x) ≡ move_next (λ p. g (f p)) x
move_move f g (to q) = refl
move_move f g (stop e) = refl

steps_same : (c d : List Node) → map wiring_of d ≡ map wiring_of c → SameSteps c d (λ p. p)
steps_same c d e = record {
  same_count = wired_long c d e;
  inside = λ p lt. lt;
  apart = λ p q lp lq x. x;
  same_next = λ p b lt. wired_next c d e p b ∙ sym (move_id (next c p b));
  same_length = λ p b lt. wired_length c d e p b;
}

steps_trans : {c d e : List Node} {f g : ℕ → ℕ} → SameSteps c d f → SameSteps d e g → SameSteps c e (λ p. g (f p))
steps_trans {c} {d} {e} {f} {g} a b =
    let in-d : (p : ℕ) → p < length c → f p < length d = λ p lt. omega (arith, a.inside p lt, a.same_count) in
    record {
      same_count = b.same_count ∙ a.same_count;
      inside = λ p lt. omega (arith, b.inside (f p) (in-d p lt), a.same_count);
      apart = λ p q lp lq x. a.apart p q lp lq (b.apart (f p) (f q) (in-d p lp) (in-d q lq) x);
      same_next = λ p k lt. b.same_next (f p) k (in-d p lt) ∙ ap (move_next g) (a.same_next p k lt)
          ∙ move_move f g (next c p k);
      same_length = λ p k lt. b.same_length (f p) k (in-d p lt) ∙ a.same_length p k lt;
    }

relinked_length : (o : Old) (l : Option PathLink) → length_of (map_option (relinked o) l) ≡ length_of l
relinked_length o (some l) = refl
relinked_length o none = refl

steps_renumbered : (c : Cell) → sound c ≡ true
    → SameSteps c.nodes (renumber_cell c).nodes (new_place (ped_flags c.nodes))
unfolding length_at
steps_renumbered c s =
    let ns = c.nodes in
    let f = new_place (ped_flags ns) in
    let link : (p b : ℕ) → p < length ns → link_at (renumber_cell c).nodes (f p) b
    ≡ map_option (relinked (old_nodes ns)) (link_at ns p b) =
    λ p b lp. rw (new_node_law c p lp, map_at) in
    record {
      same_count = new_length c;
      inside = λ p lt. (new_at ns p lt).0;
      apart = new_apart is_ped_node no_node none_ped ns;
      same_next = λ p b lp. (next_new c (sound_parts c (omega arith) s) p b lp).0;
      same_length = λ p b lp. ap length_of (link p b lp) ∙ relinked_length (old_nodes ns) (link_at ns p b);
    }

-- ---- walks in them

module _ (c d : List Node) (f : ℕ → ℕ) (a : SameSteps c d f) where
  on_inside : (p b r : ℕ) → next c p b ≡ to r → r < length c
  on_inside p b r e = omega (arith, next_inside c p b r e, length-map c (λ n. n.number))

  moved_on : {p q : ℕ} {bs : List ℕ} → p < length c → Goes c p bs q → Goes d (f p) bs (f q)
  moved_on lt stay = stay
  moved_on lt (go {p = p} {r = r} {b = b} e g) = go (a.same_next p b lt ∙ ap (move_next f) e)
      (moved_on (on_inside p b r e) g)

  moved_back : (x y : ℕ) (bs : List ℕ) (p q : ℕ) → p < length c → q < length c → x ≡ f p → y ≡ f q → Goes d x bs y
      → Goes c p bs q
  moved_back x y bs p q lp lq ex ey stay = subst (λ (z : ℕ). Goes c p [] z) (a.apart p q lp lq (sym ex ∙ ey)) stay
  moved_back x y bs p q lp lq ex ey (go {r = r} {b = b} {bs = cs} e g) =
      on (next c p b) refl (sym (a.same_next p b lp) ∙ ap (λ (z : ℕ). next d z b) (sym ex) ∙ e)
      (λ s ls es. moved_back r y cs s q ls lq es ey g)
    where
      on : (n : Next ℕ) → next c p b ≡ n → move_next f n ≡ to r → ((s : ℕ) → s < length c → r ≡ f s → Goes c s cs q)
          → Goes c p (b ∷ cs) q
      on (to s) h k ih = let z : r ≡ f s = cc in go h (ih s (on_inside p b s h) z)
      on (stop t) h k ih = let z : ◌≡◌ {A = ℕ} 0 1 = cc in absurd (omega arith)

  same_sum : {p q : ℕ} {bs : List ℕ} → p < length c → Goes c p bs q → distance d bs (f p) ≡ distance c bs p
  unfolding distance
  same_sum lt stay = refl
  same_sum lt (go {p = p} {r = r} {b = b} {bs = bs} e g) =
      sum_go d (f p) (f r) b bs (a.same_next p b lt ∙ ap (move_next f) e)
      ∙ (λ i. a.same_length p b lt i + same_sum (on_inside p b r e) g i)
      ∙ sym (sum_go c p r b bs e)

  pub alike_distance : (p q : ℕ) → p < length c → q < length c → SameDistance c d f p q
  alike_distance p q lp lq =
      let still : (bs : List ℕ) → Leads c p q bs
      → Leads d (f p) (f q) bs = λ bs l. goes_leads d (moved_on lp (leads_goes c bs p q l)) in
      let was : (bs : List ℕ) → Leads d (f p) (f q) bs → Leads c p q bs =
      λ bs l. goes_leads c (moved_back (f p) (f q) bs p q lp lq refl refl (leads_goes d bs (f p) (f q) l)) in
      let sum : (bs : List ℕ) → Leads c p q bs → distance d bs (f p)
      ≡ distance c bs p = λ bs l. same_sum lp (leads_goes c bs p q l) in
      record {
        still_unreachable = λ n bs l. n bs (was bs l);
        was_unreachable = λ n bs l. n bs (still bs l);
        same_distance = λ bs cs x y. alike bs cs x y (was cs y.leads) (still bs x.leads) (sum bs x.leads)
            (sum cs (was cs y.leads));
      }
    where
      alike : (bs cs : List ℕ) → ShortestPath c p q bs → ShortestPath d (f p) (f q) cs → Leads c p q cs
          → Leads d (f p) (f q) bs
          → distance d bs (f p) ≡ distance c bs p → distance d cs (f p) ≡ distance c cs p
          → (distance d cs (f p) ≡ distance c bs p) × (length cs ≡ length bs)
      alike bs cs x y lc lb eb ec =
          let one = x.least cs lc in
          let two = y.least bs lb in
          let few = x.fewest cs lc (omega arith) in
          let less = y.fewest bs lb (omega arith) in
          (omega arith, omega arith)

-- ---- lists of calls

-- a sound cell whose numbers fit
pub record Fit (c : Cell) : Type 0 where
  pub is_sound : sound c ≡ true
  pub fits : Fits c

record OneCall (c d : Cell) (f : ℕ → ℕ) : Type 0 where
  pub fit : Fit d
  pub steps : SameSteps c.nodes d.nodes f

wired : (c d : Cell) → Fit c → SameWiring c d → OneCall c d (λ p. p)
wired c d h w = record {
  fit = record { is_sound = same_sound c d w ∙ h.is_sound; fits = w.fits };
  steps = steps_same c.nodes d.nodes w.nodes;
}

renumbered : (c : Cell) → length c.nodes ≤ 65536 → Fit c → OneCall c (renumber_cell c) (new_place (ped_flags c.nodes))
renumbered c few h = record {
  fit = record { is_sound = sound_new c h.is_sound; fits = fits_again c few h.fits };
  steps = steps_renumbered c h.is_sound;
}

one_call : (m : Memory) (k : Call) → Fit (cell_of m)
    → OneCall (cell_of m) (cell_of (after m k))
    (λ p. cond (renumbers m k) (new_place (ped_flags (cell_of m).nodes) p) p)
unfolding after renumbers
one_call m (write_read b) h = wired (cell_of m) _ h (write_read_wiring m b h.fits)
one_call m (renumbering s ps) h = go (renumber m (length s) ps).answer refl
  where
    go : (a : Answer) → (renumber m (length s) ps).answer ≡ a
        → OneCall (cell_of m) (cell_of (renumber m (length s) ps).memory)
        (λ p. cond (is_done a) (new_place (ped_flags (cell_of m).nodes) p) p)
    go (Ok _) e = rw (done_call m ps (length s) e) (renumbered (cell_of m) (done_few m ps (length s) e) h)
    go (Err x) e = rw (refused_call m ps (length s) x e)
        (wired (cell_of m) (cell_of m) h (record { nodes = refl; refs = refl; fits = h.fits }))

pub run_steps : (m : Memory) (ks : List Call) → Fit (cell_of m)
    → SameSteps (cell_of m).nodes (cell_of (run m ks)).nodes (moved m ks)
unfolding run moved
run_steps m [] h = steps_same (cell_of m).nodes (cell_of m).nodes refl
run_steps m (k ∷ ks) h = let s = one_call m k h in steps_trans s.steps (run_steps (after m k) ks s.fit)

pub fit_of : (c : Cell) → Fits c → sound c ≡ true → Fit c
fit_of c t s = record { is_sound = s; fits = t }

-- T-06: "A sound cell gives the same sum for the same two nodes after any list of renumberings and write-then-read
-- calls."
pub distances_unnoticed : SameDistances
distances_unnoticed m t s calls p q lp lq =
    alike_distance (cell_of m).nodes (cell_of (run m calls)).nodes (moved m calls)
    (run_steps m calls (fit_of (cell_of m) t s)) p q lp lq

-- every cell that was read is one whose numbers fit
pub read_fits : (system graphics : List ℕ) (lent : Memory) → (read_of system graphics lent).answer ≡ done
    → Fits (cell_of (read_of system graphics lent).memory)
read_fits system graphics lent e = subst Fits (sym (read_cell system graphics lent e))
    (kept_fits (file_cell system graphics) (read_kept system graphics))
