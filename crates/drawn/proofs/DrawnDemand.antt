-- Demand 3 from every made cell that is sound and whose coordinates and flags5 are stored ones.
use Prim.Native.Nat.{ℕ}
use native.Mathlib.Omega.{arith}
use mathlib.Core.Path.{◌≡◌}
use mathlib.Core.Bool.{true}
use mathlib.Core.List.{List}
use Rattle.cells.specs.Memory.{Memory}
use Rattle.cells.specs.CellOf.{cell_of}
use Rattle.cells.proofs.WritingBack.KeptCells.{Kept}
use Rattle.cells.proofs.Forms.Limits.{not_over}
use Rattle.walks.specs.Sound.{sound}
use Rattle.walks.specs.Walk.{walk}
use Rattle.walks.specs.Calls.{Call, moved}
use Rattle.walks.specs.Calls as calls
use Rattle.walks.specs.Claim.{Unnoticed}
use Rattle.walks.specs.Writing.{AsWriting}
use Rattle.walks.proofs.CallLists.{Alike, Fit, run_alike, run_numbers}
use Rattle.walks.proofs.Routes.{same_walk}
use Rattle.walks.proofs.WalksAlike.{Lies, run_lies, answers_alike}
use Rattle.drawn.specs.Tidy.{Tidy}
use Rattle.drawn.specs.Changes.{Change, new, after, run}
use Rattle.drawn.specs.Fits.{AllFit}
use Rattle.drawn.proofs.TidyAsRead.{maps_whole, made_alike}
use Rattle.drawn.proofs.FittedCells.{all_kept}
use Rattle.drawn.specs.Made.{Made}
use Rattle.drawn.proofs.Made.{drawn_new}
use Rattle.drawn.specs.Made.{Stored}

-- as in walks Demand
unnoticed : (m : Memory) → Fit (cell_of m) → Lies m → (ks : List Call) → Unnoticed (cell_of m) m ks
unnoticed m h l ks =
    let d = calls.run m ks in
    let f = moved m ks in
    let a : Alike (cell_of m) (cell_of d) f = run_alike m ks h in
    record {
      still_there = λ p lt. omega (arith, a.inside p lt, a.same_count);
      same_walks = λ choices p lt. same_walk f (walk (cell_of m) choices p) (walk (cell_of d) choices (f p))
          (a.same_walks choices p lt);
      same_answers = λ choices p lt visited later e. answers_alike m d f l
          (run_lies m ks l) a choices p lt visited later e;
      numbered = run_numbers m ks h;
    }

pub made_lies : (m : Memory) → Tidy m → Lies m
made_lies m h = record {
  within = not_over m.ynd h.few_nodes h.few_junctions;
  nodes_lie = h.nodes_lie;
  links_lie =
      h.links_lie;
}

pub made_kept : (m : Memory) → Made m → Stored (cell_of m) → Kept (cell_of m)
made_kept m h s = all_kept (cell_of m) h.fits s (maps_whole m h.tidy)

pub made_demand_3 : (m : Memory) → Made m → sound (cell_of m) ≡ true → Stored (cell_of m) → (ks : List Call)
    → Unnoticed (cell_of m) m ks
made_demand_3 m h is-sound is-stored ks = unnoticed m
    (record { is_sound = is-sound; is_kept = made_kept m h is-stored }) (made_lies m h.tidy) ks

pub made_writes_alike : (m : Memory) → Made m → (section : List ℕ) → AsWriting m section
made_writes_alike m h section = let same = made_alike m h section in
    record { same_answer = same.0; same_section = same.1 }

-- of a yard drawn from a new cell, in whatever lists are lent
pub drawn_demand_3 : (lent : Memory) (drawing : List Change) → AllFit drawing → sound
    (cell_of (run (after lent new) drawing)) ≡ true → Stored (cell_of (run (after lent new) drawing))
    → (ks : List Call) → Unnoticed (cell_of (run (after lent new) drawing)) (run (after lent new) drawing) ks
drawn_demand_3 lent drawing a is-sound is-stored ks = made_demand_3 (run (after lent new) drawing)
    (drawn_new lent drawing a) is-sound is-stored ks
