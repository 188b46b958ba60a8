-- What the checks counted is how many links and heightmap bytes there are.
use Prim.Native.Nat.{ℕ, ◌+◌, ◌≤◌}
use native.Mathlib.Omega.{arith}
use mathlib.Core.Path.{◌≡◌, refl}
use mathlib.Core.Bool.{Bool, true, false}
use mathlib.Core.List.{List, [], ◌∷◌}
use lib.Dec.{ltb}
use lib.ListN.{length, length-append}
use borrow.Author.Tests.{ltb-false}
use Rattle.records.specs.Put.{joined}
use Rattle.cells.specs.WriteChecks.{unless, start_over, check_nodes, check_junctions}
use Rattle.cells.proofs.Writing.Starts.{start_sum}
use Rattle.std.specs.Prelude.{Result, Ok, Err}
use Rattle.numbers.specs.declared.refusal.Refusal.{Refusal}
use Rattle.numbers.specs.declared.refusal.Refusal.TheVariants.{TooManyLinks, LinksStartTooHigh, ValuesStartTooHigh}

unless_sum : (b : Bool) (cause : Refusal) (next : Result ℕ Refusal) (n : ℕ) → unless b (Err cause) next ≡ Ok n
    → (b ≡ false) × (next ≡ Ok n)
unless_sum true cause next n e = cc
unless_sum false cause next n e = (refl, e)

module _ {A B : Type 0} (f : A → List B) (count : A → ℕ) (same : (x : A) → length (f x) ≡ count x) where
  pub nodes_total : (place before : ℕ) (ns : List A) (n : ℕ) → before ≤ 65566
      → check_nodes count place before ns ≡ Ok n → (n ≡ before + length (joined f ns)) × (n ≤ 65566)
  unfolding check_nodes joined
  nodes_total place before [] n h e = let q : before ≡ n = cc in (omega arith, omega arith)
  nodes_total place before (x ∷ xs) n h e =
      let rest = check_nodes count (place + 1) (before + count x) xs in
      let a = unless_sum (ltb 31 (count x)) (TooManyLinks place)
      (unless (start_over before (count x)) (Err (LinksStartTooHigh place)) rest) n e in
      let b = unless_sum (start_over before (count x)) (LinksStartTooHigh place) rest n a.1 in
      let few : count x ≤ 31 = ltb-false _ _ a.0 in
      let r = nodes_total (place + 1) (before + count x) xs n (start_sum before (count x) (ltb-false _ _ b.0) few h)
      b.1 in
      (omega (arith, r.0, length-append (f x) (joined f xs), same x), r.1)

  pub junctions_total : (place before : ℕ) (ns : List A) (n : ℕ) → check_junctions count place before ns ≡ Ok n → n
      ≡ before + length (joined f ns)
  unfolding check_junctions joined
  junctions_total place before [] n e = let q : before ≡ n = cc in omega arith
  junctions_total place before (x ∷ xs) n e =
      let rest = check_junctions count (place + 1) (before + count x) xs in
      let b = unless_sum (ltb 65535 before) (ValuesStartTooHigh place) rest n e in
      let r = junctions_total (place + 1) (before + count x) xs n b.1 in
      omega (arith, r, length-append (f x) (joined f xs), same x)
