-- What `nearest_of` gives: the least distance, the lowest place of equal ones; none only of no places. Assumes
-- nothing.
use Prim.Native.Nat.{ℕ, zero, suc, ◌<◌, ◌≤◌}
use native.Mathlib.Omega.{arith}
use mathlib.Core.Path.{◌≡◌, refl, ap, sym, ◌∙◌}
use mathlib.Core.Bool.{Bool, true, false, cond}
use mathlib.Core.Option.{Option, none, some}
use lib.Dec.{ltb}
use borrow.Author.Tests.{ltb-true, ltb-false}
use mathlib.Core.Logic.{⊎_elim}
use Rattle.std.proofs.lemmas.Bool.{cases_eq}
use Rattle.reach.specs.Reach.{nearer, nearest_of}

-- T-01: the least distance, the lowest place where equal
pub record Nearest (d : ℕ → ℕ) (n q : ℕ) : Type 0 where
  pub place : q < n
  pub least : (p : ℕ) → p < n → d q ≤ d p
  pub lowest : (p : ℕ) → p < n → d p ≡ d q → q ≤ p

module _ (d : ℕ → ℕ) where
  some_nearer : (o : Option ℕ) (n : ℕ) → nearer d o n ≡ none → ⊥
  some_nearer none n e = let z : ◌≡◌ {A = ℕ} 0 1 = cc in omega arith
  some_nearer (some q) n e = go (ltb (d n) (d q)) e
    where
      go : (t : Bool) → cond t (some n) (some q) ≡ none → ⊥
      go true e = let z : ◌≡◌ {A = ℕ} 0 1 = cc in omega arith
      go false e = let z : ◌≡◌ {A = ℕ} 0 1 = cc in omega arith

  pub nearest_none : (n : ℕ) → nearest_of d n ≡ none → n ≡ 0
  unfolding nearest_of
  nearest_none zero e = refl
  nearest_none (suc n) e = absurd (some_nearer (nearest_of d n) n e)

  pub none_nearest : (n : ℕ) → n ≡ 0 → nearest_of d n ≡ none
  unfolding nearest_of
  none_nearest n e = rw e refl

  pub nearest_is : (n q : ℕ) → nearest_of d n ≡ some q → Nearest d n q
  unfolding nearest_of
  nearest_is zero q e = let z : ◌≡◌ {A = ℕ} 0 1 = cc in absurd (omega arith)
  nearest_is (suc n) q e = by_old (nearest_of d n) refl e (λ o f. nearest_is n o f)
    where
      first : n ≡ 0 → n ≡ q → Nearest d (suc n) q
      first z f = record {
        place = omega arith;
        least = λ p lt. let g : q ≡ p = omega arith in omega (arith, ap d g);
        lowest = λ p lt g. omega arith;
      }

      go : (o : ℕ) → Nearest d n o → (t : Bool) → ltb (d n) (d o) ≡ t → cond t (some n) (some o) ≡ some q
          → Nearest d (suc n) q
      go o h true t e =
          let less : d n < d o = ltb-true (d n) (d o) t in
          let f : n ≡ q = cc in
          record {
            place = omega arith;
            least = λ p lt. ⊎_elim (λ g. omega (arith, ap d (sym f ∙ g)))
                (λ ne. omega (arith, ap d f, h.least p (omega arith))) (cases_eq n p);
            lowest = λ p lt g. ⊎_elim (λ k. omega arith)
                (λ ne. absurd (omega (arith, ap d f, h.least p (omega arith)))) (cases_eq n p);
          }
      go o h false t e =
          let more : d o ≤ d n = ltb-false (d n) (d o) t in
          let f : o ≡ q = cc in
          record {
            place = omega (arith, h.place);
            least = λ p lt. ⊎_elim (λ g. omega (arith, ap d g, ap d f))
                (λ ne. omega (arith, ap d f, h.least p (omega arith))) (cases_eq n p);
            lowest = λ p lt g. ⊎_elim (λ k. omega (arith, h.place))
                (λ ne. omega (arith, h.lowest p (omega arith) (g ∙ ap d (sym f)))) (cases_eq n p);
          }

      by_old : (o : Option ℕ) → nearest_of d n ≡ o → nearer d o n ≡ some q
          → ((o : ℕ) → nearest_of d n ≡ some o → Nearest d n o) → Nearest d (suc n) q
      by_old none f e ih = first (nearest_none n f) (cc)
      by_old (some o) f e ih = go o (ih o f) (ltb (d n) (d o)) refl e
