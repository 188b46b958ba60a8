-- Lists of causes: one list behind another, a scan of places, and what an accepted list says; the tests that a path of
-- the code has passed, for `search`. Assumes nothing.
use Rattle.std.proofs.Common.{◌≡◌, ℕ, zero, suc, ◌+◌, ◌<◌, Bool, true, false, cond, List, [], ◌∷◌, ◌++◌, length}
use Rattle.std.proofs.Common.{get_or, sym, refl, ap, ◌∙◌, arith, rules, le-ltb, lt-ltb, eq-eqb, ne_eqb, le-leb}
use borrow.Author.Tests.{lt-leb}
use Rattle.std.specs.Prelude.{Result, Ok, Err}
use Rattle.numbers.specs.declared.refusal.Refusal.{Refusal}
use Rattle.numbers.specs.declared.refusal.Refusal.TheVariants.{AtLimit}
use Rattle.numbers.specs.Refusals.{Cause, when, done, decided, unless, each}

-- the tests that a path of the code has passed
pub ruleset tested = (lt-ltb, le-ltb, lt-leb, le-leb)

-- for `search`, in a function that only compares numbers
pub ruleset tests = (rules, tested, eq-eqb, ne_eqb)

-- one list behind another
pub decided_append : (xs ys : List Cause) → decided (xs ++ ys) ≡ unless (decided xs) (decided ys)
decided_append [] ys = refl
decided_append (c ∷ cs) ys = go c.fits (decided_append cs ys)
  where
    go : (b : Bool) → decided (cs ++ ys) ≡ unless (decided cs) (decided ys)
        → cond b (Err c.refusal) (decided (cs ++ ys)) ≡ unless (cond b (Err c.refusal) (decided cs)) (decided ys)
    go true e = refl
    go false e = e

abbrev pub never : Cause
never = when false AtLimit

-- a refusal is nothing that is given
pub not_refused : {A P : Type 0} {r : Refusal} {x : A} → ◌≡◌ {A = Result A Refusal} (Err r) (Ok x) → P
not_refused e = let z : ◌≡◌ {A = ℕ} 0 1 = cc in absurd (omega arith)

split : (c : Cause) (cs : List Cause) → decided (c ∷ cs) ≡ done → (c.fits ≡ false) × (decided cs ≡ done)
split c cs = go c.fits
  where
    go : (b : Bool) → cond b (Err c.refusal) (decided cs) ≡ done → (b ≡ false) × (decided cs ≡ done)
    go true e = not_refused e
    go false e = (refl, e)

-- of an accepted list no cause fits: read off by its position
pub passed : (cs : List Cause) (k : ℕ) → decided cs ≡ done → (get_or cs k never).fits ≡ false
passed [] k e = refl
passed (c ∷ cs) zero e = (split c cs e).0
passed (c ∷ cs) (suc k) e = passed cs k (split c cs e).1

-- a scan names the lowest place
pub each_lowest : (cause : ℕ → Refusal) (bad : ℕ → Bool) (i k j : ℕ) → j < k
    → ((q : ℕ) → q < j → bad (i + q) ≡ false) → bad (i + j) ≡ true → decided (each cause bad i k)
    ≡ Err (cause (i + j))
unfolding each
each_lowest cause bad i zero j lt good h = absurd (omega arith)
each_lowest cause bad i (suc k) zero lt good h = let e : i + 0
    ≡ i = omega arith in rw (rw e at h) (ap (λ (q : ℕ). Err (cause q)) (sym e))
each_lowest cause bad i (suc k) (suc j) lt good h =
    let e : i + 0 ≡ i = omega arith in
    let s : i + suc j ≡ suc i + j = omega arith in
    rw (rw e at (good 0 (omega arith)))
    (each_lowest cause bad (suc i) k j (omega arith)
    (λ q l. let s' : suc i + q ≡ i + suc q = omega arith in rw s' (good (suc q) (omega arith))) (rw s at h)
    ∙ ap (λ (q : ℕ). Err (cause q)) (sym s))
