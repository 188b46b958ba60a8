-- T-04: the five cases of a stored step. Every pattern is in exactly one, and its step is what the case gives.
-- Assumes nothing.
use Rattle.std.proofs.Common.{◌≡◌, ℕ, ◌-◌, ◌≤◌, subst, inl, inr, eq-zero-or-pos, arith, le-ltb, lt-ltb, eq-eqb, ne_eqb}
use lib.Ieee.{binary32, of_bits}
use Rattle.numbers.specs.Steps.{step_of}
use Rattle.numbers.specs.Cases.{field, fraction, StepCase, InCase, case_of, OneCase, case_step}
use Rattle.numbers.specs.Cases.{too_small, within_range, beyond_range, infinite, not_a_number}
use Rattle.std.proofs.lemmas.Bool.{cases_lt}
use Rattle.numbers.proofs.StepLaws as step

-- ---- exactly one: what a case says names it in the order of the questions, and the case so named says it
named : (c : StepCase) (k e f : ℕ) → InCase c k e f → c ≡ case_of k e f
unfolding case_of
named too_small k e f h = rw (lt-ltb e (127 - k) h)
named within_range k e f h = rw (le-ltb e (127 - k) h.0, lt-ltb e (142 - k) h.1)
named beyond_range k e f h =
    let g : 127 - k ≤ e = omega arith in
    rw (le-ltb e (127 - k) g, le-ltb e (142 - k) h.0, lt-ltb e 255 h.1)
named infinite k e f h =
    let g : 127 - k ≤ e = omega arith in
    let l : 142 - k ≤ e = omega arith in
    let t : 255 ≤ e = omega arith in
    rw (le-ltb e (127 - k) g, le-ltb e (142 - k) l, le-ltb e 255 t, eq-eqb f 0 h.1)
named not_a_number k e f h =
    let g : 127 - k ≤ e = omega arith in
    let l : 142 - k ≤ e = omega arith in
    let t : 255 ≤ e = omega arith in
    rw (le-ltb e (127 - k) g, le-ltb e (142 - k) l, le-ltb e 255 t, ne_eqb f 0 h.1)

said : (c : StepCase) (k e f : ℕ) → InCase c k e f → InCase (case_of k e f) k e f
said c k e f h = subst (λ (d : StepCase). InCase d k e f) (named c k e f h) h

in_its_case : (k e f : ℕ) → e ≤ 255 → InCase (case_of k e f) k e f
in_its_case k e f h = elim (cases_lt e (127 - k)) [
  | inl l ↦ said too_small k e f l
  | inr g ↦ elim (cases_lt e (142 - k)) [
    | inl l ↦ said within_range k e f (g, l)
    | inr u ↦ elim (cases_lt e 255) [
      | inl l ↦ said beyond_range k e f (u, l)
      | inr t ↦ elim (eq-zero-or-pos f) [
        | inl z ↦ said infinite k e f (omega arith, z)
        | inr p ↦ said not_a_number k e f (omega arith, λ z. omega arith)
      ]
    ]
  ]
]

pub every_pattern : (k b : ℕ) → OneCase (case_of k (field b) (fraction b)) k b
every_pattern k b = record {
  holds = in_its_case k (field b) (fraction b) (omega arith);
  only = λ other h. named other k (field b) (fraction b) h;
}

-- ---- what each gives
pub case_gives : (c : StepCase) (k b : ℕ) → k ≤ 5 → InCase c k (field b) (fraction b)
    → step_of k (of_bits binary32 b) ≡ case_step c k b
case_gives too_small k b l h = step.too_small b k l (omega arith)
case_gives within_range k b l h = step.in_range b k l (omega arith) (omega arith)
case_gives beyond_range k b l h = step.beyond b k l (omega arith) h.1
case_gives infinite k b l h = step.at_infinity b k h.0 h.1
case_gives not_a_number k b l h = step.at_nan b k h.0 h.1

-- ---- at either scale, the step of a pattern is what its case gives
pub step_of_case : (k b : ℕ) → k ≤ 5
    → step_of k (of_bits binary32 b) ≡ case_step (case_of k (field b) (fraction b)) k b
step_of_case k b h = case_gives (case_of k (field b) (fraction b)) k b h (every_pattern k b).holds
