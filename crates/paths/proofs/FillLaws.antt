-- The remembered path, stored from its end.
use Prim.Native.Nat.{ℕ, suc, ◌+◌, ◌-◌, ◌<◌, ◌≤◌}
use native.Mathlib.Omega.{arith}
use mathlib.Core.Path.{◌≡◌, refl, ap, sym, ◌∙◌}
use mathlib.Core.List.{List, [], ◌∷◌, ◌++◌, append-nil}
use lib.ListN.{length, drop, set, length-append, length-set}
use lib.Seq.{drop-length, drop-cons, drop-set-lt, get_or-set_same, append_snoc}
use Rattle.walks.specs.WalkParts.{over}
use Rattle.paths.specs.Labels.{choices_to, places_to}
use Rattle.paths.specs.Scratch.{from_at, by_at, Traced}
use Rattle.paths.proofs.Least.{choices_long, places_long}

-- what is left, over the list as it stands, is the whole over the list as it was
over_last : (c l : List ℕ) (k b : ℕ) → length c ≡ k → k < length l → over (c ++ (b ∷ [])) l ≡ over c (set l k b)
over_last c l k b e lt =
    let long : length (c ++ (b ∷ [])) ≡ suc k = length-append c (b ∷ []) ∙ omega arith in
    let tail : drop k (set l k b) ≡ b ∷ drop (suc k) l =
    drop-cons (set l k b) k 0 (rw length-set lt)
    ∙ (λ i. get_or-set_same l k b 0 lt i ∷ drop-set-lt (suc k) l k b (omega arith) i) in
    ap (λ (x : ℕ). (c ++ (b ∷ [])) ++ drop x l) long ∙ append_snoc c b (drop (suc k) l)
    ∙ ap (λ (x : List ℕ). c ++ x) (sym tail) ∙ ap (λ (x : ℕ). c ++ drop x (set l k b)) (sym e)

-- over all of a list
over_all : (c l : List ℕ) → length c ≡ length l → over c l ≡ c
over_all c l e = ap (λ (k : ℕ). c ++ drop k l) e ∙ ap (λ (r : List ℕ). c ++ r) (drop-length l) ∙ append-nil c

-- one link back
traced_on : (s : List ℕ) (v i : ℕ) → Traced s v (suc i) → Traced s (from_at s v) i
traced_on s v i t =
    let r = t.back v i t.inside t.labelled t.left in
    record { n = t.n; few = t.few; room = t.room; back = t.back; inside = r.0; labelled = r.1; left = r.2 }

-- i links are left, back from v
pub record Filling (s : List ℕ) (goal : ℕ) (choices₀ places₀ choices places : List ℕ) (v i : ℕ) : Type 0 where
  pub traced : Traced s v i
  pub room : i ≤ length choices
  pub places_room : i < length places
  pub choices_so : over (choices_to (from_at s) (by_at s) i v) choices
      ≡ over (choices_to (from_at s) (by_at s) (length choices₀) goal) choices₀
  pub places_so : over (places_to (from_at s) i v) places ≡ over (places_to (from_at s) (length choices₀) goal) places₀

module _ (s : List ℕ) (goal : ℕ) (choices₀ places₀ : List ℕ) (long : length places₀ ≡ length choices₀ + 1) where
  pub fill_start : Traced s goal (length choices₀)
      → Filling s goal choices₀ places₀ choices₀ places₀ goal (length choices₀)
  fill_start t = record {
    traced = t;
    room = omega arith;
    places_room = omega arith;
    choices_so = refl;
    places_so = refl;
  }

  module _ (choices places : List ℕ) (v i : ℕ) (h : Filling s goal choices₀ places₀ choices places v i) where
    pub fill_turn : 0 < i → (b u : ℕ) → b ≡ by_at s v → u ≡ from_at s v
        → Filling s goal choices₀ places₀ (set choices (i - 1) b) (set places (i - 1 + 1) v) u (i - 1)
    unfolding choices_to places_to
    fill_turn lt b u eb eu =
        let from = from_at s in
        let by = by_at s in
        let e : i ≡ suc (i - 1) = omega arith in
        let f : i - 1 + 1 ≡ i = omega arith in
        let on : Traced s v (suc (i - 1)) = rw e at h.traced in
        let long-c : length (choices_to from by (i - 1) (from v)) ≡ i - 1 = choices_long from by (i - 1) (from v) in
        let long-p : length (places_to from (i - 1) (from v)) ≡ i = places_long from by (i - 1) (from v) ∙ sym e in
        rw (eb, eu, f) (record {
          traced = traced_on s v (i - 1) on;
          room = rw length-set (omega (arith, h.room));
          places_room = rw length-set (omega (arith, h.places_room));
          choices_so =
              sym (over_last (choices_to from by (i - 1) (from v)) choices (i - 1) (by v) long-c
              (omega (arith, h.room)))
              ∙ sym (ap (λ (k : ℕ). over (choices_to from by k v) choices) e) ∙ h.choices_so;
          places_so =
              sym (over_last (places_to from (i - 1) (from v)) places i v long-p h.places_room)
              ∙ sym (ap (λ (k : ℕ). over (places_to from k v) places) e) ∙ h.places_so;
        })

    pub fill_choices : i ≤ 0 → choices ≡ choices_to (from_at s) (by_at s) (length choices₀) goal
    unfolding choices_to
    fill_choices le =
        let e : i ≡ 0 = omega arith in
        let c = choices_to (from_at s) (by_at s) (length choices₀) goal in
        sym (ap (λ (k : ℕ). over (choices_to (from_at s) (by_at s) k v) choices) e) ∙ h.choices_so
        ∙ over_all c choices₀ (choices_long (from_at s) (by_at s) (length choices₀) goal)

    pub fill_places : i ≤ 0 → set places 0 v ≡ places_to (from_at s) (length choices₀) goal
    unfolding places_to
    fill_places le =
        let e : i ≡ 0 = omega arith in
        let c = places_to (from_at s) (length choices₀) goal in
        first places h.places_room ∙ sym (ap (λ (k : ℕ). over (places_to (from_at s) k v) places) e) ∙ h.places_so
        ∙ over_all c places₀
        (omega (arith, places_long (from_at s) (by_at s) (length choices₀) goal))
      where
        first : (l : List ℕ) → i < length l → set l 0 v ≡ v ∷ drop 1 l
        first [] lt = absurd (omega arith)
        first (x ∷ xs) lt = refl
