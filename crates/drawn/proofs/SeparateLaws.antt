-- Ranges that are apart stay apart.
-- Assumes nothing.
use Prim.Native.Nat.{ℕ, ◌+◌, ◌-◌, ◌≤◌, ◌<◌, min}
use native.Mathlib.Omega.{arith}
use mathlib.Core.Path.{◌≡◌, sym, ◌∙◌}
use mathlib.Core.Logic.{◌⊎◌, inl, inr, ⊎_elim}
use mathlib.Core.Bool.{false}
use lib.Dec.{eqb, ltb}
use borrow.Author.Tests.{ltb-true, ltb-false, eqb-true, eqb-false}
use Rattle.cells.specs.Lists.{sum_to}
use Rattle.cells.proofs.Sequences.Tests.{by_test}
use Rattle.cells.proofs.Reading.ReadLaws.{sum_room}
use Rattle.drawn.specs.Separate.{Separate}

pub none : (s c : ℕ → ℕ) (l : ℕ) → Separate s c 0 l
none s c l = record {
  word = λ q lt. absurd (omega arith);
  inside = λ q lt some. absurd
      (omega arith);
  apart = λ p q hp hq ne a b. absurd (omega arith);
}

-- the same ranges, each from another place
module _ (s c s' c' : ℕ → ℕ) (n n' l : ℕ) (from : (q : ℕ) → q < n' → ℕ)
    (within : (q : ℕ) (lt : q < n') → from q lt < n)
    (one : (p q : ℕ) (hp : p < n') (hq : q < n') → from p hp ≡ from q hq → p ≡ q)
    (starts : (q : ℕ) (lt : q < n') → s' q ≡ s (from q lt))
    (counts : (q : ℕ) (lt : q < n') → c' q ≡ c (from q lt)) where
  pub moved : Separate s c n l → Separate s' c' n' l
  moved h = record {
    word = λ q lt. omega (arith, starts q lt, h.word (from q lt) (within q lt));
    inside = λ q lt some. omega (
      arith,
      starts q lt,
      counts q lt,
      h.inside (from q lt) (within q lt)
          (omega (arith, counts q lt)),
    );
    apart = λ p q hp hq ne a b.
        ⊎_elim
        (λ e. inl (omega (arith, starts p hp, counts p hp, starts q hq)))
        (λ e. inr (omega (arith, starts q hq, counts q hq, starts p hp)))
        (h.apart (from p hp) (from q hq) (within p hp) (within q hq) (λ e. ne (one p q hp hq e))
        (omega (arith, counts p hp)) (omega (arith, counts q hq)));
  }

pub same : (s c s' c' : ℕ → ℕ) (n l : ℕ) → ((q : ℕ) → q < n → s' q ≡ s q) → ((q : ℕ) → q < n → c' q ≡ c q)
    → Separate s c n l → Separate s' c' n l
same s c s' c' n l starts counts h = moved s c s' c' n n l (λ q lt. q) (λ q lt. lt) (λ p q hp hq e. e) starts counts h

-- one range more, behind all others if it has entries
module _ (s c s' c' : ℕ → ℕ) (n l l' : ℕ) (starts : (q : ℕ) → q < n → s' q ≡ s q)
    (counts : (q : ℕ) → q < n → c' q ≡ c q)
    (fits : s' n < 4294967296) (behind : 0 < c' n → s' n ≡ l) (more : l' ≡ l + c' n) where
  pub one_more : Separate s c n l → Separate s' c' (n + 1) l'
  one_more h = record {
    word = λ q lt. by_test (ltb q n) (λ t. let k = ltb-true q n t in omega (arith, starts q k, h.word q k))
        (λ f. let e = last q lt f in rw e fits);
    inside = λ q lt some. by_test (ltb q n)
        (λ t. old q (ltb-true q n t) some)
        (λ f. let e = last q lt f in let some' : 0 < c' n = rw e at some in let i : s' n + c' n ≤ l' = omega
        (arith, behind some') in rw e i);
    apart = λ p q hp hq ne a b. by_test (ltb p n)
        (λ t. let kp = ltb-true p n t in by_test (ltb q n)
        (λ u. let kq = ltb-true q n u in
        ⊎_elim
        (λ e. inl (omega (arith, starts p kp, counts p kp, starts q kq)))
        (λ e. inr (omega (arith, starts q kq, counts q kq, starts p kp)))
        (h.apart p q kp kq ne (omega (arith, counts p kp)) (omega (arith, counts q kq))))
        (λ u. let e = last q hq u in let b' : 0 < c' n = rw e at b in let i : s' p + c' p ≤ s' n = omega
        (arith, behind b', first p kp a) in inl (rw e i)))
        (λ t. let d = last p hp t in let a' : 0 < c' n = rw d at a in by_test (ltb q n)
        (λ u. let kq = ltb-true q n u in let i : s' q + c' q ≤ s' n = omega (arith, behind a', first q kq b) in inr
        (rw d i))
        (λ u. absurd (ne (d ∙ sym (last q hq u)))));
  }
    where
      last : (q : ℕ) → q < n + 1 → ltb q n ≡ false → q ≡ n
      last q lt f = omega (arith, ltb-false q n f)

      first : (q : ℕ) → q < n → 0 < c' q → s' q + c' q ≤ l
      first q k some = omega (arith, starts q k, counts q k, h.inside q k (omega (arith, counts q k)))

      old : (q : ℕ) → q < n → 0 < c' q → s' q + c' q ≤ l'
      old q k some = omega (arith, first q k some)

-- one entry more behind those of the place p, in a list of l; the ranges behind it move up by one
module _ (s c s' c' : ℕ → ℕ) (n l p at e : ℕ) (place : p < n) (few : l < 4294967295) (held : e ≡ min (c p) (l - s p))
    (none-held : e ≡ 0 → at ≡ l) (some-held : 0 < e → at ≡ s p + e)
    (start-own : s' p ≡ at - e) (count-own : c' p ≡ e + 1)
    (counts : (q : ℕ) → q < n → (q ≡ p → ⊥) → c' q ≡ c q)
    (before : (q : ℕ) → q < n → (q ≡ p → ⊥) → s q < at → s' q ≡ s q)
    (outside : (q : ℕ) → q < n → (q ≡ p → ⊥) → l ≤ s q → s' q ≡ s q)
    (later : (q : ℕ) → q < n → (q ≡ p → ⊥) → at ≤ s q → s q < l → s' q ≡ s q + 1) (h : Separate s c n l) where
  at_most : (at ≤ l) × (e ≤ at) × (e ≤ c p)
  at_most = by_test (eqb e 0)
      (λ t. let z = eqb-true e 0 t in (omega (arith, none-held z), omega arith, omega arith))
      (λ f. let z : 0 < e = omega (arith, eqb-false e 0 f) in let k : 0 < c p = omega (arith, held) in
      (omega (arith, some-held z, held), omega (arith, some-held z), omega (arith, held)))

  -- where another range with entries lies: before that of p, or behind its new entry
  lies : (q : ℕ) → q < n → (q ≡ p → ⊥) → 0 < c q → ((s q + c q ≤ at - e) × (s' q ≡ s q))
      ⊎ ((at ≤ s q) × (s' q ≡ s q + 1))
  lies q lt ne some = by_test (eqb e 0)
      (λ t. let z = eqb-true e 0 t in let i = h.inside q lt some in let a = none-held z in inl
      (omega arith, before q lt ne (omega arith)))
      (λ f. let z : 0 < e = omega (arith, eqb-false e 0 f) in let a = some-held z in
      let cp : 0 < c p = omega (arith, held) in
      let all : e ≡ c p = omega (arith, held, h.inside p place cp) in
      let i = h.inside q lt some in
      ⊎_elim
      (λ k. inl (omega arith, before q lt ne (omega arith)))
      (λ k. let up : at ≤ s q = omega arith in inr (up, later q lt ne up (omega arith)))
      (h.apart q p lt place ne some cp))

  pub inserted_ranges : Separate s' c' n (l + 1)
  inserted_ranges = record {
    word = λ q lt. by_test (eqb q p)
        (λ t. let d = eqb-true q p t in rw d (omega (arith, start-own, at_most.0)))
        (λ f. let ne = eqb-false q p f in by_test (ltb (s q) at)
        (λ t. omega (arith, before q lt ne (ltb-true _ _ t), h.word q lt))
        (λ t. let up = ltb-false (s q) at t in by_test (ltb (s q) l)
        (λ u. omega (arith, later q lt ne up (ltb-true _ _ u), ltb-true (s q) l u))
        (λ u. omega (arith, outside q lt ne (ltb-false _ _ u), h.word q lt))));
    inside = λ q lt some. by_test (eqb q p)
        (λ t. let d = eqb-true q p t in rw d own_inside)
        (λ f. let ne = eqb-false q p f in other_inside q lt ne some);
    apart = λ q r hq hr ne a b. by_test (eqb q p)
        (λ t. let d = eqb-true q p t in let ner : r ≡ p → ⊥ = λ z. ne (d ∙ sym z) in
        rw d (⊎_elim (λ k. inr k) (λ k. inl k) (own_apart r hr ner b)))
        (λ f. let neq = eqb-false q p f in by_test (eqb r p)
        (λ t. let d = eqb-true r p t in rw d (own_apart q hq neq a))
        (λ g. let ner = eqb-false r p g in two q r hq hr neq ner ne a b));
  }
    where
      own_inside : s' p + c' p ≤ l + 1
      own_inside = omega (arith, start-own, count-own, at_most.0, at_most.1)

      was : (q : ℕ) → q < n → (q ≡ p → ⊥) → 0 < c' q → 0 < c q
      was q lt ne some = omega (arith, counts q lt ne)

      other_inside : (q : ℕ) → q < n → (q ≡ p → ⊥) → 0 < c' q → s' q + c' q ≤ l + 1
      other_inside q lt ne some =
          let i = h.inside q lt (was q lt ne some) in
          ⊎_elim
          (λ k. omega (arith, k.1, counts q lt ne))
          (λ k. omega (arith, k.1, counts q lt ne))
          (lies q lt ne (was q lt ne some))

      own_apart : (q : ℕ) → q < n → (q ≡ p → ⊥) → 0 < c' q → (s' q + c' q ≤ s' p) ⊎ (s' p + c' p ≤ s' q)
      own_apart q lt ne some =
          ⊎_elim
          (λ k. inl (omega (arith, k.0, k.1, counts q lt ne, start-own)))
          (λ k. inr (omega (arith, k.0, k.1, start-own, count-own, at_most.1)))
          (lies q lt ne (was q lt ne some))

      two : (q r : ℕ) → q < n → r < n → (q ≡ p → ⊥) → (r ≡ p → ⊥) → (q ≡ r → ⊥) → 0 < c' q → 0 < c' r
          → (s' q + c' q ≤ s' r) ⊎ (s' r + c' r ≤ s' q)
      two q r hq hr neq ner ne a b =
          let cq = counts q hq neq in
          let cr = counts r hr ner in
          ⊎_elim
          (λ k. ⊎_elim
          (λ j. ⊎_elim (λ z. inl (omega (arith, k.1, j.1))) (λ z. inr (omega (arith, k.1, j.1)))
          (h.apart q r hq hr ne (was q hq neq a) (was r hr ner b)))
          (λ j. inl (omega (arith, k.0, k.1, j.0, j.1)))
          (lies r hr ner (was r hr ner b)))
          (λ k. ⊎_elim
          (λ j. inr (omega (arith, k.0, k.1, j.0, j.1)))
          (λ j. ⊎_elim (λ z. inl (omega (arith, k.1, j.1))) (λ z. inr (omega (arith, k.1, j.1)))
          (h.apart q r hq hr ne (was q hq neq a) (was r hr ner b)))
          (lies r hr ner (was r hr ner b)))
          (lies q hq neq (was q hq neq a))

-- ranges one after the other
pub summed : (g : ℕ → ℕ) (n : ℕ) → sum_to g n < 4294967296 → Separate (sum_to g) g n (sum_to g n)
summed g n fits = record {
  word = λ q lt. omega (arith, sum_room g q n lt);
  inside = λ q lt some. sum_room g q n lt;
  apart = λ p q hp hq ne a b. by_test (ltb p q)
      (λ t. inl (sum_room g p q (ltb-true p q t)))
      (λ f. inr (sum_room g q p (let k : q < p = omega (arith, ltb-false p q f) in k)));
}

-- the first few of the ranges
pub fewer_ranges : (s c : ℕ → ℕ) (n n' l : ℕ) → n' ≤ n → Separate s c n l → Separate s c n' l
fewer_ranges s c n n' l few h = record {
  word = λ q lt. h.word q (omega arith);
  inside = λ q lt some. h.inside q (omega arith) some;
  apart = λ p q hp hq ne a b. h.apart p q (omega arith) (omega arith) ne a b;
}

-- the range at p replaced: by a part of what it was, from its start on, or by one behind all others
module _ (s c s' c' : ℕ → ℕ) (n l l' p : ℕ) (place : p < n) (grows : l ≤ l') (fits : s' p < 4294967296)
    (starts : (q : ℕ) → q < n → (q ≡ p → ⊥) → s' q ≡ s q) (counts : (q : ℕ) → q < n → (q ≡ p → ⊥) → c' q ≡ c q)
    (ends : s' p + c' p ≤ l') (own : 0 < c' p → ((s' p ≡ s p) × (c' p ≤ c p)) ⊎ (l ≤ s' p))
    (h : Separate s c n l) where
  other_inside : (q : ℕ) → q < n → (q ≡ p → ⊥) → 0 < c' q → s' q + c' q ≤ l
  other_inside q lt ne some =
      omega (arith, starts q lt ne, counts q lt ne, h.inside q lt (omega (arith, counts q lt ne)))

  own_apart : (q : ℕ) → q < n → (q ≡ p → ⊥) → 0 < c' q → 0 < c' p
      → (s' q + c' q ≤ s' p) ⊎ (s' p + c' p ≤ s' q)
  own_apart q lt ne some mine =
      let e = starts q lt ne in
      let k = counts q lt ne in
      ⊎_elim
      (λ z. ⊎_elim
      (λ y. inl (omega (arith, z.0, e, k)))
      (λ y. inr (omega (arith, z.0, z.1, e, k)))
      (h.apart q p lt place ne (omega arith) (omega (arith, z.1))))
      (λ z. inl (omega (arith, other_inside q lt ne some)))
      (own mine)

  pub range_replaced : Separate s' c' n l'
  range_replaced = record {
    word = λ q lt. by_test (eqb q p)
        (λ t. let d = eqb-true q p t in rw d fits)
        (λ f. let ne = eqb-false q p f in omega (arith, starts q lt ne, h.word q lt));
    inside = λ q lt some. by_test (eqb q p)
        (λ t. let d = eqb-true q p t in rw d ends)
        (λ f. omega (arith, other_inside q lt (eqb-false q p f) some));
    apart = λ q r hq hr ne a b. by_test (eqb q p)
        (λ t. let d = eqb-true q p t in let ner : r ≡ p → ⊥ = λ z. ne (d ∙ sym z) in
        let mine : 0 < c' p = rw d at a in
        rw d (⊎_elim (λ k. inr k) (λ k. inl k) (own_apart r hr ner b mine)))
        (λ f. let neq = eqb-false q p f in by_test (eqb r p)
        (λ t. let d = eqb-true r p t in let mine : 0 < c' p = rw d at b in rw d (own_apart q hq neq a mine))
        (λ g. let ner = eqb-false r p g in
        let eq = starts q hq neq in
        let er = starts r hr ner in
        let kq = counts q hq neq in
        let kr = counts r hr ner in
        ⊎_elim
        (λ k. inl (omega (arith, eq, er, kq)))
        (λ k. inr (omega (arith, eq, er, kr)))
        (h.apart q r hq hr ne (omega arith) (omega arith))));
  }
