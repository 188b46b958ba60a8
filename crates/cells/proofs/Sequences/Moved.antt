-- Entries moved to their places in place: an exchange of two elements, what it keeps, and how many places it settles.
-- Assumes nothing.
use Prim.Native.Nat.{ℕ, zero, suc, ◌+◌, ◌≤◌, ◌<◌}
use mathlib.Core.Path.{◌≡◌, refl, sym, ap, ◌∙◌}
use mathlib.Core.Bool.{Bool, true, false, cond}
use mathlib.Core.List.{List, ◌++◌, append-nil}
use native.Mathlib.Nat.{ne_of_lt}
use native.Mathlib.Numerals.{lt_of_le_of_ne}
use native.Mathlib.Omega.{arith}
use lib.Dec.{eqb}
use lib.ListN.{length, get_or, set, take, drop, length-set, take-append-drop}
use lib.Seq.{get_or-set_same, get_or-set_other, get_or-take, drop-set-lt, ext_get_or, length-take-le}
use borrow.Author.Tests.{eqb-true, eqb-false, eq-eqb, ne_eqb}
use Rattle.std.specs.List.{swap}
use Rattle.std.proofs.lemmas.List.Edits.{swap_is}
use Rattle.std.proofs.lemmas.List.{drop_all}
use Rattle.cells.specs.Moves.{Places, swapped}

-- a is b, or it is not
data Same (a b : ℕ) : Type 0 where
  yes : a ≡ b → Same a b
  no : (a ≡ b → ⊥) → Same a b

same : (a b : ℕ) → Same a b
same a b = by_test (eqb a b) refl
  where
    by_test : (t : Bool) → eqb a b ≡ t → Same a b
    by_test true e = yes (eqb-true a b e)
    by_test false e = no (eqb-false a b e)

-- where the element stands, after the exchange, that k has before it, and the other way round
exch : ℕ → ℕ → ℕ → ℕ
exch i j k = cond (eqb k j) i (cond (eqb k i) j k)

exch_second : (i j : ℕ) → exch i j j ≡ i
unfolding exch
exch_second i j = rw (eq-eqb j j refl)

exch_first : (i j : ℕ) → (i ≡ j → ⊥) → exch i j i ≡ j
unfolding exch
exch_first i j n = rw (ne_eqb i j n, eq-eqb i i refl)

exch_other : (i j k : ℕ) → (k ≡ i → ⊥) → (k ≡ j → ⊥) → exch i j k ≡ k
unfolding exch
exch_other i j k ni nj = rw (ne_eqb k j nj, ne_eqb k i ni)

module _ (i j : ℕ) (apart : i ≡ j → ⊥) where
  exch_below : (n k : ℕ) → i < n → j < n → k < n → exch i j k < n
  exch_below n k hi hj hk = go (same k i) (same k j)
    where
      go : Same k i → Same k j → exch i j k < n
      go (yes e) s = omega (arith, ap (exch i j) e, exch_first i j apart)
      go (no ni) (yes e) = omega (arith, ap (exch i j) e, exch_second i j)
      go (no ni) (no nj) = omega (arith, exch_other i j k ni nj)

  exch_exch : (k : ℕ) → exch i j (exch i j k) ≡ k
  exch_exch k = go (same k i) (same k j)
    where
      go : Same k i → Same k j → exch i j (exch i j k) ≡ k
      go (yes e) s = ap (λ (x : ℕ). exch i j (exch i j x)) e ∙ ap (exch i j) (exch_first i j apart)
          ∙ exch_second i j ∙ sym e
      go (no ni) (yes e) = ap (λ (x : ℕ). exch i j (exch i j x)) e ∙ ap (exch i j) (exch_second i j)
          ∙ exch_first i j apart ∙ sym e
      go (no ni) (no nj) = ap (exch i j) (exch_other i j k ni nj) ∙ exch_other i j k ni nj

  swapped_at : {A : Type 0} (d : A) (l : List A) (k : ℕ) → i < length l → j < length l
      → get_or (swapped d l i j) k d ≡ get_or l (exch i j k) d
  swapped_at {A = A} d l k hi hj = go (same k i) (same k j)
    where
      go : Same k i → Same k j → get_or (swapped d l i j) k d ≡ get_or l (exch i j k) d
      go (yes e) s =
          rw e
          (get_or-set_other (set l i (get_or l j d)) j i (get_or l i d) d apart
          ∙ get_or-set_same l i (get_or l j d) d hi ∙ ap (λ (x : ℕ). get_or l x d) (sym (exch_first i j apart)))
      go (no ni) (yes e) =
          rw e
          (get_or-set_same (set l i (get_or l j d)) j (get_or l i d) d (simp length-set hj)
          ∙ ap (λ (x : ℕ). get_or l x d) (sym (exch_second i j)))
      go (no ni) (no nj) =
          get_or-set_other (set l i (get_or l j d)) j k (get_or l i d) d nj
          ∙ get_or-set_other l i k (get_or l j d) d ni
          ∙ ap (λ (x : ℕ). get_or l x d) (sym (exch_other i j k ni nj))

-- each entry of f stands where the places say
abbrev pub Leads : {A : Type 0} → A → ℕ → List A → List ℕ → List A → Type 0
Leads d n f to nodes = (k : ℕ) → k < n → get_or f (get_or to k 0) d ≡ get_or nodes k d

-- what every turn keeps
pub record Moving {A : Type 0} (d : A) (n i : ℕ) (nodes₀ : List A) (to₀ : List ℕ) (nodes : List A)
    (to : List ℕ) : Type 0
  where
    pub places : Places n to
    pub settled : (j : ℕ) → j < i → get_or to j 0 ≡ j
    pub follows : (f : List A) → Leads d n f to₀ nodes₀ → Leads d n f to nodes
    pub rest : drop n nodes ≡ drop n nodes₀

module _ {A : Type 0} (d : A) (n i t : ℕ) (nodes₀ : List A) (to₀ : List ℕ) (nodes : List A) (to : List ℕ)
    (hi : i < n) (hn : n ≤ length nodes) (ht : n ≤ length to) (is-t : t ≡ get_or to i 0)
    (m : Moving d n i nodes₀ to₀ nodes to) where
  pub below_t : t < n
  below_t = omega (arith, m.places.within i hi)

  module _ (apart : i ≡ t → ⊥) where
    moved_to : (k : ℕ) → get_or (swapped 0 to i t) k 0 ≡ get_or to (exch i t k) 0
    moved_to k = swapped_at i t apart 0 to k (omega arith) (omega (arith, below_t))

    exchange : Moving d n i nodes₀ to₀ (swapped d nodes i t) (swapped 0 to i t)
    exchange = record {
      places = record {
        within = λ k h. rw (moved_to k) (m.places.within (exch i t k) (exch_below i t apart n k hi below_t h));
        apart = λ a b ha hb e.
            sym (exch_exch i t apart a)
            ∙ ap (exch i t) (m.places.apart (exch i t a) (exch i t b) (exch_below i t apart n a hi below_t ha)
            (exch_below i t apart n b hi below_t hb) (sym (moved_to a) ∙ e ∙ moved_to b))
            ∙ exch_exch i t apart b;
      };
      settled = λ j h. rw (moved_to j, exch_other i t j (ne_of_lt h) (λ e. not_t j h e)) (m.settled j h);
      follows = λ f e k h.
          ap (λ (x : ℕ). get_or f x d) (moved_to k)
          ∙ m.follows f e (exch i t k) (exch_below i t apart n k hi below_t h)
          ∙ sym (swapped_at i t apart d nodes k (omega arith) (omega (arith, below_t)));
      rest = drop-set-lt n (set nodes i (get_or nodes t d)) t (get_or nodes i d) below_t
          ∙ drop-set-lt n nodes i (get_or nodes t d) hi ∙ m.rest;
    }
      where
        not_t : (j : ℕ) → j < i → j ≡ t → ⊥
        not_t j h e = ne_of_lt h (m.places.apart j i (omega arith) hi (m.settled j h ∙ e ∙ is-t))

    -- as std's `swap` leaves them
    pub exchanged : {nodes' : List A} {to' : List ℕ} → nodes' ≡ swap nodes i t → to' ≡ swap to i t
        → Moving d n i nodes₀ to₀ nodes' to'
    exchanged e f =
        rw (
          e ∙ sym (swap_is nodes i t d (omega arith) (omega (arith, below_t))),
          f
              ∙ sym (swap_is to i t 0 (omega arith) (omega (arith, below_t))),
        ) exchange

-- ---- how many of the first n places do not hold their own number

one_if_law : Bool → ℕ
one_if_law true = 0
one_if_law false = 1

unfoldable pub loose : List ℕ → ℕ → ℕ
unfolding one_if_law
loose s zero = 0
loose s (suc k) = loose s k + one_if_law (eqb (get_or s k 0) k)

one_mono : (a b k : ℕ) → (a ≡ k → b ≡ k) → one_if_law (eqb b k) ≤ one_if_law (eqb a k)
unfolding one_if_law
one_mono a b k f = go (same a k)
  where
    go : Same a k → one_if_law (eqb b k) ≤ one_if_law (eqb a k)
    go (yes e) = rw (eq-eqb b k (f e)) (omega arith)
    go (no e) = rw (ne_eqb a k e) (go2 (same b k))
      where
        go2 : Same b k → one_if_law (eqb b k) ≤ 1
        go2 (yes e) = rw (eq-eqb b k e) (omega arith)
        go2 (no e) = rw (ne_eqb b k e) (omega arith)

loose_mono : (s s' : List ℕ) (n : ℕ) → ((j : ℕ) → j < n → get_or s j 0 ≡ j → get_or s' j 0 ≡ j) → loose s' n
    ≤ loose s n
unfolding loose
loose_mono s s' zero f = omega arith
loose_mono s s' (suc n) f =
    omega (
      arith,
      loose_mono s s' n (λ j h. f j (omega arith)),
      one_mono (get_or s n 0) (get_or s' n 0) n
          (f n (omega arith)),
    )

pub loose_less : (s s' : List ℕ) (n t : ℕ) → ((j : ℕ) → j < n → get_or s j 0 ≡ j → get_or s' j 0 ≡ j) → t < n
    → (get_or s t 0 ≡ t → ⊥) → get_or s' t 0 ≡ t → loose s' n < loose s n
unfolding loose one_if_law
loose_less s s' zero t f h a b = elim h [ ]
loose_less s s' (suc n) t f h a b = go (same t n) (λ k. loose_less s s' n t (λ j h. f j (omega arith)) k a b)
  where
    go : Same t n → (t < n → loose s' n < loose s n) → loose s' (suc n) < loose s (suc n)
    go (yes e) less =
        let a' : get_or s n 0 ≡ n → ⊥ = λ x. a (ap (λ (y : ℕ). get_or s y 0) e ∙ x ∙ sym e) in
        let b' : get_or s' n 0 ≡ n = ap (λ (y : ℕ). get_or s' y 0) (sym e) ∙ b ∙ e in
        rw (eq-eqb (get_or s' n 0) n b', ne_eqb (get_or s n 0) n a')
        (omega (arith, loose_mono s s' n (λ j h. f j (omega arith))))
    go (no e) less =
        omega (
          arith,
          less (lt_of_le_of_ne (omega arith) e),
          one_mono (get_or s n 0) (get_or s' n 0) n
              (f n (omega arith)),
        )

-- an exchange settles the place t
pub exchange_less : (n i t : ℕ) (to : List ℕ) → i < n → n ≤ length to → t ≡ get_or to i 0 → (i ≡ t → ⊥)
    → Places n to → loose (swapped 0 to i t) n < loose to n
exchange_less n i t to hi ht is-t apart p =
    let below : t < n = omega (arith, p.within i hi) in
    let at : (k : ℕ) → get_or (swapped 0 to i t) k 0
    ≡ get_or to (exch i t k) 0 = λ k. swapped_at i t apart 0 to k (omega arith) (omega arith) in
    let loose-t : get_or to t 0 ≡ t → ⊥ = λ e. apart (p.apart i t hi below (sym is-t ∙ sym e)) in
    loose_less to (swapped 0 to i t) n t
    (λ j h e. at j ∙ ap (λ (x : ℕ). get_or to x 0)
    (exch_other i t j (λ d. apart (sym (is-t ∙ sym (ap (λ (x : ℕ). get_or to x 0) d) ∙ e ∙ d)))
    (λ d. loose-t (sym (ap (λ (x : ℕ). get_or to x 0) d) ∙ e ∙ d))) ∙ e)
    below
    loose-t
    (at t ∙ ap (λ (x : ℕ). get_or to x 0) (exch_second i t) ∙ sym is-t)

-- once all are settled, the entries are those of f
pub arrived : {A : Type 0} (d : A) (n : ℕ) (nodes₀ : List A) (to₀ : List ℕ) (nodes : List A) (to : List ℕ) → n
    ≤ length nodes → Moving d n n nodes₀ to₀ nodes to
    → (f : List A) → length f ≡ n → Leads d n f to₀ nodes₀ → nodes ≡ f ++ drop n nodes₀
arrived {A = A} d n nodes₀ to₀ nodes to hn m f long e =
    let short : length (take n nodes) ≡ n = length-take-le n nodes hn in
    let front : take n nodes ≡ f = ext_get_or d (take n nodes) f (short ∙ sym long) (λ k h.
    let lt : k < n = omega arith in
    get_or-take n nodes k d lt ∙ sym (m.follows f e k lt) ∙ ap (λ (x : ℕ). get_or f x d) (m.settled k lt)) in
    sym (take-append-drop n nodes) ∙ ap (λ (x : List A). x ++ drop n nodes) front
    ∙ ap (λ (x : List A). f ++ x) m.rest

-- the same where all move
pub all_arrived : {A : Type 0} (d : A) (nodes₀ : List A) (to₀ : List ℕ) (nodes : List A) (to : List ℕ) (n i : ℕ) → i ≡ n
    → n ≡ length nodes → n ≡ length nodes₀
    → Moving d n i nodes₀ to₀ nodes to → (f : List A) → length f ≡ n → Leads d n f to₀ nodes₀ → nodes ≡ f
all_arrived {A = A} d nodes₀ to₀ nodes to n i e h h₀ m f long leads =
    let here : Moving d n n nodes₀ to₀ nodes to = rw e at m in
    arrived d n nodes₀ to₀ nodes to (omega arith) here f long leads
    ∙ ap (λ (x : List A). f ++ x) (drop_all n nodes₀ (omega arith)) ∙ append-nil f
