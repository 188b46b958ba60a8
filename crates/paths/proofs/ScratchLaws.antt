-- What stands in the scratch after its entries were stored.
use Prim.Native.Nat.{ℕ, ◌+◌, ◌*◌, ◌/◌, ◌%◌, ◌<◌, ◌≤◌}
use native.Mathlib.Omega.{arith}
use mathlib.Core.Path.{◌≡◌, ap, sym, ◌∙◌, fun_ext}
use mathlib.Core.List.{List}
use mathlib.Core.Logic.{⊎_elim}
use lib.ListN.{length, get_or, set, length-set}
use lib.Seq.{get_or-set_same, get_or-set_other}
use Rattle.std.proofs.lemmas.Bool.{cases_eq}
use Rattle.std.proofs.lemmas.Nat.{div-add-mod', div-mul-add, mod-mul-add}
use Rattle.paths.specs.Labels.{unlabelled}
use Rattle.paths.specs.Scratch.{label_at, from_at, by_at, place_at, index_at, chain_at, placed, indexed, stood}
use Rattle.paths.specs.Scratch.{labelled, cleared_at, Order, Kept, SameLabels, Swapped, Put, Cleared}
use Rattle.paths.proofs.OrderLaws.{index_i, index_j, index_other, changed}

-- ---- halves of an entry

pub low_kept : (a b : ℕ) → (a % 65536 + b * 65536) % 65536 ≡ a % 65536
low_kept a b = omega arith

pub high_put : (a b : ℕ) → (a % 65536 + b * 65536) / 65536 ≡ b
high_put a b = omega arith

abbrev low : ℕ → ℕ
low a = a % 65536

abbrev high : ℕ → ℕ
high a = a / 65536

-- the entries that a label and its chain stand in
pub labels_by : (n : ℕ) (s t : List ℕ) → ((x : ℕ) → get_or t (4 * x) 0 ≡ get_or s (4 * x) 0)
    → ((x : ℕ) → get_or t (4 * x + 1) 0 ≡ get_or s (4 * x + 1) 0)
    → ((x : ℕ) → get_or t (4 * x + 3) 0 ≡ get_or s (4 * x + 3) 0) → SameLabels n s t
unfolding label_at from_at by_at chain_at
labels_by n s t a b c = record {
  same_label = λ x lt i. a x i / 256 * 4294967296 + b x i / 65536;
  same_from = λ x lt. ap low (b x);
  same_by = λ x lt. ap (λ (y : ℕ). y % 256) (a x);
  same_chains = fun_ext (λ x. c x);
}

pub same_labels : {n : ℕ} {s t u : List ℕ} → SameLabels n s t → SameLabels n t u → SameLabels n s u
same_labels a b = record {
  same_label = λ v lt. b.same_label v lt ∙ a.same_label v lt;
  same_from = λ v lt. b.same_from v lt ∙ a.same_from v lt;
  same_by = λ v lt. b.same_by v lt ∙ a.same_by v lt;
  same_chains = b.same_chains ∙ a.same_chains;
}

-- ---- a place at an index, and its index

module _ (s : List ℕ) (i v : ℕ) (inside : 4 * i + 2 < length s) (small : v < 65536) where
  placed_at : get_or (placed s i v) (4 * i + 2) 0 ≡ get_or s (4 * i + 2) 0 / 65536 * 65536 + v
  unfolding placed
  placed_at = get_or-set_same s (4 * i + 2) (get_or s (4 * i + 2) 0 / 65536 * 65536 + v) 0 inside

  placed_far : (j : ℕ) → (j ≡ 4 * i + 2 → ⊥) → get_or (placed s i v) j 0 ≡ get_or s j 0
  unfolding placed
  placed_far j ne = get_or-set_other s (4 * i + 2) j (get_or s (4 * i + 2) 0 / 65536 * 65536 + v) 0 ne

  placed_place : place_at (placed s i v) i ≡ v
  unfolding place_at
  placed_place = ap low placed_at ∙ mod-mul-add (get_or s (4 * i + 2) 0 / 65536) 65536 v small

  placed_place_other : (k : ℕ) → (k ≡ i → ⊥) → place_at (placed s i v) k ≡ place_at s k
  unfolding place_at
  placed_place_other k ne = ap low (placed_far (4 * k + 2) (omega arith))

  placed_index : (x : ℕ) → index_at (placed s i v) x ≡ index_at s x
  unfolding index_at
  placed_index x = ⊎_elim
      (λ q. ap (λ (y : ℕ). high (get_or (placed s i v) (4 * y + 2) 0)) q ∙ ap high placed_at
      ∙ div-mul-add (get_or s (4 * i + 2) 0 / 65536) 65536 v small
      ∙ ap (λ (y : ℕ). high (get_or s (4 * y + 2) 0)) (sym q))
      (λ nq. ap high (placed_far (4 * x + 2) (omega arith)))
      (cases_eq x i)

  placed_long : length (placed s i v) ≡ length s
  unfolding placed
  placed_long = length-set s (4 * i + 2) (get_or s (4 * i + 2) 0 / 65536 * 65536 + v)

module _ (s : List ℕ) (v i : ℕ) (inside : 4 * v + 2 < length s) where
  indexed_at : get_or (indexed s v i) (4 * v + 2) 0 ≡ get_or s (4 * v + 2) 0 % 65536 + i * 65536
  unfolding indexed
  indexed_at = get_or-set_same s (4 * v + 2) (get_or s (4 * v + 2) 0 % 65536 + i * 65536) 0 inside

  indexed_far : (j : ℕ) → (j ≡ 4 * v + 2 → ⊥) → get_or (indexed s v i) j 0 ≡ get_or s j 0
  unfolding indexed
  indexed_far j ne = get_or-set_other s (4 * v + 2) j (get_or s (4 * v + 2) 0 % 65536 + i * 65536) 0 ne

  indexed_index : index_at (indexed s v i) v ≡ i
  unfolding index_at
  indexed_index = ap high indexed_at ∙ high_put (get_or s (4 * v + 2) 0) i

  indexed_index_other : (x : ℕ) → (x ≡ v → ⊥) → index_at (indexed s v i) x ≡ index_at s x
  unfolding index_at
  indexed_index_other x ne = ap high (indexed_far (4 * x + 2) (omega arith))

  indexed_place : (k : ℕ) → place_at (indexed s v i) k ≡ place_at s k
  unfolding place_at
  indexed_place k = ⊎_elim
      (λ q. ap (λ (y : ℕ). low (get_or (indexed s v i) (4 * y + 2) 0)) q ∙ ap low indexed_at
      ∙ low_kept (get_or s (4 * v + 2) 0) i ∙ ap (λ (y : ℕ). low (get_or s (4 * y + 2) 0)) (sym q))
      (λ nq. ap low (indexed_far (4 * k + 2) (omega arith)))
      (cases_eq k v)

  indexed_long : length (indexed s v i) ≡ length s
  unfolding indexed
  indexed_long = length-set s (4 * v + 2) (get_or s (4 * v + 2) 0 % 65536 + i * 65536)

module _ (n : ℕ) (s : List ℕ) (few : n ≤ 65536) (room : 4 * n ≤ length s) (i v : ℕ) (li : i < n) (lv : v < n) where
  in_i : 4 * i + 2 < length s
  in_i = omega arith

  small : v < 65536
  small = omega arith

  in_v : 4 * v + 2 < length (placed s i v)
  in_v = omega (arith, placed_long s i v in_i small)

  pub stood_long : length (stood s i v) ≡ length s
  unfolding stood
  stood_long = indexed_long (placed s i v) v i in_v ∙ placed_long s i v in_i small

  pub stood_place : place_at (stood s i v) i ≡ v
  unfolding stood
  stood_place = indexed_place (placed s i v) v i in_v i ∙ placed_place s i v in_i small

  pub stood_place_other : (k : ℕ) → k < n → (k ≡ i → ⊥) → place_at (stood s i v) k ≡ place_at s k
  unfolding stood
  stood_place_other k lt ne = indexed_place (placed s i v) v i in_v k ∙ placed_place_other s i v in_i small k ne

  pub stood_index : index_at (stood s i v) v ≡ i
  unfolding stood
  stood_index = indexed_index (placed s i v) v i in_v

  pub stood_index_other : (x : ℕ) → x < n → (x ≡ v → ⊥) → index_at (stood s i v) x ≡ index_at s x
  unfolding stood
  stood_index_other x lt ne = indexed_index_other (placed s i v) v i in_v x ne ∙ placed_index s i v in_i small x

  -- the other entries
  stood_far : (j : ℕ) → (j ≡ 4 * i + 2 → ⊥) → (j ≡ 4 * v + 2 → ⊥) → get_or (stood s i v) j 0 ≡ get_or s j 0
  unfolding stood
  stood_far j a b = indexed_far (placed s i v) v i in_v j b ∙ placed_far s i v in_i small j a

  pub stood_labels : SameLabels n s (stood s i v)
  stood_labels =
      labels_by n s (stood s i v) (λ x. stood_far (4 * x) (omega arith) (omega arith))
      (λ x. stood_far (4 * x + 1) (omega arith) (omega arith))
      (λ x. stood_far (4 * x + 3) (omega arith) (omega arith))

-- two places changed
module _ (n : ℕ) (s : List ℕ) (kept : Kept n s) (i j : ℕ) (li : i < n) (lj : j < n) where
  x : ℕ
  x = place_at s i

  y : ℕ
  y = place_at s j

  lx : x < n
  unfolding x
  lx = kept.order.place_in i li

  ly : y < n
  unfolding y
  ly = kept.order.place_in j lj

  one : List ℕ
  one = stood s i y

  two : List ℕ
  two = stood one j x

  one_room : 4 * n ≤ length one
  unfolding one
  one_room = rw (stood_long n s kept.few kept.room i y li ly) kept.room

  pub swapped : Swapped n i j s (stood (stood s i (place_at s j)) j (place_at s i))
  unfolding x y one two
  swapped =
      let r = kept.room in
      let w = kept.few in
      let at_j = stood_place n one w one_room j x lj lx in
      let at_i : (i ≡ j → ⊥) → place_at two i ≡ y = λ ne. stood_place_other n one w one_room j x lj lx i li ne
      ∙ stood_place n s w r i y li ly in
      let at_other : (k : ℕ) → k < n → (k ≡ i → ⊥) → (k ≡ j → ⊥) → place_at two k ≡ place_at s k =
      λ k lt ni nj. stood_place_other n one w one_room j x lj lx k lt nj
      ∙ stood_place_other n s w r i y li ly k lt ni in
      let of-i = stood_index n one w one_room j x lj lx in
      let of-j : (y ≡ x → ⊥) → index_at two y ≡ i = λ ne. stood_index_other n one w one_room j x lj lx y ly ne
      ∙ stood_index n s w r i y li ly in
      let of_other : (v : ℕ) → v < n → (v ≡ x → ⊥) → (v ≡ y → ⊥) → index_at two v ≡ index_at s v =
      λ v lt nx ny. stood_index_other n one w one_room j x lj lx v lt nx
      ∙ stood_index_other n s w r i y li ly v lt ny in
      record {
        kept = record {
          few = kept.few;
          room = rw (stood_long n one w one_room j x lj lx) one_room;
          order = changed n (place_at s) (index_at s) (place_at two) (index_at two) kept.order i j li lj at_j at_i
              at_other of-i of-j of_other;
        };
        same = same_labels (stood_labels n s w r i y li ly) (stood_labels n one w one_room j x lj lx);
        from_i = index_i n (place_at s) (index_at s) (place_at two) (index_at two) kept.order i j li lj at_j at_i
            at_other of-i of-j of_other;
        from_j = index_j n (place_at s) (index_at s) (place_at two) (index_at two) kept.order i j li lj at_j at_i
            at_other of-i of-j of_other;
        other = index_other n (place_at s) (index_at s) (place_at two) (index_at two) kept.order i j li lj at_j at_i
            at_other of-i of-j of_other;
      }

pub swapped_by : (n : ℕ) (s : List ℕ) → Kept n s → (i j : ℕ) → i < n → j < n → (x y : ℕ) → x ≡ place_at s i → y
    ≡ place_at s j
    → (s₁ s₂ : List ℕ) → s₁ ≡ stood s i y → s₂ ≡ stood s₁ j x → Swapped n i j s s₂
swapped_by n s kept i j li lj x y ex ey s₁ s₂ e₁ e₂ = rw (e₂, e₁, ex, ey) (swapped n s kept i j li lj)

-- the order depends on its entries alone
order_same : (n : ℕ) (h p g q : ℕ → ℕ) → Order n h p → ((k : ℕ) → k < n → g k ≡ h k) → ((v : ℕ) → v < n → q v ≡ p v)
    → Order n g q
order_same n h p g q o a b = record {
  place_in = λ i lt. rw (a i lt) (o.place_in i lt);
  index_in = λ v lt. rw (b v lt) (o.index_in v lt);
  index_place = λ i lt. ap q (a i lt) ∙ b (h i) (o.place_in i lt) ∙ o.index_place i lt;
  place_index = λ v lt. ap g (b v lt) ∙ a (p v) (o.index_in v lt) ∙ o.place_index v lt;
}

-- ---- a label stored

module _ (n : ℕ) (s : List ℕ) (kept : Kept n s) (v k u b : ℕ) (lv : v < n) (lu : u < n) (lb : b < 256) where
  t : List ℕ
  t = labelled s v k u b

  abbrev sum : ℕ
  sum = k / 4294967296

  abbrev steps : ℕ
  steps = k % 4294967296

  abbrev t1 : List ℕ
  t1 = set s (4 * v) (sum * 256 + b)

  long : length t ≡ length s
  unfolding t labelled
  long = simp length-set

  other_at : (i : ℕ) → (i ≡ 4 * v → ⊥) → (i ≡ 4 * v + 1 → ⊥) → get_or t i 0 ≡ get_or s i 0
  unfolding t labelled
  other_at i h0 h1 = get_or-set_other t1 (4 * v + 1) i (steps * 65536 + u) 0 h1
      ∙ get_or-set_other s (4 * v) i (sum * 256 + b) 0 h0

  at_sum : get_or t (4 * v) 0 ≡ sum * 256 + b
  unfolding t labelled
  at_sum = get_or-set_other t1 (4 * v + 1) (4 * v) (steps * 65536 + u) 0 (omega arith)
      ∙ get_or-set_same s (4 * v) (sum * 256 + b) 0 (omega (arith, kept.room))

  at_steps : get_or t (4 * v + 1) 0 ≡ steps * 65536 + u
  unfolding t labelled
  at_steps = get_or-set_same t1 (4 * v + 1) (steps * 65536 + u) 0 (rw length-set (omega (arith, kept.room)))

  small_u : u < 65536
  small_u = omega (arith, kept.few)

  pub put : Put n v k u b s (labelled s v k u b)
  unfolding t label_at from_at by_at place_at index_at chain_at
  put = record {
    kept = record {
      few = kept.few;
      room = rw long kept.room;
      order = order_same n (place_at s) (index_at s) (place_at t) (index_at t) kept.order
          (λ i lt. ap low (other_at (4 * i + 2) (omega arith) (omega arith)))
          (λ x lt. ap high (other_at (4 * x + 2) (omega arith) (omega arith)));
    };
    label = (λ i. at_sum i / 256 * 4294967296 + at_steps i / 65536)
        ∙ (λ i. div-mul-add sum 256 b lb i * 4294967296 + div-mul-add steps 65536 u small_u i)
        ∙ div-add-mod' k 4294967296;
    from = ap low at_steps ∙ mod-mul-add steps 65536 u small_u;
    by = ap (λ (y : ℕ). y % 256) at_sum ∙ mod-mul-add sum 256 b lb;
    other_label = λ x lt ne i. other_at (4 * x) (omega arith) (omega arith) i / 256 * 4294967296
        + other_at (4 * x + 1) (omega arith) (omega arith) i / 65536;
    other_from = λ x lt ne. ap low (other_at (4 * x + 1) (omega arith) (omega arith));
    other_by = λ x lt ne. ap (λ (y : ℕ). y % 256) (other_at (4 * x) (omega arith) (omega arith));
    same_index = λ x lt. ap high (other_at (4 * x + 2) (omega arith) (omega arith));
    same_chains = fun_ext (λ x. other_at (4 * x + 3) (omega arith) (omega arith));
  }

-- ---- clearing

-- the first v places have no label and stand at their own place
pub record Clearing (n v : ℕ) (s : List ℕ) : Type 0 where
  pub room : 4 * n ≤ length s
  pub within : v ≤ n
  pub none : (x : ℕ) → x < v → label_at s x ≡ unlabelled
  pub place : (x : ℕ) → x < v → place_at s x ≡ x
  pub index : (x : ℕ) → x < v → index_at s x ≡ x

module _ (n v : ℕ) (s : List ℕ) (few : n ≤ 65536) (room : 4 * n ≤ length s) (lv : v < n) where
  e : List ℕ
  e = cleared_at s v

  abbrev e1 : List ℕ
  e1 = set s (4 * v) 4294967295

  abbrev e2 : List ℕ
  e2 = set e1 (4 * v + 1) 0

  e_long : length e ≡ length s
  unfolding e cleared_at
  e_long = simp length-set

  e_other : (k : ℕ) → (k ≡ 4 * v → ⊥) → (k ≡ 4 * v + 1 → ⊥) → (k ≡ 4 * v + 2 → ⊥) → get_or e k 0 ≡ get_or s k 0
  unfolding e cleared_at
  e_other k a b c = get_or-set_other e2 (4 * v + 2) k (v * 65537) 0 c ∙ get_or-set_other e1 (4 * v + 1) k 0 0 b
      ∙ get_or-set_other s (4 * v) k 4294967295 0 a

  e_sum : get_or e (4 * v) 0 ≡ 4294967295
  unfolding e cleared_at
  e_sum =
      get_or-set_other e2 (4 * v + 2) (4 * v) (v * 65537) 0 (omega arith)
      ∙ get_or-set_other e1 (4 * v + 1) (4 * v) 0 0 (omega arith)
      ∙ get_or-set_same s (4 * v) 4294967295 0 (omega arith)

  e_steps : get_or e (4 * v + 1) 0 ≡ 0
  unfolding e cleared_at
  e_steps = get_or-set_other e2 (4 * v + 2) (4 * v + 1) (v * 65537) 0 (omega arith)
      ∙ get_or-set_same e1 (4 * v + 1) 0 0 (rw length-set (omega arith))

  e_order : get_or e (4 * v + 2) 0 ≡ v * 65537
  unfolding e cleared_at
  e_order = get_or-set_same e2 (4 * v + 2) (v * 65537) 0 (simp length-set (omega arith))

  e_label : label_at e v ≡ unlabelled
  unfolding label_at
  e_label = λ i. e_sum i / 256 * 4294967296 + e_steps i / 65536

  clear_step : Clearing n v s → Clearing n (v + 1) e
  unfolding label_at place_at index_at
  clear_step c = record {
    room = rw e_long room;
    within = omega arith;
    none = λ x lt. ⊎_elim
        (λ q. ap (label_at e) q ∙ e_label)
        (λ ne. (λ i. e_other (4 * x) (omega arith) (omega arith) (omega arith) i / 256 * 4294967296
        + e_other (4 * x + 1) (omega arith) (omega arith) (omega arith) i / 65536) ∙ c.none x (omega arith))
        (cases_eq x v);
    place = λ x lt. ⊎_elim
        (λ q. let both : v * 65537 % 65536 ≡ v = omega arith in ap (place_at e) q ∙ ap low e_order ∙ both ∙ sym q)
        (λ ne. ap low (e_other (4 * x + 2) (omega arith) (omega arith) (omega arith)) ∙ c.place x (omega arith))
        (cases_eq x v);
    index = λ x lt. ⊎_elim
        (λ q. let both : v * 65537 / 65536 ≡ v = omega arith in ap (index_at e) q ∙ ap high e_order ∙ both ∙ sym q)
        (λ ne. ap high (e_other (4 * x + 2) (omega arith) (omega arith) (omega arith)) ∙ c.index x (omega arith))
        (cases_eq x v);
  }

  clear_chains : chain_at e ≡ chain_at s
  unfolding chain_at
  clear_chains = fun_ext (λ x. e_other (4 * x + 3) (omega arith) (omega arith) (omega arith))

pub clear_turn : (n v : ℕ) (s t : List ℕ) → n ≤ 65536 → Clearing n v s → v < n → t ≡ cleared_at s v
    → Clearing n (v + 1) t
unfolding e
clear_turn n v s t few c lv q = rw q (clear_step n v s few c.room lv c)

pub clear_same : (n v : ℕ) (s t : List ℕ) → n ≤ 65536 → 4 * n ≤ length s → v < n → t ≡ cleared_at s v → chain_at t
    ≡ chain_at s
unfolding e
clear_same n v s t few room lv q = ap chain_at q ∙ clear_chains n v s few room lv

pub cleared : (n v : ℕ) (s : List ℕ) → n ≤ 65536 → Clearing n v s → n ≤ v → Cleared n s
cleared n v s few c le =
    let all : Clearing n n s = rw (let q : v ≡ n = omega (arith, c.within) in q) at c in
    record {
      kept = record {
        few = few;
        room = all.room;
        order = record {
          place_in = λ i lt. rw (all.place i lt) lt;
          index_in = λ v lt. rw (all.index v lt) lt;
          index_place = λ i lt. ap (index_at s) (all.place i lt) ∙ all.index i lt;
          place_index = λ v lt. ap (place_at s) (all.index v lt) ∙ all.place v lt;
        };
      };
      none = all.none;
    }
