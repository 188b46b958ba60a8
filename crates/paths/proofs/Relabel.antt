-- A label that falls leaves the labels as they should be.
use Prim.Native.Nat.{ℕ, ◌+◌, ◌/◌, ◌%◌, ◌<◌, ◌≤◌}
use native.Mathlib.Omega.{arith}
use mathlib.Core.Path.{◌≡◌, refl, ap, ◌∙◌}
use mathlib.Core.Bool.{cond}
use mathlib.Core.List.{List}
use mathlib.Core.Logic.{⊎_elim}
use lib.Dec.{eqb}
use borrow.Author.Tests.{eq-eqb, ne_eqb}
use Rattle.std.proofs.lemmas.Bool.{cases_eq}
use Rattle.cells.specs.Cell.{Node}
use Rattle.walks.specs.Walk.{to, next}
use Rattle.paths.specs.ShortestPath.{length_at}
use Rattle.paths.specs.Labels.{unlabelled, weight, lower, total, Labelled, Links}
use Rattle.paths.proofs.Counts.{lower_lt, lower_grows, lower_more, total_falls}

-- what is known of a label, put into numbers
module _ (ns : List Node) (start n : ℕ) (d from by : ℕ → ℕ) (links : Links ns n) (h : Labelled ns start n d from by)
  where
    pub label_sum : (v : ℕ) → v < n → d v < unlabelled → d v / 4294967296 ≤ 16711425
    label_sum v lt k = omega (arith, h.sums v lt k, lower_lt d (d v) n v lt (omega arith), links.few)

    pub label_steps : (v : ℕ) → v < n → d v < unlabelled → d v % 4294967296 < n
    label_steps v lt k = omega (arith, h.steps v lt k, lower_lt d (d v) n v lt (omega arith))

    -- a label of a labelled place with a link on it is a label, and fits
    pub label_on : (u b : ℕ) → u < n → d u < unlabelled → d u + weight ns u b < unlabelled
    unfolding weight
    label_on u b lt k = omega (arith, label_sum u lt k, label_steps u lt k, links.short u b lt, links.few)

    -- the parts of a label with a link on it
    pub on_sum : (u b : ℕ) → u < n → d u < unlabelled → (d u + weight ns u b) / 4294967296 ≡ d u / 4294967296
        + length_at ns u b
    unfolding weight
    on_sum u b lt k = omega (arith, label_steps u lt k, links.few)

    pub on_steps : (u b : ℕ) → u < n → d u < unlabelled → (d u + weight ns u b) % 4294967296 ≡ d u % 4294967296 + 1
    unfolding weight
    on_steps u b lt k = omega (arith, label_steps u lt k, links.few)

    weight_pos : (u b : ℕ) → 1 ≤ weight ns u b
    unfolding weight
    weight_pos u b = omega arith

    module _ (u b v : ℕ) (lu : u < n) (lv : v < n) (k : d u < unlabelled) (link : next ns u b ≡ to v)
        (less : d u + weight ns u b < d v)
        (e from' by' : ℕ → ℕ) (new : e v ≡ d u + weight ns u b) (new-from : from' v ≡ u) (new_by : by' v ≡ b)
        (old : (x : ℕ) → x < n → (x ≡ v → ⊥) → e x ≡ d x)
        (old-from : (x : ℕ) → x < n → (x ≡ v → ⊥) → from' x ≡ from x)
        (old-by : (x : ℕ) → x < n → (x ≡ v → ⊥) → by' x ≡ by x) where
      pub fell : (x : ℕ) → x < n → e x ≤ d x
      fell x lt = ⊎_elim here (λ ne. omega (arith, old x lt ne)) (cases_eq x v)
        where
          here : x ≡ v → e x ≤ d x
          here q = rw q (omega (arith, new))

      apart : u ≡ v → ⊥
      apart q = let l : d u + weight ns u b < d u = rw (← q) at less in omega arith

      not_start : start ≡ v → ⊥
      not_start q = let l : d u + weight ns u b < d start = rw (← q) at less in omega (arith, h.none_before)

      lower_u : lower d (d u) n + 1 ≤ lower e (e v) n
      lower_u = lower_more d e (d u) (e v) (omega (arith, new)) n fell u lu (omega arith)
          (omega (arith, new, old u lu apart, weight_pos u b))

      lower_x : (x : ℕ) → x < n → e x ≡ d x → lower d (d x) n ≤ lower e (e x) n
      lower_x x lt q = lower_grows d e (d x) (e x) (omega arith) n fell

      pub relabelled : Labelled ns start n e from' by'
      relabelled = record {
        begins = h.begins;
        none_before = old start h.begins not_start ∙ h.none_before;
        most = λ x lt. omega (arith, fell x lt, h.most x lt);
        remembered = λ x lt l ns. ⊎_elim (λ q. rw q (record {
          inside = rw new-from lu;
          link = rw (new-from, new_by) link;
          after = rw (new-from, new_by) (omega (arith, old u lu apart, new));
        })) (λ ne. let r = h.remembered x lt (omega (arith, old x lt ne)) ns in rw (old-from x lt ne, old-by x lt ne)
            (record {
              inside = r.inside;
              link = r.link;
              after = omega (arith, r.after, fell (from x) r.inside, old x lt ne);
            })) (cases_eq x v);
        sums = λ x lt l. ⊎_elim (λ q. rw q (omega (
          arith,
          lower_u,
          ap (λ (y : ℕ). y / 4294967296) new,
          on_sum u b lu
              k,
          h.sums u lu k,
          links.short u b lu,
        )))
            (λ ne. omega (
              arith,
              lower_x x lt (old x lt ne),
              ap (λ (y : ℕ). y / 4294967296) (old x lt ne),
              h.sums x lt
                  (omega (arith, old x lt ne)),
            )) (cases_eq x v);
        steps = λ x lt l. ⊎_elim (λ q. rw q (omega (
          arith,
          lower_u,
          ap (λ (y : ℕ). y % 4294967296) new,
          on_steps u b
              lu k,
          h.steps u lu k,
        )))
            (λ ne. omega (
              arith,
              lower_x x lt (old x lt ne),
              ap (λ (y : ℕ). y % 4294967296) (old x lt ne),
              h.steps x
                  lt (omega (arith, old x lt ne)),
            )) (cases_eq x v);
      }

      pub total_fell : total e n < total d n
      total_fell = total_falls d e n fell v lv (omega (arith, new))

-- ---- a label that falls fits its entries

abbrev upd : (ℕ → ℕ) → ℕ → ℕ → ℕ → ℕ
upd d v k x = cond (eqb x v) k (d x)

upd_same : (d : ℕ → ℕ) (v k : ℕ) → upd d v k v ≡ k
upd_same d v k = rw (eq-eqb v v refl)

upd_other : (d : ℕ → ℕ) (v k x : ℕ) → (x ≡ v → ⊥) → upd d v k x ≡ d x
upd_other d v k x ne = rw (ne_eqb x v ne)

pub new_fits : (ns : List Node) (start n : ℕ) (d from by : ℕ → ℕ) → Links ns n → Labelled ns start n d from by
    → (u b v : ℕ) → u < n → v < n → d u < unlabelled → next ns u b ≡ to v → d u + weight ns u b < d v
    → ((d u + weight ns u b) / 4294967296 ≤ 16711425) × ((d u + weight ns u b) % 4294967296 < n)
new_fits ns start n d from by links h u b v lu lv k link less =
    let w = d u + weight ns u b in
    let e = upd d v w in
    let l : Labelled ns start n e (upd from v u) (upd by v b) =
    relabelled ns start n d from by links h u b v lu lv k link less e (upd from v u) (upd by v b)
    (upd_same d v w) (upd_same from v u) (upd_same by v b)
    (λ x lt ne. upd_other d v w x ne) (λ x lt ne. upd_other from v u x ne) (λ x lt ne. upd_other by v b x ne) in
    let small : e v < unlabelled = omega (arith, upd_same d v w, h.most v lv) in (
      omega (
        arith,
        ap (λ (x : ℕ). x / 4294967296) (upd_same d v w),
        label_sum ns start n e (upd from v u)
            (upd by v b) links l v lv small,
      ),
      omega (
        arith,
        ap (λ (x : ℕ). x % 4294967296) (upd_same d v w),
        label_steps ns start n e (upd from v u)
            (upd by v b) links l v lv small,
      ),
    )
