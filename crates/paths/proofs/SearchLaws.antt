-- The steps of the search keep what holds of it.
use Prim.Native.Nat.{ℕ, ◌+◌, ◌-◌, ◌/◌, ◌%◌, ◌<◌, ◌≤◌}
use native.Mathlib.Omega.{arith}
use mathlib.Core.Path.{◌≡◌, refl, ap, sym, ◌∙◌, subst₃}
use mathlib.Core.List.{List}
use mathlib.Core.Logic.{inl, inr, ⊎_elim}
use Rattle.std.proofs.lemmas.Bool.{cases_eq, cases_lt}
use Rattle.cells.specs.Cell.{Node}
use Rattle.walks.specs.Walk.{Next, to, stop, next}
use Rattle.walks.specs.declared.walk.End.{End}
use Rattle.paths.specs.Labels.{unlabelled, weight, lower, Remembered, Labelled, Closed, Links}
use Rattle.paths.specs.Scratch.{label_at, from_at, by_at, index_at, chain_at, Put, Pushed, Popped, Cleared}
use Rattle.paths.specs.Search.{Taken, Offered, passed, taken, Searching, work}
use Rattle.paths.proofs.Counts.{lower_grows, total_le}
use Rattle.paths.proofs.Relabel.{relabelled, fell, total_fell}

-- one place, by a link
same_place : {v w : ℕ} {x : Next ℕ} → x ≡ to v → x ≡ to w → w ≡ v
same_place p q = cc

module _ (ns : List Node) where
  move_link : {x u b i v : ℕ} → x ≡ u → b ≡ i → next ns x b ≡ to v → next ns u i ≡ to v
  move_link g c l = sym (λ j. next ns (g j) (c j)) ∙ l

  move_bound : (d : ℕ → ℕ) {w v x u b i : ℕ} → w ≡ v → x ≡ u → b ≡ i → d v ≤ d u + weight ns u i → d w ≤ d x
      + weight ns x b
  move_bound d p g c h = subst₃ (λ (v u i : ℕ). d v ≤ d u + weight ns u i) (sym p) (sym g) (sym c) h

-- labels that are the same are as they should be
labelled_same : (ns : List Node) (start n : ℕ) (d from by e from' by' : ℕ → ℕ) → Labelled ns start n d from by
    → ((v : ℕ) → v < n → e v ≡ d v) → ((v : ℕ) → v < n → from' v ≡ from v) → ((v : ℕ) → v < n → by' v ≡ by v)
    → Labelled ns start n e from' by'
labelled_same ns start n d from by e from' by' h a f g = record {
  begins = h.begins;
  none_before = a start h.begins ∙ h.none_before;
  most = λ v lt. omega (arith, a v lt, h.most v lt);
  remembered = λ v lt k ne. again v lt (h.remembered v lt (omega (arith, a v lt)) ne);
  sums = λ v lt k. omega (
    arith,
    ap (λ (x : ℕ). x / 4294967296) (a v lt),
    h.sums v lt (omega (arith, a v lt)),
    more
        v lt,
  );
  steps = λ v lt k. omega (
    arith,
    ap (λ (x : ℕ). x % 4294967296) (a v lt),
    h.steps v lt (omega (arith, a v lt)),
    more v lt,
  );
}
  where
    more : (v : ℕ) → v < n → lower d (d v) n ≤ lower e (e v) n
    more v lt = lower_grows d e (d v) (e v) (omega (arith, a v lt)) n (λ x lx. omega (arith, a x lx))

    again : (v : ℕ) → v < n → Remembered ns n d (from v) (by v) v → Remembered ns n e (from' v) (by' v) v
    again v lt r = rw (f v lt, g v lt) (record {
      inside = r.inside;
      link = r.link;
      after = omega
          (arith, r.after, a (from v) r.inside, a v lt);
    })

pub taken_by : (n size v k u b new : ℕ) (s m t : List ℕ) → v < n → Put n v k u b s m → Pushed n size v new m t
    → Taken n size v k u b new s t
taken_by n size v k u b new s m t lv p q = record {
  kept = q.kept;
  label = q.same.same_label v lv ∙ p.label;
  from = q.same.same_from v lv ∙ p.from;
  by = q.same.same_by v lv ∙ p.by;
  other_label = λ x lx ne. q.same.same_label x lx ∙ p.other_label x lx ne;
  other_from = λ x lx ne. q.same.same_from x lx ∙ p.other_from x lx ne;
  other_by = λ x lx ne. q.same.same_by x lx ∙ p.other_by x lx ne;
  same_chains = q.same.same_chains ∙ p.same_chains;
  fits = q.fits;
  waits = q.waits;
  still = λ x lx h. q.still x lx (rw (p.same_index x lx) h);
  only = λ x lx h. ⊎_elim inl (λ i. inr (rw (p.same_index x lx) at i)) (q.only x lx h);
}

module _ (ns : List Node) (start n : ℕ) (links : Links ns n) where
  module _ (s : List ℕ) (size u i : ℕ) (h : Searching ns start n s size u i) where
    -- a choice that leads on to no place
    pub passed_over : (e : End) → next ns u i ≡ stop e → Searching ns start n s size u (i + 1)
    passed_over e q = record {
      kept = h.kept;
      fits = h.fits;
      labels = h.labels;
      waiting = h.waiting;
      settled = λ x b v lx w f l. h.settled x b v lx w (λ g. before x b v g (f g) l) l;
    }
      where
        before : (x b v : ℕ) → x ≡ u → b < i + 1 → next ns x b ≡ to v → b < i
        before x b v g lt l = ⊎_elim (λ c. let on = move_link ns g c l in absurd (cc)) (λ nc. omega arith)
            (cases_eq b i)

    -- all links of u were looked at
    pub relaxed : ((b v : ℕ) → next ns u b ≡ to v → b < i) → Searching ns start n s size n 0
    relaxed all = record {
      kept = h.kept;
      fits = h.fits;
      labels = h.labels;
      waiting = h.waiting;
      settled = λ x b v lx w f l. h.settled x b v lx w (λ g. all b v (rw g at l)) l;
    }

    module _ (lu : u < n) (lab : label_at s u < unlabelled) (v k new : ℕ) (lv : v < n) (link : next ns u i ≡ to v)
        (cost : k ≡ label_at s u + weight ns u i) where
      -- the label was no smaller
      offered_passed : label_at s v ≤ k → Searching ns start n s size u (i + 1)
      offered_passed le = record {
        kept = h.kept;
        fits = h.fits;
        labels = h.labels;
        waiting = h.waiting;
        settled = λ x b w lx wt f l. ⊎_elim (λ g. at_u x b w lx wt g (f g) l)
            (λ ng. h.settled x b w lx wt (λ g. absurd (ng g)) l) (cases_eq x u);
      }
        where
          at_u : (x b w : ℕ) → x < n → size ≤ index_at s x → x ≡ u → b < i + 1 → next ns x b ≡ to w → label_at s w
              ≤ label_at s x + weight ns x b
          at_u x b w lx wt g lt l = ⊎_elim
              (λ c. move_bound ns (label_at s) (same_place link (move_link ns g c l)) g c (omega arith))
              (λ nc. h.settled x b w lx wt (λ g. omega arith) l)
              (cases_eq b i)

      module _ (t : List ℕ) (less : k < label_at s v) (tk : Taken n size v k u i new s t) where
        small : label_at s u + weight ns u i < label_at s v
        small = omega arith

        new_labels : Labelled ns start n (label_at t) (from_at t) (by_at t)
        new_labels =
            relabelled ns start n (label_at s) (from_at s) (by_at s) links h.labels u i v lu lv lab link small
            (label_at t) (from_at t) (by_at t) (tk.label ∙ cost) tk.from tk.by tk.other_label tk.other_from tk.other_by

        fallen : (x : ℕ) → x < n → label_at t x ≤ label_at s x
        fallen =
            fell ns start n (label_at s) (from_at s) (by_at s) links h.labels u i v lu lv lab link small
            (label_at t) (from_at t) (by_at t) (tk.label ∙ cost) tk.from tk.by tk.other_label tk.other_from tk.other_by

        not_v : (x : ℕ) → new ≤ index_at t x → x ≡ v → ⊥
        not_v x w e = let z : new ≤ index_at t v = rw e at w in omega (arith, tk.waits)

        -- u is no other than it was
        u_not_v : u ≡ v → ⊥
        u_not_v e = let z : label_at s u + weight ns u i < label_at s u = rw (← e) at small in omega arith

        old_wait : (x : ℕ) → x < n → new ≤ index_at t x → size ≤ index_at s x
        old_wait x lx w = ⊎_elim (λ a. absurd (omega (arith, tk.still x lx a))) (λ b. b) (cases_lt (index_at s x) size)

        offered_taken : Searching ns start n t new u (i + 1)
        offered_taken = record {
          kept = tk.kept;
          fits = tk.fits;
          labels = new_labels;
          waiting = λ x lx w. ⊎_elim
              (λ e. rw e (omega (arith, tk.label, h.labels.most v lv)))
              (λ o. omega (arith, fallen x lx, h.waiting x lx o))
              (tk.only x lx w);
          settled = λ x b w lx wt f l. ⊎_elim (λ g. at_u x b w lx wt g (f g) l)
              (λ ng. other x b w lx wt (λ g. absurd (ng g)) l) (cases_eq x u);
        }
          where
            other : (x b w : ℕ) → x < n → new ≤ index_at t x → (x ≡ u → b < i) → next ns x b ≡ to w → label_at t w
                ≤ label_at t x + weight ns x b
            other x b w lx wt f l =
                omega (
                  arith,
                  tk.other_label x lx (not_v x wt),
                  fallen w (links.lead_in x b w l),
                  h.settled x b w lx
                      (old_wait x lx wt) f l,
                )

            at_u : (x b w : ℕ) → x < n → new ≤ index_at t x → x ≡ u → b < i + 1 → next ns x b ≡ to w → label_at t w
                ≤ label_at t x + weight ns x b
            at_u x b w lx wt g lt l = ⊎_elim
                (λ c. move_bound ns (label_at t) (same_place link (move_link ns g c l)) g c
                (omega (arith, tk.label, tk.other_label u lu u_not_v)))
                (λ nc. other x b w lx wt (λ g. omega arith) l)
                (cases_eq b i)

        work_taken : work n t new ≤ work n s size
        unfolding work
        work_taken =
            omega (
              arith,
              tk.fits,
              h.kept.few,
              total_fell ns start n (label_at s) (from_at s) (by_at s) links h.labels u i v lu lv lab link small
                  (label_at t) (from_at t) (by_at t) (tk.label ∙ cost) tk.from tk.by tk.other_label tk.other_from
                  tk.other_by,
            )

      -- one link looked at
      pub offered : (t : List ℕ) → Offered n size v k u i new s t → Searching ns start n t new u (i + 1)
          × (label_at t u ≡ label_at s u) × (work n t new ≤ work n s size) × (chain_at t ≡ chain_at s)
      offered t (passed le e f) = rw (e, f) (offered_passed le, refl, omega arith, refl)
      offered t (taken less tk) = (
        offered_taken t less tk,
        tk.other_label u lu (u_not_v t less tk),
        work_taken t
            less tk,
        tk.same_chains,
      )

  -- a place is taken up
  module _ (s t : List ℕ) (size u : ℕ) (h : Searching ns start n s size n 0) (some : 0 < size)
      (p : Popped n size u s t) where
    pub taken_up : Searching ns start n t (size - 1) u 0
    taken_up = record {
      kept = p.kept;
      fits = omega (arith, h.fits);
      labels = labelled_same ns start n (label_at s) (from_at s) (by_at s) (label_at t) (from_at t) (by_at t)
          h.labels p.same.same_label p.same.same_from p.same.same_by;
      waiting = λ x lx w. omega (arith, p.same.same_label x lx, h.waiting x lx (p.only x lx w));
      settled = λ x b v lx w f l. omega (
        arith,
        p.same.same_label x lx,
        p.same.same_label v (links.lead_in x b v l),
        h.settled x b v lx (old_wait x lx (λ g. omega (arith, f g)) w) (λ g. absurd (omega arith)) l,
      );
    }
      where
        old_wait : (x : ℕ) → x < n → (x ≡ u → ⊥) → size - 1 ≤ index_at t x → size ≤ index_at s x
        old_wait x lx ne w = ⊎_elim (λ a. absurd (omega (arith, p.still x lx ne a))) (λ b. b)
            (cases_lt (index_at s x) size)

    pub up_label : label_at t u < unlabelled
    up_label = omega (arith, p.same.same_label u p.inside, h.waiting u p.inside p.waited)

    pub up_work : work n t (size - 1) < work n s size
    unfolding work
    up_work = omega (arith, total_le (label_at s) (label_at t) n (λ x lx. omega (arith, p.same.same_label x lx)))

  -- before the first place is taken up
  pub begun : (s t : List ℕ) (new : ℕ) → start < n → Cleared n s → Offered n 0 start 0 start 0 new s t
      → Searching ns start n t new n 0
  begun s t new ls c (passed le e f) = absurd (omega (arith, c.none start ls))
  begun s t new ls c (taken less tk) = record {
    kept = tk.kept;
    fits = tk.fits;
    labels = record {
      begins = ls;
      none_before = tk.label;
      most = λ v lv. most v lv;
      remembered = λ v lv l ne. absurd (omega (arith, rest v lv ne));
      sums = λ v lv l. omega (arith, ap (λ (x : ℕ). x / 4294967296) (zero_at v lv l));
      steps = λ v lv l. omega (arith, ap (λ (x : ℕ). x % 4294967296) (zero_at v lv l));
    };
    waiting = λ x lx w. ⊎_elim (λ e. rw e (omega (arith, tk.label))) (λ o. absurd (omega arith)) (tk.only x lx w);
    settled = λ x b v lx w f l. omega (arith, most v (links.lead_in x b v l), rest x lx (λ e. not_first x w e));
  }
    where
      rest : (v : ℕ) → v < n → (v ≡ start → ⊥) → label_at t v ≡ unlabelled
      rest v lv ne = tk.other_label v lv ne ∙ c.none v lv

      most : (v : ℕ) → v < n → label_at t v ≤ unlabelled
      most v lv = ⊎_elim (λ e. rw e (omega (arith, tk.label))) (λ ne. omega (arith, rest v lv ne)) (cases_eq v start)

      zero_at : (v : ℕ) → v < n → label_at t v < unlabelled → label_at t v ≡ 0
      zero_at v lv l = ⊎_elim (λ e. rw e tk.label) (λ ne. absurd (omega (arith, rest v lv ne))) (cases_eq v start)

      not_first : (x : ℕ) → new ≤ index_at t x → x ≡ start → ⊥
      not_first x w e = let z : new ≤ index_at t start = rw e at w in omega (arith, tk.waits)

  -- nothing waits: no link improves a label
  pub finished : (s : List ℕ) → Searching ns start n s 0 n 0 → Closed ns n (label_at s)
  finished s h u b v lu l = h.settled u b v lu (omega arith) (λ g. absurd (omega arith)) l
