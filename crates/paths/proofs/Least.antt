-- Labels that no link improves are the least sums, and the links that they were remembered by are a path.
use Prim.Native.Nat.{ℕ, zero, suc, ◌+◌, ◌/◌, ◌%◌, ◌<◌, ◌≤◌}
use native.Mathlib.Omega.{arith}
use mathlib.Core.Path.{◌≡◌, refl, ap, sym, ◌∙◌}
use mathlib.Core.Bool.{Bool, true, false, cond}
use mathlib.Core.List.{List, [], ◌∷◌, ◌++◌}
use mathlib.Core.Option.{Option, none, some}
use mathlib.Core.Logic.{⊎_elim}
use lib.ListN.{length, get_or, length-append, get_or-append}
use lib.Seq.{get_or_at}
use Rattle.std.proofs.lemmas.Bool.{cases_eq}
use Rattle.cells.specs.Cell.{Node, numbers, first_of}
use Rattle.cells.specs.Area.{belongs}
use Rattle.cells.specs.Lookup.{find}
use Rattle.walks.specs.Walk.{Next, to, stop, next, link_at, take_link, arrive}
use Rattle.walks.specs.WalkCall.{route, step_on}
use Rattle.walks.specs.declared.walk.End.{End}
use Rattle.walks.specs.declared.walk.End.TheVariants.{Done, Left}
use Rattle.paths.specs.ShortestPath.{length_at, distance, Leads, Least, Unreachable, ShortestPath}
use Rattle.paths.specs.Labels.{unlabelled, weight, Labelled, Closed, Links, choices_to, places_to, Back}
use Rattle.paths.proofs.Relabel.{label_on, on_sum, on_steps}
use Rattle.cells.specs.declared.link.PathLink.{PathLink}

-- ---- walks, link by link

pub data Goes (ns : List Node) : ℕ → List ℕ → ℕ → Type 0 where
  stay : {p : ℕ} → Goes ns p [] p
  go : {p r q b : ℕ} {bs : List ℕ} → next ns p b ≡ to r → Goes ns r bs q → Goes ns p (b ∷ bs) q

never_done : (ns : List Node) (p b : ℕ) (e : End) → next ns p b ≡ stop e → e ≡ Done → ⊥
unfolding next
never_done ns p b e q d = at (link_at ns p b) q
  where
    found : (o : Option ℕ) → arrive o ≡ stop e → ⊥
    found (some x) q = let z : ◌≡◌ {A = ℕ} 0 1 = cc in omega arith
    found none q = let z : ◌≡◌ {A = ℕ} 0 1 = cc in omega arith

    own : (l : PathLink) (t : Bool) → cond t (arrive (find (numbers ns) l.node_id)) (stop (Left l.area_id l.node_id))
        ≡ stop e → ⊥
    own l true q = found (find (numbers ns) l.node_id) q
    own l false q = let z : ◌≡◌ {A = ℕ} 0 1 = cc in omega arith

    at : (o : Option PathLink) → take_link ns o ≡ stop e → ⊥
    at (some l) q = own l (belongs (first_of ns) l.area_id) q
    at none q = let z : ◌≡◌ {A = ℕ} 0 1 = cc in omega arith

module _ (ns : List Node) where
  pub goes_done : {p q : ℕ} {bs : List ℕ} → Goes ns p bs q → (route ns bs p).ending ≡ Done
  unfolding route
  goes_done stay = refl
  goes_done (go e g) = rw e (goes_done g)

  pub goes_last : {p q : ℕ} {bs : List ℕ} → Goes ns p bs q → get_or (route ns bs p).places (length bs) 0 ≡ q
  unfolding route
  goes_last stay = refl
  goes_last (go e g) = rw e (goes_last g)

  pub goes_leads : {p q : ℕ} {bs : List ℕ} → Goes ns p bs q → Leads ns p q bs
  goes_leads g = record { done = goes_done g; arrives = goes_last g }

  pub leads_goes : (bs : List ℕ) (p q : ℕ) → Leads ns p q bs → Goes ns p bs q
  unfolding route
  leads_goes [] p q h = rw (← h.arrives) stay
  leads_goes (b ∷ bs) p q h = on (next ns p b) refl h.done h.arrives (λ r. leads_goes bs r q)
    where
      on : (x : Next ℕ) → next ns p b ≡ x → (step_on p (route ns bs) x).ending ≡ Done
          → get_or (step_on p (route ns bs) x).places (suc (length bs)) 0 ≡ q
          → ((r : ℕ) → Leads ns r q bs → Goes ns r bs q) → Goes ns p (b ∷ bs) q
      on (to r) e d a ih = go e (ih r (record { done = d; arrives = a }))
      on (stop s) e d a ih = absurd (never_done ns p b s e d)

  pub sum_go : (p r b : ℕ) (bs : List ℕ) → next ns p b ≡ to r → distance ns (b ∷ bs) p ≡ length_at ns p b
      + distance ns bs r
  unfolding distance
  sum_go p r b bs e = rw e

  -- one link more at the end
  pub goes_more : {p q : ℕ} {bs : List ℕ} → Goes ns p bs q → (b r : ℕ) → next ns q b ≡ to r
      → Goes ns p (bs ++ (b ∷ [])) r
  goes_more stay b r e = go e stay
  goes_more (go f g) b r e = go f (goes_more g b r e)

  pub sum_more : {p q : ℕ} {bs : List ℕ} → Goes ns p bs q → (b r : ℕ) → next ns q b ≡ to r
      → distance ns (bs ++ (b ∷ [])) p ≡ distance ns bs p + length_at ns q b
  unfolding distance
  sum_more {p} stay b r e = rw e (omega arith)
  sum_more (go {p = p} {b = a} f g) b r e = rw f (omega (arith, sum_more g b r e))

  pub places_more : {p q : ℕ} {bs : List ℕ} → Goes ns p bs q → (b r : ℕ) → next ns q b ≡ to r
      → (route ns (bs ++ (b ∷ [])) p).places ≡ (route ns bs p).places ++ (r ∷ [])
  unfolding route
  places_more stay b r e = rw e
  places_more (go {p = p} f g) b r e = rw f (ap (λ (l : List ℕ). p ∷ l) (places_more g b r e))

-- ---- the path that is remembered, k links back from v

module _ (from by : ℕ → ℕ) where
  pub choices_long : (k v : ℕ) → length (choices_to from by k v) ≡ k
  unfolding choices_to
  choices_long zero v = refl
  choices_long (suc k) v = length-append (choices_to from by k (from v)) (by v ∷ [])
      ∙ omega (arith, choices_long k (from v))

  pub places_long : (k v : ℕ) → length (places_to from k v) ≡ suc k
  unfolding places_to
  places_long zero v = refl
  places_long (suc k) v = length-append (places_to from k (from v)) (v ∷ []) ∙ omega (arith, places_long k (from v))

-- ---- labels that no link improves

module _ (ns : List Node) (start n : ℕ) (d from by : ℕ → ℕ) (links : Links ns n) (h : Labelled ns start n d from by)
    (closed : Closed ns n d) where
  -- one link
  step_sum : (p b r : ℕ) → p < n → d p < unlabelled → next ns p b ≡ to r → d r / 4294967296 ≤ d p / 4294967296
      + length_at ns p b
  step_sum p b r lt k e = omega (arith, closed p b r lt e, on_sum ns start n d from by links h p b lt k)

  step_label : (p b r : ℕ) → p < n → d p < unlabelled → next ns p b ≡ to r → d r < unlabelled
  step_label p b r lt k e = omega (arith, closed p b r lt e, label_on ns start n d from by links h p b lt k)

  -- from a labelled place a walk leads to labelled places only
  reached : {p q : ℕ} {bs : List ℕ} → p < n → d p < unlabelled → Goes ns p bs q → d q < unlabelled
  reached lt k stay = k
  reached lt k (go {p = p} {r = r} {b = b} e g) = reached (links.lead_in p b r e) (step_label p b r lt k e) g

  -- a walk's sum is no less than the difference of the labels' sums at its ends
  below_walk : {p q : ℕ} {bs : List ℕ} → p < n → d p < unlabelled → Goes ns p bs q → d q / 4294967296
      ≤ d p / 4294967296 + distance ns bs p
  below_walk lt k stay = omega arith
  below_walk lt k (go {p = p} {r = r} {b = b} {bs = bs} e g) =
      omega (
        arith,
        sum_go ns p r b bs e,
        step_sum p b r lt k e,
        below_walk (links.lead_in p b r e)
            (step_label p b r lt k e) g,
      )

  -- where the sums are equal, the links are no more
  step_links : (p b r : ℕ) → p < n → d p < unlabelled → next ns p b ≡ to r → d r / 4294967296 ≡ d p / 4294967296
      + length_at ns p b → d r % 4294967296 ≤ d p % 4294967296 + 1
  step_links p b r lt k e q =
      omega (
        arith,
        closed p b r lt e,
        on_sum ns start n d from by links h p b lt k,
        on_steps ns start n d from by
            links h p b lt k,
      )

  few_links : {p q : ℕ} {bs : List ℕ} → p < n → d p < unlabelled → Goes ns p bs q → d q / 4294967296
      ≡ d p / 4294967296 + distance ns bs p → d q % 4294967296 ≤ d p % 4294967296 + length bs
  few_links lt k stay e = omega arith
  few_links {q = q} lt k (go {p = p} {r = r} {b = b} {bs = bs} e g) f =
      let s = sum_go ns p r b bs e in
      let lr = links.lead_in p b r e in
      let kr = step_label p b r lt k e in
      let w = below_walk lr kr g in
      let t = step_sum p b r lt k e in
      let m : d q % 4294967296 ≤ d r % 4294967296 + length bs = few_links lr kr g (omega arith) in
      omega (arith, step_links p b r lt k e (omega arith))

  start_labelled : d start < unlabelled
  start_labelled = omega (arith, h.none_before)

  -- 17: a goal without a label is joined by no walk
  pub unreachable : (q : ℕ) → unlabelled ≤ d q → Unreachable ns start q
  unreachable q k bs l = omega (arith, reached h.begins start_labelled (leads_goes ns bs start q l))

  -- the first part of a label is the least sum
  pub least : (q : ℕ) → Least ns start q (d q / 4294967296)
  least q bs l = omega (arith, h.none_before, below_walk h.begins start_labelled (leads_goes ns bs start q l))

  -- ---- back by the remembered links

  -- a label is its remembered place's with the link on it, since no link improves it
  exact : (v : ℕ) → v < n → d v < unlabelled → (v ≡ start → ⊥) → d v ≡ d (from v) + weight ns (from v) (by v)
  exact v lt k ne =
      let r = h.remembered v lt k ne in
      omega (arith, r.after, closed (from v) (by v) v r.inside r.link)

  from_labelled : (v : ℕ) → v < n → d v < unlabelled → (v ≡ start → ⊥) → d (from v) < unlabelled
  from_labelled v lt k ne = omega (arith, exact v lt k ne)

  -- a place other than the start has one link more than the one it came from, and the sum with that link's length
  back_steps : (v : ℕ) → v < n → d v < unlabelled → (v ≡ start → ⊥) → d v % 4294967296 ≡ d (from v) % 4294967296 + 1
  back_steps v lt k ne =
      ap (λ (x : ℕ). x % 4294967296) (exact v lt k ne)
      ∙ on_steps ns start n d from by links h (from v) (by v) (h.remembered v lt k ne).inside
      (from_labelled v lt k ne)

  back_sum : (v : ℕ) → v < n → d v < unlabelled → (v ≡ start → ⊥) → d v / 4294967296 ≡ d (from v) / 4294967296
      + length_at ns (from v) (by v)
  back_sum v lt k ne =
      ap (λ (x : ℕ). x / 4294967296) (exact v lt k ne)
      ∙ on_sum ns start n d from by links h (from v) (by v) (h.remembered v lt k ne).inside
      (from_labelled v lt k ne)

  -- only the start has no links
  pub at_start : (v : ℕ) → v < n → d v < unlabelled → d v % 4294967296 ≡ 0 → v ≡ start
  at_start v lt k z = ⊎_elim (λ q. q) (λ ne. absurd (omega (arith, back_steps v lt k ne))) (cases_eq v start)

  not_start : (k v : ℕ) → d v % 4294967296 ≡ suc k → v ≡ start → ⊥
  not_start k v e q = let z : d start % 4294967296
      ≡ suc k = rw q at e in omega (arith, ap (λ (x : ℕ). x % 4294967296) h.none_before)

  -- what is remembered, k links back from v
  pub record BackPath (k v : ℕ) : Type 0 where
    pub goes : Goes ns start (choices_to from by k v) v
    pub sum : distance ns (choices_to from by k v) start ≡ d v / 4294967296
    pub places : (route ns (choices_to from by k v) start).places ≡ places_to from k v
    -- each place stands where its number of links says: so none comes twice
    pub each : (i : ℕ) → i ≤ k → d (get_or (places_to from k v) i 0) % 4294967296 ≡ i

  pub remembered_path : (k v : ℕ) → v < n → d v < unlabelled → d v % 4294967296 ≡ k → BackPath k v
  unfolding choices_to places_to distance route
  remembered_path zero v lt l e =
      let q = at_start v lt l e in
      record {
        goes = rw q stay;
        sum = rw (q, h.none_before);
        places = rw q;
        each = λ i le. rw (at_zero i le) (omega arith);
      }
    where
      at_zero : (i : ℕ) → i ≤ 0 → get_or (v ∷ []) i 0 ≡ v
      at_zero zero le = refl
      at_zero (suc i) le = absurd (omega arith)
  remembered_path (suc k) v lt l e =
      let ne = not_start k v e in
      let r = h.remembered v lt l ne in
      let w = remembered_path k (from v) r.inside (from_labelled v lt l ne) (omega (arith, back_steps v lt l ne)) in
      record {
        goes = goes_more ns w.goes (by v) v r.link;
        sum = sum_more ns w.goes (by v) v r.link ∙ omega (arith, w.sum, back_sum v lt l ne);
        places = places_more ns w.goes (by v) v r.link ∙ ap (λ (x : List ℕ). x ++ (v ∷ [])) w.places;
        each = λ i le. each_more i le w.each;
      }
    where
      each_more : (i : ℕ) → i ≤ suc k → ((i : ℕ) → i ≤ k → d (get_or (places_to from k (from v)) i 0) % 4294967296 ≡ i)
          → d (get_or (places_to from k (from v) ++ (v ∷ [])) i 0) % 4294967296 ≡ i
      each_more i le f = ⊎_elim
          (λ q. ap (λ (y : ℕ). d y % 4294967296)
          (get_or_at (places_to from k (from v)) v [] 0 i (places_long from by k (from v) ∙ sym q)) ∙ e ∙ sym q)
          (λ nq. rw (get_or-append (places_to from k (from v)) (v ∷ []) 0 i
          (omega (arith, places_long from by k (from v)))) (f i (omega arith)))
          (cases_eq i (suc k))

  -- The remembered path to a labelled place: a walk there, of the least sum, that visits no place twice, and its sum.
  pub shortest_path : (q : ℕ) → q < n → d q < unlabelled
      → ShortestPath ns start q (choices_to from by (d q % 4294967296) q)
  shortest_path q lt l =
      let w = remembered_path (d q % 4294967296) q lt l refl in
      record {
        leads = goes_leads ns w.goes;
        least = rw w.sum (least q);
        once = rw w.places (λ i j ij jl same. apart_at i j ij jl same w.each);
        fewest = λ cs l e. few cs l (e ∙ w.sum);
      }
    where
      few : (cs : List ℕ) → Leads ns start q cs → distance ns cs start ≡ d q / 4294967296
          → length (choices_to from by (d q % 4294967296) q) ≤ length cs
      few cs l e =
          let z = h.none_before in
          let f = few_links h.begins start_labelled (leads_goes ns cs start q l) (omega arith) in
          omega (arith, choices_long from by (d q % 4294967296) q)

      apart_at : (i j : ℕ) → i < j → j < length (places_to from (d q % 4294967296) q)
          → get_or (places_to from (d q % 4294967296) q) i 0 ≡ get_or (places_to from (d q % 4294967296) q) j 0
          → ((i : ℕ) → i ≤ d q % 4294967296 → d (get_or (places_to from (d q % 4294967296) q) i 0) % 4294967296 ≡ i)
          → ⊥
      apart_at i j ij jl same f =
          let long = places_long from by (d q % 4294967296) q in
          omega (arith, f i (omega (arith, long)), f j (omega (arith, long)), ap (λ (x : ℕ). d x % 4294967296) same)

  -- one link back from a place with a label
  pub back : ((p b q : ℕ) → p < n → next ns p b ≡ to q → b < 256) → Back n d from by
  back bytes v k lt l e =
      let ne = not_start k v e in
      let r = h.remembered v lt l ne in
      (r.inside, from_labelled v lt l ne, omega (arith, back_steps v lt l ne), bytes (from v) (by v) v r.inside r.link)
