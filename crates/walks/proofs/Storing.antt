-- The places of a walk, of any kind, stored one by one.
use Prim.Native.Nat.{ℕ, ◌+◌, ◌<◌, ◌≤◌}
use native.Mathlib.Omega.{arith}
use native.Mathlib.Nat.{add-zero}
use mathlib.Core.Path.{◌≡◌, refl, ap, sym, ◌∙◌}
use mathlib.Core.Bool.{true, false}
use mathlib.Core.List.{List, [], ◌∷◌, ◌++◌, map}
use lib.Dec.{leb}
use lib.ListN.{length, get_or, drop, take, set, length-set, length-map, length-drop, get_or-map}
use lib.Seq.{get_or-drop, take_all}
use borrow.Author.Tests.{leb-true, leb-false, le-ltb, lt-ltb}
use Rattle.std.specs.Prelude.{Ok, Err}
use Rattle.numbers.specs.declared.refusal.Refusal.TheVariants.{TooShort}
use Rattle.numbers.specs.declared.refusal.Lent.TheVariants as lent
use Rattle.cells.proofs.Sequences.Filled.{fill_turn}
use Rattle.walks.specs.Walk.{Next, to, stop, World, Trail, go_on, walk_in}
use Rattle.walks.specs.Claim.{places}
use Rattle.walks.specs.WalkParts.{step_of, traced, over, trail_left, stored_in}
use Rattle.walks.specs.declared.walk.End.{End}
use Rattle.walks.specs.declared.walk.End.TheVariants.{Done}
use Rattle.walks.specs.declared.walk.Walked.{Walked}
use Rattle.walks.proofs.Reaches.{Reached, Finished, reached_start, reached_step, reached_stop, reached_end}
use Rattle.walks.proofs.Reaches.{last_counted}

module _ {L : Type 0} (w : World L) where
  -- a walk begins at its start
  walk_head : (bs : List ℕ) (p : L) → (rest : List L) × (places (walk_in w bs p) ≡ p ∷ rest)
  unfolding walk_in
  walk_head [] p = ([], refl)
  walk_head (b ∷ bs) p = go (w.next p b)
    where
      go : (x : Next L) → (rest : List L)
          × (places (go_on (record { place = p; seen = w.see p; link = w.link p b }) (walk_in w bs) x) ≡ p ∷ rest)
      go (to q) = (places (walk_in w bs q), refl)
      go (stop e) = ([], refl)

-- after i choices the walk stands at p, and the places before it are stored over the list
pub record Storing {L E : Type 0} (w : World L) (f : L → E) (bs : List ℕ) (s : L) (first now : List E) (i : ℕ) (p : L)
    : Type 0 where
  pub reached : Reached w bs s i p
  pub stored : now ≡ take i (map f (places (walk_in w bs s))) ++ drop i first
  pub long : length now ≡ length first
  pub room : i < length now

module _ {L E : Type 0} (w : World L) (f : L → E) (bs : List ℕ) (s : L) (first : List E)
    (fits : length (places (walk_in w bs s)) ≤ length first) where
  abbrev P : List L
  P = places (walk_in w bs s)

  abbrev D : List E
  D = map f P

  d_long : length D ≡ length P
  d_long = length-map P f

  inside : (i : ℕ) (p : L) → Reached w bs s i p → i < length P
  inside i p h = let r = walk_head w (drop i bs) p in omega (arith, simp length-drop at (ap length (h.spots ∙ r.1)))

  at_here : (i : ℕ) (p : L) → Reached w bs s i p → get_or D i (f p) ≡ f p
  at_here i p h =
      let r = walk_head w (drop i bs) p in
      let e : get_or P i p ≡ p = ap (λ (k : ℕ). get_or P k p) (sym (add-zero i)) ∙ sym (get_or-drop i P 0 p)
      ∙ ap (λ (t : List L). get_or t 0 p) (h.spots ∙ r.1) in
      get_or-map f P i p ∙ ap f e

  pub storing_start : Storing w f bs s first first 0 s
  storing_start = record {
    reached = reached_start w bs s;
    stored = refl;
    long = refl;
    room = omega (arith, inside 0 s (reached_start w bs s));
  }

  module _ (now : List E) (i : ℕ) (p : L) (h : Storing w f bs s first now i p) where
    turned : (x : E) → x ≡ f p → set now i x ≡ take (i + 1) D ++ drop (i + 1) first
    turned x e =
        ap (λ (l : List E). set l i x) h.stored
        ∙ fill_turn first D i (f p) x (omega (arith, inside i p h.reached))
        (omega (arith, inside i p h.reached, d_long))
        (at_here i p h.reached ∙ sym e)

    pub storing_step : (x : E) → x ≡ f p → (q : L) → i < length bs → Ok q ≡ step_of (w.next p (get_or bs i 0))
        → Storing w f bs s first (set now i x) (i + 1) q
    storing_step x e q lt k =
        let r = reached_step w bs s i p h.reached q lt k in
        record {
          reached = r;
          stored = turned x e;
          long = length-set now i x ∙ h.long;
          room = omega (arith, length-set now i x, h.long, inside (i + 1) q r);
        }

    last : (x : E) → x ≡ f p → (z : End) → Finished w bs s i p z
        → ◌≡◌ {A = Walked} (record { end = z; count = i + 1 }) (traced (walk_in w bs s)) × (set now i x ≡ over D first)
    last x e z r =
        let n : i + 1 ≡ length P = last_counted w bs s i p z r in (
          λ j. record { end = (sym r.ending) j; count = n j },
          turned x e ∙ rw (n, ← d_long) (ap (λ (l : List E). l ++ drop (length D) first)
              (take_all (length D) D (omega arith))),
        )

    pub stored_stop : (x : E) → x ≡ f p → (z : End) → i < length bs → Err z ≡ step_of (w.next p (get_or bs i 0))
        → ◌≡◌ {A = Walked} (record { end = z; count = i + 1 }) (traced (walk_in w bs s)) × (set now i x ≡ over D first)
    stored_stop x e z lt k = last x e z (reached_stop w bs s i p h.reached z lt k)

    pub stored_end : (x : E) → x ≡ f p → length bs ≤ i
        → ◌≡◌ {A = Walked} (record { end = Done; count = i + 1 }) (traced (walk_in w bs s))
        × (set now i x ≡ over D first)
    stored_end x e le = last x e Done (reached_end w bs s i p h.reached le)

-- ---- what is answered

module _ {L E : Type 0} (f : L → E) (t : Trail L) (visited : List E) where
  pub left_short : false ≡ leb (length (places t)) (length visited)
      → trail_left (Err (TooShort lent.List)) visited ≡ stored_in f t visited
  unfolding stored_in
  left_short h = rw (lt-ltb _ _ (leb-false _ _ (sym h)))

  pub left_stored : (a : Walked) (after : List E) → true ≡ leb (length (places t)) (length visited)
      → a ≡ traced t → after ≡ over (map f (places t)) visited → trail_left (Ok a) after ≡ stored_in f t visited
  unfolding stored_in
  left_stored a after h e v = rw (e, v, le-ltb _ _ (leb-true _ _ (sym h)))

-- for the function that answers
pub ruleset left_laws = (left_short, left_stored)
