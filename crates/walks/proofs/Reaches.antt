-- Where a walk stands after its first choices, over places of any kind.
use Prim.Native.Nat.{ℕ, suc, ◌+◌, ◌<◌, ◌≤◌}
use native.Mathlib.Omega.{arith}
use native.Mathlib.Numerals.{add-one}
use mathlib.Core.Path.{◌≡◌, refl, ap, sym, ◌∙◌}
use mathlib.Core.Bool.{true}
use mathlib.Core.List.{List, [], ◌∷◌}
use lib.Dec.{leb}
use lib.ListN.{length, get_or, drop, length-drop, drop_of_length-le}
use lib.Seq.{drop-cons, drop-drop}
use borrow.Author.Tests.{le-leb}
use Rattle.std.specs.Prelude.{Result, Ok, Err}
use Rattle.walks.specs.Walk.{Next, to, stop, World, Visit, Trail, go_on, walk_in}
use Rattle.walks.specs.Claim.{places}
use Rattle.walks.specs.WalkParts.{step_of}
use Rattle.walks.specs.declared.walk.End.{End}
use Rattle.walks.specs.declared.walk.End.TheVariants.{Done}

-- after i choices the walk stands at p: what is left of its places is the walk from there
pub record Reached {L : Type 0} (w : World L) (bs : List ℕ) (s : L) (i : ℕ) (p : L) : Type 0 where
  pub ending : (walk_in w bs s).ending ≡ (walk_in w (drop i bs) p).ending
  pub spots : drop i (places (walk_in w bs s)) ≡ places (walk_in w (drop i bs) p)

-- how a walk that ends there ended
pub record Finished {L : Type 0} (w : World L) (bs : List ℕ) (s : L) (i : ℕ) (p : L) (e : End) : Type 0 where
  pub ending : (walk_in w bs s).ending ≡ e
  pub last : drop i (places (walk_in w bs s)) ≡ p ∷ []

-- where a choice leads, by what code answers of it
abbrev led : {L : Type 0} → Result L End → Next L
led (Ok q) = to q
led (Err e) = stop e

led_back : {L : Type 0} {r : Result L End} (x : Next L) → r ≡ step_of x → x ≡ led r
led_back (to q) h = sym (ap led h)
led_back (stop e) h = sym (ap led h)

module _ {L : Type 0} (w : World L) (bs : List ℕ) (s : L) where
  pub reached_start : Reached w bs s 0 s
  reached_start = record { ending = refl; spots = refl }

  pub last_counted : (i : ℕ) (p : L) (e : End) → Finished w bs s i p e → i + 1 ≡ length (places (walk_in w bs s))
  last_counted i p e f = omega (arith, simp length-drop at (ap length f.last))

  module _ (i : ℕ) (p : L) (h : Reached w bs s i p) where
    abbrev here : Visit L
    here = record { place = p; seen = w.see p; link = w.link p (get_or bs i 0) }

    walk_here : i < length bs → walk_in w (drop i bs) p
        ≡ go_on here (walk_in w (drop (suc i) bs)) (w.next p (get_or bs i 0))
    unfolding walk_in
    walk_here lt = rw (drop-cons bs i 0 lt)

    -- one more choice that leads on
    pub reached_step : (q : L) → i < length bs → Ok q ≡ step_of (w.next p (get_or bs i 0)) → Reached w bs s (i + 1) q
    reached_step q lt e =
        let r : walk_in w (drop i bs) p ≡ go_on here (walk_in w (drop (suc i) bs)) (to q) =
        walk_here lt ∙ ap (go_on here (walk_in w (drop (suc i) bs))) (led_back (w.next p (get_or bs i 0)) e) in
        let places-at : drop i (places (walk_in w bs s)) ≡ p ∷ places (walk_in w (drop (suc i) bs) q) =
        h.spots ∙ ap (λ (t : Trail L). places t) r in
        rw add-one (record {
          ending = h.ending ∙ ap (λ (t : Trail L). t.ending) r;
          spots = sym (drop-drop 1 i (places (walk_in w bs s))
              ∙ ap (λ (k : ℕ). drop k (places (walk_in w bs s))) (add-one i)) ∙ ap (drop 1) places-at;
        })

    -- a choice that ends the walk
    pub reached_stop : (e : End) → i < length bs → Err e ≡ step_of (w.next p (get_or bs i 0))
        → Finished w bs s i p e
    reached_stop e lt x =
        let r : walk_in w (drop i bs) p ≡ go_on here (walk_in w (drop (suc i) bs)) (stop e) =
        walk_here lt ∙ ap (go_on here (walk_in w (drop (suc i) bs))) (led_back (w.next p (get_or bs i 0)) x) in
        record {
          ending = h.ending ∙ ap (λ (t : Trail L). t.ending) r;
          last = h.spots ∙ ap (λ (t : Trail L). places t) r;
        }

    -- no choice left
    pub reached_end : length bs ≤ i → Finished w bs s i p Done
    unfolding walk_in
    reached_end le =
        let r : walk_in w (drop i bs) p ≡ walk_in w [] p =
        ap (λ (t : List ℕ). walk_in w t p) (drop_of_length-le bs {i = i} le) in
        record {
          ending = h.ending ∙ ap (λ (t : Trail L). t.ending) r;
          last = h.spots ∙ ap (λ (t : Trail L). places t) r;
        }

    -- what is counted where it ends
    pub stop_counted : (e : End) → i < length bs → Err e ≡ step_of (w.next p (get_or bs i 0))
        → i + 1 ≡ length (places (walk_in w bs s))
    stop_counted e lt x = last_counted i p e (reached_stop e lt x)

    pub end_counted : length bs ≤ i → i + 1 ≡ length (places (walk_in w bs s))
    end_counted le = last_counted i p Done (reached_end le)

module _ {L : Type 0} (w : World L) where
  -- one place more than choices at most
  pub places_few : (bs : List ℕ) (p : L) → length (places (walk_in w bs p)) ≤ length bs + 1
  unfolding walk_in
  places_few [] p = omega arith
  places_few (b ∷ bs) p = go (w.next p b) (places_few bs)
    where
      go : (x : Next L) → ((q : L) → length (places (walk_in w bs q)) ≤ length bs + 1)
          → length (places (go_on (record { place = p; seen = w.see p; link = w.link p b }) (walk_in w bs) x)) ≤ suc
          (length bs) + 1
      go (to q) h = omega (arith, h q)
      go (stop e) h = omega arith

  pub room_sure : (bs : List ℕ) (s : L) (room : ℕ) → length bs < room
      → true ≡ leb (length (places (walk_in w bs s))) room
  room_sure bs s room lt = sym (le-leb (length (places (walk_in w bs s))) room (omega (arith, places_few bs s)))

-- for the function that counts the places
pub ruleset reached_laws = (reached_start, reached_step, stop_counted, end_counted)
