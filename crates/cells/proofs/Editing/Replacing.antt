-- The room that an accepted store of shorter lists, of a node's links or of a heightmap has.
use Prim.Native.Nat.{ℕ, zero, suc, ◌+◌, ◌-◌, ◌<◌, ◌≤◌}
use native.Mathlib.Omega.{arith}
use mathlib.Core.Path.{◌≡◌, refl}
use mathlib.Core.Bool.{Bool}
use mathlib.Core.List.{[], ◌∷◌}
use lib.Dec.{eqb, ltb, leb}
use borrow.Author.Tests.{le-leb, lt-leb, ne_eqb, leb-true, leb-false, ltb-false, eqb-true, not-false}
use Rattle.numbers.specs.Refusals.{when}
use Rattle.numbers.proofs.Refusing.{passed}
use Rattle.cells.specs.Truncate.{fewer}
use Rattle.cells.specs.Replace.{place_for, pool_after}
use Rattle.cells.specs.PutLinks.{links_causes, room_for_links, LinksRoom}
use Rattle.cells.specs.PutHeightmap.{map_causes, room_for_map, MapRoom}
use Rattle.cells.proofs.Sequences.Tests.{by_test}
use Rattle.std.specs.Prelude.{Ok}
use Rattle.numbers.specs.declared.refusal.Refusal.TheVariants.{NoSuchPlace, AtLimit}

pub fewer_room : (over : Bool) (n k : ℕ) → fewer over n k ≡ (Ok tt) → k ≤ n
unfolding fewer
fewer_room over n k e = ltb-false n k (passed (when (ltb n k) NoSuchPlace ∷ when over AtLimit ∷ []) 0 e)

pub links_room : (over : Bool) (n p c after nodes links : ℕ) → room_for_links over n p c after nodes links ≡ (Ok tt)
    → LinksRoom n p c after nodes links
unfolding room_for_links
links_room over n p c after nodes links e =
    let cs = links_causes over n p c after nodes links in
    record {
      place = leb-false n p (passed cs 0 e);
      few = ltb-false 255 c (passed cs 2 e);
      all_few = ltb-false 4294967295 after (passed cs 3 e);
      nodes_fit = ltb-false nodes n (passed cs 4 e);
      links_fit = ltb-false links after (passed cs 5 e);
    }

pub map_room : (over : Bool) (n p c size after junctions heights : ℕ)
    → room_for_map over n p c size after junctions heights ≡ (Ok tt) → MapRoom n p c size after junctions heights
unfolding room_for_map
map_room over n p c size after junctions heights e =
    let cs = map_causes over n p c size after junctions heights in
    record {
      place = leb-false n p (passed cs 0 e);
      all_few = ltb-false 4294967295 after (passed cs 2 e);
      sized = eqb-true c size (not-false (eqb c size) (passed cs 3 e));
      junctions_fit = ltb-false junctions n (passed cs 4 e);
      heights_fit = ltb-false heights after (passed cs 5 e);
    }

-- ---- where new entries go

pub cleared : (s e l : ℕ) → place_for s e 0 l ≡ 0
unfolding place_for
cleared s e l = refl

pub in_place : (s e c l : ℕ) → 0 < c → c ≤ e → place_for s e c l ≡ s
unfolding place_for
in_place s e c l some le = rw (ne_eqb c 0 (λ z. absurd (omega (arith, z))), le-leb c e le) refl

pub behind_all : (s e c l : ℕ) → e < c → place_for s e c l ≡ l
unfolding place_for
behind_all s e c l lt = rw (ne_eqb c 0 (λ z. absurd (omega (arith, z))), lt-leb c e lt) refl

pub same_pool : (e c l : ℕ) → c ≤ e → pool_after e c l ≡ l
unfolding pool_after
same_pool e c l le = rw (le-leb c e le) refl

pub more_pool : (e c l : ℕ) → e < c → pool_after e c l ≡ l + c
unfolding pool_after
more_pool e c l lt = rw (lt-leb c e lt) refl

-- they start inside what there was, and end inside what there is
pub placing : (s e c l : ℕ) → e ≤ l - s → (place_for s e c l ≤ l) × (place_for s e c l + c ≤ pool_after e c l)
placing s e zero l h = (omega (arith, cleared s e l), omega (arith, cleared s e l))
placing s e (suc c) l h = by_test (leb (suc c) e)
    (λ t. let le = leb-true (suc c) e t in
    let at = in_place s e (suc c) l (omega arith) le in
    (omega (arith, at), omega (arith, at, same_pool e (suc c) l le)))
    (λ f. let lt = leb-false (suc c) e f in
    let at = behind_all s e (suc c) l lt in
    (omega (arith, at), omega (arith, at, more_pool e (suc c) l lt)))

pub pool_grows : (e c l : ℕ) → l ≤ pool_after e c l
pool_grows e c l = by_test (leb c e)
    (λ t. omega (arith, same_pool e c l (leb-true c e t)))
    (λ f. omega (arith, more_pool e c l (leb-false c e f)))
