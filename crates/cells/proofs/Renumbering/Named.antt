-- The scratch as a map from numbers to places. It is never cleared: an entry counts if the node there has the number.
-- Assumes nothing.
use Rattle.std.proofs.lemmas.List.{map-append, get_or-map}
use Rattle.std.specs.Prelude as Opt
use Prim.Native.Nat.{ℕ, zero, suc, ◌+◌, ◌<◌}
use native.Mathlib.Omega.{arith}
use native.Mathlib.Numerals.{add-one}
use mathlib.Core.Path.{◌≡◌, refl, ap, sym, ◌∙◌}
use mathlib.Core.Bool.{Bool, true, false}
use mathlib.Core.List.{List, [], ◌∷◌, ◌++◌, map}
use mathlib.Core.Option.{Option, none, some, some-injective}
use lib.Dec.{eqb}
use lib.ListN.{length, get_or, set, take, length-map}
use lib.Seq.{take-suc, length-take-le, get_or-set_same, get_or-set_other}
use borrow.Author.Tests.{eqb-true, eqb-false, eq-eqb}
use Rattle.cells.specs.Order.{last_with, or_else}
use Rattle.cells.specs.Nodes.{number_of}
use Rattle.cells.specs.Lookup.{first_with, or_later, is_some}
use Rattle.cells.specs.LookupCall.{place_of}
use Rattle.cells.specs.RenumberParts.{Indexed, Leads}
use Rattle.cells.proofs.Sequences.Tests.{by_test}
use Rattle.cells.specs.declared.node_entry.NodeEntry.{NodeEntry}

abbrev pub pick : Bool → ℕ → Option ℕ → Option ℕ
pick true n o = some n
pick false n o = o

-- one number more
pub last_snoc : (ns : List ℕ) (x k : ℕ) → last_with (ns ++ (x ∷ [])) k ≡ pick (eqb x k) (length ns) (last_with ns k)
unfolding last_with
last_snoc [] x k = go (eqb x k)
  where
    go : (b : Bool) → or_else none b ≡ pick b 0 none
    go true = refl
    go false = refl
last_snoc (n ∷ ns) x k = rw (last_snoc ns x k) (go (eqb x k) (last_with ns k) (eqb n k))
  where
    go : (b : Bool) (o : Option ℕ) (c : Bool) → or_else (pick b (length ns) o) c
        ≡ pick b (suc (length ns)) (or_else o c)
    go true o c = refl
    go false o c = refl

indexed_next : (ns : List ℕ) (x : ℕ) (s : List ℕ) → x < length s → Indexed ns s
    → Indexed (ns ++ (x ∷ [])) (set s x (length ns))
indexed_next ns x s lt ix = record {
  at = λ k p e. by_test (eqb x k)
      (λ t. rw (← eqb-true x k t) (get_or-set_same s x (length ns) 0 lt)
      ∙ some-injective _ _ (rw (last_snoc ns x k, t) at e))
      (λ f. get_or-set_other s x k (length ns) 0 (λ d. eqb-false x k f (sym d))
      ∙ ix.at k p (rw (last_snoc ns x k, f) at e));
}

pub index_starts : (s : List ℕ) → Indexed [] s
unfolding last_with
index_starts s = record { at = λ k p e. cc }

pub index_turn : (nodes : List NodeEntry) (i k : ℕ) (s : List ℕ) (z : NodeEntry) → i < length nodes → k
    ≡ number_of (get_or nodes i z) → k < length s
    → Indexed (map number_of (take i nodes)) s → Indexed (map number_of (take (i + 1) nodes)) (set s k i)
index_turn nodes i k s z lt e hk ix =
    let long : length (map number_of (take i nodes)) ≡ i = length-map (take i nodes) number_of
    ∙ length-take-le i nodes (omega arith) in
    rw (add-one, take-suc nodes i z lt, map-append, ← e)
    (rw long at (indexed_next (map number_of (take i nodes)) k s hk ix))

-- the last node that has a number has it
pub last_inside : (ns : List ℕ) (k p : ℕ) → last_with ns k ≡ some p → (p < length ns) × (get_or ns p 0 ≡ k)
unfolding last_with
last_inside [] k p e = cc
last_inside (n ∷ ns) k p e = go (λ q d. last_inside ns k q d) (last_with ns k) refl e
  where
    go : ((q : ℕ) → last_with ns k ≡ some q → (q < length ns) × (get_or ns q 0 ≡ k)) → (o : Option ℕ)
        → last_with ns k ≡ o → or_else o (eqb n k) ≡ some p → (p < length (n ∷ ns)) × (get_or (n ∷ ns) p 0 ≡ k)
    go ih (some q) d h = let r = ih q d in rw (← some-injective _ _ h) (omega (arith, r.0), r.1)
    go ih none d h = by_test (eqb n k)
        (λ t. rw (← some-injective _ _ (rw t at h)) (omega arith, eqb-true n k t))
        (λ f. let d = rw f at h in cc)

-- a number that a node has is some last node's
last_some : (ns : List ℕ) (k i : ℕ) → i < length ns → get_or ns i 0 ≡ k → (p : ℕ) × (last_with ns k ≡ some p)
unfolding last_with
last_some [] k i lt e = absurd (omega arith)
last_some (n ∷ ns) k zero lt e = rw (eq-eqb n k e) (go (last_with ns k))
  where
    go : (o : Option ℕ) → (p : ℕ) × (or_else o true ≡ some p)
    go (some q) = (suc q, refl)
    go none = (0, refl)
last_some (n ∷ ns) k (suc i) lt e = let r = last_some ns k i (omega arith) e in (suc r.0, rw r.1 refl)

module _ (ns s : List ℕ) (ix : Indexed ns s) (k t : ℕ) (is-t : get_or s k 0 ≡ t) where
  pub named : t < length ns → get_or ns t 0 ≡ k → last_with ns k ≡ some t
  named lt e = let q = last_some ns k t lt e in q.1 ∙ ap {B = Option ℕ} some (sym (ix.at k q.0 q.1) ∙ is-t)

  pub unnamed : (t < length ns → get_or ns t 0 ≡ k → ⊥) → last_with ns k ≡ none
  unnamed nowhere = go (last_with ns k) refl
    where
      go : (o : Option ℕ) → last_with ns k ≡ o → o ≡ none
      go none e = refl
      go (some p) e =
          let same : p ≡ t = sym (ix.at k p e) ∙ is-t in
          let r = last_inside ns k p e in
          absurd (nowhere (omega (arith, r.0)) (rw (← same) r.1))

pub placed_at : (o : Option ℕ) (p : ℕ) → place_of o ≡ Opt.Some p → o ≡ some p
placed_at (some i) p e = cc
placed_at none p e = cc

-- ---- by the scratch of nodes

module _ (nodes : List NodeEntry) (s : List ℕ) (l : Leads (map number_of nodes) s) (k t : ℕ) (z : NodeEntry)
    (is-t : get_or s k 0 ≡ t)
  where
    pub last_here : t < length nodes → number_of (get_or nodes t z) ≡ k → Opt.Some t
        ≡ place_of (last_with (map number_of nodes) k)
    last_here lt e = sym (ap place_of (named (map number_of nodes) s l.indexed k t is-t
        (omega (arith, length-map nodes number_of)) (get_or-map number_of nodes t z 0 lt ∙ e)))

    pub last_nowhere : (t < length nodes → number_of (get_or nodes t z) ≡ k → ⊥) → Opt.None
        ≡ place_of (last_with (map number_of nodes) k)
    last_nowhere nowhere = sym (ap place_of (unnamed (map number_of nodes) s l.indexed k t is-t
        (λ lt e. let below : t < length nodes = omega (arith, length-map nodes number_of) in nowhere below
        (sym (get_or-map number_of nodes t z 0 below) ∙ e))))

-- the last place that a number has is one of the places
pub last_below : (ns : List ℕ) (k p : ℕ) → place_of (last_with ns k) ≡ Opt.Some p → p < length ns
last_below ns k p e = (last_inside ns k p (placed_at (last_with ns k) p e)).0

-- where the first is there, the last is
pub first_last : (ns : List ℕ) (k : ℕ) → is_some (last_with ns k) ≡ is_some (first_with ns k)
unfolding first_with last_with
first_last [] k = refl
first_last (n ∷ ns) k = go (eqb n k) (last_with ns k) (first_with ns k) (first_last ns k)
  where
    go : (b : Bool) (l f : Option ℕ) → is_some l ≡ is_some f → is_some (or_else l b) ≡ is_some (or_later b f)
    go true (some l) f h = refl
    go true none f h = refl
    go false (some l) (some f) h = refl
    go false (some l) none h = h
    go false none (some f) h = h
    go false none none h = refl

pub has_last : (ns : List ℕ) (k : ℕ) → Opt.is_some (place_of (last_with ns k)) ≡ is_some (first_with ns k)
has_last ns k = told (last_with ns k) ∙ first_last ns k
  where
    told : (o : Option ℕ) → Opt.is_some (place_of o) ≡ is_some o
    told (some i) = refl
    told none = refl
