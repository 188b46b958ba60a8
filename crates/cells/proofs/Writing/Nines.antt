-- T-05: writing is refused with 9 exactly at the first node with links that has over 65,535 links before it, if
-- neither
-- it nor a node before it has over 31. Assumes nothing.
use Prim.Native.Nat.{ℕ, zero, suc, ◌+◌, ◌≤◌, ◌<◌}
use native.Mathlib.Omega.{arith}
use native.Mathlib.Nat.{zero-add}
use mathlib.Core.Path.{◌≡◌, refl, sym, ap, ◌∙◌, subst}
use mathlib.Core.Bool.{Bool, true, false}
use mathlib.Core.List.{List, [], ◌∷◌, ◌++◌}
use lib.Dec.{ltb}
use lib.ListN.{length, get_or, take, drop, length-append}
use borrow.Author.Tests.{le-ltb, ltb-false}
use Rattle.records.specs.Put.{joined}
use Rattle.cells.specs.Memory.{Memory, over_limit, short, short_of}
use Rattle.cells.specs.Entries.{links_in, values_in, stored_start}
use Rattle.cells.specs.WriteChecks.{maps_cut, start_over, check_nodes, check_junctions}
use Rattle.cells.specs.Write.{WriteLeft, left, refuse, or_else, after, held, stored, write_held, write_call}
use Rattle.cells.specs.Blocks.{written}
use Rattle.cells.proofs.Sequences.Tests.{by_test}
use Rattle.cells.proofs.Writing.Starts.{start_some, over_some, over_behind, not_over}
use Rattle.std.specs.Prelude.{Result, Ok, Err}
use Rattle.numbers.specs.Refusals.{Answer, when, decided, number_of}
use Rattle.numbers.specs.declared.refusal.Refusal.{Refusal}
use Rattle.numbers.specs.declared.refusal.Refusal.TheVariants.{TooShort, TooManyLinks, LinksStartTooHigh}
use Rattle.numbers.specs.declared.refusal.Refusal.TheVariants.{ValuesStartTooHigh, TooManyRefs, WrongSize, AtLimit}
use Rattle.numbers.specs.declared.refusal.Lent.{Lent}
use Rattle.numbers.specs.declared.refusal.Lent.TheVariants as lent
use Rattle.cells.specs.Nodes.{no_entry}
use Rattle.cells.specs.declared.node_entry.NodeEntry.{NodeEntry}
use Rattle.cells.specs.declared.link.PathLink.{PathLink}

module _ {A B : Type 0} (z : A) (links : A → List B) where
  -- the node that 9 names, where `before` links stand before the first of these nodes
  pub record NineAt (before : ℕ) (nodes : List A) (p : ℕ) : Type 0 where
    pub inside : p < length nodes
    pub with_links : 0 < length (links (get_or nodes p z))
    pub behind : 65535 < before + length (joined links (take p nodes))
    pub first : (i : ℕ) → i < p → 0 < length (links (get_or nodes i z)) → before
        + length (joined links (take i nodes)) ≤ 65535
    pub few : (i : ℕ) → i ≤ p → length (links (get_or nodes i z)) ≤ 31

  module _ (before : ℕ) (n : A) (ns : List A) (few : length (links n) ≤ 31) where
    -- the node itself
    here : start_over before (length (links n)) ≡ true → NineAt before (n ∷ ns) 0
    unfolding joined
    here t =
        let o = over_some before (length (links n)) t in
        record {
          inside = omega arith;
          with_links = o.0;
          behind = omega (arith, o.1);
          first = λ i lt s. absurd (omega arith);
          few = few_here;
        }
      where
        few_here : (i : ℕ) → i ≤ 0 → length (links (get_or (n ∷ ns) i z)) ≤ 31
        few_here zero le = few
        few_here (suc i) le = absurd (omega arith)

    -- one behind it
    later : (p : ℕ) → start_over before (length (links n)) ≡ false → NineAt (before + length (links n)) ns p
        → NineAt before (n ∷ ns) (suc p)
    unfolding joined
    later p f h = record {
      inside = omega (arith, h.inside);
      with_links = h.with_links;
      behind = omega (arith, h.behind, length-append (links n) (joined links (take p ns)));
      first = first_later;
      few = few_later;
    }
      where
        first_later : (i : ℕ) → i < suc p → 0 < length (links (get_or (n ∷ ns) i z))
            → before + length (joined links (take i (n ∷ ns))) ≤ 65535
        first_later zero lt s =
            let e = start_some before (length (links n)) s in
            omega (arith, e, ltb-false 65535 (stored_start before (length (links n))) f)
        first_later (suc i) lt s =
            omega (arith, h.first i (omega arith) s, length-append (links n) (joined links (take i ns)))

        few_later : (i : ℕ) → i ≤ suc p → length (links (get_or (n ∷ ns) i z)) ≤ 31
        few_later zero le = few
        few_later (suc i) le = h.few i (omega arith)

  -- a place counted from the first of these nodes
  record Found (place before : ℕ) (nodes : List A) (p : ℕ) : Type 0 where
    at : ℕ
    there : p ≡ place + at
    nine : NineAt before nodes at

  eight : {P : Type 0} {a b : ℕ} → ◌≡◌ {A = Result ℕ Refusal} (Err (TooManyLinks a)) (Err (LinksStartTooHigh b)) → P
  eight e = let z : ◌≡◌ {A = ℕ} 8 9 = cc in absurd (omega arith)

  told : (place before : ℕ) (nodes : List A) (p : ℕ)
      → check_nodes (λ n. length (links n)) place before nodes ≡ Err (LinksStartTooHigh p) → Found place before nodes p
  unfolding check_nodes
  told place before [] p e = cc
  told place before (n ∷ ns) p e =
      by_test (ltb 31 (length (links n)))
      (λ t. eight (rw t at e))
      (λ u. by_test (start_over before (length (links n)))
      (λ t. this (ltb-false 31 (length (links n)) u) t (rw (u, t) at e))
      (λ v. next (ltb-false 31 (length (links n)) u) v
      (told (place + 1) (before + length (links n)) ns p (rw (u, v) at e))))
    where
      this : length (links n) ≤ 31 → start_over before (length (links n)) ≡ true
          → ◌≡◌ {A = Result ℕ Refusal} (Err (LinksStartTooHigh place)) (Err (LinksStartTooHigh p))
          → Found place before (n ∷ ns) p
      this few t q =
          let same : place ≡ p = cc in
          record { at = 0; there = omega (arith, same); nine = here before n ns few t }

      next : length (links n) ≤ 31 → start_over before (length (links n)) ≡ false
          → Found (place + 1) (before + length (links n)) ns p → Found place before (n ∷ ns) p
      next few v r = record {
        at = suc r.at;
        there = omega (arith, r.there);
        nine = later before n ns few r.at v r.nine;
      }

  says : (place before : ℕ) (nodes : List A) (p : ℕ) → NineAt before nodes p
      → check_nodes (λ n. length (links n)) place before nodes ≡ Err (LinksStartTooHigh (place + p))
  unfolding check_nodes joined
  says place before [] p h = absurd (omega (arith, h.inside))
  says place before (n ∷ ns) zero h =
      let few = le-ltb 31 (length (links n)) (h.few 0 (omega arith)) in
      let over = over_behind before (length (links n)) h.with_links (omega (arith, h.behind)) in
      let e : place ≡ place + 0 = omega arith in
      rw (few, over) (ap (λ (k : ℕ). Err (LinksStartTooHigh k)) e)
  says place before (n ∷ ns) (suc p) h =
      let few = le-ltb 31 (length (links n)) (h.few 0 (omega arith)) in
      let low = not_over before (length (links n)) (λ s. omega (arith, h.first 0 (omega arith) s)) in
      let e : place + 1 + p ≡ place + suc p = omega arith in
      rw (few, low)
      (says (place + 1) (before + length (links n)) ns p (record {
        inside = omega (arith, h.inside);
        with_links = h.with_links;
        behind = omega (arith, h.behind, length-append (links n) (joined links (take p ns)));
        first = λ i lt s. omega (
          arith,
          h.first (suc i) (omega arith) s,
          length-append (links n)
              (joined links (take i ns)),
        );
        few = λ i le. h.few (suc i) (omega arith);
      })
      ∙ ap (λ (k : ℕ). Err (LinksStartTooHigh k)) e)

  module _ (nodes : List A) (p : ℕ) where
    pub nine_only : check_nodes (λ n. length (links n)) 0 0 nodes ≡ Err (LinksStartTooHigh p) → NineAt 0 nodes p
    nine_only e =
        let r = told 0 0 nodes p e in
        subst (NineAt 0 nodes) (sym (r.there ∙ zero-add r.at)) r.nine

    pub nine_there : NineAt 0 nodes p → check_nodes (λ n. length (links n)) 0 0 nodes ≡ Err (LinksStartTooHigh p)
    nine_there h = says 0 0 nodes p h ∙ ap (λ (k : ℕ). Err (LinksStartTooHigh k)) (zero-add p)

-- ---- at the call

ten : {A : Type 0} (count : A → ℕ) (place before : ℕ) (js : List A) (cause : Refusal)
    → check_junctions count place before js ≡ Err cause → number_of cause ≡ 10
unfolding check_junctions
ten count place before [] cause e = cc
ten count place before (j ∷ js) cause e =
    by_test (ltb 65535 before)
    (λ t. let q : ◌≡◌ {A = Result ℕ Refusal} (Err (ValuesStartTooHigh place)) (Err cause) = rw t at e in let same :
    ValuesStartTooHigh place ≡ cause = cc in sym (ap number_of same))
    (λ f. ten count (place + 1) (before + count j) js cause (rw f at e))

-- a list that is too short is 7
seven : (m : Memory) (cause : Refusal) → short m ≡ Err cause → number_of cause ≡ 7
unfolding short_of
seven m cause =
    go (ltb (length m.nodes) m.ynd.node_count) (ltb (length m.links) m.ynd.link_count)
    (ltb (length m.junctions) m.ynd.junction_count)
    (ltb (length m.heights) m.ynd.heightmap_count) (ltb (length m.refs) m.ynd.ref_count)
  where
    named : {l : Lent} → ◌≡◌ {A = Answer} (Err (TooShort l)) (Err cause) → number_of cause ≡ 7
    named {l} e = let same : TooShort l ≡ cause = cc in sym (ap number_of same)

    go : (a b c d f : Bool)
        → decided (when a (TooShort lent.Nodes) ∷ when b (TooShort lent.Links) ∷ when c (TooShort lent.Junctions)
        ∷ when d (TooShort lent.Heightmap) ∷ when f (TooShort lent.Refs) ∷ []) ≡ Err cause
        → number_of cause ≡ 7
    go true b c d f e = named e
    go false true c d f e = named e
    go false false true d f e = named e
    go false false false true f e = named e
    go false false false false true e = named e
    go false false false false false e = cc

-- the cell's own links of a node
abbrev own : Memory → NodeEntry → List PathLink
own m n = links_in (held m).links n

module _ (m : Memory) (s : List ℕ) (p : ℕ) where
  -- a cell that writing refuses with 9
  pub refused_nine : (write_call m s).answer ≡ Err (LinksStartTooHigh p) → NineAt no_entry (own m) 0 (held m).nodes p
  unfolding write_call write_held stored
  refused_nine e =
      go (over_limit (held m).ynd) (maps_cut (held m).ynd.heightmap_count (held m).junctions)
      (check_nodes (λ n. length (own m n)) 0 0 (held m).nodes)
      (check_junctions (λ j. length (values_in (held m).heights j)) 0 0 (held m).junctions)
      (ltb 65535 (held m).ynd.ref_count) (short m) (ltb (length s) (length (written (held m)))) refl refl refl e
    where
      other : {P : Type 0} {a : Refusal} → (number_of a ≡ 9 → ⊥)
          → ◌≡◌ {A = Result ℕ Refusal} (Err a) (Err (LinksStartTooHigh p)) → P
      other {P} {a} n q = let same : a ≡ LinksStartTooHigh p = cc in absurd (n (ap number_of same))

      wrote : WriteLeft
      wrote = left (Ok (length (written (held m)))) (written (held m) ++ drop (length (written (held m))) s)

      go : (o w : Bool) (a b : Result ℕ Refusal) (c : Bool) (d : Answer) (f : Bool)
          → check_nodes (λ n. length (own m n)) 0 0 (held m).nodes ≡ a
          → check_junctions (λ j. length (values_in (held m).heights j)) 0 0 (held m).junctions ≡ b
          → short m ≡ d
          → (or_else o (refuse AtLimit s) (or_else w (refuse WrongSize s)
          (after a s (after b s (or_else c (refuse TooManyRefs s)
          (after d s (or_else f (refuse (TooShort lent.Section) s) wrote))))))
          ).answer ≡ Err (LinksStartTooHigh p)
          → NineAt no_entry (own m) 0 (held m).nodes p
      go true w a b c d f ea eb ed q = other (λ z. omega arith) q
      go false true a b c d f ea eb ed q = other (λ z. omega arith) q
      go false false (Err x) b c d f ea eb ed q = nine_only no_entry (own m) (held m).nodes p (ea ∙ q)
      go false false (Ok l) (Err x) c d f ea eb ed q =
          other (λ z. omega (arith, ten (λ j. length (values_in (held m).heights j)) 0 0 (held m).junctions x eb)) q
      go false false (Ok l) (Ok v) true d f ea eb ed q = other (λ z. omega arith) q
      go false false (Ok l) (Ok v) false (Err x) f ea eb ed q = other (λ z. omega (arith, seven m x ed)) q
      go false false (Ok l) (Ok v) false (Ok tt) true ea eb ed q = other (λ z. omega arith) q
      go false false (Ok l) (Ok v) false (Ok tt) false ea eb ed q = cc

  -- such a cell, within the limits and with whole heightmaps, is refused so, and the section stays
  pub nine_refused : over_limit (held m).ynd ≡ false → maps_cut (held m).ynd.heightmap_count (held m).junctions ≡ false
      → NineAt no_entry (own m) 0 (held m).nodes p → write_call m s ≡ refuse (LinksStartTooHigh p) s
  unfolding write_call write_held
  nine_refused o w h = rw (o, w, nine_there no_entry (own m) (held m).nodes p h)
