-- Writing refuses by the list of its causes, in their order, and by nothing else. Assumes nothing.
use Prim.Native.Nat.{ℕ, ◌+◌}
use mathlib.Core.Path.{◌≡◌, refl, sym, ap, ◌∙◌}
use mathlib.Core.Bool.{Bool, true, false}
use mathlib.Core.List.{List, [], ◌∷◌, ◌++◌}
use lib.Dec.{ltb}
use lib.ListN.{length, drop}
use Rattle.std.specs.Prelude.{Ok, Err}
use Rattle.numbers.specs.Refusals.{Answer, Cause, when, decided}
use Rattle.numbers.specs.Refusals.{unless as or_answer}
use Rattle.numbers.specs.declared.refusal.Refusal.{Refusal}
use Rattle.numbers.specs.declared.refusal.Refusal.TheVariants.{TooShort, TooManyLinks, LinksStartTooHigh}
use Rattle.numbers.specs.declared.refusal.Refusal.TheVariants.{ValuesStartTooHigh, TooManyRefs, WrongSize, AtLimit}
use Rattle.numbers.specs.declared.refusal.Lent.TheVariants as lent
use Rattle.numbers.proofs.Refusing.{decided_append}
use Rattle.cells.specs.Entries.{links_in, values_in}
use Rattle.cells.specs.Memory.{Memory, over_limit, short_of, short_causes}
use Rattle.cells.specs.Blocks.{written}
use Rattle.cells.specs.WriteChecks.{unless, maps_cut, start_over, check_nodes, check_junctions}
use Rattle.cells.specs.Write.{WriteLeft, left, refuse, or_else, after, held, stored, write_held, write_call}
use Rattle.cells.specs.WriteCauses.{node_causes, junction_causes, write_causes}

module _ (s : List ℕ) where
  -- one list behind another
  handed : (a b : Answer) (x : WriteLeft) → after (or_answer a b) s x ≡ after a s (after b s x)
  handed (Ok _) b x = refl
  handed (Err c) b x = refl

  joined : (xs ys : List Cause) (x : WriteLeft)
      → after (decided (xs ++ ys)) s x ≡ after (decided xs) s (after (decided ys) s x)
  joined xs ys x = ap (λ (a : Answer). after a s x) (decided_append xs ys) ∙ handed (decided xs) (decided ys) x

  one : (b : Bool) (c : Refusal) (x : WriteLeft) → or_else b (refuse c s) x ≡ after (decided (when b c ∷ [])) s x
  one true c x = refl
  one false c x = refl

  -- 8 and 9; 10
  nodes_listed : {A : Type 0} (count : A → ℕ) (place before : ℕ) (ns : List A) (x : WriteLeft)
      → after (check_nodes count place before ns) s x ≡ after (decided (node_causes count place before ns)) s x
  unfolding check_nodes node_causes
  nodes_listed count place before [] x = refl
  nodes_listed count place before (n ∷ ns) x =
      go (ltb 31 (count n)) (start_over before (count n)) (nodes_listed count (place + 1) (before + count n) ns x)
    where
      go : (a b : Bool)
          → after (check_nodes count (place + 1) (before + count n) ns) s x
          ≡ after (decided (node_causes count (place + 1) (before + count n) ns)) s x
          → after (unless a (Err (TooManyLinks place)) (unless b (Err (LinksStartTooHigh place))
          (check_nodes count (place + 1) (before + count n) ns))) s x
          ≡ after (decided (when a (TooManyLinks place) ∷ when b (LinksStartTooHigh place)
          ∷ node_causes count (place + 1) (before + count n) ns)) s x
      go true b e = refl
      go false true e = refl
      go false false e = e

  junctions_listed : {A : Type 0} (count : A → ℕ) (place before : ℕ) (js : List A) (x : WriteLeft)
      → after (check_junctions count place before js) s x
      ≡ after (decided (junction_causes count place before js)) s x
  unfolding check_junctions junction_causes
  junctions_listed count place before [] x = refl
  junctions_listed count place before (j ∷ js) x =
      go (ltb 65535 before) (junctions_listed count (place + 1) (before + count j) js x)
    where
      go : (b : Bool)
          → after (check_junctions count (place + 1) (before + count j) js) s x
          ≡ after (decided (junction_causes count (place + 1) (before + count j) js)) s x
          → after (unless b (Err (ValuesStartTooHigh place)) (check_junctions count (place + 1) (before + count j) js))
          s x
          ≡ after (decided (when b (ValuesStartTooHigh place)
          ∷ junction_causes count (place + 1) (before + count j) js)) s x
      go true e = refl
      go false e = e

module _ (m : Memory) (s : List ℕ) where
  abbrev made : List Cause
  made =
      when (over_limit m.ynd) AtLimit
      ∷ when (maps_cut m.ynd.heightmap_count (held m).junctions) WrongSize
      ∷ []

  abbrev nodes : List Cause
  nodes = node_causes (λ n. length (links_in (held m).links n)) 0 0 (held m).nodes

  abbrev junctions : List Cause
  junctions = junction_causes (λ j. length (values_in (held m).heights j)) 0 0 (held m).junctions

  abbrev refs : List Cause
  refs = when (ltb 65535 m.ynd.ref_count) TooManyRefs ∷ []

  abbrev lists : List Cause
  lists = short_causes m.ynd (length m.nodes) (length m.links) (length m.junctions) (length m.heights) (length m.refs)

  abbrev section : List Cause
  section = when (ltb (length s) (length (written (held m)))) (TooShort lent.Section) ∷ []

  abbrev done : WriteLeft
  done = left (Ok (length (written (held m)))) (written (held m) ++ drop (length (written (held m))) s)

  -- what `write` answers and leaves
  pub write_listed : write_call m s ≡ after (decided (write_causes m s)) s done
  unfolding write_call write_held write_causes held short_of stored
  write_listed =
      let x₆ = after (decided section) s done in
      let x₅ = after (decided lists) s x₆ in
      let x₄ = after (decided refs) s x₅ in
      let x₃ = after (decided junctions) s x₄ in
      let x₂ = after (decided nodes) s x₃ in
      let a₁ = made ++ nodes in
      let a₂ = a₁ ++ junctions in
      let a₃ = a₂ ++ (refs ++ lists) in
      one s (over_limit m.ynd) AtLimit (or_else (maps_cut m.ynd.heightmap_count (held m).junctions)
      (refuse WrongSize s) (after (check_nodes (λ n. length (links_in (held m).links n)) 0 0 (held m).nodes) s
      (after (check_junctions (λ j. length (values_in (held m).heights j)) 0 0 (held m).junctions) s
      (or_else (ltb 65535 m.ynd.ref_count) (refuse TooManyRefs s) (after (decided lists) s (stored (held m) s))))))
      ∙ ap (after (decided (when (over_limit m.ynd) AtLimit ∷ [])) s)
      (one s (maps_cut m.ynd.heightmap_count (held m).junctions) WrongSize
      (after (check_nodes (λ n. length (links_in (held m).links n)) 0 0 (held m).nodes) s
      (after (check_junctions (λ j. length (values_in (held m).heights j)) 0 0 (held m).junctions) s
      (or_else (ltb 65535 m.ynd.ref_count) (refuse TooManyRefs s) (after (decided lists) s (stored (held m) s)))))
      ∙ ap (after (decided (when (maps_cut m.ynd.heightmap_count (held m).junctions) WrongSize ∷ [])) s)
      (ap (after (check_nodes (λ n. length (links_in (held m).links n)) 0 0 (held m).nodes) s)
      (ap (after (check_junctions (λ j. length (values_in (held m).heights j)) 0 0 (held m).junctions) s)
      (one s (ltb 65535 m.ynd.ref_count) TooManyRefs (after (decided lists) s (stored (held m) s))
      ∙ ap (λ (x : WriteLeft). after (decided refs) s (after (decided lists) s x))
      (one s (ltb (length s) (length (written (held m)))) (TooShort lent.Section) done))
      ∙ junctions_listed s (λ j. length (values_in (held m).heights j)) 0 0 (held m).junctions x₄)
      ∙ nodes_listed s (λ n. length (links_in (held m).links n)) 0 0 (held m).nodes x₃))
      ∙ sym (joined s (when (over_limit m.ynd) AtLimit ∷ [])
      (when (maps_cut m.ynd.heightmap_count (held m).junctions) WrongSize ∷ []) x₂)
      ∙ sym (joined s made nodes x₃)
      ∙ sym (joined s a₁ junctions x₄)
      ∙ ap (after (decided a₂) s) (sym (joined s refs lists x₆))
      ∙ sym (joined s a₂ (refs ++ lists) x₆)
      ∙ sym (joined s a₃ section done)
