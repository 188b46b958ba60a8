-- What the call `sound` answers, in the order of its tests; it says yes exactly where the cell is sound.
use Prim.Native.Nat.{ℕ, ◌≤◌, ◌<◌}
use native.Mathlib.Omega.{arith}
use mathlib.Core.Path.{◌≡◌, refl, ap, sym, ◌∙◌}
use mathlib.Core.Bool.{Bool, true, false}
use mathlib.Core.List.{List}
use lib.Dec.{ltb}
use lib.ListN.{length, take}
use borrow.Author.Tests.{lt-ltb, le-ltb}
use Rattle.numbers.specs.Refusals.{decided}
use Rattle.numbers.proofs.Refusing.{not_refused}
use Rattle.cells.specs.Memory.{Memory, over_limit, nodes_causes}
use Rattle.cells.specs.Cell.{numbers}
use Rattle.cells.specs.CellOf.{cell_of}
use Rattle.cells.proofs.Sequences.Tests.{by_test}
use Rattle.walks.specs.Sound.{sound}
use Rattle.walks.specs.SoundCall.{verdict, indexed, SoundLeft, sound_left, sound_call}
use Rattle.walks.specs.SoundParts.{all_numbers, none_or}
use Rattle.walks.proofs.SoundWords.{numbers_same, judged, sound_words}
use Rattle.walks.proofs.ScratchLaws.{all_front}
use Rattle.std.specs.Prelude.{Result, Ok, Err}
use Rattle.std.specs.Result.{IsErrAnd}
use Rattle.numbers.specs.declared.refusal.Refusal.{Refusal}
use Rattle.numbers.specs.declared.refusal.Refusal.TheVariants.{TooShort, AtLimit}
use Rattle.numbers.specs.declared.refusal.Lent.TheVariants as lent

module _ (m : Memory) (scratch : List ℕ) where
  nodes_cause : {r : Refusal} → Err r ≡ decided (nodes_causes m.ynd (length m.nodes))
      → sound_left (Err r) scratch ≡ sound_call m scratch
  unfolding sound_call nodes_causes
  nodes_cause {r} e =
      by_test (over_limit m.ynd)
      (λ t.
      let q : Err r ≡ Err AtLimit = rw t at e in
      let z : r ≡ AtLimit = cc in
      rw t (ap (λ (c : Refusal). sound_left (Err c) scratch) z))
      (λ f.
      by_test (ltb (length m.nodes) m.ynd.node_count)
      (λ t.
      let q : Err r ≡ Err (TooShort lent.Nodes) = rw (f, t) at e in
      let z : r ≡ TooShort lent.Nodes = cc in
      rw (f, t) (ap (λ (c : Refusal). sound_left (Err c) scratch) z))
      (λ g. not_refused (rw (f, g) at e)))

  pub nodes_refused : {cause : Refusal} → Err cause ≡ decided (nodes_causes m.ynd (length m.nodes))
      → (r : Result Bool Refusal) → IsErrAnd r (λ x. x ≡ cause) → sound_left r scratch ≡ sound_call m scratch
  nodes_refused e (Err x) is = ap (λ (c : Refusal). sound_left (Err c) scratch) is ∙ nodes_cause e
  nodes_refused e (Ok x) is = absurd is

module _ (m : Memory) (scratch : List ℕ) (within : over_limit m.ynd ≡ false) where
  module _ (nodes : m.ynd.node_count ≤ length m.nodes) where
    pub links_short : length m.links < m.ynd.link_count → sound_left (Err (TooShort lent.Links)) scratch
        ≡ sound_call m scratch
    unfolding sound_call
    links_short h = rw (within, le-ltb _ _ nodes, lt-ltb _ _ h)

    module _ (links : m.ynd.link_count ≤ length m.links) where
      pub refs_short : length m.refs < m.ynd.ref_count → sound_left (Err (TooShort lent.Refs)) scratch
          ≡ sound_call m scratch
      unfolding sound_call
      refs_short h = rw (within, le-ltb _ _ nodes, le-ltb _ _ links, lt-ltb _ _ h)

      module _ (refs : m.ynd.ref_count ≤ length m.refs) where
        pub scratch_short : length scratch < 65536 → sound_left (Err (TooShort lent.Scratch)) scratch
            ≡ sound_call m scratch
        unfolding sound_call
        scratch_short h = rw (within, le-ltb _ _ nodes, le-ltb _ _ links, le-ltb _ _ refs, lt-ltb _ _ h)

        -- the answer is the cell's soundness
        pub says : 65536 ≤ length scratch → sound_call m scratch
            ≡ sound_left (verdict (sound (cell_of m))) (indexed (numbers (cell_of m).nodes) 0 scratch)
        unfolding sound_call
        says h = rw (within, le-ltb _ _ nodes, le-ltb _ _ links, le-ltb _ _ refs, le-ltb _ _ h)

        pub judged_call : 65536 ≤ length scratch → (a : Result Bool Refusal) (v : Bool) (s : List ℕ) → a ≡ verdict v
            → v ≡ none_or (take m.ynd.node_count m.nodes) (judged m)
            → s ≡ indexed (all_numbers (take m.ynd.node_count m.nodes)) 0 scratch → sound_left a s
            ≡ sound_call m scratch
        judged_call h a v s ea ev es =
            let answer : a ≡ verdict (sound (cell_of m)) = ea ∙ ap verdict (ev ∙ sound_words m nodes) in
            let after : s ≡ indexed (numbers (cell_of m).nodes) 0 scratch = es
            ∙ ap (λ (ks : List ℕ). indexed ks 0 scratch)
            (all_front m.ynd.node_count m.nodes ∙ sym (numbers_same m)) in
            (λ i. sound_left (answer i) (after i)) ∙ sym (says h)

module _ (m : Memory) (scratch : List ℕ) where
  -- a refusal says neither yes nor no
  by_cases : (P : SoundLeft → Type 0) → P (sound_left (Err AtLimit) scratch)
      → P (sound_left (Err (TooShort lent.Nodes)) scratch) → P (sound_left (Err (TooShort lent.Links)) scratch)
      → P (sound_left (Err (TooShort lent.Refs)) scratch)
      → P (sound_left (Err (TooShort lent.Scratch)) scratch)
      → P (sound_left (verdict (sound (cell_of m))) (indexed (numbers (cell_of m).nodes) 0 scratch))
      → P (sound_call m scratch)
  unfolding sound_call
  by_cases P o a b c d e =
      by_test (over_limit m.ynd) (λ t. rw t o) (λ f₀.
      by_test (ltb (length m.nodes) m.ynd.node_count) (λ t. rw (f₀, t) a) (λ f₁.
      by_test (ltb (length m.links) m.ynd.link_count) (λ t. rw (f₀, f₁, t) b) (λ f₂.
      by_test (ltb (length m.refs) m.ynd.ref_count) (λ t. rw (f₀, f₁, f₂, t) c) (λ f₃.
      by_test (ltb (length scratch) 65536) (λ t. rw (f₀, f₁, f₂, f₃, t) d) (λ f₄. rw (f₀, f₁, f₂, f₃, f₄) e)))))

  -- a yes means that the cell is sound, and a no that it is not
  pub says_yes : (sound_call m scratch).answer ≡ (Ok true) → sound (cell_of m) ≡ true
  says_yes = by_cases (λ x. x.answer ≡ (Ok true) → sound (cell_of m) ≡ true) never never never never never
      (yes (sound (cell_of m)))
    where
      never : {P : Type 0} {r : Refusal} → ◌≡◌ {A = Result Bool Refusal} (Err r) (Ok true) → P
      never e = let z : ◌≡◌ {A = ℕ} 0 1 = cc in absurd (omega arith)

      yes : (b : Bool) → verdict b ≡ (Ok true) → b ≡ true
      yes true e = refl
      yes false e = let z : ◌≡◌ {A = ℕ} 0 1 = cc in absurd (omega arith)

  pub says_no : (sound_call m scratch).answer ≡ (Ok false) → sound (cell_of m) ≡ false
  says_no = by_cases (λ x. x.answer ≡ (Ok false) → sound (cell_of m) ≡ false) never never never never never
      (none (sound (cell_of m)))
    where
      never : {P : Type 0} {r : Refusal} → ◌≡◌ {A = Result Bool Refusal} (Err r) (Ok false) → P
      never e = let z : ◌≡◌ {A = ℕ} 0 1 = cc in absurd (omega arith)

      none : (b : Bool) → verdict b ≡ (Ok false) → b ≡ false
      none true e = let z : ◌≡◌ {A = ℕ} 0 1 = cc in absurd (omega arith)
      none false e = refl

-- for the function
pub ruleset sound_cases = (nodes_refused, links_short, refs_short, scratch_short, judged_call)
