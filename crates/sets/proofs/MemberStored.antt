-- A member's memory stored in the six lists: of the members that one alone is another.
use Prim.Native.Nat.{ℕ, zero, suc, ◌+◌, ◌≤◌, ◌<◌}
use native.Mathlib.Omega.{arith}
use mathlib.Core.Path.{◌≡◌, refl, ap, sym, ◌∙◌}
use mathlib.Core.List.{List, [], ◌∷◌, ◌++◌, append_assoc}
use lib.Dec.{eqb}
use lib.ListN.{length, get_or, set, take, drop, length-drop, length-set}
use lib.Seq.{length-take-le, take_at, drop_at, take-add, drop-drop, map-set_same, get_or-set_same, get_or-set_other}
use borrow.Author.Tests.{eqb-true, eqb-false}
use Rattle.records.specs.Put.{put}
use Rattle.records.proofs.Puts.{put_start}
use Rattle.cells.specs.Memory.{Memory, memory}
use Rattle.cells.proofs.Sequences.Tests.{by_test}
use Rattle.sets.specs.MemberList.{no_memory, member_at}
use Rattle.sets.specs.CellSet.{CellSet, word, ynd_of, words_at, total, parts_of, parts_in, members_of}
use Rattle.sets.specs.Leave.{start_of}
use Rattle.sets.specs.SetParts.{Holds, count_of}
use Rattle.sets.specs.SetStored.{entry_with, with_member}
use Rattle.sets.proofs.PartLaws.{words_many, parts_many, count_of_law}
use Rattle.sets.proofs.CellSetLaws.{members_many, member_at_law, members_same}
use Rattle.sets.proofs.MembersJoined.{ynd_entry}

-- a list put in the place of a part as long
parts_put : {A : Type 0} (cs : List ℕ) (l x : List A) (j : ℕ) → j < length cs → total cs ≤ length l
    → length x ≡ get_or cs j 0
    → parts_of cs (put l (total (take j cs)) x) ≡ set (parts_of cs l) j x
unfolding parts_of total put
parts_put [] l x j lt h e = absurd (omega arith)
parts_put (c ∷ cs) l x zero lt h e =
    let same : put l 0 x ≡ x ++ drop (length x) l = put_start l x in
    λ i. (ap (take c) same ∙ take_at x (drop (length x) l) c e) i
    ∷ parts_of cs ((ap (drop c) same ∙ drop_at x (drop (length x) l) c e ∙ ap (λ (n : ℕ). drop n l) e) i)
parts_put {A} (c ∷ cs) l x (suc j) lt h e =
    let s = total (take j cs) in
    let far : length (take c l) ≡ c = length-take-le c l (omega arith) in
    let X = put (drop c l) s x in
    let n : c + s + length x ≡ c + (s + length x) = omega arith in
    let tail : drop (c + s + length x) l ≡ drop (s + length x) (drop c l) = ap (λ (k : ℕ). drop k l) n
    ∙ sym (drop-drop (s + length x) c l) in
    let same : put l (c + s) x ≡ take c l ++ X =
    (λ i. take-add c s l i ++ x ++ tail i)
    ∙ ap (λ (r : List A). r ++ drop (s + length x) (drop c l)) (append_assoc (take c l) (take s (drop c l)) x)
    ∙ append_assoc (take c l) (take s (drop c l) ++ x) (drop (s + length x) (drop c l)) in
    λ i. (ap (take c) same ∙ take_at (take c l) X c far) i
    ∷ (ap (λ (r : List A). parts_of cs (drop c r)) same
    ∙ ap (parts_of cs) (drop_at (take c l) X c far)
    ∙ parts_put cs (drop c l) x j (omega arith) (omega (arith, length-drop c l)) e) i

-- m's lists are as long as the parts of the member j, and its struct is one in memory
pub record FitsMember (ws : List (List ℕ)) (j : ℕ) (m : Memory) : Type 0 where
  pub nodes_fit : length m.nodes ≡ count_of 15 ws j
  pub links_fit : length m.links ≡ count_of 16 ws j
  pub junctions_fit : length m.junctions ≡ count_of 17 ws j
  pub heights_fit : length m.heights ≡ count_of 18 ws j
  pub refs_fit : length m.refs ≡ count_of 19 ws j
  pub seven : length m.ynd.unknowns ≡ 7

module _ (y : CellSet) (j : ℕ) (lt : j < length y.members) where
  abbrev ws : List (List ℕ)
  ws = y.members

  module _ (m : Memory) where
    abbrev W : List ℕ
    W = entry_with m.ynd (get_or ws j [])

    words_kept : (k : ℕ) → word k W ≡ word k (get_or ws j []) → words_at k (set ws j W) ≡ words_at k ws
    unfolding words_at
    words_kept k e = map-set_same (word k) ws j W [] e

    parts_new : {A : Type 0} (size : ℕ) (l x : List A) → word size W ≡ word size (get_or ws j [])
        → total (words_at size ws) ≤ length l → length x ≡ count_of size ws j
        → parts_of (words_at size (set ws j W)) (put l (start_of size ws j) x)
        ≡ set (parts_of (words_at size ws) l) j x
    parts_new {A} size l x e f n =
        ap (λ (cs : List ℕ). parts_of cs (put l (start_of size ws j) x)) (words_kept size e)
        ∙ parts_put (words_at size ws) l x j (rw words_many lt) f (n ∙ sym (count_of_law size ws j))

    at_own : {A : Type 0} (size : ℕ) (l x : List A) → word size W ≡ word size (get_or ws j [])
        → total (words_at size ws) ≤ length l → length x ≡ count_of size ws j
        → get_or (parts_of (words_at size (set ws j W)) (put l (start_of size ws j) x)) j [] ≡ x
    at_own {A} size l x e f n =
        ap (λ (ps : List (List A)). get_or ps j []) (parts_new size l x e f n)
        ∙ get_or-set_same (parts_of (words_at size ws) l) j x []
        (let z : j < length (parts_of (words_at size ws) l) =
        omega (arith, parts_many (words_at size ws) l, words_many size ws) in z)

    at_other : {A : Type 0} (size : ℕ) (l x : List A) (i : ℕ) → (i ≡ j → ⊥) → word size W ≡ word size (get_or ws j [])
        → total (words_at size ws) ≤ length l → length x ≡ count_of size ws j
        → get_or (parts_of (words_at size (set ws j W)) (put l (start_of size ws j) x)) i []
        ≡ get_or (parts_of (words_at size ws) l) i []
    at_other {A} size l x i ne e f n =
        ap (λ (ps : List (List A)). get_or ps i []) (parts_new size l x e f n)
        ∙ get_or-set_other (parts_of (words_at size ws) l) j i x [] ne

    module _ (h : Holds y) (fits : FitsMember ws j m) where
      abbrev y⁺ : CellSet
      y⁺ = with_member y j m

      own : member_at (members_of y⁺) j ≡ m
      unfolding with_member parts_in
      own =
          member_at_law y⁺ j (let z : j < length (set ws j W) = omega (arith, length-set ws j W) in z)
          ∙ (λ i. memory ((ap ynd_of (get_or-set_same ws j W [] lt) ∙ ynd_entry m.ynd _ fits.seven) i)
          (at_own 15 y.nodes m.nodes refl h.nodes_hold.fit fits.nodes_fit i)
          (at_own 16 y.links m.links refl h.links_hold.fit fits.links_fit i)
          (at_own 17 y.junctions m.junctions refl h.junctions_hold.fit fits.junctions_fit i)
          (at_own 18 y.heights m.heights refl h.heights_hold.fit fits.heights_fit i)
          (at_own 19 y.refs m.refs refl h.refs_hold.fit fits.refs_fit i))

      other : (i : ℕ) → i < length ws → (i ≡ j → ⊥) → member_at (members_of y⁺) i ≡ member_at (members_of y) i
      unfolding with_member parts_in
      other i li ne =
          member_at_law y⁺ i (let z : i < length (set ws j W) = omega (arith, length-set ws j W) in z)
          ∙ (λ k. memory (ynd_of (get_or-set_other ws j i W [] ne k))
          (at_other 15 y.nodes m.nodes i ne refl h.nodes_hold.fit fits.nodes_fit k)
          (at_other 16 y.links m.links i ne refl h.links_hold.fit fits.links_fit k)
          (at_other 17 y.junctions m.junctions i ne refl h.junctions_hold.fit fits.junctions_fit k)
          (at_other 18 y.heights m.heights i ne refl h.heights_hold.fit fits.heights_fit k)
          (at_other 19 y.refs m.refs i ne refl h.refs_hold.fit fits.refs_fit k))
          ∙ sym (member_at_law y i li)

      many : length (members_of y⁺) ≡ length ws
      unfolding with_member
      many = members_many y⁺ ∙ length-set ws j W

      pub member_stored : members_of (with_member y j m) ≡ set (members_of y) j m
      member_stored =
          let target = set (members_of y) j m in
          let there : j < length (members_of y) = omega (arith, members_many y) in
          members_same (members_of y⁺) target (many ∙ sym (length-set (members_of y) j m ∙ members_many y))
          (λ i li.
          let li⁺ : i < length ws = omega (arith, many) in
          by_test (eqb i j)
          (λ t. ap (member_at (members_of y⁺)) (eqb-true i j t) ∙ own
          ∙ sym (get_or-set_same (members_of y) j m no_memory there) ∙ ap (member_at target) (sym (eqb-true i j t)))
          (λ f. other i li⁺ (eqb-false i j f)
          ∙ sym (get_or-set_other (members_of y) j i m no_memory (eqb-false i j f))))
