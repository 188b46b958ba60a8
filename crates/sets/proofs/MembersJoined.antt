-- What joins stands behind the others, which are as they were, and holds the cell that was joined.
use Rattle.sets.proofs.SetLists.{firsts, firsts_all}
use Rattle.std.proofs.lemmas.List.{take_more_set, length-take, map-append}
use Prim.Native.Nat.{ℕ, ◌+◌, ◌-◌, ◌≤◌, ◌<◌}
use native.Mathlib.Omega.{arith}
use mathlib.Core.Path.{◌≡◌, refl, ap, sym, ◌∙◌}
use mathlib.Core.List.{List, [], ◌∷◌, ◌++◌, map, append_assoc}
use lib.Dec.{ltb}
use lib.ListN.{length, get_or, set, take, drop, length-append, length-drop, take-append-drop, get_or-append}
use lib.Seq.{length-take-le, take_at, drop_at, get_or-append_seam}
use borrow.Author.Tests.{ltb-true, ltb-false}
use Rattle.cells.specs.Memory.{Memory, memory}
use Rattle.cells.specs.Nodes.{first_area}
use Rattle.cells.specs.CellOf.{node_with, junction_with, nodes_of, junctions_of, refs_of, cell_of}
use Rattle.cells.specs.declared.ynd.Ynd.{Ynd}
use Rattle.cells.proofs.Sequences.Tests.{by_test}
use Rattle.sets.specs.MemberList.{no_memory, member_at}
use Rattle.sets.specs.CellSet.{CellSet, cell_set, word, ynd_of, words_at, total, parts_of, parts_in, members_of}
use Rattle.sets.specs.Leave.{SetLeft, used}
use Rattle.sets.specs.Join.{entry_of, stored, set_lengths, cell_lengths, part_of_cell, joined_member, with_cell}
use Rattle.sets.specs.Join.{join_cell}
use Rattle.cells.specs.declared.counts.Counts.{Counts}
use Rattle.sets.proofs.PartLaws.{words_many, parts_many, split}
use Rattle.sets.proofs.CellSetLaws.{members_many, member_at_law, members_same}
use Rattle.sets.proofs.JoinLaws.{Fitting, AllFit, may}
use Rattle.sets.proofs.JoinDone.{asked, left, call_is, front_is}
use Rattle.std.specs.Prelude.{Ok, Err}
use Rattle.numbers.specs.declared.refusal.Refusal.{Refusal}
use Rattle.numbers.specs.Refusals.{Answer}

-- ---- one list

module _ {A : Type 0} where
  parts_append : (cs : List ℕ) (c : ℕ) (l n t : List A) → total cs ≤ length l → length n ≡ c
      → parts_of (cs ++ (c ∷ [])) (take (total cs) l ++ (n ++ t)) ≡ parts_of cs l ++ (n ∷ [])
  unfolding parts_of total
  parts_append [] c l n t h e = λ i. take_at n t c e i ∷ []
  parts_append (d ∷ cs) c l n t h e =
      let far : length (take d l) ≡ d = length-take-le d l (omega arith) in
      let X = take (total cs) (drop d l) ++ (n ++ t) in
      let s = split d (total cs) l (n ++ t) in
      λ i. (ap (take d) s ∙ take_at (take d l) X d far) i
      ∷ (ap (λ (r : List A). parts_of (cs ++ (c ∷ [])) (drop d r)) s
      ∙ ap (parts_of (cs ++ (c ∷ []))) (drop_at (take d l) X d far)
      ∙ parts_append cs c (drop d l) n t (omega (arith, length-drop d l)) e) i

  -- what is stored at the front of a part, with what stands behind it there
  module _ (at size n : ℕ) (new l : List A) (in_cell : n ≤ length new) (in-part : n ≤ size)
      (in_list : at + size ≤ length l) where
    new_long : length (take n new) ≡ n
    new_long = length-take-le n new in_cell

    pub part_long : length (part_of_cell at size n new l) ≡ size
    unfolding part_of_cell
    part_long = omega (
      arith,
      length-append (take n new) (take (size - n) (drop (at + n) l)),
      new_long,
      length-take-le (size - n) (drop (at + n) l) (omega (arith, length-drop (at + n) l)),
    )

    pub stored_part : stored at (take n new) l ≡ take at l
        ++ (part_of_cell at size n new l ++ drop (size - n) (drop (at + n) l))
    unfolding stored part_of_cell
    stored_part =
        ap (λ (k : ℕ). take at l ++ (take n new ++ drop (at + k) l)) new_long
        ∙ ap (λ (t : List A). take at l ++ (take n new ++ t)) (sym (take-append-drop (size - n) (drop (at + n) l)))
        ∙ ap (λ (t : List A). take at l ++ t)
        (sym (append_assoc (take n new) (take (size - n) (drop (at + n) l)) (drop (size - n) (drop (at + n) l))))

    -- what the count says of the part is what was joined
    pub front_new : take n (part_of_cell at size n new l) ≡ take n new
    unfolding part_of_cell
    front_new = take_at (take n new) (take (size - n) (drop (at + n) l)) n new_long

-- the set's entries, and one more
pub entries_more : (l : List (List ℕ)) (count : ℕ) (w : List ℕ) → length (take count l) < length l
    → take (length (take count l) + 1) (set l (length (take count l)) w) ≡ take count l ++ (w ∷ [])
entries_more l count w lt =
    take_more_set l (length (take count l)) w lt
    ∙ ap (λ (t : List (List ℕ)). t ++ (w ∷ [])) (front_is l count (length (take count l)) (length-take count l))

pub words_more : (k : ℕ) (ws : List (List ℕ)) (w : List ℕ) → words_at k (ws ++ (w ∷ [])) ≡ words_at k ws
    ++ (word k w ∷ [])
unfolding words_at
words_more k ws w = map-append (word k) ws (w ∷ [])

-- seven words are their list
seven : (u : List ℕ) → length u ≡ 7 → get_or u 0 0 ∷ get_or u 1 0 ∷ get_or u 2 0 ∷ get_or u 3 0 ∷ get_or u 4 0
    ∷ get_or u 5 0 ∷ get_or u 6 0 ∷ [] ≡ u
unfolding firsts
seven u h = firsts_all 7 0 u (sym h)

pub ynd_entry : (y : Ynd) (sizes : Counts) → length y.unknowns ≡ 7 → ynd_of (entry_of y sizes) ≡ y
unfolding ynd_of
ynd_entry y sizes h = λ i. record {
  vft = y.vft;
  vehicle_node_count = y.vehicle_node_count;
  ped_node_count = y.ped_node_count;
  unknowns = seven y.unknowns h i;
  node_count = y.node_count;
  link_count = y.link_count;
  junction_count = y.junction_count;
  heightmap_count = y.heightmap_count;
  ref_count = y.ref_count;
}

-- ---- the members

module _ (count : ℕ) (y : CellSet) (m : Memory) (sizes : Counts) (u : length m.ynd.unknowns ≡ 7)
    (fit : AllFit (take count y.members) (set_lengths y) (cell_lengths m) m.ynd sizes) where
  abbrev ws : List (List ℕ)
  ws = take count y.members

  abbrev W : List ℕ
  W = entry_of m.ynd sizes

  abbrev sum : ℕ → ℕ
  sum size = total (words_at size ws)

  parts⁺ : {A : Type 0} (size room n : ℕ) (new l : List A) → Fitting size ws (length l) (length new) n room → room
      ≡ word size W
      → parts_of (words_at size (ws ++ (W ∷ []))) (stored (sum size) (take n new) l) ≡ parts_of (words_at size ws) l
      ++ (part_of_cell (sum size) room n new l ∷ [])
  parts⁺ {A} size room n new l g e =
      (λ i. parts_of (words_more size ws W i) (stored_part (sum size) room n new l g.in_cell g.in_part g.in_list i))
      ∙ parts_append (words_at size ws) (word size W) l (part_of_cell (sum size) room n new l)
      (drop (room - n) (drop (sum size + n) l))
      (let z : sum size ≤ length l = omega (arith, g.in_list) in z)
      (part_long (sum size) room n new l g.in_cell g.in_part g.in_list ∙ e)

  at_old : {A : Type 0} (size room n : ℕ) (new l : List A) → Fitting size ws (length l) (length new) n room → room
      ≡ word size W → (i : ℕ) → i < length ws
      → get_or (parts_of (words_at size (ws ++ (W ∷ []))) (stored (sum size) (take n new) l)) i []
      ≡ get_or (parts_of (words_at size ws) l) i []
  at_old {A} size room n new l g e i li =
      ap (λ (ps : List (List A)). get_or ps i []) (parts⁺ size room n new l g e)
      ∙ get_or-append (parts_of (words_at size ws) l) (part_of_cell (sum size) room n new l ∷ []) [] i
      (let z : i < length (parts_of (words_at size ws) l) = omega
      (arith, parts_many (words_at size ws) l, words_many size ws) in z)

  at_new : {A : Type 0} (size room n : ℕ) (new l : List A) → Fitting size ws (length l) (length new) n room → room
      ≡ word size W
      → get_or (parts_of (words_at size (ws ++ (W ∷ []))) (stored (sum size) (take n new) l)) (length ws) []
      ≡ part_of_cell (sum size) room n new l
  at_new {A} size room n new l g e =
      ap (λ (ps : List (List A)). get_or ps (length ws) []) (parts⁺ size room n new l g e)
      ∙ ap (λ (k : ℕ). get_or (parts_of (words_at size ws) l ++ (part_of_cell (sum size) room n new l ∷ [])) k [])
      (sym (parts_many (words_at size ws) l ∙ words_many size ws))
      ∙ get_or-append_seam (parts_of (words_at size ws) l) (part_of_cell (sum size) room n new l) [] []

  abbrev m⁺ : Memory
  m⁺ = joined_member ws y m sizes

  abbrev y⁺ : CellSet
  y⁺ = cell_set (ws ++ (W ∷ []))
      (stored (sum 15) (take m.ynd.node_count m.nodes) y.nodes)
      (stored (sum 16) (take m.ynd.link_count m.links) y.links)
      (stored (sum 17) (take m.ynd.junction_count m.junctions) y.junctions)
      (stored (sum 18) (take m.ynd.heightmap_count m.heights) y.heights)
      (stored (sum 19) (take m.ynd.ref_count m.refs) y.refs)

  abbrev before : CellSet
  before = used count y

  long⁺ : length (ws ++ (W ∷ [])) ≡ length ws + 1
  long⁺ = length-append ws (W ∷ [])

  all⁺ : members_of y⁺ ≡ members_of before ++ (m⁺ ∷ [])
  unfolding parts_in
  all⁺ = members_same (members_of y⁺) (members_of before ++ (m⁺ ∷ []))
      (members_many y⁺ ∙ long⁺ ∙ sym (length-append (members_of before) (m⁺ ∷ [])
      ∙ ap (λ (n : ℕ). n + 1) (members_many before)))
      (λ i li.
      let li⁺ : i < length (ws ++ (W ∷ [])) = omega (arith, members_many y⁺) in
      by_test (ltb i (length ws))
      (λ t.
      let lt = ltb-true i (length ws) t in
      member_at_law y⁺ i li⁺
      ∙ (λ k. memory (ynd_of (get_or-append ws (W ∷ []) [] i lt k))
      (at_old 15 sizes.nodes m.ynd.node_count m.nodes y.nodes fit.nodes refl i lt k)
      (at_old 16 sizes.links m.ynd.link_count m.links y.links fit.links refl i lt k)
      (at_old 17 sizes.junctions m.ynd.junction_count m.junctions y.junctions fit.junctions refl i lt k)
      (at_old 18 sizes.heights m.ynd.heightmap_count m.heights y.heights fit.heights refl i lt k)
      (at_old 19 sizes.refs m.ynd.ref_count m.refs y.refs fit.refs refl i lt k))
      ∙ sym (member_at_law before i lt)
      ∙ sym (get_or-append (members_of before) (m⁺ ∷ []) no_memory i
      (let z : i < length (members_of before) = omega (arith, members_many before) in z)))
      (λ f.
      let at : i ≡ length ws = omega (arith, ltb-false i (length ws) f, long⁺, li⁺) in
      ap (member_at (members_of y⁺)) at
      ∙ member_at_law y⁺ (length ws) (let z : length ws < length (ws ++ (W ∷ [])) = omega (arith, long⁺) in z)
      ∙ (λ k. memory ((ap ynd_of (get_or-append_seam ws W [] []) ∙ ynd_entry m.ynd sizes u) k)
      (at_new 15 sizes.nodes m.ynd.node_count m.nodes y.nodes fit.nodes refl k)
      (at_new 16 sizes.links m.ynd.link_count m.links y.links fit.links refl k)
      (at_new 17 sizes.junctions m.ynd.junction_count m.junctions y.junctions fit.junctions refl k)
      (at_new 18 sizes.heights m.ynd.heightmap_count m.heights y.heights fit.heights refl k)
      (at_new 19 sizes.refs m.ynd.ref_count m.refs y.refs fit.refs refl k))
      ∙ sym (get_or-append_seam (members_of before) m⁺ [] no_memory)
      ∙ ap (λ (k : ℕ). get_or (members_of before ++ (m⁺ ∷ [])) k no_memory) (members_many before ∙ sym at)))

  -- the members after it
  pub members_joined : length ws < length y.members
      → members_of (used (length ws + 1) (with_cell y (used count y) m sizes)) ≡ members_of before ++ (m⁺ ∷ [])
  unfolding with_cell
  members_joined lt =
      ap (λ (w : List (List ℕ)). members_of (cell_set w y⁺.nodes y⁺.links y⁺.junctions y⁺.heights y⁺.refs))
      (entries_more y.members count W lt) ∙ all⁺

  -- what joined is the cell that was joined
  pub cell_joined : cell_of m⁺ ≡ cell_of m
  unfolding cell_of nodes_of junctions_of refs_of
  cell_joined =
      let n = front_new (sum 15) sizes.nodes m.ynd.node_count m.nodes y.nodes fit.nodes.in_cell fit.nodes.in_part
      fit.nodes.in_list in
      let l = front_new (sum 16) sizes.links m.ynd.link_count m.links y.links fit.links.in_cell fit.links.in_part
      fit.links.in_list in
      let j = front_new (sum 17) sizes.junctions m.ynd.junction_count m.junctions y.junctions fit.junctions.in_cell
      fit.junctions.in_part fit.junctions.in_list in
      let h = front_new (sum 18) sizes.heights m.ynd.heightmap_count m.heights y.heights fit.heights.in_cell
      fit.heights.in_part fit.heights.in_list in
      let r = front_new (sum 19) sizes.refs m.ynd.ref_count m.refs y.refs fit.refs.in_cell fit.refs.in_part
      fit.refs.in_list in
      λ i. record {
        nodes = map (node_with (l i)) (n i);
        junctions = map (junction_with (h i)) (j i);
        refs = (r i);
        vehicles = m.ynd.vehicle_node_count;
        peds = m.ynd.ped_node_count;
        vft = m.ynd.vft;
        words = m.ynd.unknowns;
      }

-- ---- the call

module _ (count : ℕ) (y : CellSet) (m : Memory) (sizes : Counts) (u : length m.ynd.unknowns ≡ 7) where
  abbrev area : ℕ
  area = first_area (take m.ynd.node_count m.nodes)

  abbrev Stored : SetLeft → Type 0
  Stored r = (members_of (used r.count r.lists) ≡ members_of (used count y)
      ++ (joined_member (take count y.members) y m sizes ∷ []))
      × (cell_of (joined_member (take count y.members) y m sizes) ≡ cell_of m)

  after : (a : Answer) → a ≡ asked count y m sizes area → (left count y m sizes a).answer ≡ (Ok tt)
      → Stored (left count y m sizes a)
  after (Err x) t e = let z : ◌≡◌ {A = ℕ} 0 1 = cc in absurd (omega arith)
  after (Ok tt) t e =
      let k = may (take count y.members) y.nodes (set_lengths y) (cell_lengths m) m.ynd sizes area
      (length y.members) t in
      (members_joined count y m sizes u k.fit k.entry, cell_joined count y m sizes u k.fit)

  -- an accepted call: the members are those before it and the cell, in parts of its own
  pub join_done : (join_cell count y m sizes).answer ≡ (Ok tt) → Stored (join_cell count y m sizes)
  join_done e =
      let s = call_is count y m sizes area refl in
      rw (← s) (after (asked count y m sizes area) refl (ap (λ (r : SetLeft). r.answer) s ∙ e))

  -- a refused one leaves all six lists, and the number of members
  pub join_refused : (x : Refusal) → (join_cell count y m sizes).answer ≡ Err x
      → ((join_cell count y m sizes).lists ≡ y) × ((join_cell count y m sizes).count ≡ length (take count y.members))
  join_refused x e =
      let s = call_is count y m sizes area refl in
      rw (← s) (go (asked count y m sizes area) (ap (λ (r : SetLeft). r.answer) s ∙ e))
    where
      go : (a : Answer) → (left count y m sizes a).answer ≡ Err x → ((left count y m sizes a).lists ≡ y)
          × ((left count y m sizes a).count ≡ length (take count y.members))
      go (Ok tt) e = let z : ◌≡◌ {A = ℕ} 0 1 = cc in absurd (omega arith)
      go (Err n) e = (refl, refl)
