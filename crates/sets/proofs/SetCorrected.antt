-- The links of the other members corrected in the one list that holds them all.
use Prim.Native.Nat.{ℕ, zero, suc, ◌+◌, ◌≤◌, ◌<◌}
use native.Mathlib.Omega.{arith}
use native.Mathlib.Nat.{add-zero, zero-add}
use mathlib.Core.Path.{◌≡◌, refl, ap, sym, ◌∙◌}
use mathlib.Core.Bool.{false}
use mathlib.Core.List.{List, [], ◌∷◌}
use lib.Dec.{eqb}
use lib.ListN.{length, get_or, set, take, drop, length-append, length-drop, length-set, take-append-drop}
use lib.Seq.{length-take-le, take_at, drop_at, get_or-set_same, get_or-set_other}
use borrow.Author.Tests.{eqb-true, eqb-false, eq-eqb}
use Rattle.cells.specs.Memory.{Memory, memory}
use Rattle.cells.proofs.Sequences.Tests.{by_test}
use Rattle.sets.specs.Members.{map_from}
use Rattle.sets.specs.MemberList.{no_memory, member_at, cells_of}
use Rattle.sets.specs.SetRenumber.{Change, change_of, correct_memory}
use Rattle.sets.specs.CellSet.{CellSet, cell_set, word, ynd_of, words_at, total, parts_of, parts_in, members_of}
use Rattle.sets.specs.SetParts.{Holds, count_of}
use Rattle.sets.specs.SetStored.{member_in}
use Rattle.sets.specs.RenumberMember.{correct_part, correct_parts, others_corrected}
use Rattle.sets.proofs.SetLists.{length_from, from_map}
use Rattle.sets.proofs.CellSetLaws.{members_many, member_at_law, members_same}
use Rattle.sets.proofs.RoomLaws.{members_over}
use Rattle.sets.proofs.CorrectLaws.{part_long}
use Rattle.sets.proofs.SetKept.{Usable}
use Rattle.cells.specs.declared.link.PathLink.{PathLink}

module _ (x : Change) where
  two_lengths : (c : ℕ) (l : List PathLink) → length (take c l) + length (drop c l) ≡ length l
  two_lengths c l = sym (length-append (take c l) (drop c l)) ∙ ap length (take-append-drop c l)

  pub links_long : (i : ℕ) (ws : List (List ℕ)) (l : List PathLink) → length (correct_parts x i ws l) ≡ length l
  unfolding correct_parts
  links_long i [] l = refl
  links_long i (w ∷ ws) l =
      let c = word 16 w in
      let p = correct_part x i (word 11 w) (take c l) in
      let r = correct_parts x (suc i) ws (drop c l) in
      omega (
        arith,
        length-append p r,
        part_long x i (word 11 w) (take c l),
        links_long (suc i) ws (drop c l),
        two_lengths c l,
      )

  -- each part is corrected where it stands
  pub links_parts : (i : ℕ) (ws : List (List ℕ)) (l : List PathLink) (k : ℕ) → k < length ws
      → total (words_at 16 ws) ≤ length l
      → get_or (parts_of (words_at 16 ws) (correct_parts x i ws l)) k []
      ≡ correct_part x (i + k) (count_of 11 ws k) (get_or (parts_of (words_at 16 ws) l) k [])
  unfolding correct_parts words_at parts_of total
  links_parts i [] l k lt h = absurd (omega arith)
  links_parts i (w ∷ ws) l zero lt h =
      let c = word 16 w in
      let p = correct_part x i (word 11 w) (take c l) in
      let far : length p ≡ c = part_long x i (word 11 w) (take c l) ∙ length-take-le c l (omega arith) in
      take_at p (correct_parts x (suc i) ws (drop c l)) c far
      ∙ ap (λ (q : ℕ). correct_part x q (word 11 w) (take c l)) (sym (add-zero i))
  links_parts i (w ∷ ws) l (suc k) lt h =
      let c = word 16 w in
      let p = correct_part x i (word 11 w) (take c l) in
      let far : length p ≡ c = part_long x i (word 11 w) (take c l) ∙ length-take-le c l (omega arith) in
      let next : suc i + k ≡ i + suc k = omega arith in
      ap (λ (t : List PathLink). get_or (parts_of (words_at 16 ws) t) k [])
      (drop_at p (correct_parts x (suc i) ws (drop c l)) c far)
      ∙ links_parts (suc i) ws (drop c l) k (omega arith) (omega (arith, length-drop c l))
      ∙ ap (λ (q : ℕ). correct_part x q (count_of 11 ws k) (get_or (parts_of (words_at 16 ws) (drop c l)) k [])) next

module _ (y : CellSet) (j : ℕ) (u : Usable y) where
  abbrev x : Change
  x = change_of (cells_of (members_of y)) j

  abbrev pub z : CellSet
  z = cell_set y.members y.nodes (correct_parts x 0 y.members y.links) y.junctions y.heights y.refs

  pub corrected_is : others_corrected y j ≡ z
  unfolding others_corrected
  corrected_is = refl

  pub corrected_holds : Holds z
  corrected_holds = record {
    nodes_hold = u.whole.nodes_hold;
    links_hold = rw (links_long x 0 y.members y.links) u.whole.links_hold;
    junctions_hold = u.whole.junctions_hold;
    heights_hold = u.whole.heights_hold;
    refs_hold = u.whole.refs_hold;
  }

  pub corrected_usable : Usable z
  corrected_usable = record { within = members_over z ∙ sym (members_over y) ∙ u.within; whole = corrected_holds }

  part_at : (i : ℕ) → i < length y.members
      → get_or (parts_of (words_at 16 y.members) z.links) i []
      ≡ correct_part x i (count_of 11 y.members i) (get_or (parts_of (words_at 16 y.members) y.links) i [])
  part_at i li =
      links_parts x 0 y.members y.links i li u.whole.links_hold.fit
      ∙ ap (λ (k : ℕ). correct_part x k (count_of 11 y.members i)
      (get_or (parts_of (words_at 16 y.members) y.links) i [])) (zero-add i)

  -- the member that is renumbered is as it was
  pub own_as_was : j < length y.members → member_in z j ≡ member_in y j
  unfolding parts_in
  own_as_was lt =
      member_at_law z j lt
      ∙ ap (λ (l : List PathLink). memory (ynd_of (get_or y.members j []))
      (get_or (parts_of (words_at 15 y.members) y.nodes) j []) l
      (get_or (parts_of (words_at 17 y.members) y.junctions) j [])
      (get_or (parts_of (words_at 18 y.members) y.heights) j [])
      (get_or (parts_of (words_at 19 y.members) y.refs) j []))
      (part_at j lt ∙ rw (eq-eqb j j refl) refl)
      ∙ sym (member_at_law y j lt)

  -- the links of the others are corrected
  pub other_corrected : (i : ℕ) → i < length y.members → eqb i j ≡ false
      → member_in z i ≡ correct_memory x i (member_in y i)
  unfolding parts_in correct_memory ynd_of
  other_corrected i li ne =
      member_at_law z i li
      ∙ ap (λ (l : List PathLink). memory (ynd_of (get_or y.members i []))
      (get_or (parts_of (words_at 15 y.members) y.nodes) i []) l
      (get_or (parts_of (words_at 17 y.members) y.junctions) i [])
      (get_or (parts_of (words_at 18 y.members) y.heights) i [])
      (get_or (parts_of (words_at 19 y.members) y.refs) i []))
      (part_at i li ∙ rw ne refl)
      ∙ ap (correct_memory x i) (sym (member_at_law y i li))

  -- with another memory in its place, the members are those that renumbering it leaves
  pub all_corrected : (d : Memory) → j < length y.members
      → set (members_of z) j d ≡ set (map_from (correct_memory x) 0 (members_of y)) j d
  all_corrected d lt =
      let ms = members_of y in
      let ds = map_from (correct_memory x) 0 ms in
      let many : length ds ≡ length y.members = length_from (correct_memory x) 0 ms ∙ members_many y in
      members_same (set (members_of z) j d) (set ds j d)
      (length-set (members_of z) j d ∙ members_many z ∙ sym many ∙ sym (length-set ds j d))
      (λ i li.
      let lz : i < length y.members = omega (arith, length-set (members_of z) j d, members_many z) in
      by_test (eqb i j)
      (λ t.
      let e = eqb-true i j t in
      ap (member_at (set (members_of z) j d)) e
      ∙ get_or-set_same (members_of z) j d no_memory
      (let q : j < length (members_of z) = omega (arith, members_many z) in q)
      ∙ sym (get_or-set_same ds j d no_memory (let q : j < length ds = omega (arith, many) in q))
      ∙ ap (member_at (set ds j d)) (sym e))
      (λ f.
      get_or-set_other (members_of z) j i d no_memory (eqb-false i j f)
      ∙ other_corrected i lz f
      ∙ sym (from_map (correct_memory x) 0 ms i no_memory no_memory
      (let q : i < length ms = omega (arith, members_many y) in q)
      ∙ ap (λ (k : ℕ). correct_memory x k (member_at ms i)) (zero-add i))
      ∙ sym (get_or-set_other ds j i d no_memory (eqb-false i j f))))
