-- An accepted edit changes its member alone, as the cell's own edit changes the cell; and the set's limit on nodes
-- holds whatever is drawn.
use Prim.Native.Nat.{ℕ, zero, suc, ◌+◌, ◌≤◌, ◌<◌}
use native.Mathlib.Omega.{arith}
use mathlib.Core.Path.{◌≡◌, refl, ap, sym, ◌∙◌}
use mathlib.Core.Bool.{Bool, true, false}
use mathlib.Core.List.{List, [], ◌∷◌}
use lib.Dec.{leb}
use lib.ListN.{length, set, length-set}
use borrow.Author.Tests.{leb-false}
use Rattle.numbers.specs.Refusals.{Cause, when, decided}
use Rattle.numbers.proofs.Refusing.{not_refused, passed}
use Rattle.numbers.specs.declared.math.Vec3.{Vec3}
use Rattle.cells.specs.Memory.{Memory, memory, Left}
use Rattle.cells.specs.Memory.{unless as otherwise}
use Rattle.cells.specs.Add.{with_counts, more_nodes, done, add_node}
use Rattle.sets.specs.MemberList.{node_count, nodes_together, over_set, member_at, unless}
use Rattle.sets.specs.CellSet.{CellSet, members_of, lack, set_causes}
use Rattle.sets.specs.SetStored.{member_in, ask_causes, with_member}
use Rattle.sets.specs.MemberEdit.{SetEdited, set_edited, lists_left, edited_in, edit_by, add_causes, add_node_member}
use Rattle.sets.proofs.CellSetLaws.{members_many}
use Rattle.sets.proofs.MemberStored.{FitsMember, member_stored}
use Rattle.sets.proofs.MemberPartLaws.{May, may, ask_held, member_fits}
use Rattle.std.specs.Prelude.{Ok, Err}
use Rattle.numbers.specs.declared.refusal.Refusal.{Refusal}
use Rattle.numbers.specs.Refusals.{Answer}
use Rattle.numbers.specs.declared.refusal.Refusal.TheVariants.{NoSuchPlace, AtLimit}
use Rattle.cells.specs.declared.node_entry.NodeEntry.{NodeEntry}

module _ (causes : List Cause) (y : CellSet) (j : ℕ) (edit : Memory → Left) where
  abbrev m⁺ : Left
  m⁺ = edit (member_in y j)

  abbrev called : Answer → SetEdited
  called a = unless a (λ cause. set_edited (Err cause) y) (edited_in y j m⁺)

  -- a refused edit leaves all six lists
  pub edit_refused : (x : Refusal) → (edit_by causes y j edit).answer ≡ Err x → (edit_by causes y j edit).lists ≡ y
  unfolding edit_by
  edit_refused x e = go (decided causes) e
    where
      go : (a : Answer) → (called a).answer ≡ Err x → (called a).lists ≡ y
      go (Ok tt) e = ap (λ (a : Answer). lists_left a y j m⁺.memory) e
      go (Err n) e = refl

  -- an accepted one stores what the cell's own edit left
  pub edit_done : (edit_by causes y j edit).answer ≡ (Ok tt)
      → (decided causes ≡ (Ok tt)) × (m⁺.answer ≡ (Ok tt))
      × ((edit_by causes y j edit).lists ≡ with_member y j m⁺.memory)
  unfolding edit_by
  edit_done e = go (decided causes) e
    where
      go : (a : Answer) → (called a).answer ≡ (Ok tt)
          → (a ≡ (Ok tt)) × (m⁺.answer ≡ (Ok tt)) × ((called a).lists ≡ with_member y j m⁺.memory)
      go (Ok tt) e = (refl, e, ap (λ (a : Answer). lists_left a y j m⁺.memory) e)
      go (Err n) e = let z : ◌≡◌ {A = ℕ} 0 1 = cc in absurd (omega arith)

-- the members after it
pub edited_members : (y : CellSet) (j : ℕ) (causes : List Cause) (edit : Memory → Left) → May y j
    → FitsMember y.members j (edit (member_in y j)).memory → (edit_by causes y j edit).answer ≡ (Ok tt)
    → members_of (edit_by causes y j edit).lists ≡ set (members_of y) j (edit (member_in y j)).memory
edited_members y j causes edit k f e =
    ap members_of (edit_done causes y j edit e).2
    ∙ member_stored y j k.there (edit (member_in y j)).memory k.whole f

-- ---- "together at most 65,536 nodes"

together_set : (ms : List Memory) (j : ℕ) (m : Memory) → j < length ms
    → nodes_together (set ms j m) + node_count (member_at ms j) ≡ nodes_together ms + node_count m
unfolding nodes_together
together_set [] j m lt = absurd (omega arith)
together_set (d ∷ ds) zero m lt = omega arith
together_set (d ∷ ds) (suc j) m lt = omega (arith, together_set ds j m (omega arith))

room_asked : (a b c : Bool) (later : List Cause)
    → decided (when a NoSuchPlace ∷ when b AtLimit ∷ when c AtLimit ∷ later) ≡ (Ok tt)
    → decided (when a NoSuchPlace ∷ when b AtLimit ∷ later) ≡ (Ok tt)
room_asked true b c later e = e
room_asked false true c later e = e
room_asked false false true later e = not_refused e
room_asked false false false later e = e

-- who may add a node may make every call on the member
pub add_asked : (y : CellSet) (j : ℕ) → decided (add_causes y j) ≡ (Ok tt) → decided (ask_causes y j) ≡ (Ok tt)
unfolding add_causes ask_causes set_causes
add_asked y j e =
    room_asked (leb (length y.members) j) (over_set (members_of y)) (leb 65536 (nodes_together (members_of y)))
    (lack y) e

module _ (y : CellSet) (j area : ℕ) (at : Vec3) where
  abbrev add : Memory → Left
  add m = add_node m area at

  abbrev more : Memory → NodeEntry → Memory
  more m w = memory (more_nodes m.ynd) (set m.nodes m.ynd.node_count w) m.links m.junctions m.heights m.refs

  more_fits : (m : Memory) (w : NodeEntry) → FitsMember y.members j m
      → FitsMember y.members j (more m w) × (node_count (more m w) ≡ node_count m + 1)
  unfolding with_counts
  more_fits m w f = (
    record {
      nodes_fit = length-set m.nodes m.ynd.node_count w ∙ f.nodes_fit;
      links_fit = f.links_fit;
      junctions_fit = f.junctions_fit;
      heights_fit = f.heights_fit;
      refs_fit = f.refs_fit;
      seven = f.seven;
    },
    refl,
  )

  added : (m : Memory) → FitsMember y.members j m → (add m).answer ≡ (Ok tt)
      → FitsMember y.members j (add m).memory × (node_count (add m).memory ≡ node_count m + 1)
  unfolding add_node
  added m f e = go _ _ e
    where
      go : (a : Answer) (w : NodeEntry) → (otherwise a m (done (more m w))).answer ≡ (Ok tt)
          → FitsMember y.members j (otherwise a m (done (more m w))).memory
          × (node_count (otherwise a m (done (more m w))).memory ≡ node_count m + 1)
      go (Ok tt) w e = more_fits m w f
      go (Err n) w e = let z : ◌≡◌ {A = ℕ} 0 1 = cc in absurd (omega arith)

  -- the limit holds whatever is drawn
  pub total_held : (add_node_member y j area at).answer ≡ (Ok tt)
      → nodes_together (members_of (add_node_member y j area at).lists) ≤ 65536
  unfolding add_causes
  total_held e =
      let m = member_in y j in
      let r = edit_done (add_causes y j) y j add e in
      let below = leb-false 65536 (nodes_together (members_of y)) (passed (add_causes y j) 2 r.0) in
      let k = may y j (sym (ask_held y j ∙ add_asked y j r.0)) in
      let a = added m (member_fits y j k.there k.whole) r.1 in
      let all = edited_members y j (add_causes y j) add k a.0 e in
      let there : j < length (members_of y) = omega (arith, k.there, members_many y) in
      rw all (omega (arith, below, a.1, together_set (members_of y) j (add m).memory there))
