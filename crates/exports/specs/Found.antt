-- What a caller in C gets of the calls that give a value: an entry, a count, a length written, a lookup, a walk, a
-- verdict.
use Rattle.std.specs.Prelude.{ℕ, Bool, true, false, List, [], ◌∷◌, ◌++◌, Option, Some, None, Result}
use Rattle.numbers.specs.declared.refusal.Refusal.{Refusal}
use Rattle.cells.specs.Edit.{Stored}
use Rattle.cells.specs.declared.counts.Counts.{Counts}
use Rattle.walks.specs.declared.shown.SeenJunction.{SeenJunction}
use Rattle.walks.specs.declared.shown.SeenLink.{SeenLink}
use Rattle.walks.specs.declared.shown.SeenNode.{SeenNode}
use Rattle.cells.specs.declared.node_entry.NodeEntry.{NodeEntry}
use Rattle.walks.specs.declared.walk.End.{End}
use Rattle.walks.specs.declared.walk.End.TheVariants as end
use Rattle.walks.specs.declared.walk.Walked.{Walked}
use Rattle.exports.specs.Answers.{answer_number, answer_place, value_or}

-- number and place of the answer, and one thing that a lent cell holds: what is new, or what it held
pub record Told (A : Type 0) : Type 0 where
  pub number : ℕ
  pub place : ℕ
  pub value : A

abbrev pub told : {A : Type 0} → ℕ → ℕ → A → Told A
told n p v = record { number = n; place = p; value = v }

-- what is made of the value where the call gives one; a refusal leaves what the cell held
abbrev pub told_of : {A B : Type 0} → Result A Refusal → (A → B) → B → Told B
told_of r f old = told (answer_number r) (answer_place r) (value_or r f old)

-- the value itself
abbrev pub value_told : {A : Type 0} → Result A Refusal → A → Told A
value_told r old = told_of r (λ x. x) old

-- the list after an entry was stored
abbrev pub stored_told : {A : Type 0} → Stored A → Told (List A)
stored_told s = told (answer_number s.answer) (answer_place s.answer) s.list

-- whether something was found, and where; nothing found leaves the place lent for it as it was
pub record Whether (A : Type 0) : Type 0 where
  pub found : Bool
  pub at : A

abbrev pub whether : {A : Type 0} → Bool → A → Whether A
whether f a = record { found = f; at = a }

abbrev pub found_at : {A : Type 0} → A → Option A → Whether A
found_at at (Some i) = whether true i
found_at at None = whether false at

abbrev pub whether_told : {A : Type 0} → Result (Option A) Refusal → Bool → A → Told (Whether A)
whether_told r found at = told_of r (found_at at) (whether found at)

-- counts of nodes, links, junctions, heightmap values, refs
abbrev pub counts_words : Counts → List ℕ
counts_words k = k.nodes ∷ k.links ∷ k.junctions ∷ k.heights ∷ k.refs ∷ []

-- an end's number, and for *left* the area and the number named
abbrev pub end_words : End → List ℕ
end_words end.Done = 0 ∷ 0 ∷ 0 ∷ []
end_words end.NoLink = 1 ∷ 0 ∷ 0 ∷ []
end_words (end.Left a k) = 2 ∷ a ∷ k ∷ []
end_words end.NoNode = 3 ∷ 0 ∷ 0 ∷ []

-- how a walk ended, and how many places it visited
pub record Trail : Type 0 where
  pub end : List ℕ
  pub count : ℕ

abbrev pub trail : List ℕ → ℕ → Trail
trail e n = record { end = e; count = n }

abbrev pub walk_told : Result Walked Refusal → List ℕ → ℕ → Told Trail
walk_told r end count = told_of r (λ w. trail (end_words w.end) w.count) (trail end count)

abbrev pub is_place : Option ℕ → ℕ
is_place (Some i) = 1
is_place None = 0

abbrev pub place_or_zero : Option ℕ → ℕ
place_or_zero (Some i) = i
place_or_zero None = 0

-- area, street, position bits, flags0 to flags5, the five unused fields
abbrev pub entry_words : NodeEntry → List ℕ
entry_words n =
    n.area_id ∷ n.street_name ∷ n.position.x ∷ n.position.y ∷ n.position.z
    ∷ n.flags0 ∷ n.flags1 ∷ n.flags2 ∷ n.flags3 ∷ n.flags4 ∷ n.flags5
    ∷ n.unused0 ∷ n.unused1 ∷ n.unused2 ∷ n.unused3 ∷ n.unused4 ∷ []

-- and behind them link count, 1 if there is a junction and else 0, the junction's place
abbrev pub seen_words : SeenNode → List ℕ
seen_words s = entry_words s.node ++ (s.link_count ∷ is_place s.junction ∷ place_or_zero s.junction ∷ [])

-- the bits of corner and heights, width, height
abbrev pub seen_junction_words : SeenJunction → List ℕ
seen_junction_words j = j.x ∷ j.y ∷ j.min_z ∷ j.max_z ∷ j.width ∷ j.height ∷ []

-- 1, three flags and length where there is such a link, else five zeros
abbrev pub seen_link_words : Option SeenLink → List ℕ
seen_link_words (Some l) = 1 ∷ l.flags0 ∷ l.flags1 ∷ l.flags2 ∷ l.length ∷ []
seen_link_words None = 0 ∷ 0 ∷ 0 ∷ 0 ∷ 0 ∷ []
