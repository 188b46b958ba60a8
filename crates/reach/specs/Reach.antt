-- T-01, T-08: which nodes lie within a radius of a point, the nearest first, and which is the nearest. All is counted
-- in quarter-metre steps.
use Rattle.std.specs.Prelude.{ℕ, zero, suc, ◌+◌, ◌*◌, ◌<◌, ◌≡◌, ◌⊎◌, Bool, true, false, ◌&&◌, ◌||◌, cond, List, []}
use Rattle.std.specs.Prelude.{◌∷◌, ◌++◌, leb, ltb, eqb, ℤ, nat_abs, ◌-ℤ◌, length, drop, get_or}
use Rattle.std.proofs.Math.Option.{Option as Found, none, some}
use Rattle.numbers.specs.Refusals.{Cause, Answer, when, decided, unless}
use Rattle.numbers.specs.Positions.{quantised}
use Rattle.numbers.specs.declared.position.Quantised.{Quantised}
use Rattle.cells.specs.Lists.{join_to}
use Rattle.cells.specs.Order.{one_if}
use Rattle.cells.specs.declared.ynd.Ynd.{Ynd}
use Rattle.cells.specs.Memory.{nodes_causes}
use Rattle.reach.specs.Sorted.{sorted}
use Rattle.std.specs.Prelude.{Option, Result, Ok, Err, Some, None}
use Rattle.numbers.specs.declared.refusal.Refusal.{Refusal}
use Rattle.numbers.specs.declared.refusal.Refusal.TheVariants.{TooShort}
use Rattle.numbers.specs.declared.refusal.Lent.TheVariants as lent
use Rattle.reach.specs.declared.reach.NearestNode.{NearestNode}
use Rattle.cells.specs.declared.node_entry.NodeEntry.{NodeEntry}
use Rattle.cells.specs.EntryForms.{metres_in}
use Rattle.cells.specs.Nodes.{no_entry}

-- ---- distances

-- T-01: a node's stored x and y: the steps that writing would store
unfoldable pub stored : NodeEntry → Quantised
stored n = quantised (metres_in n.position)

unfoldable pub square : ℤ → ℕ
square z = nat_abs z * nat_abs z

-- T-01: the squared distance between two points, as a whole number; it passes 32 bits
unfoldable pub square_distance : ℤ → ℤ → ℤ → ℤ → ℕ
square_distance x y a b = square (x -ℤ a) + square (y -ℤ b)

-- that of a node from the point x, y
unfoldable pub squared : ℤ → ℤ → NodeEntry → ℕ
squared x y n = square_distance x y (stored n).x (stored n).y

-- the squared distance of the node at a place
unfoldable pub distances : ℤ → ℤ → List NodeEntry → ℕ → ℕ
distances x y nodes p = squared x y (get_or nodes p no_entry)

-- ---- places, by their squared distances d

abbrev pub only_if : Bool → ℕ → List ℕ
only_if true p = p ∷ []
only_if false p = []

-- T-01: the places below n at most the radius away
unfoldable pub within : (ℕ → ℕ) → ℕ → ℕ → List ℕ
within d radius n = join_to (λ p. only_if (leb (d p) (radius * radius)) p) n

-- p may stand before q: it is less far, or as far and no higher place
unfoldable pub near_first : (ℕ → ℕ) → ℕ → ℕ → Bool
near_first d p q = ltb (d p) (d q) || (eqb (d p) (d q) && leb p q)

-- T-08: the same places, ascending by squared distance, equal distances by place
unfoldable pub ordered : (ℕ → ℕ) → List ℕ → List ℕ
ordered d places = sorted (near_first d) places

-- the nearer of a place found and a later one: the later one only where it is nearer
abbrev pub nearer : (ℕ → ℕ) → Found ℕ → ℕ → Found ℕ
nearer d none p = some p
nearer d (some q) p = cond (ltb (d p) (d q)) (some p) (some q)

-- T-01: the nearest of the places below n, the lowest where distances are equal
unfoldable pub nearest_of : (ℕ → ℕ) → ℕ → Found ℕ
nearest_of d zero = none
nearest_of d (suc n) = nearer d (nearest_of d n) n

-- ---- the calls. Causes of refusal, in their order: 14 a struct over a limit, 7 at 0 nodes, 7 at 8 the list of places

-- an answer, and the list of places after it
pub record Left : Type 0 where
  pub answer : Result ℕ Refusal
  pub places : List ℕ

abbrev pub left : Result ℕ Refusal → List ℕ → Left
left a places = record { answer = a; places = places }

-- what a call leaves that lists l; a refusal changes nothing
abbrev pub listed : Answer → List ℕ → List ℕ → Left
listed (Ok _) l places = left (Ok (length l)) (l ++ drop (length l) places)
listed (Err cause) l places = left (Err cause) places

unfoldable pub within_causes : Ynd → ℕ → ℕ → ℕ → List Cause
within_causes ynd nodes count room = nodes_causes ynd nodes ++ (when (ltb room count) (TooShort lent.List) ∷ [])

-- the places to list
unfoldable pub places_within : Ynd → List NodeEntry → ℤ → ℤ → ℕ → List ℕ
places_within ynd nodes x y radius =
    ordered (distances x y nodes) (within (distances x y nodes) radius ynd.node_count)

-- T-01: they go into the first entries, in T-08's order; later entries stay; a refusal changes nothing
unfoldable pub within_call : Ynd → List NodeEntry → ℤ → ℤ → ℕ → List ℕ → Left
within_call ynd nodes x y radius places =
    let l = places_within ynd nodes x y radius in
    listed (decided (within_causes ynd (length nodes) (length l) (length places))) l places

abbrev pub nearest_answer : (ℕ → ℕ) → Found ℕ → Result (Option NearestNode) Refusal
nearest_answer d none = Ok None
nearest_answer d (some p) = Ok (Some (record { place = p; square = d p }))

-- T-01: the nearest node's place with its squared distance, or none in an empty cell
unfoldable pub nearest_call : Ynd → List NodeEntry → ℤ → ℤ → Result (Option NearestNode) Refusal
nearest_call ynd nodes x y =
    unless (decided (nodes_causes ynd (length nodes)))
    (nearest_answer (distances x y nodes) (nearest_of (distances x y nodes) ynd.node_count))

-- ---- for the laws

-- there is a node at p, and it lies at most the radius away
abbrev pub near : Ynd → List NodeEntry → ℤ → ℤ → ℕ → ℕ → Bool
near ynd nodes x y radius p = ltb p ynd.node_count && leb (distances x y nodes p) (radius * radius)

-- T-08: p comes before q: it is less far, or as far and a lower place
abbrev pub Precedes : (ℕ → ℕ) → ℕ → ℕ → Type 0
Precedes d p q = (d p < d q) ⊎ ((d p ≡ d q) × (p < q))

-- how often p stands in a list
unfoldable pub times : ℕ → List ℕ → ℕ
times p [] = 0
times p (x ∷ xs) = one_if (eqb x p) (times p xs)
