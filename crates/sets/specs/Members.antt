-- T-09: a set of cells, its members in the order of joining, counted from 0; and which of them a link names.
use Rattle.std.specs.Prelude.{ℕ, suc, Bool, true, ◌&&◌, cond, List, [], ◌∷◌, map, get_or}
use Rattle.std.proofs.Math.Option.{Option, some}
use Rattle.cells.specs.Area.{belongs}
use Rattle.cells.specs.Cell.{Cell, first_of}
use Rattle.cells.specs.Lookup.{first_with}

-- what stands at a number that no member has
abbrev pub no_cell : Cell
no_cell = record { nodes = []; junctions = []; refs = []; vehicles = 0; peds = 0; vft = 0; words = [] }

abbrev pub cell_at : List Cell → ℕ → Cell
cell_at cs i = get_or cs i no_cell

-- T-09: a member's area is its own area, its first node's; "An empty member's area is 0."
abbrev pub area_of : Cell → ℕ
area_of c = first_of c.nodes

abbrev pub areas : List Cell → List ℕ
areas cs = map area_of cs

-- T-09: the member that a link of the area a in the member i names. First the cell's own rule has its say; then it is
-- the one whose area equals a in full, of several the one that joined first.
unfoldable pub member_for : List ℕ → ℕ → ℕ → Option ℕ
member_for all i a = cond (belongs (get_or all i 0) a) (some i) (first_with all a)

-- ---- lists, by place

-- f k x, f (k + 1) y, .. for the elements x, y, ..
unfoldable pub map_from : {A B : Type 0} → (ℕ → A → B) → ℕ → List A → List B
map_from f k [] = []
map_from f k (x ∷ xs) = f k x ∷ map_from f (suc k) xs

-- f k x, f (k + 1) y, .. all hold
unfoldable pub every_from : {A : Type 0} → (ℕ → A → Bool) → ℕ → List A → Bool
every_from f k [] = true
every_from f k (x ∷ xs) = f k x && every_from f (suc k) xs
