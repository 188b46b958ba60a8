-- What the loops go by, and no public contract: steps counted from the lowest, so that nothing in a loop is signed.
use Rattle.std.specs.Prelude.{ℕ, ◌+◌, ◌-◌, ◌*◌, cond, List, ltb, ℤ, pos, nat_abs, ◌+ℤ◌, get_or}
use Rattle.reach.specs.Reach.{stored}
use Rattle.reach.specs.declared.distance.Point.{Point}
use Rattle.cells.specs.declared.node_entry.NodeEntry.{NodeEntry}
use Rattle.cells.specs.Nodes.{no_entry}

-- a step, counted from the lowest
unfoldable pub raised_step : ℤ → ℕ
raised_step z = nat_abs (z +ℤ pos 32768)

unfoldable pub square_apart : ℕ → ℕ → ℕ
square_apart a b = (a - b + (b - a)) * (a - b + (b - a))

unfoldable pub far_from : ℕ → ℕ → NodeEntry → ℕ
far_from a b n = square_apart a (raised_step (stored n).x) + square_apart b (raised_step (stored n).y)

-- the same as `distances` (law `far_is`)
unfoldable pub far : ℕ → ℕ → List NodeEntry → ℕ → ℕ
far a b nodes p = far_from a b (get_or nodes p no_entry)

-- the distances of its nodes from a point
abbrev pub distances_from : Point → ℕ → ℕ
distances_from s = far s.x s.y s.nodes.now

-- a number as far as a limit
abbrev pub bounded : ℕ → ℕ → ℕ
bounded limit d = cond (ltb d limit) d limit
