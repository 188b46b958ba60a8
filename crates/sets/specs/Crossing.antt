-- T-09: a walk that crosses the members of a set.
use Rattle.std.specs.Prelude.{ℕ, List}
use Rattle.std.proofs.Math.Option.{Option, none, some}
use Rattle.cells.specs.Cell.{Cell, numbers}
use Rattle.cells.specs.Lookup.{first_with, find}
use Rattle.walks.specs.Walk.{Next, to, stop, next, see, link_at, shown_of, World, Trail, walk_in}
use Rattle.walks.specs.declared.walk.End.TheVariants.{Done, NoLink, Left, NoNode}
use Rattle.sets.specs.Members.{cell_at, areas}
use Rattle.sets.specs.declared.cross.Location as at

-- a member and a place in it
abbrev pub Location : Type 0
Location = at.Location

abbrev pub location : ℕ → ℕ → Location
location i p = record { member = i; place = p }

-- *no-node* if the number isn't there
abbrev pub arrive_in : ℕ → Option ℕ → Next Location
arrive_in j (some q) = to (location j q)
arrive_in j none = stop NoNode

-- A link that left its cell, to the number k of the area a: it leads to what `node` finds in the member whose area it
-- names; *left* with the link's own words if no member has it.
abbrev pub enter : List Cell → ℕ → ℕ → Option ℕ → Next Location
enter cs a k (some j) = arrive_in j (find (numbers (cell_at cs j).nodes) k)
enter cs a k none = stop (Left a k)

-- "A walk that left its cell goes on in the member whose area the link names, after the cell's own rule has had its
-- say."
abbrev pub on_from : List Cell → ℕ → Next ℕ → Next Location
on_from cs i (to q) = to (location i q)
on_from cs i (stop (Left a k)) = enter cs a k (first_with (areas cs) a)
on_from cs i (stop Done) = stop Done
on_from cs i (stop NoLink) = stop NoLink
on_from cs i (stop NoNode) = stop NoNode

-- where a choice leads: as a walk in its cell goes, and on where that one leaves
unfoldable pub next_in : List Cell → Location → ℕ → Next Location
next_in cs s b = on_from cs s.member (next (cell_at cs s.member).nodes s.place b)

-- what is shown of a node and of a link is what a walk in its cell shows
abbrev pub world_in : List Cell → World Location
world_in cs = record {
  next = next_in cs;
  see = λ s. see (cell_at cs s.member) s.place;
  link = λ s b. shown_of (link_at (cell_at cs s.member).nodes s.place b);
}

-- the crossing walk, over a list of choices, from a member and a place
unfoldable pub crossing : List Cell → List ℕ → Location → Trail Location
crossing cs = walk_in (world_in cs)
