-- What a choice names. Of public functions the contracts of `link_at` and `own_number` alone,
-- which walks share, cite it.
use Rattle.std.specs.Prelude.{ℕ, ◌+◌, cond, nat_lt, List, get_or, slice_get, Some, None, Result, Ok, Err}
use Rattle.std.specs.declared.option.Option.{Option}
use Rattle.cells.specs.Area.{belongs}
use Rattle.cells.specs.Nodes.{first_area, no_entry}
use Rattle.cells.specs.declared.node_entry.NodeEntry.{NodeEntry}
use Rattle.cells.specs.declared.link.PathLink.{PathLink}
use Rattle.walks.specs.declared.walk.End.{End}
use Rattle.walks.specs.declared.walk.End.TheVariants.{NoLink, Left}

-- the link that the byte b chooses at the node n
unfoldable pub chosen : List PathLink → NodeEntry → ℕ → Option PathLink
chosen links n b = cond (nat_lt b n.link_count) (slice_get links (n.link_id + b)) None

-- the number that a link of the area own names, or how it ends the walk
abbrev pub number_led : ℕ → Option PathLink → Result ℕ End
number_led own (Some l) = cond (belongs own l.area_id) (Ok l.node_id) (Err (Left l.area_id l.node_id))
number_led own None = Err NoLink

-- of the link that the byte b chooses at the place p
unfoldable pub own_number : List NodeEntry → List PathLink → ℕ → ℕ → Result ℕ End
own_number nodes links p b = number_led (first_area nodes) (chosen links (get_or nodes p no_entry) b)
