-- Section 4, accessors of a link.
use Rattle.std.specs.Prelude.{ℕ, Bool, ◌&&◌, ltb}
use Rattle.cells.specs.declared.link.PathLink.{PathLink}
use Rattle.cells.specs.Access.{field_of}

-- a link to a node, with no flags and no length
unfoldable pub link_to : ℕ → ℕ → PathLink
link_to area node = record { area_id = area; node_id = node; flags0 = 0; flags1 = 0; flags2 = 0; length = 0 }

unfoldable pub with_flags2 : PathLink → ℕ → PathLink
with_flags2 l f = record l { flags2 = f }

-- lanes in both directions, by the byte that counts them
unfoldable pub two_way : ℕ → Bool
two_way f = ltb 0 (field_of 5 3 f) && ltb 0 (field_of 2 3 f)
