-- Section 4, accessors of a node.
use Rattle.std.specs.Prelude.{ℕ, Bool, ◌||◌}
use Rattle.numbers.specs.declared.math.Vec3.{Vec3}
use Rattle.cells.specs.declared.node.PathNode.{PathNode}
use Rattle.cells.specs.Access.{has_bit}

-- a node at a position, with no street, no flags, no links and, T-10, zeros in its unused fields
unfoldable pub new_node : ℕ → ℕ → Vec3 → PathNode
new_node area node p = record {
  area_id = area;
  node_id = node;
  street_name = 0;
  position = p;
  flags0 = 0;
  flags1 = 0;
  flags2 = 0;
  flags3 = 0;
  flags4 = 0;
  flags5 = 0;
  link_id = 0;
  link_count = 0;
  unused0 = 0;
  unused1 = 0;
  unused2 = 0;
  unused3 = 0;
  unused4 = 0;
}

-- T-10: its unused fields stay
abbrev pub with_position : PathNode → Vec3 → PathNode
with_position n p = record n { position = p }

abbrev pub with_flags0 : PathNode → ℕ → PathNode
with_flags0 n f = record n { flags0 = f }

abbrev pub with_flags1 : PathNode → ℕ → PathNode
with_flags1 n f = record n { flags1 = f }

abbrev pub with_flags2 : PathNode → ℕ → PathNode
with_flags2 n f = record n { flags2 = f }

abbrev pub with_flags3 : PathNode → ℕ → PathNode
with_flags3 n f = record n { flags3 = f }

abbrev pub with_flags4 : PathNode → ℕ → PathNode
with_flags4 n f = record n { flags4 = f }

abbrev pub with_flags5 : PathNode → ℕ → PathNode
with_flags5 n f = record n { flags5 = f }

-- either of the two disabled bits of flags2
unfoldable pub disabled : ℕ → Bool
disabled f = has_bit 7 f || has_bit 4 f
