-- The call: refusals in their order (14, 12, 8 to 11, 7), then the section. Refs are counted by the struct, and so
-- are the values that heightmaps lie in.
use Rattle.std.specs.Prelude.{ℕ, Bool, cond, List, ◌++◌, ltb, length, take, drop}
use Rattle.cells.specs.Entries.{links_in, values_in}
use Rattle.cells.specs.WriteChecks.{maps_cut, check_nodes, check_junctions}
use Rattle.cells.specs.Memory.{Memory, memory, over_limit, short}
use Rattle.cells.specs.Blocks.{written}
use Rattle.std.specs.Prelude.{Result, Ok, Err}
use Rattle.numbers.specs.Refusals.{Answer}
use Rattle.numbers.specs.declared.refusal.Refusal.{Refusal}
use Rattle.numbers.specs.declared.refusal.Refusal.TheVariants.{TooShort, TooManyRefs, WrongSize, AtLimit}
use Rattle.numbers.specs.declared.refusal.Lent.TheVariants as lent

-- what a call answers, and the section after it
pub record WriteLeft : Type 0 where
  pub answer : Result ℕ Refusal
  pub section : List ℕ

abbrev pub left : Result ℕ Refusal → List ℕ → WriteLeft
left r s = record { answer = r; section = s }

-- a refusal leaves the section as it was
abbrev pub refuse : Refusal → List ℕ → WriteLeft
refuse cause s = left (Err cause) s

abbrev pub or_else : Bool → WriteLeft → WriteLeft → WriteLeft
or_else b refusal next = cond b refusal next

abbrev pub after : {A : Type 0} → Result A Refusal → List ℕ → WriteLeft → WriteLeft
after (Err cause) s next = refuse cause s
after (Ok _) s next = next

-- the cell: the lists, cut to the counts
unfoldable pub held : Memory → Memory
held m = memory m.ynd (take m.ynd.node_count m.nodes) (take m.ynd.link_count m.links)
    (take m.ynd.junction_count m.junctions)
    (take m.ynd.heightmap_count m.heights) (take m.ynd.ref_count m.refs)

-- the section if it has room
unfoldable pub stored : Memory → List ℕ → WriteLeft
stored h s =
    or_else (ltb (length s) (length (written h))) (refuse (TooShort lent.Section) s)
    (left (Ok (length (written h))) (written h ++ drop (length (written h)) s))

-- the cell h written into s, where `lack` says whether a list is too short
unfoldable pub write_held : Memory → Answer → List ℕ → WriteLeft
write_held h lack s =
    or_else (over_limit h.ynd) (refuse AtLimit s)
    (or_else (maps_cut h.ynd.heightmap_count h.junctions) (refuse WrongSize s)
    (after (check_nodes (λ n. length (links_in h.links n)) 0 0 h.nodes) s
    (after (check_junctions (λ j. length (values_in h.heights j)) 0 0 h.junctions) s
    (or_else (ltb 65535 h.ynd.ref_count) (refuse TooManyRefs s)
    (after lack s
    (stored h s))))))

unfoldable pub write_call : Memory → List ℕ → WriteLeft
write_call m s = write_held (held m) (short m) s
