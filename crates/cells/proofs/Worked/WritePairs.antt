-- Document 01's starred pairs on writing, over the definitions that the contracts cite.
use Prim.Native.Nat.{ℕ, ◌≤◌}
use native.Mathlib.Omega.{arith}
use mathlib.Core.Path.{◌≡◌, refl, ap, ◌∙◌}
use mathlib.Core.Bool.{Bool}
use mathlib.Core.List.{List, [], ◌∷◌, ◌++◌, map}
use lib.ListN.{length, drop, replicate}
use borrow.Author.Tests.{le-ltb}
use Rattle.records.specs.Bytes.{number_at, number_bytes, le64, bits16}
use Rattle.records.specs.Put.{joined}
use Rattle.records.specs.Root.{root_bytes}
use Rattle.records.specs.Records.{node_bytes, link_bytes}
use Rattle.records.specs.Layout.{header_bytes, gap_for, start_of, offset, total, address, places_of, section_bytes}
use Rattle.records.proofs.Laid.{section_length}
use Rattle.cells.specs.Memory.{Memory, memory, over_limit, short_of}
use Rattle.cells.specs.Entries.{links_in, file_node, file_link}
use Rattle.cells.specs.Nodes.{no_entry, no_link}
use Rattle.cells.specs.WriteChecks.{maps_cut, check_nodes, check_junctions}
use Rattle.cells.specs.Blocks.{laid, arrays, blocks, root_for, written}
use Rattle.cells.specs.Write.{WriteLeft, left, refuse, or_else, held, stored, write_held, write_call}
use Rattle.std.specs.Prelude.{Ok}
use Rattle.numbers.specs.declared.refusal.Refusal.TheVariants.{TooShort, TooManyLinks}
use Rattle.numbers.specs.declared.refusal.Lent.TheVariants as lent

-- a cell of one node with so many links, and nothing else
unfoldable pub one_node : ℕ → Memory
one_node count =
    memory
    (record {
      vft = 0;
      vehicle_node_count = 1;
      ped_node_count = 0;
      unknowns = replicate 7 0;
      node_count = 1;
      link_count = count;
      junction_count = 0;
      heightmap_count = 0;
      ref_count = 0;
    })
    (record no_entry { link_count = count } ∷ [])
    (replicate count no_link)
    []
    []
    []

-- what has room is written
pub wrote : (h : Memory) (s : List ℕ) (n : ℕ) → length (written h) ≡ n → n ≤ length s → (stored h s).answer ≡ Ok n
unfolding stored
wrote h s n e room =
    let m = length (written h) in
    ap (λ (b : Bool). (or_else b (refuse (TooShort lent.Section) s) (left (Ok m) (written h ++ drop m s))).answer)
    (le-ltb (length s) m (omega (arith, e, room))) ∙ ap Ok e

-- no check refuses
goes_on : (s : List ℕ) → write_call (one_node 31) s ≡ stored (held (one_node 31)) s
unfolding one_node write_call held over_limit write_held maps_cut short_of check_nodes check_junctions links_in
goes_on s = refl

bare_goes_on : (s : List ℕ) → write_call (one_node 0) s ≡ stored (held (one_node 0)) s
unfolding one_node write_call held over_limit write_held maps_cut short_of check_nodes check_junctions links_in
bare_goes_on s = refl

size_31 : length (written (held (one_node 31))) ≡ 1448
unfolding one_node held written arrays total gap_for joined laid links_in node_bytes link_bytes file_node file_link
    number_bytes bits16
size_31 = section_length (root_for (held (one_node 31)) (map length (blocks (held (one_node 31)))))
    (blocks (held (one_node 31)))

bare_size : length (written (held (one_node 0))) ≡ 1192
unfolding one_node held written arrays total gap_for joined laid links_in node_bytes file_node number_bytes bits16
bare_size = section_length (root_for (held (one_node 0)) (map length (blocks (held (one_node 0)))))
    (blocks (held (one_node 0)))

-- 31 links write, wherever there is room; 32 don't, in any section
pub links_31 : (s : List ℕ) → 1448 ≤ length s → (write_call (one_node 31) s).answer ≡ Ok 1448
links_31 s room = ap (λ (w : WriteLeft). w.answer) (goes_on s) ∙ wrote (held (one_node 31)) s 1448 size_31 room

pub links_32 : (s : List ℕ) → write_call (one_node 32) s ≡ refuse (TooManyLinks 0) s
unfolding one_node write_call held over_limit write_held maps_cut check_nodes links_in
links_32 s = refl

-- one bare node writes 1,192 bytes, with the nodes address 0x50000480
pub bare_node : (s : List ℕ) → 1192 ≤ length s → (write_call (one_node 0) s).answer ≡ Ok 1192
bare_node s room = ap (λ (w : WriteLeft). w.answer) (bare_goes_on s) ∙ wrote (held (one_node 0)) s 1192 bare_size room

pub bare_address : le64 (written (held (one_node 0))) 16 ≡ 0x50000480
unfolding one_node held written section_bytes header_bytes root_bytes root_for places_of offset address start_of
    gap_for arrays joined laid links_in node_bytes file_node number_at number_bytes bits16
bare_address = refl
