-- The root's 28 words are its 112 bytes. Assumes that a ref count is a number of 16 bits.
use Prim.Native.Nat.{ℕ, ◌+◌, ◌*◌, ◌/◌, ◌%◌, ◌<◌}
use mathlib.Core.Path.{◌≡◌, sym, ap, ◌∙◌}
use mathlib.Core.List.{◌++◌}
use native.Mathlib.Omega.{arith}
use lib.ListN.{get_or}
use Rattle.records.specs.Bytes.{number_bytes, bytes16, bytes32, bytes64}
use Rattle.records.specs.Put.{joined}
use Rattle.records.specs.Root.{pages_address, root_bytes, root_words}
use Rattle.records.specs.declared.root.Root.{Root}
use Rattle.records.proofs.LittleEndian.{bytes_join}

halves : (n : ℕ) → bytes32 (n % 4294967296) ++ bytes32 (n / 4294967296) ≡ bytes64 n
halves n =
    let whole : n % 4294967296 + n / 4294967296 * 4294967296 ≡ n = omega arith in
    sym (bytes_join 4 4 (n % 4294967296) (n / 4294967296) (omega arith)) ∙ ap bytes64 whole

both : (n : ℕ) → n < 65536 → bytes32 (n * 65537) ≡ bytes16 n ++ bytes16 n
both n h =
    let whole : n * 65537 ≡ n + n * 65536 = omega arith in
    ap bytes32 whole ∙ bytes_join 2 2 n n h

pub words_joined : (r : Root) → r.ref_count < 65536 → joined bytes32 (root_words r) ≡ root_bytes r
unfolding root_bytes root_words joined number_bytes
words_joined r h =
    let u = r.unknowns in
    λ k.
    bytes32 r.vft ++ bytes32 1 ++ bytes64 pages_address
    ++ halves r.nodes k ++ bytes32 r.node_count ++ bytes32 r.vehicle_node_count
    ++ bytes32 r.ped_node_count ++ bytes32 (get_or u 0 0)
    ++ halves r.links k ++ bytes32 r.link_count ++ bytes32 (get_or u 1 0)
    ++ halves r.junctions k ++ halves r.heightmap k ++ bytes32 (get_or u 2 0) ++ bytes32 (get_or u 3 0)
    ++ halves r.refs k ++ both r.ref_count h k ++ bytes32 (get_or u 4 0)
    ++ bytes32 r.junction_count ++ bytes32 r.heightmap_count ++ bytes32 (get_or u 5 0) ++ bytes32 (get_or u 6 0)
