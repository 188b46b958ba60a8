-- Reading the root where its bytes stand gives the root: the law of shapes once more.
use Prim.Native.Nat.{ℕ, zero, suc, ◌+◌, ◌≤◌, ◌<◌}
use native.Mathlib.Omega.{arith}
use mathlib.Core.Path.{◌≡◌, sym, ap, ◌∙◌}
use mathlib.Core.List.{List, [], ◌∷◌, ◌++◌}
use lib.ListN.{length, get_or, drop, drop_of_length-le}
use lib.Seq.{drop-cons}
use Rattle.records.specs.Bytes.{number_bytes}
use Rattle.records.specs.Root.{unknowns_of, root_of, root_bytes, pages_address}
use Rattle.records.specs.declared.root.Root.{Root}
use Rattle.records.proofs.LittleEndian.{Stands, stands_start}
use Rattle.records.proofs.Shape.{field_bytes, fields_at, Fit, none, field, fields_back}

pub record RootFits (r : Root) : Type 0 where
  pub vft : r.vft < 4294967296
  pub nodes : r.nodes < 18446744073709551616
  pub node_count : r.node_count < 4294967296
  pub vehicle_node_count : r.vehicle_node_count < 4294967296
  pub ped_node_count : r.ped_node_count < 4294967296
  pub links : r.links < 18446744073709551616
  pub link_count : r.link_count < 4294967296
  pub junctions : r.junctions < 18446744073709551616
  pub heightmap : r.heightmap < 18446744073709551616
  pub refs : r.refs < 18446744073709551616
  pub ref_count : r.ref_count < 65536
  pub junction_count : r.junction_count < 4294967296
  pub heightmap_count : r.heightmap_count < 4294967296
  pub words : (k : ℕ) → get_or r.unknowns k 0 < 4294967296
  pub seven : length r.unknowns ≡ 7

root_widths : List ℕ
root_widths = 4 ∷ 4 ∷ 8 ∷ 8 ∷ 4 ∷ 4 ∷ 4 ∷ 4 ∷ 8 ∷ 4 ∷ 4 ∷ 8 ∷ 8 ∷ 4 ∷ 4 ∷ 8 ∷ 2 ∷ 2 ∷ 4 ∷ 4 ∷ 4 ∷ 4 ∷ 4 ∷ []

root_values : Root → List ℕ
root_values r =
    r.vft ∷ 1 ∷ pages_address ∷ r.nodes ∷ r.node_count ∷ r.vehicle_node_count ∷ r.ped_node_count
    ∷ get_or r.unknowns 0 0 ∷ r.links ∷ r.link_count ∷ get_or r.unknowns 1 0 ∷ r.junctions ∷ r.heightmap
    ∷ get_or r.unknowns 2 0 ∷ get_or r.unknowns 3 0 ∷ r.refs ∷ r.ref_count ∷ r.ref_count ∷ get_or r.unknowns 4 0
    ∷ r.junction_count ∷ r.heightmap_count ∷ get_or r.unknowns 5 0 ∷ get_or r.unknowns 6 0 ∷ []

root_from : List ℕ → Root
root_from vs = record {
  vft = get_or vs 0 0;
  nodes = get_or vs 3 0;
  node_count = get_or vs 4 0;
  vehicle_node_count = get_or vs 5 0;
  ped_node_count = get_or vs 6 0;
  links = get_or vs 8 0;
  link_count = get_or vs 9 0;
  junctions = get_or vs 11 0;
  heightmap = get_or vs 12 0;
  refs = get_or vs 15 0;
  ref_count = get_or vs 17 0;
  junction_count = get_or vs 19 0;
  heightmap_count = get_or vs 20 0;
  unknowns = get_or vs 7 0 ∷ get_or vs 10 0 ∷ get_or vs 13 0 ∷ get_or vs 14 0 ∷ get_or vs 18 0 ∷ get_or vs 21 0
      ∷ get_or vs 22 0 ∷ [];
}

root_fit : (r : Root) → RootFits r → Fit root_widths (root_values r)
unfolding root_widths root_values
root_fit r h = field h.vft (field {w = 4} {v = 1} (omega arith)
    (field {w = 8} {v = pages_address} (omega arith)
    (field h.nodes (field h.node_count (field h.vehicle_node_count
    (field h.ped_node_count (field (h.words 0) (field h.links (field h.link_count
    (field (h.words 1) (field h.junctions
    (field h.heightmap (field (h.words 2)
    (field (h.words 3) (field h.refs (field h.ref_count (field h.ref_count
    (field (h.words 4) (field h.junction_count
    (field h.heightmap_count (field (h.words 5) (field (h.words 6) none))))))))))))))))))))))

-- n elements from k on, one by one
entries : ℕ → List ℕ → ℕ → List ℕ
entries zero u k = []
entries (suc n) u k = get_or u k 0 ∷ entries n u (suc k)

entries_all : (n : ℕ) (u : List ℕ) (k : ℕ) → k + n ≡ length u → entries n u k ≡ drop k u
unfolding entries
entries_all zero u k e = sym (drop_of_length-le u (let h : length u ≤ k = omega arith in h))
entries_all (suc n) u k e = ap (λ (l : List ℕ). get_or u k 0 ∷ l) (entries_all n u (suc k) (omega arith))
    ∙ sym (drop-cons u k 0 (omega arith))

root_own : (r : Root) → RootFits r → root_from (root_values r) ≡ r
unfolding root_from root_values entries
root_own r h = rw (entries_all 7 r.unknowns 0 (sym h.seven))

pub root_stands : (r : Root) → RootFits r → (s : List ℕ) → Stands s 0 (root_bytes r) → root_of s ≡ r
unfolding root_of unknowns_of root_bytes number_bytes root_from root_widths root_values fields_at field_bytes
root_stands r h s there = ap root_from (fields_back s 0 0 (root_fit r h) there) ∙ root_own r h

-- whatever bytes come behind it
pub root_back : (r : Root) → RootFits r → (rest : List ℕ) → root_of (root_bytes r ++ rest) ≡ r
root_back r h rest = root_stands r h (root_bytes r ++ rest) (stands_start (root_bytes r) rest)
