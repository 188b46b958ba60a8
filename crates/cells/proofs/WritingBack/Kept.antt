-- What was read is kept by storing, and what is renumbered too.
-- Assumes nothing.
use Prim.Native.Nat.{ℕ, zero, suc, ◌+◌, ◌*◌, ◌/◌, ◌≤◌, ◌<◌}
use native.Mathlib.Omega.{arith}
use mathlib.Core.Path.{◌≡◌, ◌∙◌, refl, ap}
use mathlib.Core.Bool.{Bool, true, false, cond}
use mathlib.Core.List.{List, [], ◌∷◌, map}
use mathlib.Core.Option.{Option, none, some}
use lib.ListN.{length, length-map}
use lib.IntN.{ℤ}
use lib.Signed.{mag}
use lib.Ieee.{Float, binary32, to_bits}
use lib.Ieee.Bits.{of_bits-to_bits}
use Rattle.std.specs.List.{All}
use Rattle.std.proofs.lemmas.List.Elements.{All-nil, All-cons, All-push, All-append, All-from_get_or, All-get_or}
use Rattle.std.proofs.lemmas.List.Elements.{All-head, All-tail}
use Rattle.numbers.specs.Steps.{step_of, unstep}
use Rattle.numbers.proofs.StepLaws.{round_trip}
use Rattle.records.specs.Bytes.{byte_at, le32}
use Rattle.records.specs.Root.{root_of, unknowns_of}
use Rattle.records.specs.Records.{node_at, link_at, junction_at, ref_at}
use Rattle.records.proofs.LittleEndian.{number_below}
use Rattle.records.proofs.RecordBack.{RefFits, node_fits_law, link_fits, junction_fits, ref_fits_law}
use Rattle.cells.specs.Lists.{up_to}
use Rattle.cells.specs.NewYnd.{new_ynd, new_root}
use Rattle.cells.specs.Checks.{root_read}
use Rattle.cells.specs.Area.{belongs}
use Rattle.cells.specs.Order.{keep, put_if, last_with, new_place, new_number, place_or, renamed, Old, parted}
use Rattle.cells.specs.Cell.{Node, Cell, node_at as at_place, no_node, is_ped_node, is_vehicle_node, old_nodes, numbers}
use Rattle.cells.specs.Cell.{ped_flags, renode, ordered, number_nodes, renumber_cell}
use Rattle.cells.specs.Nodes.{relinked, rereffed}
use Rattle.cells.specs.Paths.{path_node, path_link}
use Rattle.cells.specs.FileCell.{file_node_of, file_junction_of, file_nodes, file_junctions, file_refs, cell_from}
use Rattle.cells.specs.FileCell.{cell_by, file_cell}
use Rattle.cells.specs.declared.link.PathLink.{PathLink}
use Rattle.records.specs.declared.junction_ref.NodeJunctionRef.{NodeJunctionRef}
use Rattle.cells.proofs.WritingBack.KeptCells.{InSteps, KeptNode, KeptJunction, Kept, IsByte, IsWord}
use Rattle.cells.proofs.Forms.EntryFits.{LinkFits, unstep_fits}
use Rattle.cells.proofs.Sequences.Tests.{keep_lengths}
use Rattle.cells.proofs.Renumbering.Named.{last_inside}
use Rattle.cells.proofs.Renumbering.NewCell.{new_at, number_length, number_at, ordered_length}
use Rattle.cells.proofs.Reading.ReadLaws.{length_up_to}

pub all_up_to : {A : Type 0} (P : A → Type 0) (f : ℕ → A) → ((i : ℕ) → P (f i)) → (n : ℕ) → All P (up_to f n)
unfolding up_to
all_up_to P f e zero = All-nil P
all_up_to P f e (suc n) = All-push P (up_to f n) (f n) (all_up_to P f e n) (e n)

pub all_kept : {A : Type 0} (P : A → Type 0) (t : A → Bool) (l : List A) → All P l → All P (keep t l)
unfolding keep
all_kept P t [] h = h
all_kept P t (x ∷ xs) h = go (t x) (all_kept P t xs (All-tail P x xs h))
  where
    go : (b : Bool) → All P (keep t xs) → All P (put_if b x (keep t xs))
    go true rest = All-cons P x (keep t xs) (All-head P x xs h) rest
    go false rest = rest

-- ---- what was read

-- a coordinate in whole steps within 16 bits, stored again
pub step_again : (k : ℕ) (z : ℤ) → k ≤ 5 → mag z < 32768 → InSteps k (to_bits binary32 (unstep k z))
step_again k z h q =
    ap (λ (x : Float). to_bits binary32 (unstep k (step_of k x)))
    (of_bits-to_bits binary32 (unstep k z) (unstep_fits k z))
    ∙ ap (λ (x : ℤ). to_bits binary32 (unstep k x)) (round_trip k z h q)

link_kept : (s : List ℕ) (at : ℕ) → LinkFits (path_link (link_at s at))
unfolding path_link
link_kept s at =
    let h = link_fits s at in
    record {
      area_id = h.area_id;
      node_id = h.node_id;
      flags0 = h.flags0;
      flags1 = h.flags1;
      flags2 = h.flags2;
      length = h.link_length;
    }

node_kept : (l s : List ℕ) (at : ℕ) → KeptNode (file_node_of l (node_at s at))
unfolding path_node
node_kept l s at =
    let n = node_at s at in
    let h = node_fits_law s at in
    record {
      area = h.area_id;
      number = h.node_id;
      x = step_again 2 n.position_x (omega arith) h.position_x;
      y = step_again 2 n.position_y (omega arith) h.position_y;
      z = step_again 5 n.position_z (omega arith) h.position_z;
      body = record {
        street_name = h.street_name;
        flags0 = h.flags0;
        flags1 = h.flags1;
        flags2 = h.flags2;
        flags3 = h.flags3;
        flags4 = h.flags4;
        flags5 = omega arith;
        unused0 = h.unused0;
        unused1 = h.unused1;
        unused2 = h.unused2;
        unused3 = h.unused3;
        unused4 = h.unused4;
      };
      flags5 = omega arith;
      links = all_up_to LinkFits (λ k. path_link (link_at l ((n.link_id + k) * 8)))
          (λ k. link_kept l ((n.link_id + k) * 8)) (n.link_count_flags / 8);
    }

junction_kept : (h s : List ℕ) (at : ℕ) → KeptJunction (file_junction_of h (junction_at s at))
junction_kept h s at =
    let j = junction_at s at in
    let t = junction_fits s at in
    let f : ℕ → ℕ = λ k. byte_at h (j.heightmap_ptr + k) in
    record {
      x = step_again 2 j.position_x (omega arith) t.position_x;
      y = step_again 2 j.position_y (omega arith) t.position_y;
      low = step_again 5 j.min_z (omega arith) t.min_z;
      high = step_again 5 j.max_z (omega arith) t.max_z;
      width = t.heightmap_dim_x;
      height = t.heightmap_dim_y;
      full = length_up_to f (j.heightmap_dim_x * j.heightmap_dim_y);
      values = all_up_to IsByte f (λ k. omega arith) (j.heightmap_dim_x * j.heightmap_dim_y);
    }

from_kept : (s : List ℕ) (n l j h r : List ℕ) → Kept (cell_from (root_read s) n l j h r)
unfolding cell_from file_nodes file_junctions file_refs new_root new_ynd root_of unknowns_of
from_kept s n l j h r = go s
  where
    nodes : All KeptNode (file_nodes n l)
    nodes = all_up_to KeptNode (λ i. file_node_of l (node_at n (i * 40))) (λ i. node_kept l n (i * 40)) (length n / 40)

    junctions : All KeptJunction (file_junctions j h)
    junctions = all_up_to KeptJunction (λ i. file_junction_of h (junction_at j (i * 12)))
        (λ i. junction_kept h j (i * 12)) (length j / 12)

    refs : All RefFits (file_refs r)
    refs = all_up_to RefFits (λ i. ref_at r (i * 8)) (λ i. ref_fits_law r (i * 8)) (length r / 8)

    seven : (a b c d e f g : ℕ) → IsWord a → IsWord b → IsWord c → IsWord d → IsWord e → IsWord f → IsWord g
        → All IsWord (a ∷ b ∷ c ∷ d ∷ e ∷ f ∷ g ∷ [])
    seven a b c d e f g ha hb hc hd he hf hg =
        All-cons IsWord a (b ∷ c ∷ d ∷ e ∷ f ∷ g ∷ []) ha
        (All-cons IsWord b (c ∷ d ∷ e ∷ f ∷ g ∷ []) hb
        (All-cons IsWord c (d ∷ e ∷ f ∷ g ∷ []) hc
        (All-cons IsWord d (e ∷ f ∷ g ∷ []) hd
        (All-cons IsWord e (f ∷ g ∷ []) he
        (All-cons IsWord f (g ∷ []) hf
        (All-cons IsWord g [] hg (All-nil IsWord)))))))

    go : (s : List ℕ) → Kept (cell_from (root_read s) n l j h r)
    go [] = record {
      nodes = nodes;
      junctions = junctions;
      refs = refs;
      vehicles = omega arith;
      peds = omega arith;
      vft = omega arith;
      seven = refl;
      words = seven 0 0 1 0 0 0 0 (omega arith) (omega arith) (omega arith) (omega arith) (omega arith) (omega arith)
          (omega arith);
    }
    go (b ∷ bs) =
        let word : (at : ℕ) → IsWord (le32 (b ∷ bs) at) = λ at. number_below 4 (b ∷ bs) at in
        record {
          nodes = nodes;
          junctions = junctions;
          refs = refs;
          vehicles = word 28;
          peds = word 32;
          vft = word 0;
          seven = refl;
          words = seven (le32 (b ∷ bs) 36) (le32 (b ∷ bs) 52) (le32 (b ∷ bs) 72) (le32 (b ∷ bs) 76) (le32 (b ∷ bs) 92)
              (le32 (b ∷ bs) 104) (le32 (b ∷ bs) 108) (word 36) (word 52) (word 72) (word 76) (word 92) (word 104)
              (word 108);
        }

-- the cell of any two sections
pub read_kept : (s g : List ℕ) → Kept (file_cell s g)
unfolding file_cell cell_by
read_kept s g = from_kept s _ _ _ _ _

-- ---- what is renumbered

pub new_small : (ns : List Node) (k : ℕ) → length ns ≤ 65536 → k < 65536 → new_number (old_nodes ns) k < 65536
unfolding new_number
new_small ns k few h = go (last_with (numbers ns) k) (λ p e. (last_inside (numbers ns) k p e).0)
  where
    go : (r : Option ℕ) → ((p : ℕ) → r ≡ some p → p < length (numbers ns)) → place_or (ped_flags ns) r k < 65536
    go (some p) inside =
        let q : new_place (ped_flags ns) p < length ns = (new_at ns p
        (let i : p < length ns = omega (arith, inside p refl, length-map ns (λ n. n.number)) in i)).0 in
        omega (arith, q, few)
    go none inside = h

pub renamed_small : (ns : List Node) (a k : ℕ) → length ns ≤ 65536 → k < 65536 → renamed (old_nodes ns) a k < 65536
unfolding renamed
renamed_small ns a k few t = go (belongs (old_nodes ns).area a)
  where
    go : (b : Bool) → cond b (new_number (old_nodes ns) k) k < 65536
    go true = new_small ns k few t
    go false = t

module _ (c : Cell) (few : length c.nodes ≤ 65536) where
  abbrev old : Old
  old = old_nodes c.nodes

  pub link_again : (l : PathLink) → LinkFits l → LinkFits (relinked old l)
  link_again l h = record {
    area_id = h.area_id;
    node_id = renamed_small c.nodes l.area_id l.node_id few h.node_id;
    flags0 = h.flags0;
    flags1 = h.flags1;
    flags2 = h.flags2;
    length = h.length;
  }

  pub ref_again : (r : NodeJunctionRef) → RefFits r → RefFits (rereffed old r)
  ref_again r h = record {
    area_id = h.area_id;
    node_id = renamed_small c.nodes r.area_id r.node_id few h.node_id;
    junction_id = h.junction_id;
    unk0 = h.unk0;
  }

  pub all_again : {A : Type 0} (P : A → Type 0) (f : A → A) → ((x : A) → P x → P (f x)) → (l : List A) → All P l
      → All P (map f l)
  all_again P f e [] h = All-nil P
  all_again P f e (x ∷ xs) h = All-cons P (f x) (map f xs) (e x (All-head P x xs h))
      (all_again P f e xs (All-tail P x xs h))

  node_again : (k : ℕ) (n : Node) → k < 65536 → KeptNode n → KeptNode (renode old k n)
  node_again k n lt h = record {
    area = h.area;
    number = lt;
    x = h.x;
    y = h.y;
    z = h.z;
    body = h.body;
    flags5 = h.flags5;
    links = all_again LinkFits (relinked old) link_again n.links h.links;
  }

  pub kept_again : Kept c → Kept (renumber_cell c)
  unfolding renumber_cell parted
  kept_again h =
      let all : length (keep is_vehicle_node c.nodes) + length (keep is_ped_node c.nodes)
      ≡ length c.nodes = keep_lengths is_ped_node is_vehicle_node (λ x. refl) c.nodes in
      let kept : All KeptNode (ordered c.nodes) = All-append KeptNode (keep is_vehicle_node c.nodes)
      (keep is_ped_node c.nodes) (all_kept KeptNode is_vehicle_node c.nodes h.nodes)
      (all_kept KeptNode is_ped_node c.nodes h.nodes) in
      record {
        nodes = All-from_get_or KeptNode (number_nodes old 0 (ordered c.nodes)) no_node (λ i lt.
            let less : i < length (ordered c.nodes) = omega (arith, number_length old 0 (ordered c.nodes)) in
            let small : 0 + i < 65536 = omega (arith, ordered_length c.nodes) in
            rw (number_at old 0 (ordered c.nodes) i less)
            (node_again (0 + i) (at_place (ordered c.nodes) i) small
            (All-get_or KeptNode (ordered c.nodes) i no_node less kept)));
        junctions = h.junctions;
        refs = all_again RefFits (rereffed old) ref_again c.refs h.refs;
        vehicles = omega (arith, all, few);
        peds = omega (arith, all, few);
        vft = h.vft;
        seven = h.seven;
        words = h.words;
      }
