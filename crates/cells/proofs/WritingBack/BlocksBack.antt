-- The five arrays as they are written, read: the nodes, junctions and refs that memory holds.
use lib.Ieee.{binary32, of_bits}
use Rattle.std.proofs.lemmas.List.{map-id, get_or-map}
use Rattle.std.proofs.lemmas.List.Elements.{All-get_or, All-from_get_or, All-weaker}
use Rattle.std.specs.List.{All}
use Prim.Native.Nat.{ℕ, zero, suc, ◌+◌, ◌*◌, ◌/◌, ◌%◌, ◌≤◌, ◌<◌}
use native.Mathlib.Omega.{arith}
use native.Mathlib.Nat.{zero-add}
use mathlib.Core.Path.{◌≡◌, refl, sym, ap, ◌∙◌}
use mathlib.Core.Bool.{true}
use mathlib.Core.List.{List, [], ◌∷◌, ◌++◌, map}
use lib.Dec.{ltb}
use lib.ListN.{length, get_or, take, drop, length-append, length-take, length-drop, length-map}
use lib.Seq.{get_or-take, get_or-drop}
use borrow.Author.Tests.{ltb-false}
use Rattle.numbers.proofs.StepLaws.{step_in}
use Rattle.records.specs.Bytes.{byte_at, number_at, number_bytes}
use Rattle.records.specs.Put.{joined}
use Rattle.records.specs.Records.{node_at, node_bytes, link_at, junction_at, junction_bytes, ref_at, ref_bytes}
use Rattle.records.specs.declared.node.Node as raw-node
use Rattle.records.proofs.LittleEndian.{Stands, stands_taken}
use Rattle.records.proofs.RecordBack.{NodeFits as NodeRecordFits, node_back, LinkFits as RecordFits, link_back}
use Rattle.records.proofs.RecordBack.{link_length_law, JunctionFits, junction_back, junction_length, RefFits, ref_back}
use Rattle.records.proofs.RecordBack.{ref_length}
use Rattle.cells.specs.Lists.{up_to}
use Rattle.cells.specs.Nodes.{no_entry, no_link, no_map, no_ref}
use Rattle.cells.specs.Paths.{path_node, path_link}
use Rattle.cells.specs.CellOf.{node_with, junction_with}
use Rattle.cells.specs.Cell.{Node, Junction, body_of}
use Rattle.cells.specs.FileCell.{file_body, file_node_of, file_junction_of, file_nodes, file_junctions, file_refs}
use Rattle.cells.proofs.WritingBack.KeptCells.{BodyFits, KeptNode, KeptJunction, IsByte}
use Rattle.cells.proofs.Forms.EntryFits.{LinkFits}
use Rattle.cells.specs.Entries.{links_in, values_in, stored_start, file_node, file_link, file_junction}
use Rattle.cells.specs.WriteChecks.{accepted, start_over, check_nodes, check_junctions}
use Rattle.cells.specs.WriteCounts.{Sized}
use Rattle.cells.specs.Blocks.{link_record, junction_record, node_record, refs_block, heights_block}
use Rattle.cells.specs.Blocks.{junctions_block, links_block, nodes_block}
use Rattle.cells.proofs.Sequences.Tests.{by_test, true_false}
use Rattle.cells.proofs.Reading.FileRead.{up_to_same, map_up_to}
use Rattle.cells.proofs.Writing.Starts.{start_some}
use Rattle.cells.proofs.Sequences.Joined.{joined_at, laid_at, part_back, joined_joined}
use Rattle.cells.proofs.Writing.BlockLaws.{record_length, nodes_length, junctions_length, refs_length}
use Rattle.cells.specs.declared.node_entry.NodeEntry.{NodeEntry}
use Rattle.cells.specs.declared.link.PathLink.{PathLink}
use Rattle.cells.specs.declared.junction_entry.JunctionEntry.{JunctionEntry}
use Rattle.records.specs.declared.junction_ref.NodeJunctionRef.{NodeJunctionRef}

-- what holds of each entry as it is made holds of the entry at a place
pub kept_at : {A B : Type 0} (P : B → Type 0) (f : A → B) (l : List A) (i : ℕ) (z : A) → All P (map f l) → i < length l
    → P (f (get_or l i z))
kept_at P f l i z t lt =
    rw (← get_or-map f l i z (f z) lt)
    (All-get_or P (map f l) i (f z) (let h : i < length (map f l) = omega (arith, length-map l f) in h) t)

-- ---- lists by place

up_to_first : {A : Type 0} (f : ℕ → A) (n : ℕ) → up_to f (suc n) ≡ f 0 ∷ up_to (λ i. f (suc i)) n
unfolding up_to
up_to_first f zero = refl
up_to_first {A = A} f (suc n) = ap (λ (l : List A). l ++ (f (suc n) ∷ [])) (up_to_first f n)

pub up_to_all : {A B : Type 0} (f : A → B) (xs : List A) (z : A) → up_to (λ i. f (get_or xs i z)) (length xs)
    ≡ map f xs
unfolding up_to
up_to_all f [] z = refl
up_to_all {B = B} f (x ∷ xs) z = up_to_first (λ i. f (get_or (x ∷ xs) i z)) (length xs)
    ∙ ap (λ (l : List B). f x ∷ l) (up_to_all f xs z)

-- ---- what an accepted check says of each entry

pub nodes_ok : {A B : Type 0} (z : A) (f : A → List B) (place before : ℕ) (ns : List A) (i : ℕ)
    → accepted (check_nodes (λ n. length (f n)) place before ns) ≡ true → i < length ns
    → (length (f (get_or ns i z)) ≤ 31)
    × (stored_start (before + length (joined f (take i ns))) (length (f (get_or ns i z))) ≤ 65535)
unfolding check_nodes joined
nodes_ok z f place before [] i e lt = absurd (omega arith)
nodes_ok z f place before (n ∷ ns) i e lt =
    by_test (ltb 31 (length (f n))) (λ t. true_false (sym (rw t at e))) (λ u.
    by_test (start_over before (length (f n))) (λ t. true_false (sym (rw (u, t) at e)))
    (λ v. go i (λ j d q. nodes_ok z f (place + 1) (before + length (f n)) ns j d q) lt (ltb-false _ _ u)
    (ltb-false _ _ v) (rw (u, v) at e)))
  where
    go : (i : ℕ)
        → ((j : ℕ) → accepted (check_nodes (λ n. length (f n)) (place + 1) (before + length (f n)) ns) ≡ true → j
        < length ns
        → (length (f (get_or ns j z)) ≤ 31)
        × (stored_start (before + length (f n) + length (joined f (take j ns))) (length (f (get_or ns j z)))
        ≤ 65535))
        → i < suc (length ns) → length (f n) ≤ 31 → stored_start before (length (f n)) ≤ 65535
        → accepted (check_nodes (λ n. length (f n)) (place + 1) (before + length (f n)) ns) ≡ true
        → (length (f (get_or (n ∷ ns) i z)) ≤ 31)
        × (stored_start (before + length (joined f (take i (n ∷ ns)))) (length (f (get_or (n ∷ ns) i z)))
        ≤ 65535)
    go zero ih lt few low d =
        let zz : before + 0 ≡ before = omega arith in
        (few, omega (arith, low, ap (λ (b : ℕ). stored_start b (length (f n))) zz))
    go (suc i) ih lt few low d =
        let r = ih i d (omega arith) in
        let zz : before + length (f n ++ joined f (take i ns)) ≡ before + length (f n)
        + length (joined f (take i ns)) = omega (arith, length-append (f n) (joined f (take i ns))) in
        (r.0, omega (arith, r.1, ap (λ (b : ℕ). stored_start b (length (f (get_or ns i z)))) zz))

pub junctions_ok : {A B : Type 0} (f : A → List B) (place before : ℕ) (ns : List A) (i : ℕ)
    → accepted (check_junctions (λ n. length (f n)) place before ns) ≡ true → i < length ns
    → before + length (joined f (take i ns)) ≤ 65535
unfolding check_junctions joined
junctions_ok f place before [] i e lt = absurd (omega arith)
junctions_ok f place before (n ∷ ns) i e lt =
    by_test (ltb 65535 before) (λ t. true_false (sym (rw t at e)))
    (λ v. go i (λ j d q. junctions_ok f (place + 1) (before + length (f n)) ns j d q) lt (ltb-false _ _ v)
    (rw v at e))
  where
    go : (i : ℕ)
        → ((j : ℕ) → accepted (check_junctions (λ n. length (f n)) (place + 1) (before + length (f n)) ns) ≡ true
        → j < length ns → before + length (f n) + length (joined f (take j ns)) ≤ 65535)
        → i < suc (length ns) → before ≤ 65535
        → accepted (check_junctions (λ n. length (f n)) (place + 1) (before + length (f n)) ns) ≡ true
        → before + length (joined f (take i (n ∷ ns))) ≤ 65535
    go zero ih lt low d = omega arith
    go (suc i) ih lt low d =
        let r = ih i d (omega arith) in
        omega (arith, r, length-append (f n) (joined f (take i ns)))

-- ---- a part of the joined list, entry by entry

module _ {A B : Type 0} (f : A → List B) (xs : List A) (i : ℕ) (a : A) (z : B) (lt : i < length xs) where
  abbrev from : ℕ
  from = length (joined f (take i xs))

  pub part_at : (k : ℕ) → k < length (f (get_or xs i a)) → get_or (joined f xs) (from + k) z
      ≡ get_or (f (get_or xs i a)) k z
  part_at k h =
      sym (get_or-drop from (joined f xs) k z)
      ∙ sym (get_or-take (length (f (get_or xs i a))) (drop from (joined f xs)) k z h)
      ∙ ap (λ (l : List B). get_or l k z) (part_back f xs i a lt)

  pub part_in : (k : ℕ) → k < length (f (get_or xs i a)) → from + k < length (joined f xs)
  part_in k h =
      let e = ap length (part_back f xs i a lt) in
      omega (
        arith,
        e,
        length-take (length (f (get_or xs i a))) (drop from (joined f xs)),
        length-drop from
            (joined f xs),
      )

-- the bytes of entry i, of entries of one width
pub stands_at : (s b : List ℕ) (w i : ℕ) → length b ≡ w → take w (drop (w * i) s) ≡ b → Stands s (i * w) b
stands_at s b w i e h =
    let same : i * w ≡ w * i = omega arith in
    stands_taken s (i * w) b ((λ k. take (e k) (drop (same k) s)) ∙ h)

-- ---- numbers

-- of a node's byte of count and flags: the count
pub high : (c f : ℕ) → (c * 8 + f % 8) / 8 ≡ c
high c f = omega arith

-- ---- links

link_in : (l : PathLink) → LinkFits l → RecordFits (file_link l)
unfolding file_link
link_in l h = record {
  area_id = h.area_id;
  node_id = h.node_id;
  flags0 = h.flags0;
  flags1 = h.flags1;
  flags2 = h.flags2;
  link_length = h.length;
}

module _ (links : List PathLink) (nodes : List NodeEntry) where
  abbrev all : List PathLink
  all = joined (links_in links) nodes

  link_entry_law : (q : ℕ) → q < length all → LinkFits (get_or all q no_link)
      → path_link (link_at (links_block links nodes) (q * 8)) ≡ get_or all q no_link
  unfolding file_link path_link
  link_entry_law q lt t =
      let l = get_or all q no_link in
      ap path_link (link_back (file_link l) (link_in l t) (links_block links nodes) (q * 8)
      (stands_at (links_block links nodes) (link_record l) 8 q (link_length_law (file_link l))
      (ap (λ (l : List ℕ). take 8 (drop (8 * q) l)) (joined_joined link_record (links_in links) nodes)
      ∙ joined_at link_record 8 (λ x. link_length_law (file_link x)) all q no_link lt)))

  -- a node's own links
  links_entry : (i : ℕ) → i < length nodes → All LinkFits (links_in links (get_or nodes i no_entry))
      → up_to (λ k. path_link (link_at (links_block links nodes)
      ((length (joined (links_in links) (take i nodes)) + k) * 8)))
      (length (links_in links (get_or nodes i no_entry))) ≡ links_in links (get_or nodes i no_entry)
  links_entry i lt t =
      let own = links_in links (get_or nodes i no_entry) in
      let at : ℕ → ℕ = λ k. length (joined (links_in links) (take i nodes)) + k in
      up_to_same (λ k. path_link (link_at (links_block links nodes) (at k * 8))) (λ k. get_or own k no_link)
      (length own)
      (λ k h.
      let e : get_or all (at k) no_link ≡ get_or own k no_link = part_at (links_in links) nodes i no_entry no_link lt
      k h in
      let fits : LinkFits (get_or own k no_link) = All-get_or LinkFits own k no_link h t in
      link_entry_law (at k) (part_in (links_in links) nodes i no_entry no_link lt k h) (rw e fits) ∙ e)
      ∙ up_to_all (λ l. l) own no_link ∙ map-id own

  -- a node without links has none to look up, so that its start does not matter
  links_stored_law : (i : ℕ) → i < length nodes → All LinkFits (links_in links (get_or nodes i no_entry))
      → up_to (λ k. path_link (link_at (links_block links nodes)
      ((stored_start (length (joined (links_in links) (take i nodes)))
      (length (links_in links (get_or nodes i no_entry))) + k) * 8)))
      (length (links_in links (get_or nodes i no_entry)))
      ≡ links_in links (get_or nodes i no_entry)
  links_stored_law i lt t =
      let count = length (links_in links (get_or nodes i no_entry)) in
      let before = length (joined (links_in links) (take i nodes)) in
      up_to_same (λ k. path_link (link_at (links_block links nodes) ((stored_start before count + k) * 8)))
      (λ k. path_link (link_at (links_block links nodes) ((before + k) * 8))) count
      (λ k h. ap (λ (b : ℕ). path_link (link_at (links_block links nodes) ((b + k) * 8)))
      (start_some before count (omega arith)))
      ∙ links_entry i lt t

-- ---- nodes

-- the fields of a node that are stored as they are
pub record NodeFits (n : NodeEntry) : Type 0 where
  pub area_id : n.area_id < 65536
  pub node_id : n.node_id < 65536
  pub body : BodyFits (body_of n)

pub node_in : (start count : ℕ) (n : NodeEntry) → NodeFits n → start < 65536 → count ≤ 31
    → NodeRecordFits (file_node start count n)
unfolding file_node
node_in start count n t h few = record {
  unused0 = t.body.unused0;
  unused1 = t.body.unused1;
  unused2 = t.body.unused2;
  unused3 = t.body.unused3;
  area_id = t.area_id;
  node_id = t.node_id;
  street_name = t.body.street_name;
  unused4 = t.body.unused4;
  link_id = h;
  position_x = step_in 2 (of_bits binary32 n.position.x);
  position_y = step_in 2 (of_bits binary32 n.position.y);
  flags0 = t.body.flags0;
  flags1 = t.body.flags1;
  position_z = step_in 5 (of_bits binary32 n.position.z);
  flags2 = t.body.flags2;
  link_count_flags = omega arith;
  flags3 = t.body.flags3;
  flags4 = t.body.flags4;
}

-- where the record says that the links of node i start
abbrev pub start_of : List PathLink → List NodeEntry → ℕ → ℕ
start_of links nodes i = stored_start (length (joined (links_in links) (take i nodes)))
    (length (links_in links (get_or nodes i no_entry)))

module _ (links : List PathLink) (nodes : List NodeEntry)
    (ok : accepted (check_nodes (λ n. length (links_in links n)) 0 0 nodes) ≡ true) (i : ℕ) (lt : i < length nodes)
  where
    abbrev entry : NodeEntry
    entry = get_or nodes i no_entry

    abbrev many : ℕ
    many = length (links_in links entry)

    abbrev record_i : raw-node.Node
    record_i = file_node (start_of links nodes i) many entry

    start_small : start_of links nodes i < 65536
    start_small =
        let before = length (joined (links_in links) (take i nodes)) in
        let from : stored_start (0 + before) many
        ≡ stored_start before many = ap (λ (b : ℕ). stored_start b many) (zero-add before) in
        omega (arith, (nodes_ok no_entry (links_in links) 0 0 nodes i ok lt).1, from)

    many_few : many ≤ 31
    many_few = (nodes_ok no_entry (links_in links) 0 0 nodes i ok lt).0

    here_stands : Stands (nodes_block links nodes) (i * 40) (node_bytes record_i)
    here_stands =
        let before = length (joined (links_in links) (take i nodes)) in
        stands_at (nodes_block links nodes) (node_record links before entry) 40 i
        (record_length links before entry)
        (laid_at (links_in links) (node_record links) 40 (record_length links) 0 nodes i no_entry lt
        ∙ ap (λ (b : ℕ). node_record links b entry) (zero-add before))

    -- the record of node i, read back
    pub node_record_law : NodeFits entry → node_at (nodes_block links nodes) (i * 40) ≡ record_i
    node_record_law fits = node_back record_i
        (node_in (start_of links nodes i) many entry fits start_small many_few) (nodes_block links nodes) (i * 40)
        here_stands

    -- what it says of its links, whatever the other fields are
    pub start_law : (node_at (nodes_block links nodes) (i * 40)).link_id ≡ start_of links nodes i
    unfolding node_at number_at file_node node_bytes number_bytes
    start_law = let s = start_small in omega (arith, low, high_byte)
      where
        low : get_or (nodes_block links nodes) (i * 40 + 26) 0 ≡ start_of links nodes i % 256
        low = here_stands 26 (omega arith)

        high_byte : get_or (nodes_block links nodes) (i * 40 + 26 + 1) 0 ≡ start_of links nodes i / 256 % 256
        high_byte =
            let next : i * 40 + 26 + 1 ≡ i * 40 + 27 = omega arith in
            ap (λ (k : ℕ). get_or (nodes_block links nodes) k 0) next ∙ here_stands 27 (omega arith)

    pub flags_law : (node_at (nodes_block links nodes) (i * 40)).link_count_flags ≡ many * 8 + entry.flags5 % 8
    unfolding node_at file_node node_bytes number_bytes
    flags_law = let s = many_few in omega (arith, there)
      where
        there : get_or (nodes_block links nodes) (i * 40 + 37) 0 ≡ (many * 8 + entry.flags5 % 8) % 256
        there = here_stands 37 (omega arith)

-- a node with another body
abbrev pub with_body : Node → NodeEntry → Node
with_body n b = record n { body = b }

-- a junction with other values
abbrev pub with_values : Junction → List ℕ → Junction
with_values j v = record j { values = v }

-- node i as it is written, read: all but its body is as it was
abbrev pub node_read : List PathLink → List NodeEntry → ℕ → Node
node_read links nodes i =
    with_body (node_with links (get_or nodes i no_entry))
    (file_body (file_node (start_of links nodes i) (length (links_in links (get_or nodes i no_entry)))
    (get_or nodes i no_entry)))

module _ (links : List PathLink) (nodes : List NodeEntry)
    (ok : accepted (check_nodes (λ n. length (links_in links n)) 0 0 nodes) ≡ true)
    (fits : All NodeFits nodes) (t : All (λ n. All LinkFits n.links) (map (node_with links) nodes)) where
  abbrev block : List ℕ
  block = nodes_block links nodes

  node_entry_law : (i : ℕ) → i < length nodes
      → file_node_of (links_block links nodes) (node_at block (i * 40)) ≡ node_read links nodes i
  unfolding file_node links_in
  node_entry_law i lt =
      let n = get_or nodes i no_entry in
      let count = length (links_in links n) in
      let start = start_of links nodes i in
      let own : All LinkFits (links_in links n) = kept_at (λ (n : Node). All LinkFits n.links) (node_with links) nodes
      i no_entry t lt in
      ap (file_node_of (links_block links nodes))
      (node_record_law links nodes ok i lt (All-get_or NodeFits nodes i no_entry lt fits))
      ∙ (λ j. record {
        area = n.area_id;
        number = n.node_id;
        links = (ap (up_to (λ q. path_link (link_at (links_block links nodes) ((start + q) * 8))))
            (high count n.flags5) ∙ links_stored_law links nodes i lt own) j;
        body = file_body (file_node start count n);
      })

  -- what is known of each, as it is read, is known of the list
  pub nodes_by : {B : Type 0} (f : Node → B) (g : NodeEntry → B)
      → ((i : ℕ) → i < length nodes → f (node_read links nodes i) ≡ g (get_or nodes i no_entry))
      → map f (file_nodes block (links_block links nodes)) ≡ map g nodes
  unfolding file_nodes
  nodes_by f g e =
      let n : length block / 40 ≡ length nodes = omega (arith, nodes_length links nodes) in
      let file : ℕ → Node = λ i. file_node_of (links_block links nodes) (node_at block (i * 40)) in
      ap (λ (k : ℕ). map f (up_to file k)) n ∙ map_up_to f file (length nodes)
      ∙ up_to_same (λ i. f (file i)) (λ i. g (get_or nodes i no_entry)) (length nodes)
      (λ i lt. ap f (node_entry_law i lt) ∙ e i lt)
      ∙ up_to_all g nodes no_entry

body_back : (start count : ℕ) (ls : List PathLink) (n : NodeEntry) → KeptNode (node_with ls n)
    → file_body (file_node start count n) ≡ body_of n
unfolding file_node path_node
body_back start count ls n t =
    let f = n.flags5 in
    let e : (count * 8 + f % 8) % 8 ≡ f = let h = t.flags5 in omega arith in
    λ i. body_of (record n { position = record { x = t.x i; y = t.y i; z = t.z i }; flags5 = e i })

pub nodes_back : (links : List PathLink) (nodes : List NodeEntry)
    → accepted (check_nodes (λ n. length (links_in links n)) 0 0 nodes) ≡ true
    → All KeptNode (map (node_with links) nodes)
    → file_nodes (nodes_block links nodes) (links_block links nodes) ≡ map (node_with links) nodes
nodes_back links nodes ok t =
    let own = node_with links in
    let at : (i : ℕ) → i < length nodes → KeptNode (own (get_or nodes i no_entry)) = λ i lt. kept_at KeptNode own nodes
    i no_entry t lt in
    let fits : All NodeFits nodes = All-from_get_or NodeFits nodes no_entry (λ i lt.
    record { area_id = (at i lt).area; node_id = (at i lt).number; body = (at i lt).body }) in
    let k : All (λ n. All LinkFits n.links) (map own nodes) =
    All-weaker KeptNode (λ n. All LinkFits n.links) (λ n h. h.links) (map own nodes) t in
    sym (map-id (file_nodes (nodes_block links nodes) (links_block links nodes)))
    ∙ nodes_by links nodes ok fits k (λ n. n) own
    (λ i lt. ap (with_body (own (get_or nodes i no_entry)))
    (body_back (start_of links nodes i) (length (links_in links (get_or nodes i no_entry))) links
    (get_or nodes i no_entry) (at i lt)))

-- ---- junctions

pub junction_in_law : (start : ℕ) (j : JunctionEntry) → Sized j → start < 65536 → JunctionFits (file_junction start j)
unfolding file_junction
junction_in_law start j s h = record {
  max_z = step_in 5 (of_bits binary32 j.max_z);
  position_x = step_in 2 (of_bits binary32 j.x);
  position_y = step_in 2 (of_bits binary32 j.y);
  min_z = step_in 5 (of_bits binary32 j.min_z);
  heightmap_ptr = h;
  heightmap_dim_x = s.width;
  heightmap_dim_y = s.height;
}

-- a junction as it is written, read: with its own values
abbrev pub junction_read : List ℕ → JunctionEntry → Junction
junction_read heights j = with_values (file_junction_of [] (file_junction 0 j)) (values_in heights j)

module _ (heights : List ℕ) (js : List JunctionEntry)
    (ok : accepted (check_junctions (λ j. length (values_in heights j)) 0 0 js) ≡ true)
    (sized : All Sized js)
    (t : All (λ j. All IsByte j.values) (map (junction_with heights) js))
    (maps : All (λ j. length j.values ≡ j.width * j.height) (map (junction_with heights) js)) where
  values_entry : (i : ℕ) → i < length js → All IsByte (values_in heights (get_or js i no_map))
      → up_to (λ k. byte_at (heights_block heights js) (length (joined (values_in heights) (take i js)) + k))
      (length (values_in heights (get_or js i no_map))) ≡ values_in heights (get_or js i no_map)
  values_entry i lt v =
      let own = values_in heights (get_or js i no_map) in
      let start = length (joined (values_in heights) (take i js)) in
      up_to_same (λ k. byte_at (heights_block heights js) (start + k)) (λ k. get_or own k 0) (length own)
      (λ k h.
      let small : get_or own k 0 < 256 = All-get_or IsByte own k 0 h v in
      ap (λ (x : ℕ). x % 256) (part_at (values_in heights) js i no_map 0 lt k h)
      ∙ (let e : get_or own k 0 % 256 ≡ get_or own k 0 = omega arith in e))
      ∙ up_to_all (λ x. x) own 0 ∙ map-id own

  junction_entry_law : (i : ℕ) → i < length js
      → file_junction_of (heights_block heights js) (junction_at (junctions_block heights js) (i * 12))
      ≡ junction_read heights (get_or js i no_map)
  unfolding file_junction values_in
  junction_entry_law i lt =
      let j = get_or js i no_map in
      let own = values_in heights j in
      let start = length (joined (values_in heights) (take i js)) in
      let low : 0 + start ≤ 65535 = junctions_ok (values_in heights) 0 0 js i ok lt in
      let full : length own ≡ j.width * j.height = kept_at (λ (j : Junction). length j.values ≡ j.width * j.height)
      (junction_with heights) js i no_map maps lt in
      let bytes = laid_at (values_in heights) junction_record 12
      (λ s j. junction_length (file_junction s j)) 0 js i no_map lt
      ∙ ap (λ (s : ℕ). junction_bytes (file_junction s j)) (zero-add start) in
      ap (file_junction_of (heights_block heights js))
      (junction_back (file_junction start j)
      (junction_in_law start j (All-get_or Sized js i no_map lt sized) (omega (arith, low)))
      (junctions_block heights js) (i * 12)
      (stands_at (junctions_block heights js) (junction_record start j) 12 i
      (junction_length (file_junction start j)) bytes))
      ∙ ap (with_values (file_junction_of [] (file_junction 0 j)))
      (ap (up_to (λ q. byte_at (heights_block heights js) (start + q))) (sym full)
      ∙ values_entry i lt (kept_at (λ (j : Junction). All IsByte j.values) (junction_with heights) js i no_map t lt))

  pub junctions_by : {B : Type 0} (f : Junction → B) (g : JunctionEntry → B)
      → ((i : ℕ) → i < length js → f (junction_read heights (get_or js i no_map)) ≡ g (get_or js i no_map))
      → map f (file_junctions (junctions_block heights js) (heights_block heights js)) ≡ map g js
  unfolding file_junctions
  junctions_by f g e =
      let h = heights_block heights js in
      let b = junctions_block heights js in
      let n : length b / 12 ≡ length js = omega (arith, junctions_length heights js) in
      let file : ℕ → Junction = λ i. file_junction_of h (junction_at b (i * 12)) in
      ap (λ (k : ℕ). map f (up_to file k)) n ∙ map_up_to f file (length js)
      ∙ up_to_same (λ i. f (file i)) (λ i. g (get_or js i no_map)) (length js)
      (λ i lt. ap f (junction_entry_law i lt) ∙ e i lt)
      ∙ up_to_all g js no_map

-- a junction whose coordinates are in whole steps is as it was
junction_back_law : (heights : List ℕ) (j : JunctionEntry) → KeptJunction (junction_with heights j)
    → junction_read heights j ≡ junction_with heights j
unfolding file_junction values_in
junction_back_law heights j k = λ i. record {
  x = k.x i;
  y = k.y i;
  low = k.low i;
  high = k.high i;
  width = j.width;
  height = j.height;
  values = take (j.width * j.height) (drop j.heightmap_ptr heights);
}

pub junctions_back : (heights : List ℕ) (js : List JunctionEntry)
    → accepted (check_junctions (λ j. length (values_in heights j)) 0 0 js) ≡ true
    → All KeptJunction (map (junction_with heights) js)
    → file_junctions (junctions_block heights js) (heights_block heights js) ≡ map (junction_with heights) js
junctions_back heights js ok t =
    let own = junction_with heights in
    let at : (i : ℕ) → i < length js → KeptJunction (own (get_or js i no_map)) = λ i lt. kept_at KeptJunction own js i
    no_map t lt in
    let sized : All Sized js = All-from_get_or Sized js no_map
    (λ i lt. record { width = (at i lt).width; height = (at i lt).height }) in
    let values : All (λ j. All IsByte j.values) (map own js) = All-weaker KeptJunction (λ j. All IsByte j.values)
    (λ j k. k.values) (map own js) t in
    let maps : All (λ j. length j.values ≡ j.width * j.height) (map own js) = All-weaker KeptJunction
    (λ j. length j.values ≡ j.width * j.height) (λ j k. k.full) (map own js) t in
    sym (map-id (file_junctions (junctions_block heights js) (heights_block heights js)))
    ∙ junctions_by heights js ok sized values maps (λ j. j) own
    (λ i lt. junction_back_law heights (get_or js i no_map) (at i lt))

-- ---- refs

module _ (refs : List NodeJunctionRef) (t : All RefFits refs) where
  ref_entry_law : (i : ℕ) → i < length refs → ref_at (refs_block refs) (i * 8) ≡ get_or refs i no_ref
  ref_entry_law i lt =
      let r = get_or refs i no_ref in
      ref_back r (All-get_or RefFits refs i no_ref lt t) (refs_block refs) (i * 8)
      (stands_at (refs_block refs) (ref_bytes r) 8 i (ref_length r) (joined_at ref_bytes 8 ref_length refs i no_ref lt))

  pub refs_back : file_refs (refs_block refs) ≡ refs
  unfolding file_refs
  refs_back =
      let b = refs_block refs in
      let n : length b / 8 ≡ length refs = omega (arith, refs_length refs) in
      ap (up_to (λ i. ref_at b (i * 8))) n
      ∙ up_to_same (λ i. ref_at b (i * 8)) (λ i. get_or refs i no_ref) (length refs) ref_entry_law
      ∙ up_to_all (λ r. r) refs no_ref ∙ map-id refs
