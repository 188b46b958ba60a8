-- A cell that storing keeps is left as it was by write-then-read.
use Prim.Native.Nat.{ℕ, ◌%◌, ◌≤◌, ◌<◌}
use native.Mathlib.Omega.{arith}
use mathlib.Core.Path.{◌≡◌, refl, sym, ap, ◌∙◌}
use mathlib.Core.Bool.{Bool, true, false}
use mathlib.Core.List.{List, [], ◌∷◌, ◌++◌, map}
use lib.Dec.{ltb}
use lib.ListN.{length, get_or, take, drop, length-take, length-map}
use lib.Seq.{take-append_seam}
use borrow.Author.Tests.{ltb-false}
use Rattle.records.specs.Sections.{bytes_of}
use Rattle.records.specs.declared.root.Root.{Root}
use Rattle.cells.specs.Checks.{root_read, sizes_check, arrays_found}
use Rattle.cells.specs.Memory.{Memory, unless, over_limit, short}
use Rattle.cells.specs.Read.{if_found, read_arrays, read_of}
use Rattle.cells.specs.Cell.{Cell}
use Rattle.cells.specs.CellOf.{node_with, junction_with, nodes_of, junctions_of, refs_of, cell_of}
use Rattle.cells.specs.FileCell.{cell_from, cell_by, file_cell}
use Rattle.cells.proofs.WritingBack.KeptCells.{KeptJunction, IsWord, Kept}
use Rattle.std.specs.List.{All}
use Rattle.std.proofs.lemmas.List.{get_or-map}
use Rattle.std.proofs.lemmas.List.Elements.{All-get_or, All-from_get_or}
use Rattle.cells.specs.Nodes.{no_map}
use Rattle.cells.specs.Entries.{links_in, values_in}
use Rattle.cells.specs.WriteChecks.{maps_cut, accepted, check_nodes, check_junctions}
use Rattle.cells.specs.Blocks.{refs_block, heights_block, junctions_block, links_block, nodes_block, blocks}
use Rattle.cells.specs.Blocks.{root_for, written}
use Rattle.cells.specs.Write.{WriteLeft, left, refuse, or_else, after, held, stored, write_held, write_call}
use Rattle.cells.specs.WriteCounts.{Cut, Sized}
use Rattle.cells.specs.WriteRead.{if_read, if_written, write_read_of}
use Rattle.cells.proofs.Forms.Limits.{within}
use Rattle.cells.proofs.Reading.Fits.{whole as whole_lists}
use Rattle.cells.proofs.Reading.ReadLaws.{small}
use Rattle.cells.proofs.Reading.FileRead.{read_cell}
use Rattle.cells.proofs.WritingBack.BlocksBack.{nodes_back, junctions_back, refs_back}
use Rattle.cells.proofs.WritingBack.SectionBack.{seven_of, stored_root, array_back, root_read_law, nodes_here}
use Rattle.cells.proofs.WritingBack.SectionBack.{links_here, junctions_here, heights_here, refs_here}
use Rattle.std.specs.Prelude.{Result, Ok, Err}
use Rattle.numbers.specs.Refusals.{Answer}
use Rattle.numbers.specs.declared.refusal.Refusal.{Refusal}
use Rattle.numbers.specs.declared.refusal.Refusal.TheVariants.{TooShort, TooManyRefs, WrongSize, AtLimit}
use Rattle.numbers.specs.declared.refusal.Lent.TheVariants as lent

-- ---- the section that was written, read

pub whole : (n : ℕ) → n < 4294967296 → n % 4294967296 ≡ n
whole n h = omega arith

pub seven_back : (u : List ℕ) → length u ≡ 7 → All IsWord u → seven_of u ≡ u
seven_back [] e t = absurd (omega arith)
seven_back (a ∷ []) e t = absurd (omega arith)
seven_back (a ∷ b ∷ []) e t = absurd (omega arith)
seven_back (a ∷ b ∷ c ∷ []) e t = absurd (omega arith)
seven_back (a ∷ b ∷ c ∷ d ∷ []) e t = absurd (omega arith)
seven_back (a ∷ b ∷ c ∷ d ∷ f ∷ []) e t = absurd (omega arith)
seven_back (a ∷ b ∷ c ∷ d ∷ f ∷ g ∷ []) e t = absurd (omega arith)
seven_back (a ∷ b ∷ c ∷ d ∷ f ∷ g ∷ h ∷ []) e t = λ i. whole a (t 0 0 (omega arith)) i ∷ whole b (t 1 0 (omega arith)) i
    ∷ whole c (t 2 0 (omega arith)) i ∷ whole d (t 3 0 (omega arith)) i ∷ whole f (t 4 0 (omega arith)) i
    ∷ whole g (t 5 0 (omega arith)) i ∷ whole h (t 6 0 (omega arith)) i ∷ []
seven_back (a ∷ b ∷ c ∷ d ∷ f ∷ g ∷ h ∷ k ∷ l) e t = absurd (omega arith)

-- what an accepted writing of h says
pub record Told (h : Memory) : Type 0 where
  pub nodes_told : accepted (check_nodes (λ n. length (links_in h.links n)) 0 0 h.nodes) ≡ true
  pub junctions_told : accepted (check_junctions (λ j. length (values_in h.heights j)) 0 0 h.junctions) ≡ true
  pub refs_told : length h.refs ≤ 65535
  pub nodes_few : length h.nodes ≤ 65536
  pub junctions_few : length h.junctions ≤ 4096
  pub sized : All Sized h.junctions
  pub maps_told : maps_cut h.ynd.heightmap_count h.junctions ≡ false
  pub values_lent : h.ynd.heightmap_count ≤ length h.heights

-- the cell whose lists are h, each whole
abbrev pub whole_of : Memory → Cell
whole_of h = record {
  nodes = map (node_with h.links) h.nodes;
  junctions = map (junction_with h.heights) h.junctions;
  refs = h.refs;
  vehicles = h.ynd.vehicle_node_count;
  peds = h.ynd.ped_node_count;
  vft = h.ynd.vft;
  words = h.ynd.unknowns;
}

module _ (h : Memory) (told : Told h) (small : length (written h) ≤ 16777216) where
  abbrev root : Root
  root = root_for h (map length (blocks h))

  -- the section holds the blocks
  pub blocks_back : file_cell (written h) []
      ≡ cell_from (stored_root root) (nodes_block h.links h.nodes) (links_block h.links h.nodes)
      (junctions_block h.heights h.junctions) (heights_block h.heights h.junctions) (refs_block h.refs)
  unfolding file_cell cell_by
  blocks_back =
      let r = told.refs_told in
      let w = written h in
      ap (λ (r : Root). cell_by r w []) (root_read_law h r small)
      ∙ (λ i. cell_from (stored_root root)
      (array_back root.nodes root.node_count 40 w (nodes_block h.links h.nodes) (nodes_here h r small) i)
      (array_back root.links root.link_count 8 w (links_block h.links h.nodes) (links_here h r small) i)
      (array_back root.junctions root.junction_count 12 w (junctions_block h.heights h.junctions)
      (junctions_here h r small) i)
      (array_back root.heightmap root.heightmap_count 1 w (heights_block h.heights h.junctions)
      (heights_here h r small) i)
      (array_back root.refs root.ref_count 8 w (refs_block h.refs) (refs_here h r small) i))

  module _ (t : Kept (whole_of h)) where
    from_blocks : cell_from (stored_root root) (nodes_block h.links h.nodes) (links_block h.links h.nodes)
        (junctions_block h.heights h.junctions) (heights_block h.heights h.junctions) (refs_block h.refs) ≡ whole_of h
    unfolding cell_from root_for
    from_blocks = λ i. record {
      nodes = nodes_back h.links h.nodes told.nodes_told t.nodes i;
      junctions = junctions_back h.heights h.junctions told.junctions_told t.junctions i;
      refs = refs_back h.refs t.refs i;
      vehicles = whole h.ynd.vehicle_node_count t.vehicles i;
      peds = whole h.ynd.ped_node_count t.peds i;
      vft = whole h.ynd.vft t.vft i;
      words = seven_back h.ynd.unknowns t.seven t.words i;
    }

    pub section_back : file_cell (written h) [] ≡ whole_of h
    section_back = blocks_back ∙ from_blocks

-- ---- what an accepted call says

not_wrote : {P : Type 0} {a : Refusal} {n : ℕ} → ◌≡◌ {A = Result ℕ Refusal} (Err a) (Ok n) → P
not_wrote e = cc

after_told : (c : Result ℕ Refusal) (s : List ℕ) (next : WriteLeft) (n : ℕ) → (after c s next).answer ≡ Ok n
    → (accepted c ≡ true) × (after c s next ≡ next)
after_told (Err a) s next n e = not_wrote e
after_told (Ok k) s next n e = (refl, refl)

list_told : (c : Answer) (s : List ℕ) (next : WriteLeft) (n : ℕ) → (after c s next).answer ≡ Ok n → (c ≡ Ok tt)
    × (after c s next ≡ next)
list_told (Err a) s next n e = not_wrote e
list_told (Ok tt) s next n e = (refl, refl)

else_told : (b : Bool) (cause : Refusal) (s : List ℕ) (next : WriteLeft) (n : ℕ)
    → (or_else b (refuse cause s) next).answer ≡ Ok n → (b ≡ false) × (or_else b (refuse cause s) next ≡ next)
else_told true cause s next n e = not_wrote e
else_told false cause s next n e = (refl, refl)

-- what an accepted writing stores: n bytes, the section of h
pub record Held (h : Memory) (l : WriteLeft) (n : ℕ) : Type 0 where
  pub told : Told h
  pub bytes : take n l.section ≡ written h

-- the same of any memory, also of one with a junction whose sides fit no byte
pub record Wrote (h : Memory) (l : WriteLeft) (n : ℕ) : Type 0 where
  pub told : All Sized h.junctions → Told h
  pub refs_told : length h.refs ≤ 65535
  pub bytes : take n l.section ≡ written h

stored_told_law : (h : Memory) (s : List ℕ) (n : ℕ) → (stored h s).answer ≡ Ok n → take n (stored h s).section
    ≡ written h
unfolding stored
stored_told_law h s n e =
    let next = left (Ok (length (written h))) (written h ++ drop (length (written h)) s) in
    let r = else_told (ltb (length s) (length (written h))) (TooShort lent.Section) s next n e in
    let same : ◌≡◌ {A = Result ℕ Refusal} (Ok (length (written h))) (Ok n) = ap (λ (l : WriteLeft). l.answer)
    (sym r.1) ∙ e in
    let long : length (written h) ≡ n = cc in
    ap (λ (l : WriteLeft). take n l.section) r.1
    ∙ ap (λ (k : ℕ). take k (written h ++ drop (length (written h)) s)) (sym long)
    ∙ take-append_seam (written h) (drop (length (written h)) s)

-- the lists are cut to the counts
pub held_cut : (m : Memory) → Cut (held m)
unfolding held
held_cut m =
    record {
      nodes_cut = few m.ynd.node_count m.nodes;
      junctions_cut = few m.ynd.junction_count m.junctions;
      refs_cut = few m.ynd.ref_count m.refs;
    }
  where
    few : {A : Type 0} (n : ℕ) (l : List A) → length (take n l) ≤ n
    few n l = omega (arith, length-take n l)

-- the heightmap values are all lent, where no list is too short
values_all : (m : Memory) → short m ≡ Ok tt → m.ynd.heightmap_count ≤ length (held m).heights
unfolding held
values_all m t = omega (arith, length-take m.ynd.heightmap_count m.heights, (whole_lists m t).heights_fit)

held_wrote : (h : Memory) → Cut h → (lack : Answer) → (lack ≡ Ok tt → h.ynd.heightmap_count ≤ length h.heights)
    → (s : List ℕ) (n : ℕ) → (write_held h lack s).answer ≡ Ok n → Wrote h (write_held h lack s) n
unfolding write_held
held_wrote h cut lack lent s n e₀ =
    let l₄ = stored h s in
    let l₃ = after lack s l₄ in
    let l₂ = or_else (ltb 65535 h.ynd.ref_count) (refuse TooManyRefs s) l₃ in
    let l₁ = after (check_junctions (λ j. length (values_in h.heights j)) 0 0 h.junctions) s l₂ in
    let l₀ = after (check_nodes (λ n. length (links_in h.links n)) 0 0 h.nodes) s l₁ in
    let l = or_else (maps_cut h.ynd.heightmap_count h.junctions) (refuse WrongSize s) l₀ in
    let r₀ = else_told (over_limit h.ynd) AtLimit s l n e₀ in
    let e₅ : l.answer ≡ Ok n = ap (λ (l : WriteLeft). l.answer) (sym r₀.1) ∙ e₀ in
    let r₅ = else_told (maps_cut h.ynd.heightmap_count h.junctions) WrongSize s l₀ n e₅ in
    let e : l₀.answer ≡ Ok n = ap (λ (l : WriteLeft). l.answer) (sym r₅.1) ∙ e₅ in
    let limits = within h.ynd r₀.0 in
    let r₁ = after_told (check_nodes (λ n. length (links_in h.links n)) 0 0 h.nodes) s l₁ n e in
    let e₁ : l₁.answer ≡ Ok n = ap (λ (l : WriteLeft). l.answer) (sym r₁.1) ∙ e in
    let r₂ = after_told (check_junctions (λ j. length (values_in h.heights j)) 0 0 h.junctions) s l₂ n e₁ in
    let e₂ : l₂.answer ≡ Ok n = ap (λ (l : WriteLeft). l.answer) (sym r₂.1) ∙ e₁ in
    let r₃ = else_told (ltb 65535 h.ynd.ref_count) TooManyRefs s l₃ n e₂ in
    let e₃ : l₃.answer ≡ Ok n = ap (λ (l : WriteLeft). l.answer) (sym r₃.1) ∙ e₂ in
    let r₄ = list_told lack s l₄ n e₃ in
    let e₄ : l₄.answer ≡ Ok n = ap (λ (l : WriteLeft). l.answer) (sym r₄.1) ∙ e₃ in
    let few_refs : length h.refs ≤ 65535 = omega (arith, ltb-false 65535 h.ynd.ref_count r₃.0, cut.refs_cut) in
    record {
      told = λ sized. record {
        nodes_told = r₁.0;
        junctions_told = r₂.0;
        refs_told = few_refs;
        nodes_few = omega (arith, limits.0, cut.nodes_cut);
        junctions_few = omega (arith, limits.1, cut.junctions_cut);
        sized = sized;
        maps_told = r₅.0;
        values_lent = lent r₄.0;
      };
      refs_told = few_refs;
      bytes = ap (λ (l : WriteLeft). take n l.section) (r₀.1 ∙ r₅.1 ∙ r₁.1 ∙ r₂.1 ∙ r₃.1 ∙ r₄.1)
          ∙ stored_told_law h s n e₄;
    }

pub write_wrote : (m : Memory) (s : List ℕ) (n : ℕ) → (write_call m s).answer ≡ Ok n
    → Wrote (held m) (write_call m s) n
unfolding write_call held
write_wrote m s n e = held_wrote (held m) (held_cut m) (short m) (values_all m) s n e

pub write_told : (m : Memory) → All Sized (held m).junctions → (s : List ℕ) (n : ℕ) → (write_call m s).answer ≡ Ok n
    → Held (held m) (write_call m s) n
write_told m sized s n e = let w = write_wrote m s n e in record { told = w.told sized; bytes = w.bytes }

-- the junctions of a cell that storing keeps are sized
pub kept_sized : (m : Memory) → Kept (cell_of m) → All Sized (held m).junctions
unfolding held cell_of junctions_of
kept_sized m k =
    let js = take m.ynd.junction_count m.junctions in
    let own = junction_with (take m.ynd.heightmap_count m.heights) in
    All-from_get_or Sized js no_map (λ i lt.
    let h : KeptJunction (own (get_or js i no_map)) = rw (← get_or-map own js i no_map (own no_map) lt)
    (All-get_or KeptJunction (map own js) i (own no_map)
    (let l : i < length (map own js) = omega (arith, length-map js own) in l) k.junctions) in
    record { width = h.width; height = h.height })

-- an accepted reading is of at most 16,777,216 bytes
read_few : (s g : List ℕ) (m : Memory) → (read_of s g m).answer ≡ Ok tt → length s ≤ 16777216
unfolding read_of
read_few s g m e = go (sizes_check (length s) (length g)) refl e
  where
    go : (c : Answer) → sizes_check (length s) (length g) ≡ c
        → (unless c m (if_found (arrays_found (root_read s) (length s) (length g)) m λ n l j h r. read_arrays
        (root_read s) (bytes_of n s g) (bytes_of l s g) (bytes_of j s g) (bytes_of h s g)
        (bytes_of r s g) m)).answer ≡ Ok tt
        → length s ≤ 16777216
    go (Err a) d t = cc
    go (Ok tt) d t = (small (length s) (length g) d).0

pub whole_held : (m : Memory) → whole_of (held m) ≡ cell_of m
unfolding held cell_of nodes_of junctions_of refs_of
whole_held m = refl

-- write-then-read, accepted or not, leaves a cell that storing keeps
pub write_read_same : (m : Memory) (s : List ℕ) → Kept (cell_of m) → cell_of (write_read_of m s).memory
    ≡ cell_of m
unfolding write_read_of cell_of held nodes_of junctions_of refs_of
write_read_same m s k = go (write_call m s).answer refl
  where
    t : List ℕ
    t = (write_call m s).section

    reading : (n : ℕ) → take n t ≡ written (held m) → Told (held m) → (c : Answer)
        → (read_of (take n t) [] m).answer ≡ c
        → cell_of (if_read n t c (read_of (take n t) [] m).memory m s).memory ≡ cell_of m
    reading n b told (Err x) e = refl
    reading n b told (Ok tt) e =
        read_cell (take n t) [] m e ∙ ap (λ (w : List ℕ). file_cell w []) b
        ∙ section_back (held m) told
        (let q : length (written (held m)) ≤ 16777216 = omega (arith, read_few (take n t) [] m e, ap length b) in
        q) k
        ∙ whole_held m

    go : (a : Result ℕ Refusal) → (write_call m s).answer ≡ a → cell_of (if_written a t m s).memory ≡ cell_of m
    go (Err x) e = refl
    go (Ok n) e = let w = write_told m (kept_sized m k) s n e in reading n w.bytes w.told (read_of
        (take n t) [] m).answer refl
