-- Write-then-read of a cell as reading leaves it is refused exactly as writing is: reading back never refuses.
use Prim.Native.Nat.{ℕ, ◌-◌, ◌≤◌, ◌<◌, min}
use native.Mathlib.Omega.{arith}
use mathlib.Core.Path.{◌≡◌, refl, sym, ap, ◌∙◌}
use mathlib.Core.Bool.{Bool, true, false}
use mathlib.Core.List.{List, [], ◌∷◌, ◌++◌, map}
use lib.Dec.{ltb}
use lib.ListN.{length, get_or, take, drop, length-map, length-take, length-drop}
use borrow.Author.Tests.{eqb-true, le-ltb}
use Rattle.records.specs.Put.{joined}
use Rattle.cells.specs.Lists.{every}
use Rattle.cells.specs.Nodes.{no_map, value_count}
use Rattle.cells.specs.WriteCounts.{Sized}
use Rattle.std.specs.List.{All}
use Rattle.std.proofs.lemmas.List.{get_or-map}
use Rattle.std.proofs.lemmas.List.Elements.{All-get_or, All-from_get_or}
use Rattle.cells.specs.declared.node_entry.NodeEntry.{NodeEntry}
use Rattle.cells.specs.Cell.{Node, Junction}
use Rattle.cells.specs.CellOf.{node_with, junction_with, nodes_of, junctions_of, cell_of}
use Rattle.cells.specs.Memory.{Memory, over_limit, short}
use Rattle.cells.specs.Read.{room_check, read_of}
use Rattle.cells.specs.Entries.{links_in, values_in}
use Rattle.cells.specs.WriteChecks.{values_within, maps_cut, check_nodes, check_junctions}
use Rattle.cells.specs.Blocks.{written}
use Rattle.cells.specs.Write.{WriteLeft, left, refuse, or_else, after, held, stored, write_held, write_call}
use Rattle.cells.specs.WriteRead.{Both, if_read, if_written, write_read_of}
use Rattle.cells.specs.BackCheck.{held_counts, lengths, back_check}
use Rattle.cells.proofs.Sequences.Tests.{and_left, and_right}
use Rattle.cells.proofs.WritingBack.BackCheck.{tested_first}
use Rattle.cells.proofs.Sequences.JoinedCounts.{count_map}
use Rattle.cells.proofs.WritingBack.AsRead.{whole_map, SizedMap, AsRead}
use Rattle.std.specs.Prelude.{Result, Ok, Err}
use Rattle.numbers.specs.Refusals.{Answer}
use Rattle.numbers.specs.declared.refusal.Refusal.{Refusal}
use Rattle.numbers.specs.declared.refusal.Refusal.TheVariants.{TooShort, TooManyRefs, WrongSize, AtLimit}
use Rattle.numbers.specs.declared.refusal.Lent.TheVariants as lent
use Rattle.cells.specs.declared.link.PathLink.{PathLink}
use Rattle.cells.specs.declared.junction_entry.JunctionEntry.{JunctionEntry}

-- ---- the cell, and the entries that hold it

links_same : (ls : List PathLink) (ns : List NodeEntry) → length (joined (λ n. n.links) (map (node_with ls) ns))
    ≡ length (joined (links_in ls) ns)
unfolding links_in
links_same ls ns = count_map (λ (n : Node). n.links) (node_with ls) (links_in ls) (λ w. refl) ns

values_same : (hs : List ℕ) (js : List JunctionEntry) → length (joined (λ j. j.values) (map (junction_with hs) js))
    ≡ length (joined (values_in hs) js)
unfolding values_in
values_same hs js = count_map (λ (j : Junction). j.values) (junction_with hs) (values_in hs) (λ w. refl) js

-- ---- 12: heightmaps that are whole are not cut

none_cut : (pool : ℕ) (hs : List ℕ) (js : List JunctionEntry) → every whole_map (map (junction_with (take pool hs)) js)
    ≡ true → maps_cut pool js ≡ false
unfolding maps_cut values_within every
none_cut pool hs [] t = refl
none_cut pool hs (j ∷ js) t =
    let all = eqb-true _ (value_count j) (and_left (whole_map (junction_with (take pool hs) j)) _ t) in
    let fits : value_count j ≤ min (value_count j) (pool - j.heightmap_ptr) =
    omega (
      arith,
      all,
      length-take (value_count j) (drop j.heightmap_ptr (take pool hs)),
      length-drop
          j.heightmap_ptr (take pool hs),
      length-take pool hs,
    ) in
    rw (le-ltb (min (value_count j) (pool - j.heightmap_ptr)) (value_count j) fits)
    (none_cut pool hs js (and_right (whole_map (junction_with (take pool hs) j)) _ t))

-- ---- a refused writing leaves the section

abbrev Leaves : List ℕ → WriteLeft → Type 0
Leaves s w = (cause : Refusal) → w.answer ≡ Err cause → w.section ≡ s

after_leaves : {A : Type 0} (c : Result A Refusal) (s : List ℕ) (next : WriteLeft) → Leaves s next
    → Leaves s (after c s next)
after_leaves (Err a) s next h cause e = refl
after_leaves (Ok n) s next h cause e = h cause e

else_leaves : (b : Bool) (x : Refusal) (s : List ℕ) (next : WriteLeft) → Leaves s next
    → Leaves s (or_else b (refuse x s) next)
else_leaves true x s next h cause e = refl
else_leaves false x s next h cause e = h cause e

wrote_leaves : (n : ℕ) (t s : List ℕ) → Leaves s (left (Ok n) t)
wrote_leaves n t s cause e = cc

stored_leaves : (h : Memory) (s : List ℕ) → Leaves s (stored h s)
unfolding stored
stored_leaves h s =
    let n = length (written h) in
    let t = written h ++ drop n s in
    else_leaves (ltb (length s) n) (TooShort lent.Section) s (left (Ok n) t) (wrote_leaves n t s)

held_leaves : (h : Memory) (lack : Answer) (s : List ℕ) → Leaves s (write_held h lack s)
unfolding write_held
held_leaves h lack s =
    let l₃ = after lack s (stored h s) in
    let l₂ = or_else (ltb 65535 h.ynd.ref_count) (refuse TooManyRefs s) l₃ in
    let l₁ = after (check_junctions (λ j. length (values_in h.heights j)) 0 0 h.junctions) s l₂ in
    let l₀ = after (check_nodes (λ n. length (links_in h.links n)) 0 0 h.nodes) s l₁ in
    else_leaves (over_limit h.ynd) AtLimit s
    (or_else (maps_cut h.ynd.heightmap_count h.junctions) (refuse WrongSize s) l₀)
    (else_leaves (maps_cut h.ynd.heightmap_count h.junctions) WrongSize s l₀
    (after_leaves (check_nodes (λ n. length (links_in h.links n)) 0 0 h.nodes) s l₁
    (after_leaves (check_junctions (λ j. length (values_in h.heights j)) 0 0 h.junctions) s l₂
    (else_leaves (ltb 65535 h.ynd.ref_count) TooManyRefs s l₃
    (after_leaves lack s (stored h s) (stored_leaves h s))))))

refused_leaves : (m : Memory) (s : List ℕ) → Leaves s (write_call m s)
unfolding write_call
refused_leaves m s = held_leaves (held m) (short m) s

-- ---- all of reading back

module _ (m : Memory) (h : AsRead m) where
  abbrev ns : List NodeEntry
  ns = take m.ynd.node_count m.nodes

  abbrev ls : List PathLink
  ls = take m.ynd.link_count m.links

  abbrev js : List JunctionEntry
  js = take m.ynd.junction_count m.junctions

  abbrev hs : List ℕ
  hs = take m.ynd.heightmap_count m.heights

  links_room : length (joined (links_in ls) ns) ≤ length m.links
  unfolding cell_of nodes_of
  links_room = omega (arith, h.links_fit, links_same ls ns)

  values_room : length (joined (values_in hs) js) ≤ length m.heights
  unfolding cell_of junctions_of
  values_room = omega (arith, h.values_fit, values_same hs js)

  room_enough : room_check (held_counts (held m)) (length m.nodes) (length m.links) (length m.junctions)
      (length m.heights) (length m.refs) ≡ Ok tt
  unfolding held room_check
  room_enough =
      rw (
        le-ltb (length m.nodes) (length ns) (omega (arith, length-take m.ynd.node_count m.nodes)),
        le-ltb (length m.links) (length (joined (links_in ls) ns)) links_room,
        le-ltb (length m.junctions) (length js) (omega (arith, length-take m.ynd.junction_count m.junctions)),
        le-ltb (length m.heights) (length (joined (values_in hs) js)) values_room,
        le-ltb (length m.refs) (length (take m.ynd.ref_count m.refs))
            (omega (arith, length-take m.ynd.ref_count m.refs)),
      )
      refl

  back_done : back_check (held m) (lengths m) ≡ Ok tt
  unfolding back_check held
  back_done = room_enough

  -- 12 never comes
  pub maps_kept : maps_cut m.ynd.heightmap_count (held m).junctions ≡ false
  unfolding cell_of junctions_of held
  maps_kept = none_cut m.ynd.heightmap_count m.heights js h.maps_whole

  sized : All Sized (held m).junctions
  unfolding held cell_of junctions_of
  sized =
      let own = junction_with hs in
      All-from_get_or Sized js no_map (λ i lt.
      let h : SizedMap (own (get_or js i no_map)) = rw (← get_or-map own js i no_map (own no_map) lt)
      (All-get_or SizedMap (map own js) i (own no_map)
      (let l : i < length (map own js) = omega (arith, length-map js own) in l) h.sized) in
      record { width = h.width; height = h.height })

  -- what an accepted writing is followed by
  wrote : (s : List ℕ) (n : ℕ) → (write_call m s).answer ≡ Ok n
      → write_read_of m s ≡ record {
        answer = Ok n;
        memory = (read_of (written (held m)) [] m).memory;
        section =
            (write_call m s).section;
      }
  unfolding write_call
  wrote s n e =
      tested_first m sized s n e
      ∙ ap (λ (c : Answer). if_read n (write_call m s).section c (read_of (written (held m)) [] m).memory m s)
      back_done

  -- write-then-read answers what writing answers, and leaves the section that writing leaves
  pub as_writing : (s : List ℕ) → ((write_read_of m s).answer ≡ (write_call m s).answer)
      × ((write_read_of m s).section ≡ (write_call m s).section)
  unfolding write_read_of
  as_writing s = go (write_call m s).answer refl
    where
      go : (a : Result ℕ Refusal) → (write_call m s).answer ≡ a
          → ((write_read_of m s).answer ≡ (write_call m s).answer)
          × ((write_read_of m s).section ≡ (write_call m s).section)
      go (Err cause) e =
          let same = ap (λ (x : Result ℕ Refusal). if_written x (write_call m s).section m s) e in (
            ap (λ (b : Both). b.answer) same ∙ sym e,
            ap (λ (b : Both). b.section) same
                ∙ sym (refused_leaves m s cause e),
          )
      go (Ok n) e = (ap (λ (b : Both). b.answer) (wrote s n e) ∙ sym e, ap (λ (b : Both). b.section) (wrote s n e))
