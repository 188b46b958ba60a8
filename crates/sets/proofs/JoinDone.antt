-- The call `join`, by what its parts answer.
use Prim.Native.Nat.{ℕ, ◌+◌, ◌≤◌, min}
use native.Mathlib.Omega.{arith}
use mathlib.Core.Path.{◌≡◌, refl, ap, sym, ◌∙◌}
use mathlib.Core.Bool.{Bool, ◌||◌}
use mathlib.Core.List.{List, [], ◌∷◌, ◌++◌}
use lib.Dec.{ltb, leb}
use lib.ListN.{length, set, take, length-append}
use Rattle.std.proofs.lemmas.List.{length-take, take_min}
use Rattle.numbers.specs.Refusals.{when, decided}
use Rattle.cells.specs.Memory.{Memory, over_limit}
use Rattle.cells.specs.CellOf.{cell_of}
use Rattle.cells.specs.Nodes.{first_area}
use Rattle.cells.specs.Lookup.{first_with, is_some}
use Rattle.cells.proofs.Lookups.LookupLaws.{area_held}
use Rattle.sets.specs.Members as members
use Rattle.sets.specs.Members.{areas}
use Rattle.sets.specs.MemberList.{cells_of, node_count, nodes_together, any_over, over_set, unless}
use Rattle.sets.specs.CellSet.{CellSet, cell_set, words_at, total, parts_in, members_of}
use Rattle.sets.specs.Leave.{SetLeft, set_left, left_after, used, start_of, first_of_area}
use Rattle.sets.specs.Join.{entry_of, stored, lack_for, set_lengths, cell_lengths, join_causes, with_cell, join_cell}
use Rattle.cells.specs.Memory.{counts_of}
use Rattle.sets.specs.SetParts.{starts_of, areas_of, bare, bare_cell, entry_causes}
use Rattle.cells.specs.declared.counts.Counts.{Counts}
use Rattle.sets.proofs.PartLaws.{start_all}
use Rattle.sets.proofs.CellSetLaws.{members_many, areas_held}
use Rattle.sets.proofs.RoomLaws.{bare_many, from_together, from_over}
use Rattle.sets.proofs.JoinLaws.{together_more, over_more, AllFit, may}
use Rattle.std.specs.Prelude.{Result, Ok, Err}
use Rattle.std.specs.Result.{IsErrAnd}
use Rattle.std.proofs.lemmas.Result.{err_from_is_err_and}
use Rattle.numbers.specs.declared.refusal.Refusal.{Refusal}
use Rattle.numbers.specs.Refusals.{Answer}
use Rattle.numbers.specs.declared.refusal.Refusal.TheVariants.{TooShort, AtLimit, AreaTaken}
use Rattle.numbers.specs.declared.refusal.Lent.TheVariants as lent
use Rattle.cells.specs.declared.node_entry.NodeEntry.{NodeEntry}
use Rattle.cells.specs.declared.link.PathLink.{PathLink}
use Rattle.cells.specs.declared.junction_entry.JunctionEntry.{JunctionEntry}
use Rattle.records.specs.declared.junction_ref.NodeJunctionRef.{NodeJunctionRef}

-- ---- the set's entries

pub least_is : {A : Type 0} (l : List A) (count h : ℕ) → h ≡ min count (length l) → h ≡ length (take count l)
least_is l count h e = e ∙ sym (length-take count l)

-- the slice that is lent is the set's entries
pub front_is : {A : Type 0} (l : List A) (count h : ℕ) → h ≡ min count (length l) → take h l ≡ take count l
front_is l count h e = ap (λ (n : ℕ). take n l) e ∙ take_min count l

-- ---- the causes

over_alike : (z : CellSet) (m : Memory) → over_set (members_of z ++ (m ∷ []))
    ≡ over_set (bare z.members ++ (bare_cell m.ynd ∷ []))
unfolding over_set members_of
over_alike z m =
    let p = parts_in z in
    let ws = z.members in
    let long : length (members_of z ++ (m ∷ [])) ≡ length (bare ws ++ (bare_cell m.ynd ∷ [])) =
    length-append (members_of z) (m ∷ []) ∙ ap (λ (n : ℕ). n + 1) (members_many z ∙ sym (bare_many ws))
    ∙ sym (length-append (bare ws) (bare_cell m.ynd ∷ [])) in
    let sum : nodes_together (members_of z ++ (m ∷ [])) ≡ nodes_together (bare ws ++ (bare_cell m.ynd ∷ [])) =
    together_more (members_of z) m ∙ ap (λ (n : ℕ). n + node_count m) (from_together p 0 ws)
    ∙ sym (together_more (bare ws) (bare_cell m.ynd)) in
    let any : any_over (members_of z ++ (m ∷ [])) ≡ any_over (bare ws ++ (bare_cell m.ynd ∷ [])) =
    over_more (members_of z) m ∙ ap (λ (b : Bool). b || over_limit m.ynd) (from_over p 0 ws)
    ∙ sym (over_more (bare ws) (bare_cell m.ynd)) in
    λ i. ltb 9 (long i) || (ltb 65536 (sum i) || any i)

module _ (count : ℕ) (y : CellSet) (m : Memory) (sizes : Counts) where
  abbrev pub z : CellSet
  z = used count y

  abbrev pub room : ℕ
  room = length y.members

  abbrev pub asked : ℕ → Answer
  asked area = decided (entry_causes z.members y.nodes (set_lengths y) (cell_lengths m) m.ynd sizes area room)

  causes_are : (area : ℕ) → area ≡ first_area (take m.ynd.node_count m.nodes) → asked area
      ≡ decided (join_causes z room m sizes)
  unfolding join_causes entry_causes first_of_area cell_of
  causes_are area e =
      let here : is_some (first_with (areas_of z.members y.nodes) area)
      ≡ is_some (first_with (areas (cells_of (members_of z))) (members.area_of (cell_of m))) = λ i. is_some
      (first_with (areas_held z i) ((e ∙ sym (area_held m)) i)) in
      let lack = lack_for z.members (set_lengths y) (cell_lengths m) m.ynd sizes in
      λ i. decided (when (here i) AreaTaken ∷ when (sym (over_alike z m) i) AtLimit
      ∷ (lack ++ (when (leb room (length z.members)) (TooShort lent.Members) ∷ [])))

  abbrev pub left : Answer → SetLeft
  left a = unless a (λ cause. set_left (Err cause) (length z.members) y)
      (set_left (Ok tt) (length z.members + 1) (with_cell y z m sizes))

  pub call_is : (area : ℕ) → area ≡ first_area (take m.ynd.node_count m.nodes) → left (asked area)
      ≡ join_cell count y m sizes
  unfolding join_cell
  call_is area ea = ap left (causes_are area ea)

  -- by what the parts of the call give
  module _ {area h : ℕ} {lens haves : Counts} {a : Answer} (ea : area ≡ first_area (take m.ynd.node_count m.nodes))
      (eh : h ≡ min count room) (el : lens ≡ set_lengths y) (ec : haves ≡ cell_lengths m)
      (ra : a ≡ decided (entry_causes (take h y.members) y.nodes lens haves m.ynd sizes area room)) where
    told : left a ≡ join_cell count y m sizes
    told =
        ap left (ra
        ∙ (λ i. decided (entry_causes (front_is y.members count h eh i) y.nodes (el i) (ec i) m.ynd sizes area room)))
        ∙ call_is area ea

    pub refused_join : {x : Refusal} (r : Result ℕ Refusal) → a ≡ Err x → IsErrAnd r (λ q. q ≡ x)
        → left_after (length z.members) r y ≡ join_cell count y m sizes
    refused_join {x} r e er =
        let k = err_from_is_err_and r er in
        ap (λ (q : Result ℕ Refusal). left_after (length z.members) q y) (k.1 ∙ ap Err k.2) ∙ ap left (sym e) ∙ told

    module _ (d : a ≡ (Ok tt)) {s k : Counts} (es : s ≡ starts_of (take h y.members) h) (ek : k ≡ counts_of m.ynd)
      where
        start : (of : Counts → ℕ) (size : ℕ)
            → ((ws : List (List ℕ)) (i : ℕ) → of (starts_of ws i) ≡ start_of size ws i)
            → of s ≡ total (words_at size z.members)
        start of size is =
            ap of es ∙ is (take h y.members) h
            ∙ (λ i. start_of size (front_is y.members count h eh i) (least_is y.members count h eh i))
            ∙ start_all size z.members

        -- the cell's entries have room where they go
        pub append_fits : ((k.nodes ≤ length m.nodes) × (s.nodes + k.nodes ≤ length y.nodes))
            × ((k.links ≤ length m.links) × (s.links + k.links ≤ length y.links))
            × ((k.junctions ≤ length m.junctions) × (s.junctions + k.junctions ≤ length y.junctions))
            × ((k.heights ≤ length m.heights) × (s.heights + k.heights ≤ length y.heights))
            × ((k.refs ≤ length m.refs) × (s.refs + k.refs ≤ length y.refs))
        append_fits =
            let f = rw (front_is y.members count h eh, el, ec) at (may _ _ _ _ _ _ _ _ (sym d ∙ ra)).fit in
            rw ek (
              (
                f.nodes.in_cell,
                omega (
                  arith,
                  start (λ c. c.nodes) 15 (λ ws i. refl),
                  f.nodes.in_part,
                  f.nodes.in_list,
                ),
              ),
              (
                f.links.in_cell,
                omega (
                  arith,
                  start (λ c. c.links) 16 (λ ws i. refl),
                  f.links.in_part,
                  f.links.in_list,
                ),
              ),
              (
                f.junctions.in_cell,
                omega (arith, start (λ c. c.junctions) 17 (λ ws i. refl), f.junctions.in_part, f.junctions.in_list),
              ),
              (
                f.heights.in_cell,
                omega (arith, start (λ c. c.heights) 18 (λ ws i. refl), f.heights.in_part, f.heights.in_list),
              ),
              (f.refs.in_cell, omega (arith, start (λ c. c.refs) 19 (λ ws i. refl), f.refs.in_part, f.refs.in_list)),
            )

        pub joined : {W : List ℕ} {N : List NodeEntry} {L : List PathLink} {J : List JunctionEntry}
            {R : List NodeJunctionRef} {H : List ℕ} → W ≡ entry_of m.ynd sizes
            → (N ≡ stored s.nodes (take k.nodes m.nodes) y.nodes) × (L ≡ stored s.links (take k.links m.links) y.links)
            × (J ≡ stored s.junctions (take k.junctions m.junctions) y.junctions)
            × (H ≡ stored s.heights (take k.heights m.heights) y.heights)
            × (R ≡ stored s.refs (take k.refs m.refs) y.refs)
            → set_left (Ok tt) (h + 1) (cell_set (set y.members h W) N L J H R) ≡ join_cell count y m sizes
        unfolding with_cell
        joined {W} {N} {L} {J} {R} {H} eW e =
            let n = least_is y.members count h eh in
            (λ i. set_left (Ok tt) (n i + 1) (record {
              members = set y.members (n i) (eW i);
              nodes = (e.0 ∙ (λ j. stored (start (λ c. c.nodes) 15 (λ ws i. refl) j) (take (ek j).nodes m.nodes)
                  y.nodes)) i;
              links = (e.1 ∙ (λ j. stored (start (λ c. c.links) 16 (λ ws i. refl) j) (take (ek j).links m.links)
                  y.links)) i;
              junctions = (e.2 ∙ (λ j. stored (start (λ c. c.junctions) 17 (λ ws i. refl) j)
                  (take (ek j).junctions m.junctions) y.junctions)) i;
              heights = (e.3 ∙ (λ j. stored (start (λ c. c.heights) 18 (λ ws i. refl) j)
                  (take (ek j).heights m.heights) y.heights)) i;
              refs = (e.4 ∙ (λ j. stored (start (λ c. c.refs) 19 (λ ws i. refl) j) (take (ek j).refs m.refs)
                  y.refs)) i;
            }))
            ∙ ap left (sym d)
            ∙ told

-- for the check
pub ruleset joining_laws = (may, least_is)
