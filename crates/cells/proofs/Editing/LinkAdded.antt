-- Adding a link in memory adds it to the cell that the memory holds.
use Rattle.std.proofs.lemmas.List.{get_or-map, take_min}
use Prim.Native.Nat.{ℕ, zero, suc, ◌+◌, ◌-◌, ◌≤◌, ◌<◌, min}
use native.Mathlib.Omega.{arith}
use native.Mathlib.Numerals.{add-one}
use mathlib.Core.Path.{◌≡◌, refl, ap, sym, ◌∙◌}
use mathlib.Core.Logic.{◌⊎◌, inl, inr, ⊎_elim}
use mathlib.Core.List.{List, [], ◌∷◌, ◌++◌, map}
use lib.Dec.{eqb, ltb, leb}
use lib.ListN.{length, get_or, take, drop, length-append, length-drop, length-map, length-set, get_or-append}
use lib.Seq.{take_at, get_or-take, length-take-le, get_or-set_same, get_or-set_other, ext_get_or, take-append-le}
use lib.Seq.{take-take}
use borrow.Author.Tests.{ne_eqb, ltb-true, ltb-false, leb-true, leb-false, eqb-true, eqb-false}
use Rattle.cells.specs.Nodes.{no_entry, no_link}
use Rattle.cells.specs.EntryForms.{with_range}
use Rattle.cells.specs.Cell.{Node, no_node, node_at}
use Rattle.cells.specs.CellOf.{node_with}
use Rattle.cells.specs.Cell.{body_of}
use Rattle.cells.specs.Edit.{held_in}
use Rattle.cells.specs.AddLink.{held_at, behind, at_in, inserted, shifted, nodes_after}
use Rattle.cells.specs.EditedCell.{with_link, add_to}
use Rattle.cells.proofs.Sequences.Tests.{by_test}
use Rattle.cells.proofs.Editing.EditLaws.{held_bound}
use Rattle.cells.proofs.Editing.Inserted.{front, front_long, held_few, behind_bound}
use Rattle.cells.proofs.Editing.Conditions.{Apart, link_start, link_count}
use Rattle.cells.specs.declared.link.PathLink.{PathLink}
use Rattle.cells.specs.declared.node_entry.NodeEntry.{NodeEntry}

-- how many of c links from s are among l
abbrev held : ℕ → ℕ → ℕ → ℕ
held s c l = held_in (record { start = s; count = c }) l

-- the first n nodes, of the first l links
abbrev nodes_over : ℕ → List NodeEntry → ℕ → List PathLink → List Node
nodes_over n nodes l links = map (node_with (take l links)) (take n nodes)

-- ---- a list with an element put in

module _ {A : Type 0} where
  abbrev ins : ℕ → A → List A → List A
  ins at y P = take at P ++ (y ∷ drop at P)

  part_front : (c at : ℕ) (y : A) (P : List A) → c ≤ at → at ≤ length P → take c (ins at y P) ≡ take c P
  part_front c at y P h k =
      let n = length-take-le at P k in
      take-append-le c (take at P) (y ∷ drop at P) (omega (arith, n)) ∙ take-take c at P h

  -- a range before it
  part_before : (s c at : ℕ) (y : A) (P : List A) → s + c ≤ at → at ≤ length P → take c (drop s (ins at y P))
      ≡ take c (drop s P)
  part_before zero c at y P h k = part_front c at y P (omega arith) k
  part_before (suc s) c zero y P h k = absurd (omega arith)
  part_before (suc s) c (suc at) y [] h k = absurd (omega arith)
  part_before (suc s) c (suc at) y (x ∷ xs) h k = part_before s c at y xs (omega arith) (omega arith)

  -- what lies behind it
  rest_behind : (s at : ℕ) (y : A) (P : List A) → at ≤ s → at ≤ length P → drop (suc s) (ins at y P) ≡ drop s P
  rest_behind s zero y P h k = refl
  rest_behind zero (suc at) y P h k = absurd (omega arith)
  rest_behind (suc s) (suc at) y [] h k = absurd (omega arith)
  rest_behind (suc s) (suc at) y (x ∷ xs) h k = rest_behind s at y xs (omega arith) (omega arith)

  -- the e elements before it, with it
  part_own : (b e at : ℕ) (y : A) (P : List A) → b + e ≡ at → at ≤ length P → take (suc e) (drop b (ins at y P))
      ≡ take e (drop b P) ++ (y ∷ [])
  part_own zero zero zero y P q h = refl
  part_own zero zero (suc at) y P q h = absurd (omega arith)
  part_own zero (suc e) zero y P q h = absurd (omega arith)
  part_own zero (suc e) (suc at) y [] q h = absurd (omega arith)
  part_own zero (suc e) (suc at) y (x ∷ xs) q h = ap (λ (t : List A). x ∷ t)
      (part_own zero e at y xs (omega arith) (omega arith))
  part_own (suc b) e zero y P q h = absurd (omega arith)
  part_own (suc b) e (suc at) y [] q h = absurd (omega arith)
  part_own (suc b) e (suc at) y (x ∷ xs) q h = part_own b e at y xs (omega arith) (omega arith)

  take_none : (c : ℕ) (l : List A) → c ≡ 0 → take c l ≡ []
  take_none zero l e = refl
  take_none (suc c) l e = absurd (omega arith)

  -- the elements of a range that are there
  part_held : (s c : ℕ) (P : List A) → take (held s c (length P)) (drop s P) ≡ take c (drop s P)
  unfolding held_in
  part_held s c P = ap (λ (n : ℕ). take (min c n) (drop s P)) (sym (length-drop s P)) ∙ take_min c (drop s P)

-- ---- a node with other links

abbrev pub with_links : NodeEntry → List PathLink → Node
with_links n ls = record { area = n.area_id; number = n.node_id; links = ls; body = body_of n }

module _ (P : List PathLink) (at : ℕ) (y : PathLink) (fits : at ≤ length P) (few : length P < 4294967295) where
  -- another node's links stay
  other : (w : NodeEntry) → (0 < link_count w → (link_start w + link_count w ≤ at)
      ⊎ ((at ≤ link_start w) × (link_start w < length P)))
      → node_with (ins at y P) (shifted at (length P) w) ≡ node_with P w
  unfolding shifted
  other w h = by_test (ltb (link_start w) at)
      (λ t. let lt : link_start w < at = ltb-true (link_start w) at t in rw t
      (ap (λ (ls : List PathLink). with_links w ls) (same lt (link_count w) h)))
      (λ f. let le : at ≤ link_start w = ltb-false (link_start w) at f in
      by_test (leb (length P) (link_start w))
      (λ t. let out : length P ≤ link_start w = leb-true (length P) (link_start w) t in rw (f, t)
      (ap (λ (ls : List PathLink). with_links w ls) (none le out (link_count w) h)))
      (λ g. let in' : link_start w < length P = leb-false (length P) (link_start w) g in
      rw (f, g) (ap (λ (ls : List PathLink). with_links w (take (link_count w) ls))
      (ap (λ (k : ℕ). drop k (ins at y P)) (add-one (link_start w))
      ∙ rest_behind (link_start w) at y P le fits))))
    where
      same : link_start w < at → (c : ℕ) → (0 < c → (link_start w + c ≤ at)
          ⊎ ((at ≤ link_start w) × (link_start w < length P))) → take c (drop (link_start w) (ins at y P))
          ≡ take c (drop (link_start w) P)
      same lt zero h = refl
      same lt (suc c) h = ⊎_elim (λ k. part_before (link_start w) (suc c) at y P k fits)
          (λ k. absurd (omega (arith, k.0))) (h (omega arith))

      none : at ≤ link_start w → length P ≤ link_start w → (c : ℕ)
          → (0 < c → (link_start w + c ≤ at) ⊎ ((at ≤ link_start w) × (link_start w < length P)))
          → take c (drop (link_start w) (ins at y P)) ≡ take c (drop (link_start w) P)
      none le out zero h = refl
      none le out (suc c) h = ⊎_elim (λ k. absurd (omega (arith, k))) (λ k. absurd (omega (arith, k.1)))
          (h (omega arith))

own_before : (P : List PathLink) (s c e : ℕ) → held s c (length P) ≡ e → take e (drop (behind s e (length P) - e) P)
    ≡ take (held s c (length P)) (drop s P)
unfolding behind
own_before P s c zero q = sym (take_none (held s c (length P)) (drop s P) q)
own_before P s c (suc e) q =
    let z : s + suc e - suc e ≡ s = omega arith in
    rw (ne_eqb (suc e) 0 (λ d. absurd (omega (arith, d))))
    ((λ i. take (suc e) (drop (z i) P)) ∙ ap (λ (k : ℕ). take k (drop s P)) (sym q))

-- the node's own links
own_links : (P : List PathLink) (s c : ℕ) (y : PathLink)
    → take (held s c (length P) + 1) (drop (behind s (held s c (length P)) (length P) - held s c (length P))
    (ins (behind s (held s c (length P)) (length P)) y P))
    ≡ take c (drop s P) ++ (y ∷ [])
own_links P s c y = go (held s c (length P)) refl
  where
    go : (e : ℕ) → held s c (length P) ≡ e
        → take (e + 1) (drop (behind s e (length P) - e) (ins (behind s e (length P)) y P)) ≡ take c (drop s P)
        ++ (y ∷ [])
    go e q =
        let b = behind_bound s e (length P)
        (omega (arith, q, (held_bound (record { start = s; count = c }) (length P)).0)) in
        ap (λ (k : ℕ). take k (drop (behind s e (length P) - e) (ins (behind s e (length P)) y P))) (add-one e)
        ∙ part_own (behind s e (length P) - e) e (behind s e (length P)) y P (omega (arith, b.1)) b.0
        ∙ ap (λ (t : List PathLink). t ++ (y ∷ [])) (own_before P s c e q ∙ part_held s c P)

-- ---- the words afterwards

module _ (n l p : ℕ) (nodes : List NodeEntry) (place : p < n) (nodes-fit : n ≤ length nodes) where
  abbrev moved_to : ℕ
  moved_to = at_in nodes p l

  abbrev moved_own : NodeEntry
  moved_own = get_or nodes p no_entry

  pub moved_long : length (map (shifted moved_to l) (take n nodes)) ≡ n
  moved_long = length-map (take n nodes) (shifted moved_to l) ∙ length-take-le n nodes nodes-fit

  pub word_own : get_or (nodes_after n l p nodes) p no_entry
      ≡ with_range moved_own (moved_to - held_at nodes p l) (held_at nodes p l + 1)
  unfolding nodes_after
  word_own = get_or-set_same (map (shifted moved_to l) (take n nodes) ++ drop n nodes) p
      (with_range moved_own (moved_to - held_at nodes p l) (held_at nodes p l + 1)) no_entry
      (omega (arith, length-append (map (shifted moved_to l) (take n nodes)) (drop n nodes), moved_long))

  pub word_other : (q : ℕ) → q < n → (q ≡ p → ⊥) → get_or (nodes_after n l p nodes) q no_entry
      ≡ shifted moved_to l (get_or nodes q no_entry)
  unfolding nodes_after
  word_other q lt ne =
      get_or-set_other (map (shifted moved_to l) (take n nodes) ++ drop n nodes) p q
      (with_range moved_own (moved_to - held_at nodes p l) (held_at nodes p l + 1)) no_entry ne
      ∙ get_or-append (map (shifted moved_to l) (take n nodes)) (drop n nodes) no_entry q (omega (arith, moved_long))
      ∙ get_or-map (shifted moved_to l) (take n nodes) q no_entry no_entry (omega
      (arith, length-take-le n nodes nodes-fit))
      ∙ ap (shifted moved_to l) (get_or-take n nodes q no_entry lt)

  pub after_long : length (nodes_after n l p nodes) ≡ length nodes
  unfolding nodes_after
  after_long = length-set (map (shifted moved_to l) (take n nodes) ++ drop n nodes) p
      (with_range moved_own (moved_to - held_at nodes p l) (held_at nodes p l + 1))
      ∙ length-append (map (shifted moved_to l) (take n nodes)) (drop n nodes)
      ∙ omega (arith, moved_long, length-drop n nodes)

-- ---- the whole

module _ (n l p : ℕ) (nodes : List NodeEntry) (links : List PathLink) (x : PathLink) (place : p < n)
    (nodes-fit : n ≤ length nodes)
    (links-fit : l < length links) (few : l < 4294967295)
    (one_more : held_at nodes p l < 255) (apart : Apart n l p nodes) where
  abbrev at : ℕ
  at = at_in nodes p l

  abbrev pool : List PathLink
  pool = take l links

  abbrev own : NodeEntry
  own = get_or nodes p no_entry

  pool_long : length pool ≡ l
  pool_long = length-take-le l links (omega arith)

  at_few : (at ≤ l) × (held_at nodes p l ≤ at)
  at_few = behind_bound (link_start own) (held_at nodes p l) l (held_few nodes p l)

  pool_new : take (l + 1) (inserted at l x links) ≡ ins at x pool
  unfolding inserted
  pool_new = take_at (front at l x links no_link at_few.0 links-fit) (drop (l + 1) links) (l + 1)
      (front_long at l x links no_link at_few.0 links-fit)

  -- where another node's range lies
  lies : (q : ℕ) → q < n → (q ≡ p → ⊥) → 0 < link_count (get_or nodes q no_entry)
      → (link_start (get_or nodes q no_entry) + link_count (get_or nodes q no_entry) ≤ at)
      ⊎ ((at ≤ link_start (get_or nodes q no_entry)) × (link_start (get_or nodes q no_entry) < l))
  unfolding behind
  lies q lt ne some = by_test (eqb (held_at nodes p l) 0)
      (λ t. rw t (inl (apart.inside q lt ne some)))
      (λ f. let nz = eqb-false (held_at nodes p l) 0 f in
      rw f (⊎_elim (λ h. inl (omega arith)) (λ h. inr (h, omega (arith, apart.inside q lt ne some)))
      (apart.apart q lt ne some (omega arith))))

  -- the nodes before and afterwards
  abbrev before : List Node
  before = nodes_over n nodes l links

  abbrev after : List Node
  after = nodes_over n (nodes_after n l p nodes) (l + 1) (inserted at l x links)

  before_at : (q : ℕ) → q < n → get_or before q no_node ≡ node_with pool (get_or nodes q no_entry)
  before_at q lt = get_or-map (node_with pool) (take n nodes) q no_entry no_node
      (omega (arith, length-take-le n nodes nodes-fit)) ∙ ap (node_with pool) (get_or-take n nodes q no_entry lt)

  after_at : (q : ℕ) → q < n → get_or after q no_node
      ≡ node_with (ins at x pool) (get_or (nodes_after n l p nodes) q no_entry)
  after_at q lt =
      get_or-map (node_with (take (l + 1) (inserted at l x links))) (take n (nodes_after n l p nodes))
      q no_entry no_node (omega (
        arith,
        length-take-le n (nodes_after n l p nodes)
            (omega (arith, after_long n l p nodes place nodes-fit)),
      ))
      ∙ (λ i. node_with (pool_new i) (get_or-take n (nodes_after n l p nodes) q no_entry lt i))

  node_own : get_or after p no_node ≡ with_link x (node_at before p)
  node_own =
      after_at p place ∙ ap (node_with (ins at x pool)) (word_own n l p nodes place nodes-fit)
      ∙ ap (λ (ls : List PathLink). with_links own ls) links_own
      ∙ sym (ap (with_link x) (before_at p place))
    where
      links_own : take (held_at nodes p l + 1) (drop (at - held_at nodes p l) (ins at x pool))
          ≡ take (link_count own) (drop (link_start own) pool) ++ (x ∷ [])
      links_own = rw pool_long at (own_links pool (link_start own) (link_count own) x)

  node_other : (q : ℕ) → q < n → (q ≡ p → ⊥) → get_or after q no_node ≡ node_at before q
  node_other q lt ne =
      after_at q lt ∙ ap (node_with (ins at x pool)) ((word_other n l p nodes place nodes-fit) q lt ne)
      ∙ (rw pool_long at (other pool at x (omega (arith, at_few.0, pool_long)) (omega (arith, pool_long))
      (get_or nodes q no_entry) (λ h. rw pool_long (lies q lt ne h))))
      ∙ sym (before_at q lt)

  before_long : length before ≡ n
  before_long = length-map (take n nodes) (node_with pool) ∙ length-take-le n nodes nodes-fit

  nodes_long : length after ≡ n
  nodes_long = length-map (take n (nodes_after n l p nodes))
      (node_with (take (l + 1) (inserted at l x links)))
      ∙ length-take-le n (nodes_after n l p nodes) (omega (arith, after_long n l p nodes place nodes-fit))

  -- the cell afterwards is the cell before, with one link more at the node
  pub link_added : after ≡ add_to p x before
  link_added = ext_get_or no_node after (add_to p x before)
      (nodes_long ∙ sym (length-set before p (with_link x (node_at before p)) ∙ before_long)) (λ q h.
      let lt : q < n = omega (arith, nodes_long) in
      by_test (eqb q p)
      (λ t. let e : p ≡ q = sym (eqb-true q p t) in
      rw (← e) (node_own ∙ sym (get_or-set_same before p (with_link x (node_at before p)) no_node
      (omega (arith, before_long)))))
      (λ f. let ne = eqb-false q p f in node_other q lt ne
      ∙ sym (get_or-set_other before p q (with_link x (node_at before p)) no_node ne)))
