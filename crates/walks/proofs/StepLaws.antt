-- Where a choice leads, by the words in memory.
use Prim.Native.Nat.{ℕ, zero, suc, ◌+◌, ◌<◌, ◌≤◌}
use native.Mathlib.Omega.{arith}
use native.Mathlib.Nat.{suc-add}
use mathlib.Core.Path.{◌≡◌, refl, ap, sym, ◌∙◌}
use mathlib.Core.Logic.{⊎_elim}
use mathlib.Core.Bool.{Bool, true, false, cond, ◌&&◌}
use mathlib.Core.List.{List, [], ◌∷◌, map}
use mathlib.Core.Option.{Option, none, some}
use lib.ListN.{length, get_or, get_elem?, take, drop, length-map}
use lib.Seq.{length-take-le, get_or-take}
use lib.Dec.{eqb, ltb}
use borrow.Author.Tests.{le-ltb, ltb-true, ltb-false}
use Rattle.std.specs.Prelude.{Result, Ok, Err, Some, None, slice_get}
use Rattle.std.specs.declared.option.Option as std
use Rattle.std.proofs.lemmas.List.{get_or-map}
use Rattle.std.proofs.lemmas.Bool.{cases_lt}
use Rattle.std.proofs.lemmas.List.{get_or_past}
use Rattle.cells.proofs.Sequences.Tests.{and_left, by_test}
use Rattle.cells.proofs.Forms.Limits.{within as limits}
use Rattle.cells.specs.Memory.{Memory, over_limit, nodes_causes}
use Rattle.cells.specs.Nodes.{first_area, no_entry}
use Rattle.cells.specs.declared.node_entry.NodeEntry.{NodeEntry}
use Rattle.cells.proofs.Lookups.LookupLaws.{area_held}
use Rattle.cells.specs.Area.{belongs}
use Rattle.cells.specs.Cell.{Node, no_node, node_at, numbers}
use Rattle.cells.specs.declared.link.PathLink.{PathLink}
use Rattle.cells.specs.CellOf.{node_with, nodes_of, cell_of}
use Rattle.cells.specs.Lookup.{find, first_with, or_later}
use Rattle.cells.specs.LookupCall.{Place, numbers_in, place_of, find_in, node_call}
use Rattle.walks.specs.Parts.{chosen, number_led, own_number}
use Rattle.walks.specs.Walk.{stop, next, link_at, take_link, arrive}
use Rattle.walks.specs.WalkParts.{step_of}
use Rattle.walks.specs.declared.walk.End.{End}
use Rattle.walks.specs.declared.walk.End.TheVariants.{Left, NoNode}
use Rattle.numbers.specs.declared.refusal.Refusal.{Refusal}
use Rattle.walks.proofs.ScratchLaws.{numbers_long}
use Rattle.walks.proofs.SoundWords.{numbers_same}

module _ {A : Type 0} where
  pub elem_at : (l : List A) (i : ℕ) (d : A) → i < length l → get_elem? l i ≡ some (get_or l i d)
  elem_at [] i d lt = absurd (omega arith)
  elem_at (x ∷ xs) zero d lt = refl
  elem_at (x ∷ xs) (suc i) d lt = elem_at xs i d (omega arith)

  pub elem_past : (l : List A) (i : ℕ) → length l ≤ i → get_elem? l i ≡ none
  elem_past [] i h = refl
  elem_past (x ∷ xs) zero h = absurd (omega arith)
  elem_past (x ∷ xs) (suc i) h = elem_past xs i (omega arith)

  elem_drop : (s : ℕ) (l : List A) (i : ℕ) → get_elem? (drop s l) i ≡ get_elem? l (s + i)
  elem_drop zero l i = ap (get_elem? l) (omega arith)
  elem_drop (suc s) [] i = refl
  elem_drop (suc s) (x ∷ xs) i = rw suc-add (elem_drop s xs i)

  elem_take : (n : ℕ) (l : List A) (i : ℕ) → i < n → get_elem? (take n l) i ≡ get_elem? l i
  elem_take zero l i h = absurd (omega arith)
  elem_take (suc n) [] i h = refl
  elem_take (suc n) (x ∷ xs) zero h = refl
  elem_take (suc n) (x ∷ xs) (suc i) h = elem_take n xs i (omega arith)

  elem_take_past : (n : ℕ) (l : List A) (i : ℕ) → n ≤ i → get_elem? (take n l) i ≡ none
  elem_take_past zero l i h = refl
  elem_take_past (suc n) [] i h = refl
  elem_take_past (suc n) (x ∷ xs) zero h = absurd (omega arith)
  elem_take_past (suc n) (x ∷ xs) (suc i) h = elem_take_past n xs i (omega arith)

abbrev pub linked : {A : Type 0} → std.Option A → Option A
linked (Some l) = some l
linked None = none

-- ---- a number that is found is a place

first_inside : (xs : List ℕ) (k q : ℕ) → first_with xs k ≡ some q → q < length xs
unfolding first_with
first_inside [] k q e = absurd (cc)
first_inside (x ∷ xs) k q e = go (eqb x k) (first_with xs k) (first_inside xs k) e
  where
    go : (b : Bool) (r : Option ℕ) → ((j : ℕ) → r ≡ some j → j < length xs) → or_later b r ≡ some q
        → q < suc (length xs)
    go true r h e = let z : 0 ≡ q = cc in omega arith
    go false (some j) h e = let z : suc j ≡ q = cc in omega (arith, h j refl)
    go false none h e = absurd (cc)

pub find_inside : (xs : List ℕ) (k q : ℕ) → find xs k ≡ some q → q < length xs
unfolding find
find_inside xs k q e = by_test (ltb k (length xs) && eqb (get_or xs k 0) k)
    (λ t. let z : k ≡ q = cc in omega (arith, ltb-true k (length xs) (and_left _ _ t)))
    (λ f. first_inside xs k q (rw f at e))

-- ---- the link chosen

-- a choice among a range of a pool of links, and among the words that the pool is made of
range_at : {A : Type 0} (c s b : ℕ) (l : List A)
    → get_elem? (take c (drop s l)) b ≡ cond (ltb b c) (get_elem? l (s + b)) none
range_at c s b l = by_test (ltb b c)
    (λ t. elem_take c (drop s l) b (ltb-true _ _ t) ∙ elem_drop s l b ∙ rw t)
    (λ f. elem_take_past c (drop s l) b (ltb-false _ _ f) ∙ rw f)

elem_is : {A : Type 0} (l : List A) (i : ℕ) → get_elem? l i ≡ linked (slice_get l i)
elem_is [] i = refl
elem_is (x ∷ xs) zero = refl
elem_is (x ∷ xs) (suc i) = elem_is xs i

chosen_is : (ls : List PathLink) (n : NodeEntry) (b : ℕ)
    → get_elem? (take n.link_count (drop n.link_id ls)) b ≡ linked (chosen ls n b)
unfolding chosen
chosen_is ls n b =
    range_at n.link_count n.link_id b ls
    ∙ rw (elem_is ls (n.link_id + b)) (go (ltb b n.link_count) (slice_get ls (n.link_id + b)))
  where
    go : (t : Bool) (o : std.Option PathLink) → cond t (linked o) none ≡ linked (cond t o None)
    go true o = refl
    go false o = refl

module _ (m : Memory) where
  abbrev n : ℕ
  n = m.ynd.node_count

  abbrev l : ℕ
  l = m.ynd.link_count

  abbrev pool : List PathLink
  pool = take l m.links

  -- the words of the node at a place, none beyond the count
  abbrev pub words : ℕ → NodeEntry
  words p = get_or (take n m.nodes) p no_entry

  -- the node at a place, by its words
  pub node_in : n ≤ length m.nodes → (p : ℕ) → p < n → node_at (nodes_of m) p
      ≡ node_with pool (get_or m.nodes p no_entry)
  unfolding nodes_of
  node_in fits p lt =
      get_or-map (node_with pool) (take n m.nodes) p no_entry no_node (omega (arith, length-take-le n m.nodes fits))
      ∙ ap (node_with pool) (get_or-take n m.nodes p no_entry lt)

  links_in : (p : ℕ) → (node_at (nodes_of m) p).links ≡ take (words p).link_count (drop (words p).link_id pool)
  unfolding nodes_of no_node
  links_in p = ⊎_elim
      (λ lt. ap (λ (x : Node). x.links) (get_or-map (node_with pool) (take n m.nodes) p no_entry no_node lt))
      (λ le. rw (
        get_or_past (map (node_with pool) (take n m.nodes)) p no_node
            (omega (arith, length-map (take n m.nodes) (node_with pool), le)),
        get_or_past (take n m.nodes) p no_entry le,
      ) refl)
      (cases_lt p (length (take n m.nodes)))

  -- what a choice finds, whatever the lists
  pub link_found : (p b : ℕ) → link_at (nodes_of m) p b ≡ linked (chosen (take l m.links) (words p) b)
  link_found p b = ap (λ (ls : List PathLink). get_elem? ls b) (links_in p) ∙ chosen_is (take l m.links) (words p) b

  module _ (p b : ℕ) where
    -- on to the number named, or the end
    abbrev to_number : Result ℕ End → Result ℕ End
    to_number (Ok k) = step_of (arrive (find (numbers (nodes_of m)) k))
    to_number (Err e) = Err e

    -- where a choice leads, by the number that it names
    told_next : to_number (own_number (take n m.nodes) (take l m.links) p b) ≡ step_of (next (cell_of m).nodes p b)
    unfolding own_number cell_of next
    told_next = rw (link_found p b) (go (chosen (take l m.links) (words p) b))
      where
        leads_on : (t : Bool) (a k : ℕ) → to_number (cond t (Ok k) (Err (Left a k)))
            ≡ step_of (cond t (arrive (find (numbers (nodes_of m)) k)) (stop (Left a k)))
        leads_on true a k = refl
        leads_on false a k = refl

        go : (o : std.Option PathLink) → to_number (number_led (first_area (take n m.nodes)) o)
            ≡ step_of (take_link (nodes_of m) (linked o))
        go None = refl
        go (Some l) = rw (area_held m)
            (leads_on (belongs (first_area (take n m.nodes)) l.area_id) l.area_id l.node_id)

    -- the walk ends there
    pub next_end : {o : Result ℕ End} → o ≡ own_number (take n m.nodes) (take l m.links) p b → (e : End) → o ≡ Err e
        → Err e ≡ step_of (next (cell_of m).nodes p b)
    next_end h e is = ap to_number (sym is ∙ h) ∙ told_next

    -- on to a number of the cell's own area
    pub next_own : (k : ℕ) → Ok k ≡ own_number (take n m.nodes) (take l m.links) p b
        → (r : Result ℕ End) → r ≡ step_of (arrive (find (numbers (nodes_of m)) k))
        → r ≡ step_of (next (cell_of m).nodes p b)
    next_own k h r a = a ∙ ap to_number h ∙ told_next

  same_numbers : numbers (nodes_of m) ≡ numbers_in n m.nodes
  unfolding cell_of
  same_numbers = numbers_same m

  -- ---- what `node` finds

  module _ (within : over_limit m.ynd ≡ false) (fits : n ≤ length m.nodes) (k : ℕ) {o : Place}
      (e : o ≡ node_call m.ynd m.nodes k) where
    abbrev ks : List ℕ
    ks = numbers (nodes_of m)

    told : o ≡ Ok (place_of (find ks k))
    unfolding node_call nodes_causes find_in
    told = e ∙ rw (within, le-ltb _ _ fits, same_numbers)

    abbrev arrived : Place → Result ℕ End
    arrived (Ok (Some q)) = Ok q
    arrived (Ok None) = Err NoNode
    arrived (Err x) = Err NoNode

    arrives : arrived o ≡ step_of (arrive (find ks k))
    arrives = ap arrived told ∙ on (find ks k)
      where
        on : (f : Option ℕ) → arrived (Ok (place_of f)) ≡ step_of (arrive f)
        on (some q) = refl
        on none = refl

    pub there : (q : ℕ) → o ≡ Ok (Some q) → Ok q ≡ step_of (arrive (find ks k))
    there q is = ap arrived (sym is) ∙ arrives

    pub not_there : o ≡ Ok None → Err NoNode ≡ step_of (arrive (find ks k))
    not_there is = ap arrived (sym is) ∙ arrives

    pub not_asked : (x : Refusal) → o ≡ Err x → Err NoNode ≡ step_of (arrive (find ks k))
    not_asked x is = ap arrived (sym is) ∙ arrives

    -- a place is a small number
    pub small : (q : ℕ) → o ≡ Ok (Some q) → q < 65536
    small q is = go (find ks k) (find_inside ks k) (sym is ∙ told)
      where
        go : (f : Option ℕ) → ((j : ℕ) → f ≡ some j → j < length ks) → ◌≡◌ {A = Place} (Ok (Some q)) (Ok (place_of f))
            → q < 65536
        go (some j) h f =
            let z : q ≡ j = cc in
            omega (arith, z, h j refl, ap length same_numbers, numbers_long n m.nodes fits, (limits m.ynd within).0)
        go none h f = absurd (cc)

-- for the functions that follow a choice
pub ruleset next_laws = (next_end, next_own)

pub ruleset arrive_laws = (there, not_there, not_asked)
