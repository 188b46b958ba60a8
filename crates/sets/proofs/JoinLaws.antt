-- What a cell that joins is asked, by the entries and the lists' lengths.
use Rattle.std.proofs.Math.Bool.{or-false}
use Rattle.std.proofs.lemmas.Bool.{not-false}
use Prim.Native.Nat.{ℕ, ◌+◌, ◌-◌, ◌≤◌, ◌<◌}
use native.Mathlib.Omega.{arith}
use mathlib.Core.Path.{◌≡◌, refl, ap, sym, ◌∙◌}
use mathlib.Core.Bool.{Bool, true, false, ◌||◌}
use mathlib.Core.List.{List, [], ◌∷◌, ◌++◌}
use mathlib.Core.Option.{Option}
use lib.Dec.{ltb, leb}
use lib.ListN.{length, length-append}
use borrow.Author.Tests.{lt-ltb, le-ltb, lt-leb, le-leb, leb-true, leb-false, ltb-true, ltb-false}
use Rattle.numbers.specs.Refusals.{Cause, when, decided, unless}
use Rattle.numbers.proofs.Refusing.{decided_append, not_refused, passed}
use Rattle.cells.specs.Lookup.{first_with, is_some}
use Rattle.cells.specs.Memory.{Memory, over_limit}
use Rattle.cells.specs.declared.ynd.Ynd.{Ynd}
use Rattle.cells.proofs.Sequences.Tests.{by_test, and_left, and_right, true_false}
use Rattle.sets.specs.MemberList.{node_count, nodes_together, any_over, over_set}
use Rattle.cells.specs.Lists.{every}
use Rattle.sets.specs.CellSet.{words_at, total, room_for, holds_list}
use Rattle.sets.specs.Join.{part_fits, lack_for}
use Rattle.sets.specs.SetParts.{bare, bare_cell, areas_of, entry_causes}
use Rattle.cells.specs.declared.counts.Counts.{Counts}
use Rattle.sets.proofs.RoomLaws.{bare_many, bare_together, tail_done}
use Rattle.std.specs.Prelude.{Ok, Err}
use Rattle.numbers.specs.Refusals.{Answer}
use Rattle.numbers.specs.declared.refusal.Refusal.TheVariants.{TooShort, AtLimit, AreaTaken}
use Rattle.numbers.specs.declared.refusal.Lent.TheVariants as lent
use Rattle.cells.specs.declared.node_entry.NodeEntry.{NodeEntry}

-- ---- a part

module _ (k size : ℕ) (ws : List (List ℕ)) (len have count room : ℕ) where
  pub not_held : holds_list k size ws len ≡ false → false ≡ part_fits k size ws len have count room
  unfolding part_fits
  not_held a = rw a

  pub list_held : holds_list k size ws len ≡ true → total (words_at size ws) ≤ len
  unfolding holds_list
  list_held t = leb-true _ _ (and_right (every (room_for k size) ws) (leb (total (words_at size ws)) len) t)

  module _ (a : holds_list k size ws len ≡ true) where
    pub cell_short : have < count → false ≡ part_fits k size ws len have count room
    unfolding part_fits
    cell_short b = rw (a, lt-leb count have b)

    module _ (b : count ≤ have) where
      pub part_small : room < count → false ≡ part_fits k size ws len have count room
      unfolding part_fits
      part_small c = rw (a, le-leb count have b, lt-leb count room c)

      module _ (c : count ≤ room) where
        pub part_large : 4294967295 < room → false ≡ part_fits k size ws len have count room
        unfolding part_fits
        part_large d = rw (a, le-leb count have b, le-leb count room c, le-ltb room 4294967296 (omega arith))

        pub part_behind : (n : ℕ) → room ≤ 4294967295 → n ≡ total (words_at size ws) → leb room (len - n)
            ≡ part_fits k size ws len have count room
        unfolding part_fits
        part_behind n d e =
            let t = total (words_at size ws) in
            let h : t ≤ len = list_held a in
            rw (a, le-leb count have b, le-leb count room c, lt-ltb room 4294967296 (omega arith))
            (by_test (leb (t + room) len)
            (λ y. le-leb room (len - n) (omega (arith, leb-true (t + room) len y, e)) ∙ sym y)
            (λ f. lt-leb room (len - n) (omega (arith, leb-false (t + room) len f, e, h)) ∙ sym f))

-- what a part that fits has
pub record Fitting (size : ℕ) (ws : List (List ℕ)) (len have count room : ℕ) : Type 0 where
  pub in_cell : count ≤ have
  pub in_part : count ≤ room
  pub small : room < 4294967296
  pub in_list : total (words_at size ws) + room ≤ len

fitting : (k size : ℕ) (ws : List (List ℕ)) (len have count room : ℕ) → part_fits k size ws len have count room
    ≡ true → Fitting size ws len have count room
unfolding part_fits
fitting k size ws len have count room t =
    let t₁ = and_right (holds_list k size ws len) _ t in
    let t₂ = and_right (leb count have) _ t₁ in
    let t₃ = and_right (leb count room) _ t₂ in
    record {
      in_cell = leb-true count have (and_left (leb count have) _ t₁);
      in_part = leb-true count room (and_left (leb count room) _ t₂);
      small = ltb-true room 4294967296 (and_left (ltb room 4294967296) _ t₃);
      in_list = leb-true (total (words_at size ws) + room) len (and_right (ltb room 4294967296) _ t₃);
    }

-- ---- the five lists

-- two lists of causes, one behind the other
pub both_done : (xs ys : List Cause) → decided (xs ++ ys) ≡ (Ok tt) → (decided xs ≡ (Ok tt)) × (decided ys ≡ (Ok tt))
both_done xs ys e = go (decided xs) (decided ys) (sym (decided_append xs ys) ∙ e)
  where
    go : (a b : Answer) → unless a b ≡ (Ok tt) → (a ≡ (Ok tt)) × (b ≡ (Ok tt))
    go (Ok tt) b e = (refl, e)
    go (Err x) b e = not_refused e

module _ (ws : List (List ℕ)) (lens haves : Counts) (y : Ynd) (sizes : Counts) where
  pub record AllFit : Type 0 where
    pub nodes : Fitting 15 ws lens.nodes haves.nodes y.node_count sizes.nodes
    pub links : Fitting 16 ws lens.links haves.links y.link_count sizes.links
    pub junctions : Fitting 17 ws lens.junctions haves.junctions y.junction_count sizes.junctions
    pub heights : Fitting 18 ws lens.heights haves.heights y.heightmap_count sizes.heights
    pub refs : Fitting 19 ws lens.refs haves.refs y.ref_count sizes.refs

  abbrev lack : List Cause
  lack = lack_for ws lens haves y sizes

  pub all_fit : decided lack ≡ (Ok tt) → AllFit
  unfolding lack_for
  all_fit e = record {
    nodes = fitting 10 15 ws _ _ _ _ (not-false _ (passed lack 0 e));
    links = fitting 11 16 ws _ _ _ _ (not-false _ (passed lack 1 e));
    junctions = fitting 12 17 ws _ _ _ _ (not-false _ (passed lack 2 e));
    heights = fitting 13 18 ws _ _ _ _ (not-false _ (passed lack 3 e));
    refs = fitting 14 19 ws _ _ _ _ (not-false _ (passed lack 4 e));
  }

-- ---- the limits, with the cell

pub together_more : (ms : List Memory) (m : Memory) → nodes_together (ms ++ (m ∷ [])) ≡ nodes_together ms
    + node_count m
unfolding nodes_together
together_more [] m = omega arith
together_more (x ∷ xs) m = let h = together_more xs m in omega (arith, h)

pub over_more : (ms : List Memory) (m : Memory) → any_over (ms ++ (m ∷ [])) ≡ any_over ms || over_limit m.ynd
unfolding any_over
over_more [] m = or-false (over_limit m.ynd)
over_more (x ∷ xs) m = go (over_limit x.ynd) (over_more xs m)
  where
    go : (b : Bool) → any_over (xs ++ (m ∷ [])) ≡ any_over xs || over_limit m.ynd → b || any_over (xs ++ (m ∷ []))
        ≡ (b || any_over xs) || over_limit m.ynd
    go true h = refl
    go false h = h

module _ (ws : List (List ℕ)) (y : Ynd) where
  abbrev with_it : List Memory
  with_it = bare ws ++ (bare_cell y ∷ [])

  more_many : length with_it ≡ length ws + 1
  more_many = length-append (bare ws) (bare_cell y ∷ []) ∙ ap (λ (n : ℕ). n + 1) (bare_many ws)

  more_together : nodes_together with_it ≡ total (words_at 10 ws) + y.node_count
  more_together = together_more (bare ws) (bare_cell y) ∙ ap (λ (n : ℕ). n + y.node_count) (bare_together ws)

  pub tenth : 9 ≤ length ws → true ≡ over_set with_it
  unfolding over_set
  tenth h = rw (lt-ltb 9 (length with_it) (let z : 9 < length with_it = omega (arith, more_many) in z))

  module _ (few : length ws < 9) where
    nine : ltb 9 (length with_it) ≡ false
    nine = le-ltb 9 (length with_it) (let z : length with_it ≤ 9 = omega (arith, more_many) in z)

    pub beyond : (n c : ℕ) → n ≡ total (words_at 10 ws) → c ≡ y.node_count → 65536 < n + c → true ≡ over_set with_it
    unfolding over_set
    beyond n c e f h = rw (
      nine,
      lt-ltb 65536 (nodes_together with_it)
          (let z : 65536 < nodes_together with_it = omega (arith, more_together, e, f) in z),
    )

    module _ (n c : ℕ) (e : n ≡ total (words_at 10 ws)) (f : c ≡ y.node_count) (h : n + c ≤ 65536) where
      within : ltb 65536 (nodes_together with_it) ≡ false
      within = le-ltb 65536 (nodes_together with_it)
          (let z : nodes_together with_it ≤ 65536 = omega (arith, more_together, e, f) in z)

      pub member_over : any_over (bare ws) ≡ true → true ≡ over_set with_it
      unfolding over_set
      member_over t = rw (nine, within, over_more (bare ws) (bare_cell y), t)

      pub cell_over : any_over (bare ws) ≡ false → over_limit y ≡ over_set with_it
      unfolding over_set
      cell_over t = rw (nine, within, over_more (bare ws) (bare_cell y), t)

  pub few_of : over_set with_it ≡ false → length ws < 9
  few_of e = by_test (ltb (length ws) 9) (λ t. ltb-true (length ws) 9 t)
      (λ g. true_false (tenth (ltb-false (length ws) 9 g) ∙ e))

-- ---- the answer

module _ (ws : List (List ℕ)) (nodes : List NodeEntry) (lens haves : Counts) (y : Ynd) (sizes : Counts)
    (area room : ℕ) where
  abbrev found : Option ℕ
  found = first_with (areas_of ws nodes) area

  abbrev answer : Answer
  answer = decided (entry_causes ws nodes lens haves y sizes area room)

  pub record May : Type 0 where
    pub few : length ws < 9
    pub fit : AllFit ws lens haves y sizes
    pub entry : length ws < room

  pub may : (Ok tt) ≡ answer → May
  unfolding entry_causes
  may e =
      let cs = entry_causes ws nodes lens haves y sizes area room in
      let full = when (leb room (length ws)) (TooShort lent.Members) in
      let over = passed cs 1 (sym e) in
      let rest = lack_for ws lens haves y sizes ++ (full ∷ []) in
      let taken = when (is_some found) AreaTaken in
      let limit = when (over_set (bare ws ++ (bare_cell y ∷ []))) AtLimit in
      let later = both_done (lack_for ws lens haves y sizes) (full ∷ [])
      (tail_done limit rest (tail_done taken (limit ∷ rest) (sym e))) in
      record {
        few = few_of ws y over;
        fit = all_fit ws lens haves y sizes later.0;
        entry = leb-false room (length ws) (passed (full ∷ []) 0 later.1);
      }
