-- A walk in a renumbered cell is the walk in the cell before, each place moved.
use Prim.Native.Nat.{ℕ, ◌<◌}
use mathlib.Core.Path.{◌≡◌, refl, ap, sym, ◌∙◌}
use mathlib.Core.Bool.{Bool, true}
use mathlib.Core.List.{List, [], ◌∷◌, map}
use mathlib.Core.Option.{Option, none, some}
use lib.Dec.{eqb}
use lib.ListN.{length, length-map}
use borrow.Author.Tests.{eqb-true, eqb-false, eq-eqb, ne_eqb}
use Rattle.cells.specs.Cell.{Node, Cell, node_at, no_node, numbers, ped_flags, first_of}
use Rattle.cells.specs.declared.link.PathLink.{PathLink}
use Rattle.records.specs.declared.junction_ref.NodeJunctionRef.{NodeJunctionRef}
use Rattle.cells.specs.Nodes.{relinked}
use Rattle.cells.specs.Nodes.{rereffed}
use Rattle.cells.specs.Cell.{renumber_cell, old_nodes}
use Rattle.cells.specs.Area.{belongs}
use Rattle.cells.proofs.Lookups.AreaLaws.{ref_own}
use Rattle.cells.specs.Order.{new_place, Old, renamed}
use Rattle.cells.specs.Lookup.{ref_of, junction_of}
use Rattle.cells.specs.Lists.{every}
use Rattle.walks.specs.Sound.{link_named, ref_named, node_sound}
use Rattle.walks.specs.Walk.{Visit, Trail, Next, to, stop, link_at, take_link, next, World, walk_in, see, walk}
use Rattle.walks.specs.Walk.{shown_of, go_on}
use Rattle.cells.proofs.Sequences.Tests.{and_left, and_right, by_test, every_at, every_any, if_any, map_at, map_option}
use Rattle.walks.proofs.Numbers.{Has, find_is, same_place}
use Rattle.cells.proofs.Renumbering.NewCell.{new_at, new_node_law, new_find, new_refs, new_junctions, number_is}
use Rattle.walks.proofs.NewSound.{Sound, new_area, new_own, node_area}

-- a trail with each place moved
abbrev pub move_visit : {L : Type 0} → (L → L) → Visit L → Visit L
move_visit f v = record { place = f v.place; seen = v.seen; link = v.link }

abbrev pub move : {L : Type 0} → (L → L) → Trail L → Trail L
move f t = record { ending = t.ending; visits = map (move_visit f) t.visits }

abbrev pub move_next : {L : Type 0} → (L → L) → Next L → Next L
move_next f (to q) = to (f q)
move_next f (stop e) = stop e

abbrev pub AllNext : {L : Type 0} → (L → Type 0) → Next L → Type 0
AllNext Ok (to q) = Ok q
AllNext Ok (stop e) = Unit {0}

-- the world v is the world w, each place that is Ok moved by f
pub record Simulates {L : Type 0} (Ok : L → Type 0) (w v : World L) (f : L → L) : Type 0 where
  pub next_same : (p : L) (b : ℕ) → Ok p → v.next (f p) b ≡ move_next f (w.next p b)
  pub next_ok : (p : L) (b : ℕ) → Ok p → AllNext Ok (w.next p b)
  pub see_same : (p : L) → Ok p → v.see (f p) ≡ w.see p
  pub link_same : (p : L) (b : ℕ) → Ok p → v.link (f p) b ≡ w.link p b

pub walk_alike : {L : Type 0} {Ok : L → Type 0} {w v : World L} {f : L → L} → Simulates Ok w v f
    → (bs : List ℕ) (p : L) → Ok p → walk_in v bs (f p) ≡ move f (walk_in w bs p)
unfolding walk_in
walk_alike s [] p ok = rw (s.see_same p ok)
walk_alike {L} {Ok} {w} {v} {f} s (b ∷ bs) p ok =
    rw (s.see_same p ok, s.link_same p b ok, s.next_same p b ok) (go (w.next p b) (s.next_ok p b ok) (walk_alike s bs))
  where
    here : Visit L
    here = record { place = p; seen = w.see p; link = w.link p b }

    go : (x : Next L) → AllNext Ok x → ((q : L) → Ok q → walk_in v bs (f q) ≡ move f (walk_in w bs q))
        → go_on (move_visit f here) (walk_in v bs) (move_next f x) ≡ move f (go_on here (walk_in w bs) x)
    go (to q) ok ih = rw (ih q ok)
    go (stop e) ok ih = refl

module _ (c : Cell) (s : Sound c) where
  abbrev ns : List Node
  ns = c.nodes

  abbrev peds : List Bool
  peds = ped_flags ns

  abbrev old : Old
  old = old_nodes ns

  abbrev own : ℕ
  own = first_of ns

  new_injective : (p q : ℕ) → p < length ns → q < length ns → new_place peds p ≡ new_place peds q → p ≡ q
  new_injective p q lp lq e =
      same_place (numbers ns) (node_at ns q).number p q s.differ
      (record { inside = rw length-map lp; number = cc (number_is ns p, (new_at ns p lp).1, (new_at ns q lq).1) })
      (record { inside = rw length-map lq; number = number_is ns q })

  -- what named the node at place p names it still, and nothing else does
  new_eqb : (k p q : ℕ) → Has (numbers ns) k q → p < length ns → eqb (new_place peds q) (new_place peds p)
      ≡ eqb k (node_at ns p).number
  new_eqb k p q h lp = by_test (eqb k (node_at ns p).number)
      (λ t. eq-eqb _ _ (ap (new_place peds)
      (same_place (numbers ns) k q p s.differ h
      (record { inside = rw length-map lp; number = number_is ns p ∙ sym (eqb-true _ _ t) }))) ∙ sym t)
      (λ f. ne_eqb _ _ (λ e. eqb-false _ _ f
      (sym h.number ∙ (number_is ns q ∙ ap (λ (i : ℕ). (node_at ns i).number)
      (new_injective q p (rw length-map at h.inside) lp e)))) ∙ sym f)

  ref_new : (p : ℕ) → p < length ns → (rs : List NodeJunctionRef) → every (ref_named ns) rs ≡ true
      → ref_of own (map (rereffed old) rs) own (new_place peds p) ≡ ref_of own rs own (node_at ns p).number
  unfolding ref_of every renamed
  ref_new p lp [] h = refl
  ref_new p lp (r ∷ rs) h =
      rw (ref_own own r.area_id, ref_new p lp rs (and_right (ref_named ns r) _ h))
      (by_test (belongs own r.area_id)
      (λ b.
      let o = new_own c s r.area_id r.node_id (and_left _ _ h) b in
      cc (b, o.2, new_eqb r.node_id p o.0 o.1 lp))
      (λ f. cc f))

  pub see_new : (p : ℕ) → p < length ns → see (renumber_cell c) (new_place peds p) ≡ see c p
  unfolding see junction_of
  see_new p lp = rw (
    new_node_law c p lp,
    length-map,
    node_area c s p lp,
    new_area c s,
    new_refs c,
    new_junctions c,
    ref_new p lp c.refs s.refs_named,
  )

  -- the link chosen is the one chosen before, renumbered
  pub link_new : (p b : ℕ) → p < length ns → link_at (renumber_cell c).nodes (new_place peds p) b
      ≡ map_option (relinked old) (link_at ns p b)
  link_new p b lp = rw (new_node_law c p lp, map_at)

  -- and leads to the same node
  leads_new : (l : Option PathLink) → if_any (link_named ns) l
      → (take_link (renumber_cell c).nodes (map_option (relinked old) l)
      ≡ move_next (new_place peds) (take_link ns l)) × AllNext (λ q. q < length ns) (take_link ns l)
  unfolding renamed
  leads_new none h = (refl, tt)
  leads_new (some l) h =
      rw (new_area c s) (by_test (belongs own l.area_id)
      (λ b.
      let o = new_own c s l.area_id l.node_id h b in
      let lq : o.0 < length ns = rw length-map at o.1.inside in
      rw (
        b,
        o.2,
        new_find c (new_place peds o.0) (new_at ns o.0 lq).0,
        find_is (numbers ns) l.node_id o.0 s.differ
            o.1,
      ) (refl, lq))
      (λ f. rw f (refl, tt)))

  pub next_new : (p b : ℕ) → p < length ns
      → (next (renumber_cell c).nodes (new_place peds p) b ≡ move_next (new_place peds) (next ns p b))
      × AllNext (λ q. q < length ns) (next ns p b)
  unfolding next
  next_new p b lp =
      let h = leads_new (link_at ns p b) (every_any (link_named ns) (node_at ns p).links b
      (and_right (eqb (node_at ns p).area own) _ (every_at (node_sound ns) ns p no_node s.nodes_sound lp))) in
      (rw (link_new p b lp) h.0, h.1)

  body_same : (l : Option PathLink) → shown_of (map_option (relinked old) l) ≡ shown_of l
  body_same (some l) = refl
  body_same none = refl

  pub walk_new : (bs : List ℕ) (p : ℕ) → p < length ns → walk (renumber_cell c) bs (new_place peds p)
      ≡ move (new_place peds) (walk c bs p)
  unfolding walk
  walk_new = walk_alike (record {
    next_same = λ p b lp. (next_new p b lp).0;
    next_ok = λ p b lp. (next_new p b lp).1;
    see_same = see_new;
    link_same = λ p b lp. rw (link_new p b lp, body_same);
  })
