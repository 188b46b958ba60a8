-- A crossing walk of a set in six lists that hold its members is the walk over the members; of a set of one member,
-- the member's own walk.
use Prim.Native.Nat.{ℕ, ◌+◌, ◌≤◌, ◌<◌}
use native.Mathlib.Omega.{arith}
use mathlib.Core.Path.{◌≡◌, refl, ap, sym, ◌∙◌}
use mathlib.Core.Bool.{Bool, true, false, not, cond, ◌&&◌, ◌||◌}
use mathlib.Core.List.{List, [], ◌∷◌, ◌++◌, map}
use lib.Dec.{ltb, leb}
use lib.ListN.{length, get_or, drop, length-map, length-drop}
use lib.Seq.{length-take-le}
use borrow.Author.Tests.{le-ltb, le-leb, lt-leb, ltb-true, ltb-false}
use Rattle.std.proofs.lemmas.List.{drop-map, map-append}
use Rattle.numbers.specs.Refusals.{Cause, when, decided}
use Rattle.cells.specs.Lists.{every}
use Rattle.cells.specs.Memory.{Memory, over_limit}
use Rattle.cells.specs.CellOf.{nodes_of, cell_of}
use Rattle.cells.proofs.Forms.Limits.{within as limits}
use Rattle.cells.proofs.Sequences.Tests.{by_test}
use Rattle.walks.specs.Walk.{Visit, Trail, walk}
use Rattle.walks.specs.Claim.{places}
use Rattle.walks.specs.WalkCall.{Route, route, WalkLeft, walk_left, walk_call}
use Rattle.walks.proofs.Routes.{trail_route}
use Rattle.sets.specs.Crossing.{Location, location, crossing}
use Rattle.sets.specs.MemberList.{no_memory, cells_of, nodes_together, any_over, over_set, unless}
use Rattle.sets.specs.CrossingCall.{location_words, visit_words, nodes_held, links_held, CrossingLeft, crossing_left}
use Rattle.sets.specs.CrossingCall.{crossed_by, crossing_causes, crossing_call}
use Rattle.sets.specs.CellSet.{CellSet, ynd_of, words_at, parts_of, parts_in, members_of, room_for, holds_list}
use Rattle.sets.specs.CrossMember.{cross_causes, cross_member}
use Rattle.sets.specs.Leave.{start_of}
use Rattle.sets.specs.SetParts.{count_of, Holding}
use Rattle.sets.proofs.SetLists.{every_all}
use Rattle.sets.proofs.PartLaws.{part_of}
use Rattle.sets.proofs.CellSetLaws.{members_many, member_at_law}
use Rattle.sets.proofs.PartLaws.{part_inside}
use Rattle.sets.proofs.OneMember.{one_member}
use Rattle.std.specs.Prelude.{Ok, Err}
use Rattle.numbers.specs.declared.refusal.Refusal.{Refusal}
use Rattle.numbers.specs.Refusals.{Answer}
use Rattle.numbers.specs.declared.refusal.Refusal.TheVariants.{TooShort, NoSuchPlace, AtLimit}
use Rattle.numbers.specs.declared.refusal.Lent.TheVariants as lent

-- ---- lists that hold the members

pub holds_test : (k size : ℕ) (ws : List (List ℕ)) (len : ℕ) → Holding k size ws len → holds_list k size ws len ≡ true
unfolding holds_list
holds_test k size ws len h = rw (
  every_all (room_for k size) ws [] (λ i lt. le-leb _ _ (h.held i lt)),
  le-leb _ _ h.fit,
)

-- a part is as long as its size
pub part_long : {A : Type 0} (k size : ℕ) (ws : List (List ℕ)) (l : List A) (i : ℕ) → i < length ws
    → Holding k size ws (length l)
    → length (get_or (parts_of (words_at size ws) l) i []) ≡ count_of size ws i
part_long k size ws l i lt h =
    ap length (part_of size ws l i lt)
    ∙ length-take-le (count_of size ws i) (drop (start_of size ws i) l)
    (omega (arith, length-drop (start_of size ws i) l, part_inside h i lt))

module _ (y : CellSet) (hn : Holding 10 15 y.members (length y.nodes)) (hl : Holding 11 16 y.members (length y.links))
  where
    abbrev ws : List (List ℕ)
    ws = y.members

    nodes_held_law : every nodes_held (members_of y) ≡ true
    unfolding parts_in ynd_of
    nodes_held_law = every_all nodes_held (members_of y) no_memory (λ i li.
        let lt : i < length ws = omega (arith, members_many y) in
        ap nodes_held (member_at_law y i lt) ∙ le-leb _ _
        (let n : count_of 10 ws i ≤ length (get_or (parts_of (words_at 15 ws) y.nodes) i []) = omega
        (arith, part_long 10 15 ws y.nodes i lt hn, hn.held i lt) in n))

    links_held_law : every links_held (members_of y) ≡ true
    unfolding parts_in ynd_of
    links_held_law = every_all links_held (members_of y) no_memory (λ i li.
        let lt : i < length ws = omega (arith, members_many y) in
        ap links_held (member_at_law y i lt) ∙ le-leb _ _
        (let n : count_of 11 ws i ≤ length (get_or (parts_of (words_at 16 ws) y.links) i []) = omega
        (arith, part_long 11 16 ws y.links i lt hl, hl.held i lt) in n))

    same_causes : (s : Location) (count room : ℕ) → decided (cross_causes y s count room)
        ≡ decided (crossing_causes (members_of y) s count room)
    unfolding cross_causes crossing_causes
    same_causes s count room = rw (
      members_many y,
      holds_test 10 15 ws (length y.nodes) hn,
      holds_test 11 16 ws (length y.links) hl,
      nodes_held_law,
      links_held_law,
    ) refl

    pub crossing_held : (choices : List ℕ) (s : Location) (visited : List (List ℕ)) → cross_member y choices s visited
        ≡ crossing_call (members_of y) choices s visited
    unfolding cross_member crossing_call
    crossing_held choices s visited =
        let t = crossing (cells_of (members_of y)) choices s in
        ap (λ (a : Answer). crossed_by a t visited) (same_causes s (length (places t)) (length visited))

-- ---- one member

-- places in the member 0, as entries of the visited list
abbrev pub in_first : List ℕ → List (List ℕ)
in_first ps = map (λ q. 0 ∷ q ∷ []) ps

in_first_law : (ps : List ℕ) → map location_words (map (location 0) ps) ≡ in_first ps
in_first_law [] = refl
in_first_law (p ∷ ps) = ap (λ (l : List (List ℕ)). (0 ∷ p ∷ []) ∷ l) (in_first_law ps)

-- the walk's call, its places in the member 0
abbrev pub placed_call : WalkLeft → CrossingLeft
placed_call l = crossing_left l.answer (in_first l.visited)

not_held : (a b : ℕ) → not (leb a b && true) ≡ ltb b a
not_held a b = by_test (ltb b a)
    (λ t. rw (t, lt-leb a b (ltb-true b a t)))
    (λ f. rw (f, le-leb a b (ltb-false b a f)))

abbrev visit_of : {L M : Type 0} → M → Visit L → Visit M
visit_of p v = record { place = p; seen = v.seen; link = v.link }

visits_placed : {L M : Type 0} (f : L → M) (vs : List (Visit L))
    → map (λ v. v.place) (map (λ (v : Visit L). visit_of (f v.place) v) vs) ≡ map f (map (λ v. v.place) vs)
visits_placed f [] = refl
visits_placed {L} {M} f (v ∷ vs) = ap (λ (l : List M). f v.place ∷ l) (visits_placed f vs)

module _ (m : Memory) where
  one_over : over_set (m ∷ []) ≡ over_limit m.ynd
  unfolding over_set nodes_together any_over
  one_over = by_test (over_limit m.ynd)
      (λ t. rw t (true_last (ltb 65536 (m.ynd.node_count + 0))))
      (λ f. rw (f, le-ltb 65536 (m.ynd.node_count + 0) (omega (arith, (limits m.ynd f).0))))
    where
      true_last : (b : Bool) → b || true ≡ true
      true_last true = refl
      true_last false = refl

  module _ (choices : List ℕ) (p : ℕ) (visited : List ℕ) where
    abbrev causes : ℕ → ℕ → List Cause
    causes count room =
        when (leb m.ynd.node_count p) NoSuchPlace
        ∷ when (over_limit m.ynd) AtLimit
        ∷ when (ltb (length m.nodes) m.ynd.node_count) (TooShort lent.Nodes)
        ∷ when (ltb (length m.links) m.ynd.link_count) (TooShort lent.Links)
        ∷ when (ltb room count) (TooShort lent.List)
        ∷ []

    one_causes : (count room : ℕ) → decided (crossing_causes (m ∷ []) (location 0 p) count room)
        ≡ decided (causes count room)
    unfolding crossing_causes every
    one_causes count room = rw (
      one_over,
      not_held m.ynd.node_count (length m.nodes),
      not_held m.ynd.link_count (length m.links),
    ) refl

    abbrev r : Route
    r = route (nodes_of m) choices p

    abbrev n : ℕ
    n = length r.places

    in_order : {A : Type 0} (a o b c d : Bool) (refusal : Refusal → A) (x : A)
        → cond a (refusal NoSuchPlace) (cond o (refusal AtLimit)
        (cond b (refusal (TooShort lent.Nodes))
        (cond c (refusal (TooShort lent.Links)) (cond d (refusal (TooShort lent.List)) x))))
        ≡ unless (decided (when a NoSuchPlace ∷ when o AtLimit ∷ when b (TooShort lent.Nodes)
        ∷ when c (TooShort lent.Links) ∷ when d (TooShort lent.List) ∷ [])) refusal x
    in_order true o b c d f x = refl
    in_order false true b c d f x = refl
    in_order false false true c d f x = refl
    in_order false false false true d f x = refl
    in_order false false false false true f x = refl
    in_order false false false false false f x = refl

    walk_causes : walk_call m choices p visited
        ≡ unless (decided (causes n (length visited))) (λ cause. walk_left (Err cause) visited)
        (walk_left (Ok (record { end = r.ending; count = n })) (r.places ++ drop n visited))
    unfolding walk_call
    walk_causes = in_order (leb m.ynd.node_count p) (over_limit m.ynd) (ltb (length m.nodes) m.ynd.node_count)
        (ltb (length m.links) m.ynd.link_count) (ltb (length visited) n) _ _

    abbrev t : Trail Location
    t = crossing (cell_of m ∷ []) choices (location 0 p)

    ending_is : t.ending ≡ r.ending
    unfolding cell_of
    ending_is = ap (λ (u : Trail Location). u.ending) (one_member (cell_of m) choices p)
        ∙ ap (λ (u : Route). u.ending) (trail_route (cell_of m) choices p)

    places_are : places t ≡ map (location 0) r.places
    unfolding cell_of
    places_are =
        ap (λ (u : Trail Location). places u) (one_member (cell_of m) choices p)
        ∙ visits_placed (location 0) (walk (cell_of m) choices p).visits
        ∙ ap (λ (u : Route). map (location 0) u.places) (trail_route (cell_of m) choices p)

    long : length (places t) ≡ n
    long = ap length places_are ∙ length-map r.places (location 0)

    stored_is : visit_words t ++ drop (length (places t)) (in_first visited) ≡ in_first (r.places ++ drop n visited)
    stored_is =
        (λ i. (ap (map location_words) places_are ∙ in_first_law r.places) i ++
        (ap (λ (k : ℕ). drop k (in_first visited)) long ∙ drop-map (λ q. 0 ∷ q ∷ []) n visited) i)
        ∙ sym (map-append (λ q. 0 ∷ q ∷ []) r.places (drop n visited))

    -- a set of one member is its cell: refused alike, ending alike, the same places, in the member 0
    pub one_walk : crossing_call (m ∷ []) choices (location 0 p) (in_first visited)
        ≡ placed_call (walk_call m choices p visited)
    unfolding crossing_call
    one_walk =
        ap (λ (a : Answer). crossed_by a t (in_first visited))
        (one_causes (length (places t)) (length (in_first visited)))
        ∙ (λ i. crossed_by (decided (causes (long i) (length-map visited (λ q. 0 ∷ q ∷ []) i))) t (in_first visited))
        ∙ go (decided (causes n (length visited)))
        ∙ ap placed_call (sym walk_causes)
      where
        go : (a : Answer) → crossed_by a t (in_first visited)
            ≡ placed_call (unless a (λ cause. walk_left (Err cause) visited)
            (walk_left (Ok (record { end = r.ending; count = n })) (r.places ++ drop n visited)))
        go (Ok tt) = λ i. crossing_left (Ok (record { end = (ending_is i); count = (long i) })) (stored_is i)
        go (Err cause) = refl

-- the same of six lists that hold the member
pub one_crossing : (y : CellSet) (m : Memory) → members_of y ≡ m ∷ [] → Holding 10 15 y.members (length y.nodes)
    → Holding 11 16 y.members (length y.links)
    → (choices : List ℕ) (p : ℕ) (visited : List ℕ) → cross_member y choices (location 0 p) (in_first visited)
    ≡ placed_call (walk_call m choices p visited)
one_crossing y m e hn hl choices p visited =
    crossing_held y hn hl choices (location 0 p) (in_first visited)
    ∙ ap (λ (ms : List Memory). crossing_call ms choices (location 0 p) (in_first visited)) e
    ∙ one_walk m choices p visited
