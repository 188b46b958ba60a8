-- What a call on a member needs is kept by storing what the call leaves: the lists hold the members, within the
-- limits.
use Rattle.std.proofs.lemmas.Bool.{or_parts}
use Prim.Native.Nat.{ℕ, zero, suc, ◌+◌, ◌≤◌, ◌<◌}
use native.Mathlib.Omega.{arith}
use mathlib.Core.Path.{◌≡◌, refl, ap, sym, ◌∙◌}
use mathlib.Core.Bool.{Bool, false, ◌||◌}
use mathlib.Core.List.{List, [], ◌∷◌}
use lib.Dec.{eqb, ltb}
use lib.ListN.{length, get_or, set, length-set}
use lib.Seq.{map-set_same, get_or-set_same, get_or-set_other}
use borrow.Author.Tests.{eqb-true, eqb-false}
use Rattle.numbers.specs.Refusals.{decided}
use Rattle.numbers.proofs.Refusing.{passed}
use Rattle.records.specs.Put.{put}
use Rattle.records.proofs.Puts.{length_put}
use Rattle.cells.specs.Memory.{Memory, over_limit}
use Rattle.cells.proofs.Reading.Fits.{Whole}
use Rattle.cells.proofs.Sequences.Tests.{by_test}
use Rattle.sets.specs.MemberList.{member_at, node_count, nodes_together, any_over, over_set, member_causes}
use Rattle.sets.specs.CellSet.{CellSet, word, words_at, members_of, lack_of, lack, set_causes}
use Rattle.sets.specs.Leave.{start_of}
use Rattle.sets.specs.SetParts.{Holding, Holds, count_of}
use Rattle.sets.specs.SetStored.{member_in, ask_causes, entry_with, with_member}
use Rattle.sets.proofs.CellSetLaws.{members_many}
use Rattle.sets.proofs.RoomLaws.{holds, tail_done}
use Rattle.sets.proofs.PartLaws.{part_inside}
use Rattle.sets.proofs.CrossingHeld.{holds_test}
use Rattle.sets.proofs.MemberPartLaws.{member_fits, member_whole}
use Rattle.sets.proofs.MemberStored.{FitsMember, member_stored}
use Rattle.sets.proofs.MemberKept.{Stays, Ready}
use Rattle.std.specs.Prelude.{Ok}

-- ---- the causes of a set, and what their absence says

-- the lists hold all members, within the limits
pub record Usable (y : CellSet) : Type 0 where
  pub within : over_set (members_of y) ≡ false
  pub whole : Holds y

pub usable : (y : CellSet) → decided (set_causes y) ≡ (Ok tt) → Usable y
unfolding set_causes
usable y e = record { within = passed (set_causes y) 0 e; whole = holds y (tail_done _ (lack y) e) }

pub lacks_nothing : (y : CellSet) → Holds y → decided (lack y) ≡ (Ok tt)
unfolding lack_of
lacks_nothing y h =
    rw (
      holds_test 10 15 y.members (length y.nodes) h.nodes_hold,
      holds_test 11 16 y.members (length y.links) h.links_hold,
      holds_test 12 17 y.members (length y.junctions) h.junctions_hold,
      holds_test 13 18 y.members (length y.heights) h.heights_hold,
      holds_test 14 19 y.members (length y.refs) h.refs_hold,
    )
    refl

pub may_be_used : (y : CellSet) → Usable y → decided (set_causes y) ≡ (Ok tt)
unfolding set_causes
may_be_used y u = rw (u.within, lacks_nothing y u.whole) refl

-- in lists that hold the members a call on one is refused as over the members themselves
pub asked_alike : (y : CellSet) (j : ℕ) → Holds y → decided (ask_causes y j) ≡ decided (member_causes (members_of y) j)
unfolding ask_causes set_causes member_causes
asked_alike y j h = rw (lacks_nothing y h, members_many y) refl

-- ---- a member of such a set

-- what a call leaves fits the member's place
pub stays_fit : (ws : List (List ℕ)) (j : ℕ) (m d : Memory) → FitsMember ws j m → Stays m d → FitsMember ws j d
stays_fit entries j m d f s = record {
  nodes_fit = s.nodes_long ∙ f.nodes_fit;
  links_fit = s.links_long ∙ f.links_fit;
  junctions_fit = s.junctions_long ∙ f.junctions_fit;
  heights_fit = s.heights_long ∙ f.heights_fit;
  refs_fit = s.refs_long ∙ f.refs_fit;
  seven = s.seven;
}

-- ---- the set with another memory in the member's place

module _ (y : CellSet) (h : Holds y) (j : ℕ) (lt : j < length y.members) (d : Memory) (f : FitsMember y.members j d)
    (w : Whole d) where
  abbrev old : List (List ℕ)
  old = y.members

  abbrev W : List ℕ
  W = entry_with d.ynd (get_or old j [])

  abbrev new : List (List ℕ)
  new = set old j W

  sizes_kept : (size : ℕ) → word size W ≡ word size (get_or old j []) → words_at size new ≡ words_at size old
  unfolding words_at
  sizes_kept size e = map-set_same (word size) old j W [] e

  holding_kept : {A : Type 0} (k size : ℕ) (l x : List A) → Holding k size old (length l)
      → word size W ≡ word size (get_or old j [])
      → length x ≡ count_of size old j → word k W ≤ length x
      → Holding k size new (length (put l (start_of size old j) x))
  holding_kept {A} k size l x g e n c = record {
    fit = rw (
      sizes_kept size e,
      length_put l (start_of size old j) x
          (omega (arith, part_inside g j lt, n)),
    ) g.fit;
    held = λ i li. by_test (eqb i j)
        (λ t. let q = eqb-true i j t in
        rw (q, get_or-set_same old j W [] lt) (omega (arith, e, n, c)))
        (λ t. rw (get_or-set_other old j i W [] (eqb-false i j t)) (g.held i (rw (← length-set old j W) li)));
  }

  pub holds_stored : Holds (with_member y j d)
  unfolding with_member
  holds_stored = record {
    nodes_hold = holding_kept 10 15 y.nodes d.nodes h.nodes_hold refl f.nodes_fit w.nodes_fit;
    links_hold = holding_kept 11 16 y.links d.links h.links_hold refl f.links_fit w.links_fit;
    junctions_hold = holding_kept 12 17 y.junctions d.junctions h.junctions_hold refl f.junctions_fit w.junctions_fit;
    heights_hold = holding_kept 13 18 y.heights d.heights h.heights_hold refl f.heights_fit w.heights_fit;
    refs_hold = holding_kept 14 19 y.refs d.refs h.refs_hold refl f.refs_fit w.refs_fit;
  }

pub many_stored : (y : CellSet) (j : ℕ) (d : Memory) → length (with_member y j d).members ≡ length y.members
unfolding with_member
many_stored y j d = length-set y.members j (entry_with d.ynd (get_or y.members j []))

-- ---- the limits, where one member is another of as many nodes

together_set : (ms : List Memory) (j : ℕ) (d : Memory) → node_count d ≡ node_count (member_at ms j)
    → nodes_together (set ms j d) ≡ nodes_together ms
unfolding nodes_together
together_set [] j d e = refl
together_set (m ∷ ms) zero d e = ap (λ (n : ℕ). n + nodes_together ms) e
together_set (m ∷ ms) (suc j) d e = ap (λ (n : ℕ). node_count m + n) (together_set ms j d e)

over_set_law : (ms : List Memory) (j : ℕ) (d : Memory) → over_limit d.ynd ≡ over_limit (member_at ms j).ynd
    → any_over (set ms j d) ≡ any_over ms
unfolding any_over
over_set_law [] j d e = refl
over_set_law (m ∷ ms) zero d e = ap (λ (b : Bool). b || any_over ms) e
over_set_law (m ∷ ms) (suc j) d e = ap (λ (b : Bool). over_limit m.ynd || b) (over_set_law ms j d e)

pub limits_set : (ms : List Memory) (j : ℕ) (d : Memory) → node_count d ≡ node_count (member_at ms j)
    → over_limit d.ynd ≡ over_limit (member_at ms j).ynd → over_set (set ms j d) ≡ over_set ms
unfolding over_set
limits_set ms j d e o =
    λ i. ltb 9 (length-set ms j d i) || (ltb 65536 (together_set ms j d e i) || over_set_law ms j d o i)

-- a member of a set that is over no limit is over none
any_of : (ms : List Memory) (j : ℕ) → j < length ms → any_over ms ≡ false → over_limit (member_at ms j).ynd ≡ false
unfolding any_over
any_of [] j lt e = absurd (omega arith)
any_of (m ∷ ms) zero lt e = (or_parts (over_limit m.ynd) (any_over ms) e).0
any_of (m ∷ ms) (suc j) lt e = any_of ms j (omega arith) (or_parts (over_limit m.ynd) (any_over ms) e).1

pub member_within : (ms : List Memory) (j : ℕ) → j < length ms → over_set ms ≡ false
    → over_limit (member_at ms j).ynd ≡ false
unfolding over_set
member_within ms j lt e =
    any_of ms j lt (or_parts (ltb 65536 (nodes_together ms)) _ (or_parts (ltb 9 (length ms)) _ e).1).1

-- the member is what a cell's call starts from
pub member_ready : (y : CellSet) → Usable y → (j : ℕ) → j < length y.members → Ready (member_in y j)
member_ready y u j lt = record {
  whole = member_whole y j lt u.whole;
  within = member_within (members_of y) j (rw members_many lt) u.within;
  seven = (member_fits y j lt u.whole).seven;
}

-- what a call on the member left, stored: the set is as usable, and of its members that one is another
pub record Changed (y z : CellSet) (j : ℕ) (d : Memory) : Type 0 where
  pub as_usable : Usable z
  pub as_many : length z.members ≡ length y.members
  pub one_other : members_of z ≡ set (members_of y) j d

pub stored : (y : CellSet) → Usable y → (j : ℕ) → j < length y.members → (d : Memory) → Stays (member_in y j) d
    → Changed y (with_member y j d) j d
stored y u j lt d s =
    let f = stays_fit y.members j (member_in y j) d (member_fits y j lt u.whole) s in
    let r = member_ready y u j lt in
    let e : members_of (with_member y j d) ≡ set (members_of y) j d = member_stored y j lt d u.whole f in
    record {
      as_usable = record {
        within = ap over_set e ∙ limits_set (members_of y) j d s.same_nodes (s.within ∙ sym r.within) ∙ u.within;
        whole = holds_stored y u.whole j lt d f s.whole;
      };
      as_many = many_stored y j d;
      one_other = e;
    }
