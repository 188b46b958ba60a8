-- What a yes and a no of the call `set_sound` mean; and that a set of one member is its cell.
use Prim.Native.Nat.{ℕ, ◌<◌}
use native.Mathlib.Omega.{arith}
use mathlib.Core.Path.{◌≡◌, refl}
use mathlib.Core.Bool.{Bool, true, false}
use mathlib.Core.List.{List, [], ◌∷◌}
use lib.ListN.{length}
use Rattle.numbers.specs.Refusals.{decided}
use Rattle.cells.specs.Lists.{every}
use Rattle.cells.specs.Area.{belongs}
use Rattle.cells.specs.Cell.{Node, Cell}
use Rattle.cells.proofs.Sequences.Tests.{by_test, and_right, every_imp}
use Rattle.walks.specs.Sound.{link_named, node_sound, sound}
use Rattle.walks.specs.SoundCall.{verdict, sound_left}
use Rattle.walks.proofs.NewSound.{sound_parts}
use Rattle.sets.specs.Members.{area_of, member_for, every_from}
use Rattle.sets.specs.MemberList.{cells_of, unless}
use Rattle.sets.specs.SetSound.{link_arrives, node_arrives, member_arrives, set_sound}
use Rattle.sets.specs.CellSet.{CellSet, members_of}
use Rattle.sets.specs.SetSoundCall.{indexed_set, sound_causes, set_sound_call}
use Rattle.sets.proofs.OneMember.{none_named}
use Rattle.std.specs.Prelude.{Ok, Err}
use Rattle.numbers.specs.Refusals.{Answer}
use Rattle.cells.specs.declared.link.PathLink.{PathLink}

module _ (y : CellSet) (scratch : List ℕ) where
  abbrev holds : Bool
  holds = set_sound (cells_of (members_of y))

  said_yes : (b : Bool) (a : Answer)
      → (unless a (λ cause. sound_left (Err cause) scratch)
      (sound_left (verdict b) (indexed_set (cells_of (members_of y)) scratch))).answer ≡ (Ok true) → b ≡ true
  said_yes true a e = refl
  said_yes false (Ok tt) e = let z : ◌≡◌ {A = ℕ} 0 1 = cc in absurd (omega arith)
  said_yes false (Err x) e = let z : ◌≡◌ {A = ℕ} 0 1 = cc in absurd (omega arith)

  said_no : (b : Bool) (a : Answer)
      → (unless a (λ cause. sound_left (Err cause) scratch)
      (sound_left (verdict b) (indexed_set (cells_of (members_of y)) scratch))).answer ≡ (Ok false) → b ≡ false
  said_no false a e = refl
  said_no true (Ok tt) e = let z : ◌≡◌ {A = ℕ} 0 1 = cc in absurd (omega arith)
  said_no true (Err x) e = let z : ◌≡◌ {A = ℕ} 0 1 = cc in absurd (omega arith)

  -- a yes means that the set is sound, and a no that it is not
  pub set_says_yes : (set_sound_call y scratch).answer ≡ (Ok true) → holds ≡ true
  unfolding set_sound_call
  set_says_yes = said_yes holds (decided (sound_causes y (length scratch)))

  pub set_says_no : (set_sound_call y scratch).answer ≡ (Ok false) → holds ≡ false
  unfolding set_sound_call
  set_says_no = said_no holds (decided (sound_causes y (length scratch)))

-- ---- one member

module _ (c : Cell) where
  named_arrives : (l : PathLink) → link_named c.nodes l ≡ true → link_arrives (c ∷ []) 0 l ≡ true
  unfolding member_for
  named_arrives l h = by_test (belongs (area_of c) l.area_id)
      (λ t. rw t (rw t at h))
      (λ f. rw (f, none_named c l.area_id f))

  all_arrive : sound c ≡ true → member_arrives (c ∷ []) 0 c ≡ true
  unfolding every
  all_arrive s = by_size c.nodes refl
    where
      by_size : (ns : List Node) → c.nodes ≡ ns → member_arrives (c ∷ []) 0 c ≡ true
      by_size [] e = rw e
      by_size (n ∷ ns) e =
          let some : 0 < length c.nodes = rw e (omega arith) in
          every_imp (node_sound c.nodes) (node_arrives (c ∷ []) 0)
          (λ m t. every_imp (link_named c.nodes) (link_arrives (c ∷ []) 0) named_arrives m.links (and_right _ _ t))
          c.nodes
          (sound_parts c some s).nodes_sound

  -- a set of one member is sound exactly where its cell is
  pub one_sound : set_sound (c ∷ []) ≡ sound c
  unfolding set_sound every every_from
  one_sound = by_test (sound c)
      (λ t. rw (t, all_arrive t))
      (λ f. rw f)
