-- Renumbering a member that is opened.
use Prim.Native.Nat.{ℕ, ◌<◌}
use native.Mathlib.Omega.{arith}
use mathlib.Core.Path.{◌≡◌, ap, sym, ◌∙◌}
use mathlib.Core.List.{List}
use lib.ListN.{length}
use Rattle.numbers.proofs.Refusing.{passed}
use Rattle.cells.specs.Memory.{Memory, over_limit}
use Rattle.cells.specs.Renumber.{renumber}
use Rattle.sets.specs.MemberList.{unless}
use Rattle.sets.specs.CellSet.{CellSet, members_of, set_causes}
use Rattle.sets.specs.SetStored.{member_in, ask_causes}
use Rattle.sets.specs.RenumberMember.{member_renumbered, renumbered_at, renumber_member}
use Rattle.sets.specs.declared.member.MemberPart.{MemberPart}
use Rattle.sets.proofs.CellSetLaws.{members_many}
use Rattle.sets.proofs.MemberPartLaws.{OpenAt}
use Rattle.sets.proofs.RenumberedPart.{Lent}
use Rattle.sets.proofs.SetKept.{member_within}
use Rattle.std.specs.Prelude.{Err}
use Rattle.numbers.specs.Refusals.{Answer}

module _ {y : CellSet} {j : ℕ} {p : MemberPart} (k : OpenAt y j p) where
  pub call_accepted : (s : ℕ) (ps : List ℕ)
      → renumbered_at y j (renumber (member_in y j) s ps) ≡ renumber_member y j s ps
  unfolding renumber_member
  call_accepted s ps =
      ap (λ (a : Answer). unless a (λ cause. member_renumbered (Err cause) y ps)
      (renumbered_at y j (renumber (member_in y j) s ps))) (sym k.asked)

  -- an opened member's struct is its entry's, and keeps to the limits of a cell
  pub lent : Lent y j p
  unfolding ask_causes set_causes
  lent =
      let lt : j < length (members_of y) = omega (arith, k.may.there, members_many y) in (
        k.may.there,
        k.may.few,
        ap (λ (m : Memory). over_limit m.ynd) k.part
            ∙ member_within (members_of y) j lt (passed (ask_causes y j) 1 k.asked),
        k.own,
        k.starts,
        k.may.whole,
      )
