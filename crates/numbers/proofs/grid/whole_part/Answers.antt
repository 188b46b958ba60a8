use Rattle.std.proofs.Common.{ℕ, ◌-◌, min, sym, ap, ◌∙◌, subst, arith}
use lib.Ieee.{binary32, add, of_bits, to_bits}
use Rattle.numbers.proofs.WholeParts.{From, from_itself, from_zero, sum_number, part_over, part_exact}
use Rattle.numbers.proofs.grid.whole_part.Goals as goal
use Rattle.numbers.proofs.grid.whole_part.Goals.{Joined-x}

-- what the limit below leaves
from : (c : Joined-x) → From c.args.x c.if-x.from
unfolding of_bits
from c = elim c.if-x.branch [
  | goal.then-x w ↦ subst (From c.args.x) (sym w.from-is) (from_itself c.args.x w.if-x.true)
  | goal.else-x w ↦ subst (From c.args.x) (sym w.from-is) (from_zero c.args.x w.if-x.false)
]

pub float_to_bits-sum : goal.float_to_bits-sum
float_to_bits-sum c = sum_number c.args.x c.if-x.from (from (goal.at.float_to_bits-sum c).Joined-x)

pub overflow_sub-sum : goal.overflow_sub-sum
overflow_sub-sum c =
    let f = from (goal.at.overflow_sub-sum c).Joined-x in
    elim c.if-from-sum.branch [
      | goal.then-from-sum w ↦ omega (arith, (part_over c.args.x c.if-x.from f w.if-from-sum.true).0)
      | goal.else-from-sum w ↦ (part_exact c.args.x c.if-x.from f w.if-from-sum.false).0
    ]

pub overflow_sub-sum-2 : goal.overflow_sub-sum-2
overflow_sub-sum-2 c =
    let f = from (goal.at.overflow_sub-sum-2 c).Joined-x in
    elim c.if-from-sum.branch [
      | goal.then-from-sum w ↦ omega (arith, w.over-is, (part_over c.args.x c.if-x.from f w.if-from-sum.true).0)
      | goal.else-from-sum w ↦ omega (arith, w.over-is)
    ]

pub returns : goal.returns
returns c =
    let f = from (goal.at.returns c).Joined-x in
    let digits = to_bits binary32 (add binary32 c.if-x.from (of_bits binary32 0x4b00_0000)) - 0x4b00_0000 in
    c.min.ensures ∙ elim c.if-from-sum.branch [
      | goal.then-from-sum w ↦ ap (λ (n : ℕ). min (digits - n) 31) w.over-is
          ∙ (part_over c.args.x c.if-x.from f w.if-from-sum.true).1
      | goal.else-from-sum w ↦ ap (λ (n : ℕ). min (digits - n) 31) w.over-is
          ∙ (part_exact c.args.x c.if-x.from f w.if-from-sum.false).1
    ]
