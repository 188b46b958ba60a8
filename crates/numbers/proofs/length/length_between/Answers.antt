use Rattle.std.proofs.Common.{◌≤◌, ap, ◌∙◌, sym, subst, arith}
use lib.Ieee.{Float, binary32, of_bits, to_bits}
use lib.Ieee.Bits.{of_bits-to_bits}
use Rattle.numbers.specs.Squares.{squared}
use Rattle.numbers.specs.Lengths.{length_of}
use Rattle.numbers.proofs.Dots.{dot_unsigned, dot_fits}
use Rattle.numbers.proofs.LengthLaws.{below, from_255, top_bits, at_top}
use Rattle.numbers.proofs.length.length_between.Goals as goal

pub length_of_bits-requires : goal.length_of_bits-requires
length_of_bits-requires c = elim c.if-square.branch [
  | goal.then-square w ↦ subst (λ (x : Float). to_bits binary32 x ≤ 0x477e_ffff) (sym w.least-is)
      (omega (arith, below (squared c.args.a c.args.b) (dot_fits _ _ _) (dot_unsigned _ _ _) w.if-square.true))
  | goal.else-square w ↦ subst (λ (x : Float). to_bits binary32 x ≤ 0x477e_ffff) (sym w.least-is)
      (omega (arith, top_bits))
]

pub returns : goal.returns
returns c = c.length_of_bits.ensures.length ∙ elim c.if-square.branch [
  | goal.then-square w ↦
      ap (λ (x : Float). length_of (of_bits binary32 (to_bits binary32 x))) w.least-is
      ∙ ap length_of (of_bits-to_bits binary32 (squared c.args.a c.args.b) (dot_fits _ _ _))
  | goal.else-square w ↦
      ap (λ (x : Float). length_of (of_bits binary32 (to_bits binary32 x))) w.least-is
      ∙ at_top
      ∙ from_255 (squared c.args.a c.args.b) (dot_fits _ _ _) (dot_unsigned _ _ _) w.if-square.false
]
