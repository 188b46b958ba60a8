use native.Mathlib.Omega.{arith}
use Prim.Native.Nat.{◌+◌, ◌%◌}
use mathlib.Core.Logic.{inl, inr}
use mathlib.Core.Path.{◌≡◌}
use lib.ListN.{length, take}
use lib.Seq.{length-take-le}
use Rattle.paths.proofs.PathLaws.{found_traced, found_room, answer_short, answer_path}
use Rattle.paths.proofs.search.Search.find_path.Goals as goal

pub returns-then-choices-n : goal.returns-then-choices-n
returns-then-choices-n c =
    let s = c.args.self.now in
    answer_short _ _ _ s.lent _ _ _ c.run.ensures c.requires.0
    _ _ _ c.label_of-label.ensures c.if-label-ge72057589742960640.false
    (inl (omega (arith, s.whole, c.if-choices-n.true)))

pub returns-then-places-n : goal.returns-then-places-n
returns-then-places-n c =
    let s = c.args.self.now in
    answer_short _ _ _ s.lent _ _ _ c.run.ensures c.requires.0
    _ _ _ c.label_of-label.ensures c.if-label-ge72057589742960640.false
    (inr (omega (arith, s.whole, c.if-places-n.true)))

pub fill-requires : goal.fill-requires
fill-requires c =
    let s = c.args.self.now in
    let few = found_room _ _ _ s.lent _ _ _ c.run.ensures c.requires.0 _
    c.label_of-label.ensures c.if-label-ge72057589742960640.false in
    let count = c.label_of-label.result % 4294967296 in
    let long : length (take count c.args.choices.now) ≡ count
    = length-take-le count c.args.choices.now (omega (arith, few, s.whole)) in (
      rw long (found_traced _ _ _ s.lent _ _ _ c.run.ensures c.requires.0 _
          c.label_of-label.ensures c.if-label-ge72057589742960640.false),
      rw long (length-take-le (count + 1) c.args.places.now (omega (arith, few, s.whole))),
    )

pub returns : goal.returns
returns c =
    let s = c.args.self.now in
    let few = found_room _ _ _ s.lent _ _ _ c.run.ensures c.requires.0 _
    c.label_of-label.ensures c.if-label-ge72057589742960640.false in
    let count = c.label_of-label.result % 4294967296 in
    let long : length (take count c.args.choices.now) ≡ count
    = length-take-le count c.args.choices.now (omega (arith, few, s.whole)) in
    answer_path _ _ _ s.lent _ _ _ c.run.ensures c.requires.0
    _ _ _ c.label_of-label.ensures c.if-label-ge72057589742960640.false
    (omega (arith, s.whole)) (omega (arith, s.whole)) _ _ (rw long at c.fill.ensures.0) (rw long at c.fill.ensures.1)
