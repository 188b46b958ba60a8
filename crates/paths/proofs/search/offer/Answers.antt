use native.Mathlib.Omega.{arith}
use Rattle.paths.specs.Scratch.{Put}
use Rattle.paths.specs.Search.{taken}
use Rattle.paths.proofs.ScratchLaws.{put}
use Rattle.paths.proofs.SearchLaws.{taken_by}
use Rattle.paths.proofs.search.offer.Goals as goal

pub returns : goal.returns
returns c =
    let a = c.args in
    let p = c.requires in
    let q : Put a.queue.now.n a.v a.k a.u a.b a.scratch.now c.put_label.new.scratch
    = rw c.put_label.ensures (put a.queue.now.n a.scratch.now p.0 a.v a.k a.u a.b p.1 p.2 (omega arith)) in
    (c.push.ensures.0, taken (omega arith) (taken_by _ _ _ _ _ _ _ _ _ _ p.1 q c.push.ensures.1))
