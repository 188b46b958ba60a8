use Rattle.std.proofs.Common.{◌≡◌, length, arith}
use Rattle.walks.proofs.Storing.{storing_start, storing_step, stored_stop, stored_end}
use Rattle.walks.proofs.walk.store.Goals as goal

pub loop-i-init : goal.loop-i-init
loop-i-init g c = storing_start _ _ _ _ _ c.requires

pub loop-i-preserved : goal.loop-i-preserved
loop-i-preserved g c =
    storing_step _ _ _ _ _ c.requires _ _ _ c.loop-i.invariant _ c.entry.ensures _ c.loop-i-test.true c.in-Ok.ensures

pub returns-in-Err : goal.returns-in-Err
returns-in-Err g c =
    let s = stored_stop _ _ _ _ _ c.requires _ _ _ c.loop-i.invariant _ c.entry.ensures _ c.loop-i-test.true
    c.in-Err.ensures in
    record { traced = s.0; stored = s.1 }

pub returns : goal.returns
returns g c =
    let s = stored_end _ _ _ _ _ c.requires _ _ _ c.loop-i.invariant _ c.entry-2.ensures (omega arith) in
    let all : c.loop-i.i ≡ length c.args.choices.now = omega arith in
    rw (← all) (record { traced = s.0; stored = s.1 })
