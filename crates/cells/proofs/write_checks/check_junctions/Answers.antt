use Rattle.std.proofs.Common.{arith, subst, ◌≡◌, ◌<◌, All, ℕ, suc, ◌+◌, List, length, take, drop, get_or}
use Rattle.cells.specs.declared.junction_entry.JunctionEntry.{JunctionEntry}
use mathlib.Core.Path.{sym, ap, ◌∙◌}
use Rattle.std.proofs.Math.Seq.{take-suc}
use Rattle.std.proofs.lemmas.List.{take_all}
use Rattle.std.proofs.lemmas.List.Elements.{All-push}
use Rattle.cells.specs.WriteChecks.{values_within, check_junctions}
use Rattle.cells.specs.WriteCounts.{Sized}
use Rattle.cells.specs.Nodes.{no_map}
use Rattle.cells.proofs.Writing.CheckTurns.{junctions_next}
use Rattle.cells.proofs.write_checks.check_junctions.Goals as goal

-- one junction more
more : (js : List JunctionEntry) (i : ℕ) → i < length js → Sized (get_or js i no_map) → All Sized (take i js)
    → All Sized (take (i + 1) js)
more js i lt own before =
    let next : suc i ≡ i + 1 = omega arith in
    subst (λ (k : ℕ). All Sized (take k js)) next
    (subst (All Sized) (sym (take-suc js i no_map lt)) (All-push Sized (take i js) (get_or js i no_map) before own))

pub loop-i-preserved : goal.loop-i-preserved
loop-i-preserved c =
    let j = c.values_within-before.ensures in (
      omega arith,
      more c.args.junctions.now c.loop-i.i (omega arith) (record { width = j.2; height = j.3 }) c.loop-i.invariant.1,
      ap (λ (k : ℕ). check_junctions (values_within c.args.pool) (c.loop-i.i + 1) (c.loop-i.before + k)
          (drop (c.loop-i.i + 1) c.args.junctions.now)) j.0
          ∙ sym (junctions_next no_map
          (values_within c.args.pool) c.args.junctions.now c.loop-i.i c.loop-i.before c.loop-i.i
          (omega arith) (omega arith))
          ∙ c.loop-i.invariant.2,
    )

pub returns-clause-sized : goal.returns-clause-sized
returns-clause-sized c =
    subst (All Sized) (take_all c.loop-i.i c.args.junctions.now (omega arith)) c.loop-i.invariant.1
