use Rattle.std.proofs.Common.{◌∙◌, arith}
use Rattle.std.proofs.Common.{ap, length, ◌+◌, ◌≤◌}
use Rattle.records.specs.Bytes.{bytes16, number_bytes}
use Rattle.rounds.proofs.Files.{held_in, put_next, write_held}
use Rattle.rounds.proofs.file.write_after.Goals as goal

pub returns : goal.returns
unfolding number_bytes
returns c =
    let h = c.args.head.now in
    let choices = c.args.choices.now in
    let fits = held_in _ c.try_from.result c.try_from.ensures c.in_ok-count.ensures in
    let few : length choices ≤ 65535 = omega (arith, fits.0) in
    write_held _ _ _ _ few c.if-file-end.false _ _ _ _ c.put_at.ensures
    (put_next _ (length h) _ _ (bytes16 c.args.start) (c.copy_from_slice.ensures.after ∙ c.to_le_bytes.ensures)
    (omega arith))
    (put_next _ (length h + 2) _ _ (bytes16 (length choices))
    (c.copy_from_slice-2.ensures.after ∙ c.to_le_bytes-2.ensures ∙ ap bytes16 fits.1) (omega arith))
    c.put_at-2.ensures
