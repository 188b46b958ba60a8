use Rattle.std.proofs.Common.{ℕ, eqb, sym, ap, ◌∙◌, arith}
use borrow.Author.Tests.{leb-true}
use Rattle.rounds.proofs.Files.{version_short, version_is}
use Rattle.rounds.proofs.file.has_version.Goals as goal
use Rattle.rounds.proofs.file.has_version.Goals.{then-file-ge5, else-file-ge5}

pub returns-then-starts_with : goal.returns-then-starts_with
returns-then-starts_with c = elim c.if-file-ge5.branch [
  | then-file-ge5 w ↦ ap (λ (n : ℕ). eqb n c.args.version) c.u16_at.ensures
      ∙ sym (rw (sym w.value-is ∙ c.if-starts_with.true) at
      (version_is c.args.version c.args.file.now w.if-file-ge5.true (λ i. omega (arith, c.type_inv.file i))
      w.starts_with.result w.starts_with.ensures.value))
  | else-file-ge5 w ↦ absurd (omega (arith, leb-true _ _ (sym w.value-is ∙ c.if-starts_with.true)))
]

pub returns-else-starts_with : goal.returns-else-starts_with
returns-else-starts_with c = elim c.if-file-ge5.branch [
  | then-file-ge5 w ↦ c.if-starts_with.false ∙ sym (rw (sym w.value-is ∙ c.if-starts_with.false) at
      (version_is c.args.version c.args.file.now w.if-file-ge5.true (λ i. omega (arith, c.type_inv.file i))
      w.starts_with.result w.starts_with.ensures.value))
  | else-file-ge5 w ↦ c.if-starts_with.false ∙ version_short c.args.version c.args.file.now w.if-file-ge5.false
]
