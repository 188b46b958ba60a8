use Rattle.walks.proofs.SoundCases.{nodes_refused}
use Rattle.walks.proofs.sound.sound.Goals as goal

pub returns-in_err-nodes : goal.returns-in_err-nodes
returns-in_err-nodes c = λ js hs. nodes_refused _ _ c.in_err-nodes.ensures.value _ c.from_residual.ensures.1
