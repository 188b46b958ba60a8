use mathlib.Core.Path.{refl}
use Rattle.sets.specs.ListParts.{set_of}
use Rattle.sets.proofs.LeaveLaws.{closes, taken_out}
use Rattle.sets.proofs.leave.take_out.Goals as goal

pub close-requires : goal.close-requires
close-requires c =
    closes c.requires.2.nodes_hold (λ z. z.nodes) (λ i. refl) _ c.requires.0 c.starts_of-a.ensures
    c.starts_of-e.ensures c.starts_of-t.ensures

pub close-requires-2 : goal.close-requires-2
close-requires-2 c =
    closes c.requires.2.links_hold (λ z. z.links) (λ i. refl) _ c.requires.0 c.starts_of-a.ensures
    c.starts_of-e.ensures c.starts_of-t.ensures

pub close-requires-3 : goal.close-requires-3
close-requires-3 c =
    closes c.requires.2.junctions_hold (λ z. z.junctions) (λ i. refl) _ c.requires.0 c.starts_of-a.ensures
    c.starts_of-e.ensures c.starts_of-t.ensures

pub close-requires-4 : goal.close-requires-4
close-requires-4 c =
    closes c.requires.2.heights_hold (λ z. z.heights) (λ i. refl) _ c.requires.0 c.starts_of-a.ensures
    c.starts_of-e.ensures c.starts_of-t.ensures

pub close-requires-5 : goal.close-requires-5
close-requires-5 c =
    closes c.requires.2.refs_hold (λ z. z.refs) (λ i. refl) _ c.requires.0 c.starts_of-a.ensures
    c.starts_of-e.ensures c.starts_of-t.ensures

pub returns-clause-value : goal.returns-clause-value
returns-clause-value c =
    taken_out (set_of c.args.members.now c.args.lists.now) _ _ _ _ c.starts_of-a.ensures c.starts_of-e.ensures
    c.starts_of-t.ensures _ _ _ _ _ _ c.close-6.ensures c.close.ensures c.close-2.ensures c.close-3.ensures
    c.close-4.ensures c.close-5.ensures
