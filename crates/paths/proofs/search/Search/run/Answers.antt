use mathlib.Core.Path.{◌∙◌}
use native.Mathlib.Omega.{arith}
use Rattle.paths.proofs.RelaxLaws.{search_begun, search_up, search_label, begun_entered, still_ready}
use Rattle.paths.proofs.search.Search.run.Goals as goal

pub loop-queue-init : goal.loop-queue-init
loop-queue-init c =
    let s = c.args.self.now in
    let n = c.new-queue.ensures.0 ∙ s.whole in
    let o = rw (n, c.new-queue.ensures.1) at c.offer.ensures.1 in (
      record {
        room = record {
          few = omega (arith, s.whole, s.lent.few);
          room = omega (arith, s.whole, c.requires, c.enter_all.auto, c.clear.auto, c.offer.auto);
        };
        entered = begun_entered s.nodes.now s.ynd.node_count _ _ _ _ _ _ _ _ (rw s.whole at c.enter_all.ensures)
            c.clear.ensures.1 o;
      },
      record {
        places = c.offer.ensures.0 ∙ n;
        searching = search_begun _ _ _ s.lent _ _ _ _ s.inside
            (rw s.whole at c.clear.ensures.0) o;
      },
    )

pub relax-requires : goal.relax-requires
relax-requires c =
    let s = c.args.self.now in
    let i = c.loop-queue.invariant in
    let q = rw i.1.places at c.pop-u.ensures.2 in
    let h = i.1.searching in (
      still_ready s _ _ c.pop-u.auto.scratch q.same.same_chains i.0,
      record {
        places = c.pop-u.ensures.0 ∙ i.1.places;
        searching = rw c.pop-u.ensures.1
            (search_up _ _ _ s.lent _ _ _ _ _ h (omega arith) q);
      },
      q.inside,
      search_label _ _ _ s.lent _ _ _ _ _ h (omega arith) q,
    )
