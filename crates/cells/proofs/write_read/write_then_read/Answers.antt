use Rattle.std.proofs.Common.{rules}
use mathlib.Core.Path.{sym, ◌∙◌}
use Rattle.numbers.proofs.Refusing.{not_refused}
use Rattle.cells.proofs.WritingBack.BackAnswer.{refused_back, accepted_back, stored_back, inside_back, arrays_are}
use Rattle.cells.proofs.WritingBack.BackAnswer.{few_back, counted_so, filled_so}
use Rattle.cells.proofs.write_read.write_then_read.Goals as goal

pub returns-in_err-k : goal.returns-in_err-k
returns-in_err-k c =
    let back = refused_back _ _ c.new-h.ensures c.lengths-lent.ensures c.check_back.ensures.sized
    c.check_back.ensures.value c.in_err-k.was in
    search rules

pub returns-in_err-written : goal.returns-in_err-written
returns-in_err-written c =
    let acc = accepted_back _ _ c.new-h.ensures c.lengths-lent.ensures c.check_back.ensures.sized
    c.check_back.ensures.value c.in_ok-k.was in
    not_refused (sym c.in_err-written.was ∙ stored_back _ _ acc c.new-h.ensures c.store.ensures)

pub slice_bounds-wrote-end : goal.slice_bounds-wrote-end
slice_bounds-wrote-end c =
    let acc = accepted_back _ _ c.new-h.ensures c.lengths-lent.ensures c.check_back.ensures.sized
    c.check_back.ensures.value c.in_ok-k.was in
    (inside_back _ _ acc c.new-h.ensures c.store.ensures c.in_ok-written.was).0

pub slice_bounds-wrote-end-2 : goal.slice_bounds-wrote-end-2
slice_bounds-wrote-end-2 c =
    let acc = accepted_back _ _ c.new-h.ensures c.lengths-lent.ensures c.check_back.ensures.sized
    c.check_back.ensures.value c.in_ok-k.was in
    (inside_back _ _ acc c.new-h.ensures c.store.ensures c.in_ok-written.was).1

pub returns-in_err-find_arrays : goal.returns-in_err-find_arrays
returns-in_err-find_arrays c =
    let acc = accepted_back _ _ c.new-h.ensures c.lengths-lent.ensures c.check_back.ensures.sized
    c.check_back.ensures.value c.in_ok-k.was in
    not_refused (sym c.in_err-find_arrays.was ∙ arrays_are _ _ acc c.new-h.ensures c.store.ensures c.in_ok-written.was
    c.read_root-root.ensures c.find_arrays.ensures)

pub fill_lists-ynd-requires-clause-counted : goal.fill_lists-ynd-requires-clause-counted
fill_lists-ynd-requires-clause-counted c =
    let acc = accepted_back _ _ c.new-h.ensures c.lengths-lent.ensures c.check_back.ensures.sized
    c.check_back.ensures.value c.in_ok-k.was in
    counted_so _ _ acc c.new-h.ensures c.store.ensures c.in_ok-written.was
    c.read_root-root.ensures c.find_arrays.ensures c.in_ok-find_arrays.was c.bytes-f.ensures c.in_ok-k.ensures.ready

pub fill_lists-ynd-requires-clause-refs_few : goal.fill_lists-ynd-requires-clause-refs_few
fill_lists-ynd-requires-clause-refs_few c =
    let acc = accepted_back _ _ c.new-h.ensures c.lengths-lent.ensures c.check_back.ensures.sized
    c.check_back.ensures.value c.in_ok-k.was in
    few_back _ _ acc c.new-h.ensures c.store.ensures c.in_ok-written.was
    c.read_root-root.ensures c.find_arrays.ensures c.in_ok-find_arrays.was c.bytes-f.ensures

pub returns : goal.returns
returns c =
    let acc = accepted_back _ _ c.new-h.ensures c.lengths-lent.ensures c.check_back.ensures.sized
    c.check_back.ensures.value c.in_ok-k.was in
    filled_so _ _ acc c.new-h.ensures c.store.ensures c.in_ok-written.was
    c.read_root-root.ensures c.find_arrays.ensures c.in_ok-find_arrays.was c.bytes-f.ensures
    c.in_ok-k.ensures.ready (c.fill_lists-ynd.ensures c.args.ynd)
