-- `mending::mend` meets its contract: 1, 2, 3 as judged, then 5, and else the header, the names and the records mended.
use Rattle.std.proofs.Common.{sym, ap, ◌∙◌, arith, length-take, length-drop}
use Rattle.std.proofs.lemmas.Result.{err_from_is_err_and}
use lib.Seq.{length-take-le}
use Rattle.bytes_le.proofs.Laws.{rest}
use Rattle.directory.specs.Judged.{found}
use Rattle.directory.proofs.Inspections.{Inspected, inspected}
use Rattle.mending.proofs.Outcomes.{mend_refused, mend_short, wide_enough, set_few, mend_set}
use Rattle.mending.proofs.mend.Goals as goal
use Rattle.mending.proofs.mend.Goals.{In_ok-cards}

seen : (c : In_ok-cards) → Inspected c.args.library.now c.in_ok-cards.field-0.cards c.in_ok-cards.field-0.words
seen c = inspected _ (sym c.inspect.ensures ∙ ap found c.in_ok-cards.was)

pub returns-in_err-cards : goal.returns-in_err-cards
returns-in_err-cards c =
    let p = err_from_is_err_and c.from_residual.result c.from_residual.ensures.1 in
    let e = sym c.inspect.ensures ∙ ap found c.in_err-cards.was in
    rw (p.1, p.2) (mend_refused _ _ e)

pub returns-then-output-library : goal.returns-then-output-library
returns-then-output-library c =
    let v = seen (goal.at.returns-then-output-library c).In_ok-cards in mend_short _ _ v c.if-output-library.true

pub overflow_mul-e : goal.overflow_mul-e
overflow_mul-e c = let v = seen (goal.at.overflow_mul-e c).In_ok-cards in omega arith

pub overflow_add-e : goal.overflow_add-e
overflow_add-e c = let v = seen (goal.at.overflow_add-e c).In_ok-cards in omega arith

pub overflow_mul-size : goal.overflow_mul-size
overflow_mul-size c = let v = seen (goal.at.overflow_mul-size c).In_ok-cards in omega arith

-- the header and the names are there
pub slice_bounds-copy-end : goal.slice_bounds-copy-end
slice_bounds-copy-end c =
    let v = seen (goal.at.slice_bounds-copy-end c).In_ok-cards in
    sym (length-take-le _ c.args.library.now (omega arith))

pub copy-requires : goal.copy-requires
copy-requires c = rw length-take (omega (arith, c.if-output-library.false))

pub slice_bounds-put_records-count : goal.slice_bounds-put_records-count
slice_bounds-put_records-count c = let v = seen (goal.at.slice_bounds-put_records-count c).In_ok-cards in omega arith

pub slice_bounds-put_records-start : goal.slice_bounds-put_records-start
slice_bounds-put_records-start c = let v = seen (goal.at.slice_bounds-put_records-start c).In_ok-cards in omega arith

pub slice_bounds-put_records-count-2 : goal.slice_bounds-put_records-count-2
slice_bounds-put_records-count-2 c =
    let v = seen (goal.at.slice_bounds-put_records-count-2 c).In_ok-cards in
    omega (arith, c.copy.auto.dst, c.if-output-library.false)

pub slice_bounds-put_records-start-2 : goal.slice_bounds-put_records-start-2
slice_bounds-put_records-start-2 c =
    let v = seen (goal.at.slice_bounds-put_records-start-2 c).In_ok-cards in
    omega (arith, c.copy.auto.dst, c.if-output-library.false)

pub put_records-set-requires : goal.put_records-set-requires
put_records-set-requires c =
    let v = seen (goal.at.put_records-set-requires c).In_ok-cards in
    record {
      icss_end_le_size = omega (arith, wide_enough v);
      records_in_bounds = rw (rest, length-drop) (omega (arith, c.copy.auto.dst, c.if-output-library.false));
    }

pub overflow_cast-result : goal.overflow_cast-result
overflow_cast-result c =
    let v = seen (goal.at.overflow_cast-result c).In_ok-cards in
    omega (arith, v, set_few v c.put_records-set.ensures.value.1)

pub returns : goal.returns
returns c =
    let v = seen (goal.at.returns c).In_ok-cards in
    mend_set _ _ v c.if-output-library.false _ c.copy.ensures _ c.put_records-set.ensures.dst_after
    c.put_records-set.ensures.value.0
