-- `library::read` meets its contract: 1, 2, 3 as judged, then 5, and else both buffers filled.
use Rattle.std.proofs.Common.{sym, ap, ◌∙◌, arith}
use Rattle.std.proofs.lemmas.Result.{err_from_is_err_and}
use borrow.Author.Tests.{lt-ltb, le-ltb}
use Rattle.roll.proofs.Names.{or_true, or_false}
use Rattle.directory.specs.Judged.{found}
use Rattle.directory.proofs.Inspections.{Inspected, inspected}
use Rattle.library.proofs.Outcomes.{read_short, read_cards, read_refused, records_room}
use Rattle.library.proofs.read.Goals as goal
use Rattle.library.proofs.read.Goals.{In_ok-cards}

seen : (c : In_ok-cards) → Inspected c.args.library.now c.in_ok-cards.field-0.cards c.in_ok-cards.field-0.words
seen c = inspected _ (sym c.inspect.ensures ∙ ap found c.in_ok-cards.was)

pub returns-in_err-cards : goal.returns-in_err-cards
returns-in_err-cards c =
    let p = err_from_is_err_and c.from_residual.result c.from_residual.ensures.1 in
    let e = sym c.inspect.ensures ∙ ap found c.in_err-cards.was in
    rw (p.1, p.2) (read_refused _ _ _ e)

pub overflow_mul-a : goal.overflow_mul-a
overflow_mul-a c = let v = seen (goal.at.overflow_mul-a c).In_ok-cards in omega arith

pub returns-then-names-a : goal.returns-then-names-a
returns-then-names-a c =
    let v = seen (goal.at.returns-then-names-a c).In_ok-cards in
    read_short _ _ _ v (or_true (lt-ltb _ _ c.if-names-a.true) _)

pub overflow_mul-k : goal.overflow_mul-k
overflow_mul-k c = let v = seen (goal.at.overflow_mul-k c).In_ok-cards in omega arith

pub returns-then-words-k : goal.returns-then-words-k
returns-then-words-k c =
    let v = seen (goal.at.returns-then-words-k c).In_ok-cards in
    read_short _ _ _ v (or_false (le-ltb _ _ c.if-names-a.false) ∙ lt-ltb _ _ c.if-words-k.true)

pub slice_bounds-copy-end : goal.slice_bounds-copy-end
slice_bounds-copy-end c = let v = seen (goal.at.slice_bounds-copy-end c).In_ok-cards in omega arith

pub slice_bounds-load-count : goal.slice_bounds-load-count
slice_bounds-load-count c = let v = seen (goal.at.slice_bounds-load-count c).In_ok-cards in omega arith

pub slice_bounds-load-start : goal.slice_bounds-load-start
slice_bounds-load-start c = let v = seen (goal.at.slice_bounds-load-start c).In_ok-cards in omega arith

pub load-requires : goal.load-requires
load-requires c = let v = seen (goal.at.load-requires c).In_ok-cards in records_room v c.if-words-k.false

pub overflow_cast-result : goal.overflow_cast-result
overflow_cast-result c = let v = seen (goal.at.overflow_cast-result c).In_ok-cards in omega arith

pub returns : goal.returns
returns c =
    let v = seen (goal.at.returns c).In_ok-cards in
    read_cards _ _ _ v c.if-names-a.false c.if-words-k.false c.copy.ensures c.load.ensures c.u16_at-version.ensures
