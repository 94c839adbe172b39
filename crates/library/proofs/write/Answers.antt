-- `library::write` meets its contract: 1, 2, 3 as judged, then 5, and else the header, the names and the words.
use Rattle.std.proofs.Common.{ℕ, List, sym, ap, ◌∙◌, arith, length-drop}
use Rattle.std.proofs.lemmas.Result.{err_from_is_err_and}
use Rattle.bytes_le.specs.Buffer.{over}
use Rattle.bytes_le.proofs.Laws.{rest}
use Rattle.directory.specs.Judged.{found}
use Rattle.directory.proofs.Offers.{Offered, offers}
use Rattle.library.proofs.Writings.{write_short, write_bytes, write_refused}
use Rattle.library.proofs.write.Goals as goal
use Rattle.library.proofs.write.Goals.{In_ok-cards}

seen : (c : In_ok-cards)
    → Offered c.args.version c.args.names.now c.args.words.now c.in_ok-cards.field-0.cards c.in_ok-cards.field-0.words
seen c = offers _ _ _ (sym c.offer.ensures ∙ ap found c.in_ok-cards.was)

pub returns-in_err-cards : goal.returns-in_err-cards
returns-in_err-cards c =
    let p = err_from_is_err_and c.from_residual.result c.from_residual.ensures.1 in
    let e = sym c.offer.ensures ∙ ap found c.in_err-cards.was in
    rw (p.1, p.2) (write_refused _ _ _ _ e)

pub overflow_mul-e : goal.overflow_mul-e
overflow_mul-e c = let o = seen (goal.at.overflow_mul-e c).In_ok-cards in omega arith

pub overflow_add-e : goal.overflow_add-e
overflow_add-e c = let o = seen (goal.at.overflow_add-e c).In_ok-cards in omega arith

pub overflow_mul-whole : goal.overflow_mul-whole
overflow_mul-whole c = let o = seen (goal.at.overflow_mul-whole c).In_ok-cards in omega arith

pub overflow_mul-whole-2 : goal.overflow_mul-whole-2
overflow_mul-whole-2 c = let o = seen (goal.at.overflow_mul-whole-2 c).In_ok-cards in omega arith

pub overflow_add-whole : goal.overflow_add-whole
overflow_add-whole c = let o = seen (goal.at.overflow_add-whole c).In_ok-cards in omega arith

pub returns-then-library-whole : goal.returns-then-library-whole
returns-then-library-whole c =
    let o = seen (goal.at.returns-then-library-whole c).In_ok-cards in write_short _ _ _ _ o c.if-library-whole.true

pub header-h-requires : goal.header-h-requires
header-h-requires c = let o = seen (goal.at.header-h-requires c).In_ok-cards in omega arith

pub copy-requires-2 : goal.copy-requires-2
copy-requires-2 c =
    let o = seen (goal.at.copy-requires-2 c).In_ok-cards in
    rw (rest, length-drop) (omega (arith, c.copy.auto.dst, c.if-library-whole.false))

pub store-requires : goal.store-requires
store-requires c =
    let o = seen (goal.at.store-requires c).In_ok-cards in
    rw (rest, length-drop) (omega (arith, c.copy.auto.dst, c.if-library-whole.false))

pub overflow_cast-result : goal.overflow_cast-result
overflow_cast-result c = let o = seen (goal.at.overflow_cast-result c).In_ok-cards in omega arith

pub returns : goal.returns
returns c =
    let o = seen (goal.at.returns c).In_ok-cards in
    write_bytes _ _ _ _ o c.if-library-whole.false _
    (c.copy.ensures ∙ ap (λ (h : List ℕ). over h c.args.library.now) c.header-h.ensures) _ c.copy-2.ensures _
    c.store.ensures
