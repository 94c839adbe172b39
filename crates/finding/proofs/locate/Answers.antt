-- `finding::locate` meets its contract: 1, 2, 3 as judged, then 2 for the asked name, then 4.
use Rattle.std.proofs.Common.{◌≡◌, ℕ, List, Option, Some, ◌≤◌, ◌+◌, ◌*◌, true, false, sym, ap, ◌∙◌, arith}
use Rattle.std.proofs.lemmas.Result.{err_from_is_err_and}
use Rattle.refusal.specs.Order.{tells}
use Rattle.std.specs.List.{position}
use Rattle.name.specs.Name.{asked, padded, same}
use Rattle.roll.specs.Directory.{names_in}
use Rattle.directory.specs.Judged.{found}
use Rattle.directory.proofs.Headers.{directory_part}
use Rattle.directory.proofs.Inspections.{Inspected, inspected}
use Rattle.finding.proofs.Locating.{record_within, found_within, locate_name, locate_none, locate_at, locate_refused}
use Rattle.finding.proofs.locate.Goals as goal
use Rattle.finding.proofs.locate.Goals.{In_ok-cards}

seen : (c : In_ok-cards) → Inspected c.args.library.now c.in_ok-cards.field-0.cards c.in_ok-cards.field-0.words
seen c = inspected _ (sym c.inspect.ensures ∙ ap found c.in_ok-cards.was)

pub returns-in_err-cards : goal.returns-in_err-cards
returns-in_err-cards c =
    let p = err_from_is_err_and c.from_residual.result c.from_residual.ensures.1 in
    let e = locate_refused c.args.library.now c.args.name.now (sym c.inspect.ensures ∙ ap found c.in_err-cards.was) in
    rw (p.1, p.2) (ap tells e)

pub returns-then-not-is_asked : goal.returns-then-not-is_asked
returns-then-not-is_asked c =
    let v = seen (goal.at.returns-then-not-is_asked c).In_ok-cards in
    ap tells (locate_name _ _ v (let e : asked c.args.name.now ≡ false = cc in e))

pub overflow_mul-e : goal.overflow_mul-e
overflow_mul-e c = let v = seen (goal.at.overflow_mul-e c).In_ok-cards in omega arith

pub overflow_add-e : goal.overflow_add-e
overflow_add-e c = let v = seen (goal.at.overflow_add-e c).In_ok-cards in omega arith

pub slice_bounds-search-end : goal.slice_bounds-search-end
slice_bounds-search-end c = let v = seen (goal.at.slice_bounds-search-end c).In_ok-cards in omega arith

pub returns-in_default : goal.returns-in_default
returns-in_default c =
    let v = seen (goal.at.returns-in_default c).In_ok-cards in
    ap tells
    (locate_none _ _ v c.pad-wanted.ensures (let e : asked c.args.name.now ≡ true = cc in e)
    (sym c.search.ensures ∙ c.in_default.is))

-- the record of the card that is found lies within the records
within : {n k i : ℕ} {s w : List ℕ} → Inspected s n k → (x : List ℕ) → w ≡ padded x → (o : Option ℕ)
    → o ≡ position (same w) (names_in (directory_part s n)) → o ≡ Some i → k * i + k ≤ k * n
within {n} {k} {i} {s} v x ew o e f = record_within k (found_within s x v ew (sym e ∙ f))

pub overflow_mul-at : goal.overflow_mul-at
overflow_mul-at c =
    let v = seen (goal.at.overflow_mul-at c).In_ok-cards in
    let r = within v _ c.pad-wanted.ensures _ c.search.ensures c.in-Some.is in
    omega arith

pub overflow_mul-at-2 : goal.overflow_mul-at-2
overflow_mul-at-2 c =
    let v = seen (goal.at.overflow_mul-at-2 c).In_ok-cards in
    let r = within v _ c.pad-wanted.ensures _ c.search.ensures c.in-Some.is in
    omega arith

pub overflow_add-at : goal.overflow_add-at
overflow_add-at c =
    let v = seen (goal.at.overflow_add-at c).In_ok-cards in
    let r = within v _ c.pad-wanted.ensures _ c.search.ensures c.in-Some.is in
    omega arith

pub overflow_mul-size : goal.overflow_mul-size
overflow_mul-size c =
    let v = seen (goal.at.overflow_mul-size c).In_ok-cards in omega arith

pub returns : goal.returns
returns c =
    let v = seen (goal.at.returns c).In_ok-cards in
    ap tells
    (locate_at _ _ v c.pad-wanted.ensures (sym c.search.ensures ∙ c.in-Some.is)
    (let e : asked c.args.name.now ≡ true = cc in e))
