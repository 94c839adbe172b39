-- `load` writes a card that passes the tests at the free place.
use native.Mathlib.Omega.{arith}
use Rattle.std.proofs.lemmas.Result.{err_from_is_err_and}
use Rattle.card_laws.proofs.WorkedCards.{judged_is_worked}
use Rattle.taking.proofs.Ways.{is_judged, place_there, number_there}
use Rattle.taking.proofs.Cards.{lent_stops, lent_loads}
use Rattle.taking.proofs.load.Goals as goal

pub prepare-ready-requires : goal.prepare-ready-requires
prepare-ready-requires c = judged_is_worked _ _ (is_judged _ _ _ _ c.may_load.ensures c.in_ok-loading.was)

pub hold-requires : goal.hold-requires
hold-requires c = place_there _ _ _ _ c.may_load.ensures c.in_ok-loading.was

pub overflow_add-next : goal.overflow_add-next
overflow_add-next c = let h = number_there _ _ _ _ c.may_load.ensures c.in_ok-loading.was in omega arith

pub returns-in_err-loading : goal.returns-in_err-loading
returns-in_err-loading c =
    let q = err_from_is_err_and c.from_residual.result c.from_residual.ensures.1 in
    λ b l p. rw (q.1, q.2) (lent_stops l p _ _ c.may_load.ensures c.in_err-loading.was)

pub returns : goal.returns
returns c =
    λ b l p. lent_loads l p _ _ c.may_load.ensures c.in_ok-loading.was c.pad-own.ensures
    c.prepare-ready.ensures c.hold.ensures
