-- `settle_from` works the place i and goes on to the next of the set, and judges the totals after the last; on the way
-- back it holds the new currents unless this is refused.
use mathlib.Core.Path.{◌≡◌, refl, sym, ap, ◌∙◌}
use lib.ListN.{get_or}
use Rattle.std.specs.Prelude.{Option}
use Rattle.polarity.specs.OfRowsTypes.Over.{Over}
use Rattle.polarity.specs.OfRows.Outcome.{told_ticks}
use Rattle.settle.specs.First.{earlier}
use native.Mathlib.Omega.{arith}
use borrow.Author.Rules.{rules}
use borrow.Author.Tests.{ltb-true}
use Rattle.slices.proofs.Passing.{in_long}
use Rattle.settle.proofs.Going.{own_over}
use Rattle.settle.proofs.Going.{gone_works, gone_goes, gone_comes, goes_on, gone_over, gone_all, back_left, back_held}
use Rattle.settle.proofs.Going.{reach, gone_near, settled_long}
use Rattle.settling.proofs.+settle_from.Goals as goal
use Rattle.settling.proofs.+settle_from.Goals.{in-Ok, in-Err}

pub returns-then-i-ge-TRANSISTORS : goal.returns-then-i-ge-TRANSISTORS
returns-then-i-ge-TRANSISTORS t c =
    rw c.refusal_of.ensures (gone_over _ _ c.requires.gone c.if-i-ge-TRANSISTORS.true c.in-Some.is)

pub stand_in-requires : goal.stand_in-requires
stand_in-requires t c =
    let p = c.requires in
    record {
      totals_len = p.settling.long;
      near = λ f. gone_near _ _ p.gone c.if-i-ge-TRANSISTORS.true p.settling (ltb-true _ _ f);
    }

pub shape_of-totals-in_default : goal.shape_of-totals-in_default
shape_of-totals-in_default t c =
    in_long c.args.totals.now c.args.coming.now c.args.going.now c.stand_in.ensures c.requires.settling.long

pub returns-in_default : goal.returns-in_default
returns-in_default t c =
    gone_all _ _ c.requires.gone c.if-i-ge-TRANSISTORS.true c.in_default.is c.stand_in.ensures

pub overflow_cast-s : goal.overflow_cast-s
overflow_cast-s t c =
    let g = c.requires in
    let l = c.if-i-ge-TRANSISTORS.false in
    let s = (g.settling.able c.args.i l (g.gone.is l)).there in omega arith

pub nodes_at-on-requires : goal.nodes_at-on-requires
nodes_at-on-requires t c = c.if-i-ge-TRANSISTORS.false

pub work-o-requires : goal.work-o-requires
work-o-requires t c =
    let g = c.requires in
    gone_works _ _ g.settling g.gone c.if-i-ge-TRANSISTORS.false c.nodes_at-on.ensures _ g.table_is

pub put_out-requires : goal.put_out-requires
put_out-requires t c =
    let g = c.requires in (
      c.if-i-ge-TRANSISTORS.false,
      (gone_goes _ _ g.settling g.gone c.if-i-ge-TRANSISTORS.false c.nodes_at-on.ensures refl).0,
    )

pub put_in-requires : goal.put_in-requires
put_in-requires t c =
    let g = c.requires in
    let own : c.match-o.own.now ≡ told_ticks c.work-o.result =
    elim c.match-o.branch [ in-Ok w ↦ rw (w.own-is, w.in-Ok.is) refl | in-Err w ↦ rw (w.own-is, w.in-Err.is) refl ] in
    rw own (gone_comes _ _ g.settling g.gone c.if-i-ge-TRANSISTORS.false c.nodes_at-on.ensures c.work-o.ensures)

pub settle_from-last-requires : goal.settle_from-last-requires
settle_from-last-requires t c =
    let own : c.match-o.own.now ≡ told_ticks c.work-o.result =
    elim c.match-o.branch [ in-Ok w ↦ rw (w.own-is, w.in-Ok.is) refl | in-Err w ↦ rw (w.own-is, w.in-Err.is) refl ] in (
      let h = c.if-i-ge-TRANSISTORS.false in let k = reach (omega arith) c.next_in-after.ensures in omega arith,
      goes_on _ _ c.requires c.if-i-ge-TRANSISTORS.false
          c.nodes_at-on.ensures refl
          c.put_out.ensures c.work-o.ensures
          (rw own at c.put_in.ensures)
          (c.earlier_of-found.ensures
          ∙ ap (λ (o : Option Over). earlier c.args.first (get_or c.args.issues.now c.args.i 0) o)
          (c.err-over.ensures.value ∙ own_over c.work-o.result)) _ c.next_in-after.ensures,
    )

pub put_currents-requires : goal.put_currents-requires
put_currents-requires t c = let h = c.if-i-ge-TRANSISTORS.false in search rules

-- as many totals on the way back
pub shape_of-totals-then-is_ok : goal.shape_of-totals-then-is_ok
shape_of-totals-then-is_ok t c = settled_long _ _ c.requires.settling.long c.settle_from-last.ensures

pub shape_of-totals-else-is_ok : goal.shape_of-totals-else-is_ok
shape_of-totals-else-is_ok t c = settled_long _ _ c.requires.settling.long c.settle_from-last.ensures

pub returns-then-is_ok : goal.returns-then-is_ok
returns-then-is_ok t c =
    let own : c.match-o.own.now ≡ told_ticks c.work-o.result =
    elim c.match-o.branch [ in-Ok w ↦ rw (w.own-is, w.in-Ok.is) refl | in-Err w ↦ rw (w.own-is, w.in-Err.is) refl ] in
    rw (c.put_currents.ensures, own)
    (back_held _ _ c.if-i-ge-TRANSISTORS.false c.next_in-after.ensures c.settle_from-last.ensures
    (sym c.is_ok.ensures.value ∙ c.if-is_ok.true) (c.requires.gone.is c.if-i-ge-TRANSISTORS.false)
    c.nodes_at-on.ensures c.work-o.ensures)

pub returns-else-is_ok : goal.returns-else-is_ok
returns-else-is_ok t c =
    back_left _ _ c.if-i-ge-TRANSISTORS.false c.next_in-after.ensures c.settle_from-last.ensures
    (sym c.is_ok.ensures.value ∙ c.if-is_ok.false)
