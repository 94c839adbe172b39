-- The bytes that are left stand for what all of them do.
use Rattle.std.proofs.Common.{arith, rules, sym}
use Rattle.decimal_read.proofs.Parts.{next, counts, within_one, pointed, told, scan_full, scan_stop, scan_end}
use Rattle.decimal_read.proofs.scan.Goals.{in_default-figure-via-in-Some+else-n-lt-MOST_DIGITS}
use Rattle.decimal_read.proofs.scan.Goals.{in_default-figure-via-in-None+then-b-eq46+else-not-point}
use Rattle.decimal_read.proofs.scan.Goals.{in_default-figure-via-in-None+else-b-eq46}
use Rattle.decimal_read.proofs.scan.Goals as goal

pub loop-t-preserved-then-n-lt-MOST_DIGITS : goal.loop-t-preserved-then-n-lt-MOST_DIGITS
loop-t-preserved-then-n-lt-MOST_DIGITS c =
    let v = c.in-Some.ensures in
    next _ _ c.loop-t.invariant (omega arith) v.0 v.1 (search rules) (counts _ _ c.from-f.ensures)
    (within_one _ _ c.from-f.ensures)

pub loop-t-preserved : goal.loop-t-preserved
loop-t-preserved c =
    pointed 10 c.loop-t.invariant (omega arith) (sym c.in-None.ensures) (omega arith) (search rules) (search rules)

pub returns-in_default-figure : goal.returns-in_default-figure
returns-in_default-figure c =
    let e = c.ended.ensures in (
      told c.loop-t.invariant e.0
          (elim c.in_default-figure.branch [
            | in_default-figure-via-in-Some+else-n-lt-MOST_DIGITS w ↦
                let v = w.in-Some.ensures in
                scan_full _ _ _ _ _ _ _ (omega arith) v.0 v.1 w.if-n-lt-MOST_DIGITS.false
            | in_default-figure-via-in-None+then-b-eq46+else-not-point w ↦
                scan_stop _ _ _ _ _ _ 10 (omega arith) (sym w.in-None.ensures) (λ h. absurd (omega arith))
                (λ h. w.if-not-point.false)
            | in_default-figure-via-in-None+else-b-eq46 w ↦
                scan_stop _ _ _ _ _ _ 10 (omega arith) (sym w.in-None.ensures) (λ h. absurd (omega arith))
                (λ h. absurd (w.if-b-eq46.false h))
          ]),
      e.1,
    )

pub returns : goal.returns
returns c =
    let e = c.ended-2.ensures in
    (told c.loop-t.invariant e.0 (scan_end _ _ _ _ _ _ (omega arith)), e.1)
