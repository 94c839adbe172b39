-- The power at hand has the smallest form, or rules out all lower ones, or has none.
use Rattle.std.proofs.Common.{◌≡◌, ◌∙◌, subst, refl, arith, rules}
use Rattle.shortest.specs.inner.Search.{NoneAbove}
use Rattle.shortest.proofs.Powers.{missed, found, out_of_reach}
use Rattle.shortest.proofs.search.Goals as goal

pub returns-then-digits-ge-DIGITS_END : goal.returns-then-digits-ge-DIGITS_END
returns-then-digits-ge-DIGITS_END c =
    out_of_reach (search rules) (omega arith) c.first_to-digits.ensures (search rules) c.loop-power.invariant.1
    (omega arith)

pub returns-then-size_bits-w : goal.returns-then-size_bits-w
returns-then-size_bits-w c = (
  refl,
  found (search rules) (omega arith) c.first_to-digits.ensures (search rules) (search rules)
      c.loop-power.invariant.1 (omega arith),
)

pub loop-power-preserved : goal.loop-power-preserved
loop-power-preserved c = (
  omega arith,
  missed (search rules) (omega arith) c.first_to-digits.ensures
      (λ h e. c.if-size_bits-w.false (c.size_bits.ensures ∙ e)) c.loop-power.invariant.1 (omega arith),
)

pub returns : goal.returns
returns c =
    let e : c.loop-power.power ≡ 0 = omega arith in
    subst (NoneAbove c.args.w) e c.loop-power.invariant.1
