-- `roll::make` meets its contract: one binary digit more is set.
use Rattle.std.proofs.Common.{ℕ, ◌/◌, ◌%◌, ◌^◌, get_or, set, ap, ◌∙◌, one-mul, arith, shl_exact}
use lib.Bits.{bit_or}
use Rattle.roll.specs.inner.Marks.{digits}
use Rattle.roll.proofs.make.Goals as goal

pub returns : goal.returns
returns c =
    let a = c.args in
    ap (λ (x : ℕ). set a.marks.now (a.k / digits) (bit_or (get_or a.marks.now (a.k / digits) 0) x))
    (shl_exact {a = 1} 1 (a.k % digits) 64 (omega arith) (omega arith) ∙ one-mul (2 ^ (a.k % digits)))
