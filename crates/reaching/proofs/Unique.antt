-- At one power there is one first number that comes to a size.
use Rattle.std.proofs.Common.{◌≡◌, ℕ, ◌-◌, ◌<◌, arith}
use native.Mathlib.Decide.{dec_lt}
use Rattle.decimal.specs.Decimal.{powers_end}
use Rattle.decimal.proofs.Order.{size_mono}
use Rattle.reaching.specs.FirstTo.{FirstTo}

none_before : {w q r s : ℕ} → q < powers_end → FirstTo w q r → FirstTo w q s → r < s → ⊥
none_before {w} {q} {r} {s} h a b l =
    let m = b.most in
    let o = a.over (omega arith) in
    let z = a.some in
    let u = b.under (omega arith) in
    let g = size_mono r (s - 1) q (omega arith) (omega arith) h in omega arith

pub unique_first_to : {w q r s : ℕ} → q < powers_end → FirstTo w q r → FirstTo w q s → r ≡ s
unique_first_to {r = r} {s = s} h a b = split (dec_lt r s) (dec_lt s r)
  where
    split : Dec (r < s) → Dec (s < r) → r ≡ s
    split (yes l) d = absurd (none_before h a b l)
    split (no l) (yes k) = absurd (none_before h b a k)
    split (no l) (no k) = omega arith
