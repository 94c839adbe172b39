-- The rows' T's and ratios as the code has them: right up to their limits, and above them only known to be above.
use Rattle.std.specs.Prelude.{◌≡◌, false, ◌||◌, List, [], ◌∷◌, ℕ, suc, ◌^◌, ◌<◌, length, get_or, ℤ}
use Rattle.std.proofs.Math.IntN.{sub_ℕ}
use Rattle.reverse.specs.OfVolts.Volts.{AllNear}
use Rattle.float.specs.declared.Split.{Split}
use Rattle.float.specs.Split.{IsSplit}
use Rattle.reverse.specs.OfScaling.Scaled.{value_at, times, whole_number, whole_ticks, tick_limit, ratio_limit}
use Rattle.reverse.specs.OfScaling.inner.Shifts.{UpTo}
use Rattle.card_laws.specs.OfCard.WorkedCard.{WorkedCard}
use Rattle.card_laws.specs.OfCard.inner.Worked.{IsWorked}
use Rattle.terms.specs.declared.Terms.{Terms}
use Rattle.terms.specs.declared.Leads.{Leads}
use Rattle.reverse.specs.declared.Pair.{Pair}
use Rattle.reverse.specs.inner.Pairs.{either_over}
use Rattle.terms.specs.Rows.{Role, roles, Value, Divisor, undivided, sum_of, exps, Row}
use Rattle.terms.specs.Rows.{row9, row10, row11, row12, row13, rows_for}
use Rattle.terms.specs.Values.{rise, tick_of, ratio_of, exps_ticks, exps_over}

-- the floors of the two ratios of a divisor; 0 where there is none
abbrev pub left_of : WorkedCard → (Role → Role → ℤ) → Divisor → ℕ
left_of c v undivided = 0
left_of c v (sum_of s t) = ratio_of c v s
left_of c v (exps x p q) = 0

abbrev pub right_of : WorkedCard → (Role → Role → ℤ) → Divisor → ℕ
right_of c v undivided = 0
right_of c v (sum_of s t) = ratio_of c v t
right_of c v (exps x p q) = 0

-- the difference of a row's T's
abbrev pub ticks_of : WorkedCard → (Role → Role → ℤ) → Row → ℤ
ticks_of c v r = sub_ℕ (tick_of c v r.plus) (tick_of c v r.minus)

-- a row over a sum, worked whole: p and m overload where it does, and else their difference is its ticks
pub record Whole (c : WorkedCard) (v : Role → Role → ℤ) (r : Row) (x : Value) (a b : Role) (p m : ℕ) : Type 0 where
  pub over :
      either_over p m ≡ either_over (tick_of c v r.plus) (tick_of c v r.minus) || exps_over c v x a b (ticks_of c v r)
  pub ticks : either_over p m ≡ false → sub_ℕ p m ≡ exps_ticks c v x a b (ticks_of c v r)
  pub plus_small : p < 2 ^ 62
  pub minus_small : m < 2 ^ 62

-- what a row adds and takes away: its T's, or for a row over a sum what comes of them
abbrev pub Counted : WorkedCard → (Role → Role → ℤ) → Row → Divisor → ℕ → ℕ → Type 0
Counted c v r undivided p m = UpTo tick_limit p (tick_of c v r.plus) × UpTo tick_limit m (tick_of c v r.minus)
Counted c v r (sum_of s t) p m = UpTo tick_limit p (tick_of c v r.plus) × UpTo tick_limit m (tick_of c v r.minus)
Counted c v r (exps x a b) p m = Whole c v r x a b p m

-- the code's terms of a row
pub record RowTerms (c : WorkedCard) (v : Role → Role → ℤ) (r : Row) (p m l g : ℕ) : Type 0 where
  pub counted : Counted c v r r.divisor p m
  pub left : UpTo ratio_limit l (left_of c v r.divisor)
  pub right : UpTo ratio_limit g (right_of c v r.divisor)

-- asked by `lead`: a worked value, and the kept voltages of the roles, two of which it stands between
pub record Lead (g : Split) (v : List ℕ) (p q : ℕ) : Type 0 where
  pub split : IsSplit g
  pub long : length v ≡ roles
  pub near : AllNear v
  pub from : p < roles
  pub to : q < roles

-- what `lead` gives for a voltage from one role to the other, and the same from the other to the one
pub record Led (g : Split) (there back : ℤ) (x : Pair) : Type 0 where
  pub plus : UpTo tick_limit x.plus (whole_ticks (times (value_at g) (whole_number (rise there))))
  pub minus : UpTo tick_limit x.minus (whole_ticks (times (value_at g) (whole_number (rise back))))

-- asked by `all_leads`: a worked card, and the kept voltages of its roles
pub record Wired (c : WorkedCard) (v : List ℕ) : Type 0 where
  pub worked : IsWorked c
  pub long : length v ≡ roles
  pub near : AllNear v

-- what it gives: the two numbers of each resistor's row
pub record LeadsOf (c : WorkedCard) (v : Role → Role → ℤ) (x : Leads) : Type 0 where
  pub ninth : Counted c v row9 undivided x.e.plus x.e.minus
  pub tenth : Counted c v row10 undivided x.b.plus x.b.minus
  pub eleventh : Counted c v row11 undivided x.c.plus x.c.minus
  pub twelfth : Counted c v row12 undivided x.blx.plus x.blx.minus
  pub thirteenth : Counted c v row13 undivided x.bli.plus x.bli.minus

-- the terms from place k on are those of the rows, one after the other
pub data RowsAt (c : WorkedCard) (v : Role → Role → ℤ) (x : Terms) : ℕ → List Row → Type 0 where
  none : {k : ℕ} → RowsAt c v x k []
  more : {k : ℕ} {r : Row} {rs : List Row} →
      RowTerms c v r (get_or x.plus k 0) (get_or x.minus k 0) (get_or x.left k 0) (get_or x.right k 0) →
      RowsAt c v x (suc k) rs → RowsAt c v x k (r ∷ rs)

-- what `all_terms` gives: all rows' terms, as many as there are rows
pub record TermsOf (c : WorkedCard) (v : Role → Role → ℤ) (x : Terms) : Type 0 where
  pub rows : RowsAt c v x 0 (rows_for c.exsub)
