-- From rows to the currents that are told, of either polarity: where nothing overloads, each place has its row's ticks.
use mathlib.Core.Path.{◌≡◌, refl, sym, ap, ◌∙◌}
use mathlib.Core.Bool.{Bool, true, false}
use mathlib.Core.List.{List, map}
use Prim.Native.Nat.{ℕ}
use native.Mathlib.Omega.{arith}
use lib.ListN.{get_or}
use lib.IntN.{ℤ, pos, neg_ℤ, neg_ℤ-neg_ℤ}
use lib.Signed.{◌≤ℤ◌}
use Rattle.scaling.specs.Scaled.{exp_of}
use Rattle.card.specs.declared.WorkedCard.{WorkedCard}
use Rattle.terms.specs.Rows.{Role, Row, row1, rows_for}
use Rattle.terms.specs.Values.{value_of, bias_of, octave_for}
use Rattle.std.specs.Prelude.{Option, Some, None}
use Rattle.rows.specs.declared.Over.{Over}
use Rattle.rows.specs.Ticks.{row_ticks}
use Rattle.rows.specs.Outcome.{first_over, told_over, told_ticks, outcome_at, outcome_across}
use Rattle.polarity.specs.Polarity.{turned, seen_by, turned_outcome, outcome_of}
use Rattle.curves.specs.Diode.{Diode, DiodeAt, two, three, four, seven}
use Rattle.curves.specs.Exchange.{Exchanged, Crossed}
use Rattle.curves.specs.Fraction.{in_ticks, WithinOne}
use Rattle.curves.proofs.Order.{turn_falls}
use Rattle.curves.proofs.Downhill.{shape, never_downhill, nothing_at_zero, sign_follows}
use Rattle.curves.proofs.Ticks.{within_a_tick}
use Rattle.curves.proofs.Exchange.{crossed, exchange_negates}

-- an outcome within its limits has the ticks themselves
all_told : (pnp : Bool) (o : Option Over) (l : List ℤ) → told_over (turned_outcome pnp (outcome_at o l)) ≡ None →
    told_ticks (turned_outcome pnp (outcome_at o l)) ≡ map (turned pnp) l
all_told pnp None l e = refl
all_told pnp (Some o) l e = let z : ◌≡◌ {A = ℕ} 0 1 = cc in absurd (omega arith)

module _ (c : WorkedCard) (volts : List ℤ) (within : told_over (outcome_of c volts) ≡ None) where
  all_rows : told_ticks (outcome_of c volts)
      ≡ map (turned c.pnp) (map (row_ticks c (seen_by c volts)) (rows_for c.exsub))
  unfolding outcome_of outcome_across
  all_rows =
      all_told c.pnp (first_over c (seen_by c volts) 1 (rows_for c.exsub)) _ within

  -- at the place of a row of the shape, and at that of branch 1
  pub told_is_row : {k : ℕ} {r : Row} → DiodeAt k r →
      get_or (told_ticks (outcome_of c volts)) k (pos 0) ≡ turned c.pnp (row_ticks c (seen_by c volts) r)
  told_is_row two = ap (λ (l : List ℤ). get_or l 1 (pos 0)) all_rows
  told_is_row three = ap (λ (l : List ℤ). get_or l 2 (pos 0)) all_rows
  told_is_row four = ap (λ (l : List ℤ). get_or l 3 (pos 0)) all_rows
  told_is_row seven = ap (λ (l : List ℤ). get_or l 6 (pos 0)) all_rows

  main_is_row : get_or (told_ticks (outcome_of c volts)) 0 (pos 0) ≡ turned c.pnp (row_ticks c (seen_by c volts) row1)
  main_is_row = ap (λ (l : List ℤ). get_or l 0 (pos 0)) all_rows

-- ---- turned over before the rows and after them

abbrev turned_by : Bool → List ℤ → Role → Role → ℤ
turned_by pnp volts p q = turned pnp (bias_of volts p q)

turned_twice : (pnp : Bool) (x : ℤ) → turned pnp (turned pnp x) ≡ x
turned_twice false x = refl
turned_twice true x = neg_ℤ-neg_ℤ x

turned_negates : (pnp : Bool) (x : ℤ) → turned pnp (neg_ℤ x) ≡ neg_ℤ (turned pnp x)
turned_negates false x = refl
turned_negates true x = refl

turned_crossed : (pnp : Bool) {v w : Role → Role → ℤ} → Crossed v w →
    Crossed (λ (p q : Role). turned pnp (v p q)) (λ (p q : Role). turned pnp (w p q))
turned_crossed pnp x = record { emitter = ap (turned pnp) x.emitter; collector = ap (turned pnp) x.collector }

module _ {r : Row} (d : Diode r) (c : WorkedCard) where
  -- the ticks of a polarity
  abbrev ticks_by : Bool → List ℤ → ℤ
  ticks_by pnp volts = turned pnp (row_ticks c (turned_by pnp volts) r)

  turned_rises : (pnp : Bool) (volts others : List ℤ) →
      bias_of volts r.from r.to ≤ℤ bias_of others r.from r.to → ticks_by pnp volts ≤ℤ ticks_by pnp others
  turned_rises false volts others h = never_downhill d c (turned_by false volts) (turned_by false others) h
  turned_rises true volts others h =
      turn_falls _ _ (never_downhill d c (turned_by true others) (turned_by true volts) (turn_falls _ _ h))

  turned_at_zero : (pnp : Bool) (volts : List ℤ) → bias_of volts r.from r.to ≡ pos 0 → ticks_by pnp volts ≡ pos 0
  turned_at_zero false volts h = nothing_at_zero d c (turned_by false volts) h
  turned_at_zero true volts h = ap neg_ℤ (nothing_at_zero d c (turned_by true volts) (ap neg_ℤ h))

  turned_follows : (pnp : Bool) (volts : List ℤ) →
      (pos 0 ≤ℤ bias_of volts r.from r.to → pos 0 ≤ℤ ticks_by pnp volts)
      × (bias_of volts r.from r.to ≤ℤ pos 0 → ticks_by pnp volts ≤ℤ pos 0)
  turned_follows false volts = sign_follows d c (turned_by false volts)
  turned_follows true volts =
      let s = sign_follows d c (turned_by true volts) in (
        (λ h. turn_falls (row_ticks c (turned_by true volts) r) (pos 0) (s.1 (turn_falls (pos 0) _ h))),
        (λ h. turn_falls (pos 0) (row_ticks c (turned_by true volts) r) (s.0 (turn_falls _ (pos 0) h))),
      )

-- ---- what is told

module _ (c : WorkedCard) (volts : List ℤ) (within : told_over (outcome_of c volts) ≡ None) where
  pub told_nothing_at_zero : {k : ℕ} {r : Row} → DiodeAt k r → bias_of volts r.from r.to ≡ pos 0 →
      get_or (told_ticks (outcome_of c volts)) k (pos 0) ≡ pos 0
  told_nothing_at_zero p h = told_is_row c volts within p ∙ turned_at_zero (shape p) c c.pnp volts h

  pub told_sign_follows : {k : ℕ} {r : Row} → DiodeAt k r →
      (pos 0 ≤ℤ bias_of volts r.from r.to → pos 0 ≤ℤ get_or (told_ticks (outcome_of c volts)) k (pos 0))
      × (bias_of volts r.from r.to ≤ℤ pos 0 → get_or (told_ticks (outcome_of c volts)) k (pos 0) ≤ℤ pos 0)
  told_sign_follows p = rw (told_is_row c volts within p) (turned_follows (shape p) c c.pnp volts)

  -- turned over for a PNP, as the rows see it
  pub told_within_a_tick : {k : ℕ} {r : Row} (p : DiodeAt k r) →
      WithinOne (turned c.pnp (get_or (told_ticks (outcome_of c volts)) k (pos 0)))
      (in_ticks (value_of c (shape p).value))
      (exp_of (seen_by c volts r.from r.to) (octave_for c (shape p).span))
  told_within_a_tick p =
      rw (told_is_row c volts within p, turned_twice c.pnp) (within_a_tick (shape p) c (seen_by c volts))

module _ (c : WorkedCard) (volts others : List ℤ) (within : told_over (outcome_of c volts) ≡ None)
    (within-too : told_over (outcome_of c others) ≡ None) where
  -- a plot of one of the four never dips
  pub told_never_downhill : {k : ℕ} {r : Row} → DiodeAt k r →
      bias_of volts r.from r.to ≤ℤ bias_of others r.from r.to →
      get_or (told_ticks (outcome_of c volts)) k (pos 0) ≤ℤ get_or (told_ticks (outcome_of c others)) k (pos 0)
  told_never_downhill p h =
      rw (told_is_row c volts within p, told_is_row c others within-too p)
      (turned_rises (shape p) c c.pnp volts others h)

  -- and one of branch 1 over the exchanged voltages is the same, turned over
  pub told_exchange_negates : Exchanged volts others →
      get_or (told_ticks (outcome_of c others)) 0 (pos 0) ≡ neg_ℤ (get_or (told_ticks (outcome_of c volts)) 0 (pos 0))
  told_exchange_negates x =
      main_is_row c others within-too
      ∙ ap (turned c.pnp) (exchange_negates c (turned_crossed c.pnp (crossed x)))
      ∙ turned_negates c.pnp (row_ticks c (seen_by c volts) row1)
      ∙ ap neg_ℤ (sym (main_is_row c volts within))
