-- The number told of currents, that of the first test that fails or 0 where none does; and one reply to one request.
use Rattle.std.specs.Prelude.{◌≡◌, refl, Option, Some, None, Result, Ok, Err, Bool, not, List, ℕ, Float, ℤ}
use Rattle.std.proofs.Common.{sym, ap, ◌∙◌}
use Rattle.std.specs.Float.Ieee.{eq}
use Rattle.refusal.specs.declared.Refusal.{Refusal}
use Rattle.refusal.specs.Told.{number_of}
use Rattle.refusal.specs.Clash.{clash}
use Rattle.refusal.specs.Order.{Verdict, verdict, and_then, tells, tells_one, number_told, number_if, number_first}
use Rattle.refusal.specs.Order.{then_if}
use Rattle.refusal.specs.Unique.{unique_by_equation}
use Rattle.volts.specs.Volts.{some_off}
use Rattle.card.specs.declared.WorkedCard.{WorkedCard}
use Rattle.clip.specs.Record.{right_length, width_of, finite_up}
use Rattle.loading.specs.Octave.{octave_good}
use Rattle.loading.specs.Numbers.{judged_numbers, level, level504, octave, spares_good, settings_good, icss_below}
use Rattle.loading.specs.Numbers.{within_reach}
use Rattle.card.specs.Judge.{card_of}
use Rattle.card_laws.specs.laws.Tells.{judge_order}
use Rattle.terms.specs.Looked.{looked_at}
use Rattle.rows.specs.declared.Over.{Over}
use Rattle.rows.specs.declared.Over.TheVariants.{Ticks, Injection}
use Rattle.rows.specs.Outcome.{told_over, is_over, drawn_by}
use Rattle.polarity.specs.Polarity.{outcome_of}
use Rattle.branch.specs.Currents.{at_volts, currents_of, told_reply, Replies}

-- ---- the number

-- of what overloads: 15 for a T, 18 for a ratio
abbrev pub over_number : Option Over → ℕ
over_number None = 0
over_number (Some (Ticks k)) = 15
over_number (Some (Injection k)) = 18

-- of a worked card at voltages
abbrev pub volts_number : WorkedCard → List ℤ → ℕ
volts_number c volts =
    let seen = looked_at c.wide volts in number_if (some_off seen) 13 (over_number (told_over (outcome_of c seen)))

-- on clipped numbers, then from the bytes: loading's tests go first
abbrev pub numbers_number : Bool → List Float → List ℤ → ℕ
numbers_number spares x volts =
    number_if (not (eq (level x) level504)) 7
    (number_if (not (settings_good spares x)) 8
    (number_if (icss_below x) 19
    (number_if (not (octave_good (octave x))) 9 (number_if (not (within_reach x)) 10 (volts_number (card_of x) volts)))))

abbrev pub currents_number : List ℕ → List ℤ → ℕ
currents_number s volts =
    number_if (not (right_length s)) 1
    (number_if (not (finite_up s (width_of s))) 6 (numbers_number (spares_good s) (judged_numbers s) volts))

drawn_number : (o : Option Over) → number_if (is_over o) (number_of (drawn_by 0 o)) 0 ≡ over_number o
drawn_number None = refl
drawn_number (Some (Ticks k)) = refl
drawn_number (Some (Injection k)) = refl

pub currents_tells : (s : List ℕ) (volts : List ℤ) → number_told (currents_of s volts) ≡ currents_number s volts
unfolding currents_of
currents_tells s volts =
    ap (λ (v : Verdict WorkedCard). number_told (and_then v (λ (c : WorkedCard). at_volts c volts))) (judge_order s)
    ∙ simp (then_if, number_first, drawn_number)

-- ---- one reply

verdict_told : (r : Result (List ℤ) Refusal) → told_reply r ≡ tells (verdict r)
verdict_told (Ok ticks) = refl
verdict_told (Err f) = refl

verdict_same : (r r' : Result (List ℤ) Refusal) → verdict r ≡ verdict r' → r ≡ r'
verdict_same (Ok ticks) (Ok ticks') e = cc
verdict_same (Ok ticks) (Err f) e = clash cc
verdict_same (Err f) (Ok ticks) e = clash cc
verdict_same (Err f) (Err g) e = cc

pub unique_currents : (s : List ℕ) (volts : List ℤ) (r r' : Result (List ℤ) Refusal) → Replies s volts r →
    Replies s volts r' → r ≡ r'
unique_currents s volts r r' p q =
    let same = unique_by_equation p.answer q.answer in
    verdict_same r r' (tells_one (verdict r) (verdict r') (sym (verdict_told r) ∙ same ∙ verdict_told r'))
