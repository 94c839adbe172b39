-- What callers may count on: a judged card made ready, and voltages at which it can be asked.
use mathlib.Core.Path.{◌≡◌, refl}
use mathlib.Core.List.{List}
use Prim.Native.Nat.{ℕ, zero, suc, ◌≤◌, zero-le}
use lib.Dec.{lit≤}
use lib.ListN.{get_or, replicate}
use Rattle.refusal.specs.Order.{yes}
use Rattle.reverse.specs.OfVolts.Volts.{volts_most, span}
use Rattle.reverse.specs.OfOctave.Table.{entries}
use Rattle.card_laws.specs.OfCard.WorkedCard.{WorkedCard}
use Rattle.card_laws.specs.OfCard.Judge.{judge_of}
use Rattle.card_laws.specs.OfCard.inner.Worked.{IsWorked}
use Rattle.card_laws.proofs.WorkedCards.{judged_is_worked}
use Rattle.terms.specs.Rows.{roles}
use Rattle.terms.specs.inner.Ready.{ready_of, IsReady, Askable}

-- ---- a card made ready

pub ready_card : (c : WorkedCard) → (ready_of c).card ≡ c
unfolding ready_of
ready_card c = refl

pub ready_made : (c : WorkedCard) → IsWorked c → IsReady (ready_of c)
unfolding ready_of
ready_made c h = record { worked = h; is = refl }

pub made_ready : (s : List ℕ) (c : WorkedCard) → judge_of s ≡ yes c → IsReady (ready_of c)
made_ready s c e = ready_made c (judged_is_worked s c e)

-- ---- what `all_terms` asks can be met: by any worked card, with every voltage 0

none_far : (n k : ℕ) → get_or (replicate n volts_most) k 0 ≤ span
none_far zero k = zero-le
none_far (suc n) zero = lit≤ tt
none_far (suc n) (suc k) = none_far n k

pub askable : (c : WorkedCard) → IsWorked c → Askable entries (ready_of c) (replicate roles volts_most)
askable c h = record { table_is = refl; ready = ready_made c h; long = refl; near = record { each = none_far roles } }
