-- Placing's tests but the last, on nodes as the board holds them.
use Rattle.std.specs.Prelude.{Result, Ok, Err, Bool, not, ◌&&◌, ◌||◌, List, ℕ, eqb, leb, get_or}
use Rattle.refusal.specs.declared.Refusal.{Refusal}
use Rattle.refusal.specs.declared.Refusal.TheVariants.{NoRoom, OutOfRange, SplitCollector, NumbersUsedUp}
use Rattle.refusal.specs.Order.{Verdict, no, yes, refuse_if, and_then}
use Rattle.terms.specs.Rows.{Role, C1, C3, C4, role_index}
use Rattle.placing.specs.declared.Spot.{Spot}
use Rattle.totals.specs.Gives.{nodes_most}
use Rattle.given.specs.Lists.{any_of}
use Rattle.given.specs.Arguments.{Found, known, Ties}

-- one role stands on another node than a second; and two that a card holds together do
abbrev pub apart_on : Role → Role → List ℕ → Bool
apart_on p q on = not (eqb (get_or on (role_index p) 0) (get_or on (role_index q) 0))

abbrev pub torn_on : Ties → List ℕ → Bool
torn_on t on = (t.joined && apart_on C4 C1 on) || (t.close && apart_on C3 C4 on)

-- 12, 13, 14, 11, 17; `ties` says which roles a card holds together
unfoldable pub placing : {A : Type 0} → Found A → (A → Ties) → List ℕ → Bool → Bool → Verdict A
placing {A} found ties on no_room used_up =
    and_then (known found)
    (λ (a : A). refuse_if (any_of (leb nodes_most) on) OutOfRange
    (refuse_if (torn_on (ties a) on) SplitCollector
    (refuse_if no_room NoRoom
    (refuse_if used_up NumbersUsedUp (yes a)))))

-- a card's place and a free one
abbrev pub spot : ℕ → ℕ → Spot
spot i free = record { card = i; free = free }

-- the verdict with the free place beside it
abbrev pub way_of : ℕ → Verdict ℕ → Result Spot Refusal
way_of free (no f) = Err f
way_of free (yes i) = Ok (spot i free)
