-- Which refusal a call gets on the board, each in the order of its rule: one test a clause, from plain facts about what
-- its places hold. The desk states its own orders; they are proved the same.
use Rattle.std.specs.Prelude.{Bool, not, Option, List, ℕ, eqb, ℤ, nat_abs}
use Rattle.refusal.specs.declared.Refusal.TheVariants.{Malformed, BadName, NameNotHeld, NoRoom, OutOfRange}
use Rattle.refusal.specs.declared.Refusal.TheVariants.{SplitCollector, CardInUse, NumbersUsedUp, ShortOutput}
use Rattle.refusal.specs.Order.{Verdict, yes, refuse_if, and_then}
use Rattle.name.specs.Name.{asked}
use Rattle.card.specs.declared.WorkedCard.{WorkedCard}
use Rattle.card.specs.Judge.{judge_of}
use Rattle.clip.specs.Record.{right_length}
use Rattle.settle.specs.OfRowsTypes.Over.{Over}
use Rattle.settle.specs.OfRows.Outcome.{is_over, drawn_by}
use Rattle.settle.specs.OfGiven.Arguments.{Found, known, off_node, some_node_off, Ties, torn}
use Rattle.settle.specs.OfGiven.Pairs.{are_pairs, some_pair_off, Shift, shifts_of}
use Rattle.settle.specs.declared.First.{First}
use Rattle.settle.specs.First.{first_by, first_issue}

-- Loading: 1, 2, 6, 7, 8, 19, 9, 10, 11, 17, from what the record is judged to be
abbrev pub load_order : List ℕ → List ℕ → Verdict WorkedCard → Bool → Bool → Verdict WorkedCard
load_order name bytes judged no_room used_up =
    refuse_if (not (right_length bytes)) Malformed
    (refuse_if (not (asked name)) BadName
    (and_then judged
    (λ (c : WorkedCard). refuse_if no_room NoRoom
    (refuse_if used_up NumbersUsedUp (yes c)))))

unfoldable pub load_verdict : List ℕ → List ℕ → Bool → Bool → Verdict WorkedCard
load_verdict name bytes no_room used_up = load_order name bytes (judge_of bytes) no_room used_up

-- 15 or 18, by what the transistor of a number overloads, if by anything
abbrev pub refuse_over : {A : Type 0} → ℕ → Option Over → Verdict A → Verdict A
refuse_over issue over next = refuse_if (is_over over) (drawn_by issue over) next

-- Placing: 12, 13, 14, 11, 17, 15 or 18 of the number to come; `ties` says which roles a card holds together
unfoldable pub place_verdict :
    {A : Type 0} → Found A → (A → Ties) → (A → Option Over) → ℕ → List ℤ → Bool → Bool → Verdict A
place_verdict {A} found ties over next nodes no_room used_up =
    and_then (known found)
    (λ (a : A). refuse_if (some_node_off nodes) OutOfRange
    (refuse_if (torn (ties a) nodes) SplitCollector
    (refuse_if no_room NoRoom
    (refuse_if used_up NumbersUsedUp
    (refuse_over next (over a) (yes a))))))

-- Moving voltages: 1, 13, 15 or 18 of the first that would overload
unfoldable pub move_verdict : List ℤ → Option First → Verdict (List Shift)
move_verdict pairs first =
    refuse_if (not (are_pairs pairs)) Malformed
    (refuse_if (some_pair_off pairs) OutOfRange
    (refuse_over (first_issue first) (first_by first) (yes (shifts_of pairs))))

-- Lifting: 12
unfoldable pub lift_verdict : {A : Type 0} → Found A → Verdict A
lift_verdict found = known found

-- Withdrawing: 12, 16
unfoldable pub withdraw_verdict : {A : Type 0} → Found A → (A → Bool) → Verdict A
withdraw_verdict {A} found inUse = and_then (known found) (λ (a : A). refuse_if (inUse a) CardInUse (yes a))

-- Looking a name up: 2, 4
unfoldable pub look_verdict : List ℕ → ℕ → Verdict ℕ
look_verdict name highest = refuse_if (not (asked name)) BadName (refuse_if (eqb highest 0) NameNotHeld (yes highest))

-- Reading a node, and summing one up: 13
unfoldable pub node_verdict : ℤ → Verdict ℕ
node_verdict n = refuse_if (off_node n) OutOfRange (yes (nat_abs n))

-- Reading a transistor's currents: 12
unfoldable pub open_verdict : {A : Type 0} → Found A → Verdict A
open_verdict found = known found

-- Listing who names a node: 13, then 5 where that node's list is too long
unfoldable pub list_verdict : ℤ → (ℕ → Bool) → Verdict ℕ
list_verdict n short = refuse_if (off_node n) OutOfRange (refuse_if (short (nat_abs n)) ShortOutput (yes (nat_abs n)))
