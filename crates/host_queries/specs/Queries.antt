-- What a host's call that only reads leaves: its result, and the lent places and buffers.
use Rattle.std.specs.Prelude.{◌≡◌, Bool, true, false, cond, List, ℕ, eqb, leb, length, ℤ}
use Rattle.refusal.specs.declared.Refusal.TheVariants.{ShortOutput}
use Rattle.refusal.specs.Told.{number_of}
use Rattle.bytes_le.specs.Buffer.{over}
use Rattle.model.specs.Board as model
use Rattle.lending.specs.Lending.{Lent}
use Rattle.host_words.specs.Words.{result_of, issue_over}
use Rattle.host_numbers.specs.Filled.{filled_if}
use Rattle.host_values.specs.Values.{voltage_over, total_over, count_over, transistors_over, cards_over, largest_over}

-- a card's number in the place i
pub record LookedUp (a : model.Answered) (i i' r : ℕ) : Type 0 where
  pub result : r ≡ result_of a.answer
  pub issue : i' ≡ issue_over a.answer i

-- a node's numbers in the places x and y
pub record Shown (l : Lent) (x x' y y' : ℤ) (r : ℕ) : Type 0 where
  pub result : r ≡ result_of l.answer
  pub microvolts : x' ≡ voltage_over l.answer x
  pub ticks : y' ≡ total_over l.answer y

-- a transistor's currents, in a buffer of so many numbers: what refuses, then 5 where it has not room for all
abbrev pub roomed : Bool → ℕ
roomed true = 0
roomed false = number_of ShortOutput

unfoldable pub opening_of : model.Answered → ℕ → ℕ
opening_of a room =
    cond (eqb (result_of a.answer) 0) (roomed (leb (length a.ticks) room)) (result_of a.answer)

pub record Opened (a : model.Answered) (old new : List ℤ) (r : ℕ) : Type 0 where
  pub result : r ≡ opening_of a (length old)
  pub currents : new ≡ filled_if (eqb r 0) a.ticks old

-- who names a node, at the start of the buffer, and how many they are in the place n
pub record Listed (a : model.Answered) (old new : List ℕ) (n n' r : ℕ) : Type 0 where
  pub result : r ≡ result_of a.answer
  pub list : new ≡ over a.list old
  pub count : n' ≡ count_over a.answer n

-- a node summed up, in the places t, c and l
pub record SummedUp (a : model.Answered) (t t' c c' l l' r : ℕ) : Type 0 where
  pub result : r ≡ result_of a.answer
  pub transistors : t' ≡ transistors_over a.answer t
  pub cards : c' ≡ cards_over a.answer c
  pub largest : l' ≡ largest_over a.answer l
