-- What each call that a command makes gives: the answer with the next board and slices.
use Rattle.std.specs.Prelude.{List, ℕ, ℤ, take}
use Rattle.words.specs.Words.{part_of, word_at}
use Rattle.script.specs.declared.Command.{Command}
use Rattle.roles.specs.Roles.{roles_of}
use Rattle.trimming.specs.Trimmed.{trimmed}
use Rattle.model.specs.Board.{Board, Answered}
use Rattle.model.specs.Model.{loaded_of, withdrawn_of, looked_of, opened_of, summed_of}
use Rattle.lending.specs.Rest.{State, bare}
use Rattle.lending.specs.Lending.{Lent, placed_lent, moved_lent, lifted_lent, showed_lent, beside}
use Rattle.asks.specs.Numbers.{nodes_in, number_in, pairs_in}
use Rattle.fetching.specs.Fetched.{name_loaded_of, line_loaded_of}
use Rattle.asks.specs.declared.Call.{Call}
use Rattle.asks.specs.declared.Call.TheVariants as call
use Rattle.asks.specs.declared.OfCard.{OfCard}
use Rattle.asks.specs.declared.OfCard.TheVariants as card
use Rattle.asks.specs.declared.Change.{Change}
use Rattle.asks.specs.declared.Change.TheVariants as change
use Rattle.asks.specs.declared.Reads.{Reads}
use Rattle.asks.specs.declared.Reads.TheVariants as reads

-- about a card: the one of that name in the library held, the record of these bytes, the one that the line is, or the
-- newest of that name
abbrev pub asked_card : Board → OfCard → List ℕ → List ℕ → List ℕ → List ℕ → Answered
asked_card b card.Load name line bytes library = name_loaded_of b name library
asked_card b card.Record name line bytes library = loaded_of b name bytes
asked_card b card.Line name line bytes library = line_loaded_of b (trimmed line)
asked_card b card.Lookup name line bytes library = looked_of b name

-- to change what stands
abbrev pub changed_by : State → Change → List ℤ → ℕ → Lent
changed_by s change.Place v words = placed_lent s (number_in v) (roles_of (nodes_in v words))
changed_by s change.Move v words = moved_lent s (take 2 v)
changed_by s change.Lift v words = lifted_lent s (number_in v)
changed_by s change.Withdraw v words = beside s (withdrawn_of (bare s.rest) (number_in v))

-- to read
abbrev pub read_by : State → Reads → ℤ → Lent
read_by s reads.Node n = showed_lent s n
read_by s reads.Currents n = beside s (opened_of (bare s.rest) n)
read_by s reads.Sum n = beside s (summed_of (bare s.rest) n)

-- what is only read leaves the slices
abbrev pub keeping : State → Lent → Lent
keeping s l =
    record {
      state = record { rest = l.state.rest; volts = s.volts; totals = s.totals };
      answer = l.answer;
      ticks = l.ticks;
      list = l.list;
    }

-- a command's call: the name is its line's second word, and the bytes that its hex digits spell begin `spelled`
abbrev pub asked_of : State → Call → Command → List ℕ → List ℕ → List ℕ → Lent
asked_of s (call.Card what) c line spelled library =
    beside s
    (asked_card (bare s.rest) what (word_at line c.words 1) line (part_of spelled 0 c.bytes) library)
asked_of s (call.Change what) c line spelled library = changed_by s what c.numbers c.words.count
asked_of s call.Moves c line spelled library = moved_lent s (pairs_in c.list)
asked_of s (call.Read what) c line spelled library = keeping s (read_by s what (number_in c.numbers))
