-- Whom a command asks, by its verb: a row for each.
use Rattle.verbs.specs.declared.Verb.{Verb}
use Rattle.verbs.specs.declared.Verb.TheVariants as verb
use Rattle.asks.specs.declared.Asks.{Asks}
use Rattle.asks.specs.declared.Asks.TheVariants as asks
use Rattle.asks.specs.declared.Call.TheVariants as call
use Rattle.asks.specs.declared.OfCard.TheVariants as card
use Rattle.asks.specs.declared.Change.TheVariants as change
use Rattle.asks.specs.declared.Reads.TheVariants as reads
use Rattle.asks.specs.declared.Apart.TheVariants as apart

abbrev pub asks_of : Verb → Asks
asks_of verb.Load = asks.Board (call.Card card.Load)
asks_of verb.Record = asks.Board (call.Card card.Record)
asks_of verb.ModelLine = asks.Board (call.Card card.Line)
asks_of verb.Lookup = asks.Board (call.Card card.Lookup)
asks_of verb.Place = asks.Board (call.Change change.Place)
asks_of verb.Move = asks.Board (call.Change change.Move)
asks_of verb.Lift = asks.Board (call.Change change.Lift)
asks_of verb.Withdraw = asks.Board (call.Change change.Withdraw)
asks_of verb.Moves = asks.Board call.Moves
asks_of verb.Node = asks.Board (call.Read reads.Node)
asks_of verb.Currents = asks.Board (call.Read reads.Currents)
asks_of verb.Sum = asks.Board (call.Read reads.Sum)
asks_of verb.Who = asks.Who
asks_of verb.Sheet = asks.Sheet
asks_of verb.Poke = asks.Slices
asks_of verb.Nothing = asks.Apart apart.Nothing
asks_of verb.TooLong = asks.Apart apart.TooLong
asks_of verb.Error = asks.Apart apart.Error
asks_of verb.Find = asks.Apart apart.Find
asks_of verb.Clip = asks.Apart apart.Clip
asks_of verb.Mend = asks.Apart apart.Mend
asks_of verb.Model = asks.Apart apart.Model
asks_of verb.Library = asks.Apart apart.Nothing
