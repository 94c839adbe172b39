-- A command that may not poke leaves a board's own slices its own: it makes one call, or none.
use mathlib.Core.Path.{◌≡◌, refl, sym, ap, subst}
use mathlib.Core.Bool.{false}
use mathlib.Core.List.{List, [], ◌∷◌}
use Prim.Native.Nat.{ℕ, ◌+◌}
use lib.IntN.{ℤ}
use lib.ListN.{length, take}
use Rattle.refusal.specs.Order.{Verdict, no, yes}
use Rattle.words.specs.Words.{part_of}
use Rattle.line.specs.Line.{Model}
use Rattle.line.specs.Answers.{name_left, record_left, reading_of}
use Rattle.listed.specs.Listed.{unpadded}
use Rattle.finding.specs.Answers.{locating}
use Rattle.trimming.specs.Trimmed.{trimmed}
use Rattle.script.specs.declared.Command.{Command}
use Rattle.roles.specs.Roles.{roles_of}
use Rattle.asks.specs.declared.Asks.{Asks}
use Rattle.asks.specs.declared.Asks.TheVariants as asks
use Rattle.asks.specs.declared.Call.{Call}
use Rattle.asks.specs.declared.Call.TheVariants as call
use Rattle.asks.specs.declared.OfCard.{OfCard}
use Rattle.asks.specs.declared.OfCard.TheVariants as card
use Rattle.asks.specs.declared.Change.{Change}
use Rattle.asks.specs.declared.Change.TheVariants as change
use Rattle.asks.specs.declared.Reads.{Reads}
use Rattle.asks.specs.declared.Reads.TheVariants as reads
use Rattle.asks.specs.Asks.{asks_of}
use Rattle.asks.specs.Numbers.{number_in, pairs_in, nodes_in}
use Rattle.model.specs.Counts.{nodes_most}
use Rattle.model.specs.Desk as desk
use Rattle.model.specs.declared.Answer.{Answer}
use Rattle.model.specs.Model.{showed_of}
use Rattle.model.proofs.Footing.{showed_stays}
use Rattle.lending.specs.Rest.{Rest, State, board_in, bare, rest_of}
use Rattle.lending.specs.Lending.{fresh_lent, lent_of, lent_by, read_verdict, showed_lent, beside}
use Rattle.lending.specs.Reached.{Own, state_after}
use Rattle.obeying.specs.OfFetching.Fetched.{loaded_at, name_loaded_of, no_name, no_record, loaded_by, line_loaded_of}
use Rattle.obeying.specs.OfAsking.Asked.{asked_card, changed_by, read_by, keeping, asked_of}
use Rattle.obeying.specs.Obeyed.{obeyed_by, obeyed_of}

module _ {s : State} (o : Own s) where
  -- one call more
  own_more : (c : desk.Call) → Own (lent_of s c).state
  unfolding state_after
  own_more c =
      record {
        volts = o.volts;
        totals = o.totals;
        volts_long = o.volts_long;
        totals_long = o.totals_long;
        calls = c ∷ o.calls;
        leaves = ap (λ (x : State). (lent_of x c).state) o.leaves;
      }

  own_named : (name library : List ℕ) (v : Verdict (ℕ × ℕ)) →
      Own (beside s (loaded_at (bare s.rest) name library v)).state
  unfolding lent_of
  own_named name library (no f) = o
  own_named name library (yes p) = own_more (desk.load name (part_of library p.0 (p.0 + p.1)))

  own_line : (v : Verdict Model) → Own (beside s (loaded_by (bare s.rest) v)).state
  unfolding lent_of
  own_line (no f) = o
  own_line (yes m) = own_more (desk.load (unpadded (name_left (yes m) no_name)) (record_left (yes m) no_record))

  own_card : (what : OfCard) (name line bytes library : List ℕ) →
      Own (beside s (asked_card (bare s.rest) what name line bytes library)).state
  unfolding lent_of name_loaded_of line_loaded_of
  own_card card.Load name line bytes library = own_named name library (locating library name)
  own_card card.Record name line bytes library = own_more (desk.load name bytes)
  own_card card.Line name line bytes library = own_line (reading_of (trimmed line) no_name no_record)
  own_card card.Lookup name line bytes library = own_more (desk.look_up name)

  own_change : (what : Change) (v : List ℤ) (words : ℕ) → Own (changed_by s what v words).state
  unfolding lent_of
  own_change change.Place v words = own_more (desk.place (number_in v) (roles_of (nodes_in v words)) refl)
  own_change change.Move v words = own_more (desk.move (take 2 v))
  own_change change.Lift v words = own_more (desk.lift (number_in v))
  own_change change.Withdraw v words = own_more (desk.withdraw (number_in v))

  -- a node that is read changes nothing of the board
  shown_rest : (n : ℤ) (v : Verdict Answer) → (lent_by s (showed_of (board_in s) n) v).state.rest ≡ s.rest
  shown_rest n (no f) = refl
  shown_rest n (yes a) = ap rest_of (showed_stays (board_in s) n)

  own_reading : (what : Reads) (n : ℤ) → Own (keeping s (read_by s what n)).state
  unfolding lent_of showed_lent
  own_reading reads.Node n =
      subst (λ (r : Rest). Own (record { rest = r; volts = s.volts; totals = s.totals }))
      (sym (shown_rest n (read_verdict s (showed_of (board_in s) n)))) o
  own_reading reads.Currents n = own_more (desk.currents n)
  own_reading reads.Sum n = own_more (desk.sum_up n)

  own_call : (k : Call) (c : Command) (line spelled library : List ℕ) →
      Own (asked_of s k c line spelled library).state
  unfolding lent_of
  own_call (call.Card what) c line spelled library = own_card what _ line _ library
  own_call (call.Change what) c line spelled library = own_change what c.numbers c.words.count
  own_call call.Moves c line spelled library = own_more (desk.move (pairs_in c.list))
  own_call (call.Read what) c line spelled library = own_reading what (number_in c.numbers)

  own_asked : (a : Asks) (shelf : List ℕ) (c : Command) (line spelled : List ℕ) →
      Own (obeyed_by a s shelf false c line spelled).state
  own_asked (asks.Board k) shelf c line spelled = own_call k c line spelled _
  own_asked asks.Who shelf c line spelled = o
  own_asked asks.Sheet shelf c line spelled = o
  own_asked asks.Slices shelf c line spelled = o
  own_asked (asks.Apart what) shelf c line spelled = o

  pub own_obeyed : (shelf : List ℕ) (c : Command) (line spelled : List ℕ) →
      Own (obeyed_of s shelf false c line spelled).state
  unfolding obeyed_of
  own_obeyed shelf c line spelled = own_asked (asks_of c.verb) shelf c line spelled

-- a fresh call that was taken
pub own_fresh : (volts totals : List ℤ) → length volts ≡ nodes_most → length totals ≡ nodes_most →
    Own (fresh_lent volts totals).state
unfolding state_after
own_fresh volts totals v t =
    record { volts = volts; totals = totals; volts_long = v; totals_long = t; calls = []; leaves = refl }
