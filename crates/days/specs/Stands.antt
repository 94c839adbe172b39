-- When a board of places stands for a desk: the same cards and transistors in some order, the same voltages, the same
-- next number.
use Rattle.std.specs.Prelude.{◌≡◌, not, List, [], ◌∷◌, ℕ, eqb, get_or, ℤ}
use Rattle.places.specs.Gathered.{Card, Transistor}
use Rattle.model.specs.Board.{Board}
use Rattle.model.specs.Model.{cards_of, transistors_of, transistor_at}
use Rattle.model.specs.declared.Answer.{Answer}
use Rattle.model.specs.declared.Answer.TheVariants.{Issue, Done, Node, Currents, Listed, Summed, Refused}
use Rattle.model.specs.Board.{Answered}
use Rattle.given.specs.Arguments.{Found, none, some}
use Rattle.model.specs.Desk.{Held, Standing, Desk, Step, Reply, issued, done, shows, carries, lists, sums, refused}
use Rattle.given.specs.Lists.{keep_if}
use Rattle.places.specs.Gathered.{no_card, worked_at}
use Rattle.places.specs.Finding.{transistor_place}
use Rattle.model.specs.Model.{volts_of}
use Rattle.days.specs.Perm.{Perm}

-- what stands on the places of l, each seen through f; a place whose key is 0 is empty
unfoldable pub occupied : {A B : Type 0} → (A → ℕ) → (A → B) → List A → List B
occupied key f [] = []
occupied key f (a ∷ rest) = keep_if (not (eqb (key a) 0)) (f a) (occupied key f rest)

abbrev pub held_of : Card → Held
held_of c = record { issue = c.issue; name = c.name; worked = c.ready.card }

abbrev pub standing_of : List Card → Transistor → Standing
standing_of cards t =
    record { issue = t.issue; card = t.card; worked = worked_at cards t.seat; nodes = t.nodes }

-- the cards and the transistors of a board
abbrev pub held_in : List Card → List Held
held_in cards = occupied (λ (c : Card). c.issue) held_of cards

abbrev pub standing_in : List Card → List Transistor → List Standing
standing_in cards ts = occupied (λ (t : Transistor). t.issue) (standing_of cards) ts

-- the card and the transistor at a place
abbrev pub held_at : Board → ℕ → Held
held_at b i = held_of (get_or (cards_of b) i no_card)

abbrev pub standing_at : Board → ℕ → Standing
standing_at b i = standing_of (cards_of b) (transistor_at b i)

-- what was found, seen through a function
abbrev pub map_found : {A B : Type 0} → (A → B) → Found A → Found B
map_found g none = none
map_found g (some a) = some (g a)

-- who stands on a board under an issue number
abbrev pub stands_under : ℕ → Board → Found Standing
stands_under k b = map_found (standing_at b) (transistor_place k (transistors_of b))

-- places, voltages and a next number that stand for a desk
pub record StandFor (cs : List Card) (ts : List Transistor) (vs : List ℤ) (n : ℕ) (d : Desk) : Type 0 where
  pub cards : Perm (held_in cs) d.cards
  pub standing : Perm (standing_in cs ts) d.standing
  pub volts : vs ≡ d.volts
  pub next : n ≡ d.next

abbrev pub Stands : Board → Desk → Type 0
Stands b d = StandFor (cards_of b) (transistors_of b) (volts_of b) b.next d

-- a board's answer, and the numbers beside it, in the desk's words
abbrev pub reply_of : Answer → List ℤ → List ℕ → Reply
reply_of (Issue n) ticks list = issued n
reply_of Done ticks list = done
reply_of (Node v t) ticks list = shows v t
reply_of Currents ticks list = carries ticks
reply_of (Listed n) ticks list = lists list
reply_of (Summed t c s) ticks list = sums t c s
reply_of (Refused f) ticks list = refused f

-- a board's answer is the desk's, and its next board stands for the next desk
pub record Follow (a : Answered) (t : Step) : Type 0 where
  pub reply : reply_of a.answer a.ticks a.list ≡ t.reply
  pub board : Stands a.board t.desk
