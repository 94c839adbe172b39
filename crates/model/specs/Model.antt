-- The board of places, kept sets, held currents and stored totals, and what each of its methods gives: the answer and
-- the next board, whole.
use Rattle.std.specs.Prelude.{Option}
use Rattle.std.specs.Prelude.{◌≡◌, Bool, false, List, [], ◌∷◌, map, ℕ, ◌+◌, ◌*◌, leb, ltb, length, get_or, set, replicate, ℤ, pos, nat_abs}
use Rattle.refusal.specs.declared.Refusal.{Refusal}
use Rattle.refusal.specs.Order.{Verdict, no, yes}
use Rattle.name.specs.Name.{padded, name_length}
use Rattle.volts.specs.Volts.{given_back, kept_as}
use Rattle.card.specs.declared.WorkedCard.{WorkedCard}
use Rattle.settle.specs.OfTerms.inner.Ready.{ready_of}
use Rattle.settle.specs.OfTerms.Rows.{roles, branches}
use Rattle.settle.specs.OfTerms.Looked.{looked_at}
use Rattle.settle.specs.OfTotals.Flow.{ticks_at, flow, over_at, with_more}
use Rattle.settle.specs.OfGiven.Lists.{any_of, largest, in_order, different}
use Rattle.settle.specs.OfGiven.Arguments.{issue_of, used_up, ties_of, wide_by}
use Rattle.settle.specs.OfGiven.Pairs.{Shift, shifts_of, shifted_in}
use Rattle.settle.specs.OfDeck.Stretch.{written}
use Rattle.settle.specs.OfDeck.Layout.{numbers_each, powers_each, ticks_each, switches_each, numbers_of, powers_of, ticks_of}
use Rattle.settle.specs.OfDeck.Layout.{switches_of}
use Rattle.settle.specs.OfPlaces.Gathered.{Card, Transistor, cards_in, transistors_in, empty_card, empty_transistor, no_card}
use Rattle.settle.specs.OfPlaces.Gathered.{no_transistor, worked_at}
use Rattle.settle.specs.OfPlaces.Finding.{card_place, transistor_place, free_card, free_transistor, stands_on, stands_at, highest_at}
use Rattle.settle.specs.OfPlaces.Sets.{member, list_of}
use Rattle.settle.specs.OfPlaces.Naming.{joined, parted}
use Rattle.settle.specs.declared.First.{First}
use Rattle.settle.specs.OfFlows.Back.{ticks_back}
use Rattle.settle.specs.Change.{changes}
use Rattle.settle.specs.First.{first_below}
use Rattle.settle.specs.Renewed.{renewed}
use Rattle.model.specs.Board.{Board}
use Rattle.model.specs.declared.Answer.{Answer}
use Rattle.model.specs.declared.Answer.TheVariants.{Issue, Done, Node, Currents, Listed, Summed, Refused}
use Rattle.model.specs.Board.{Answered}
use Rattle.model.specs.Counts.{nodes_most, cards_most, transistors_most}
use Rattle.model.specs.Verdict.{load_verdict, place_verdict, move_verdict, lift_verdict, withdraw_verdict, look_verdict}
use Rattle.model.specs.Verdict.{node_verdict, open_verdict, list_verdict}
use Rattle.model.specs.Largest.{size_at}
use Rattle.model.specs.Desk.{Call, load, place, move, lift, withdraw, look_up, node, currents, who, sum_up}

-- ---- what stands at a place

-- the cards and the transistors by their places
unfoldable pub cards_of : Board → List Card
cards_of b = cards_in b.held b.names b.numbers b.powers b.ticks b.switches

unfoldable pub transistors_of : Board → List Transistor
transistors_of b = transistors_in b.issues b.cards b.seats b.nodes b.currents

abbrev pub transistor_at : Board → ℕ → Transistor
transistor_at b i = get_or (transistors_of b) i no_transistor

-- the worked card of the transistor at a place
abbrev pub worked_on : Board → ℕ → WorkedCard
worked_on b i = worked_at (cards_of b) (transistor_at b i).seat

-- ---- voltages and totals: the one thing that placing, lifting and moving change beside the places

pub record Levels : Type 0 where
  pub volts : List ℕ
  pub totals : List ℤ

abbrev pub levels_of : Board → Levels
levels_of b = record { volts = b.volts; totals = b.totals }

-- the voltages as they are
abbrev pub volts_of : Board → List ℤ
volts_of b = map given_back b.volts

-- a transistor's flow put in, and what one holds taken out: that needs no card and no voltage
abbrev pub put_in : Levels → WorkedCard → List ℕ → Levels
put_in l c nodes =
    record { volts = l.volts; totals = with_more l.totals (flow c nodes (map given_back l.volts)) }

abbrev pub taken_out : Levels → List ℕ → List ℤ → Levels
taken_out l nodes held = record { volts = l.volts; totals = with_more l.totals (ticks_back nodes held) }

-- the voltages as they are kept after shifts
abbrev pub shifted : List ℕ → List Shift → List ℕ
shifted = shifted_in kept_as

-- a transistor that names one of the nodes moved: it must be worked
abbrev pub touched : List Shift → Transistor → Bool
touched shifts t = any_of (λ (s : Shift). stands_at s.node t) shifts

-- the first transistor that would overload
abbrev pub first_over : Board → List Shift → Option First
first_over b shifts =
    first_below (λ (i : ℕ). touched shifts (transistor_at b i)) (λ (i : ℕ). (transistor_at b i).issue)
    (λ (i : ℕ). over_at (worked_on b i) (transistor_at b i).nodes (map given_back (shifted b.volts shifts)))
    transistors_most

-- what node n gains
abbrev pub gains : Board → List Shift → ℕ → ℤ
gains b shifts n =
    changes (λ (i : ℕ). touched shifts (transistor_at b i)) (worked_on b) (λ (i : ℕ). (transistor_at b i).nodes)
    (λ (i : ℕ). (transistor_at b i).currents) (map given_back (shifted b.volts shifts)) transistors_most n

abbrev pub settled : Board → List Shift → Levels
settled b shifts =
    record { volts = shifted b.volts shifts; totals = with_more b.totals (gains b shifts) }

-- the currents that the transistor at a place has then, and all that is held then: those that are worked hold them
abbrev pub current_then : Board → List Shift → ℕ → List ℤ
current_then b shifts i =
    ticks_at (worked_on b i) (transistor_at b i).nodes (map given_back (shifted b.volts shifts))

abbrev pub held_then : Board → List Shift → List ℤ
held_then b shifts =
    renewed (λ (i : ℕ). touched shifts (transistor_at b i)) (current_then b shifts) b.currents transistors_most 0

-- ---- boards with something else at one place, or at other levels

-- the card c at place i
abbrev pub holding : Board → ℕ → Card → ℕ → Board
holding b i c next =
    record {
      numbers = written 0 b.numbers (numbers_each * i) (numbers_of c.ready) numbers_each;
      powers = written 0 b.powers (powers_each * i) (powers_of c.ready.card) powers_each;
      ticks = written 0 b.ticks (ticks_each * i) (ticks_of c.ready) ticks_each;
      switches = written false b.switches (switches_each * i) (switches_of c.ready.card) switches_each;
      names = written 0 b.names (name_length * i) c.name name_length;
      held = set b.held i c.issue;
      next = next;
      volts = b.volts;
      totals = b.totals;
      issues = b.issues;
      cards = b.cards;
      seats = b.seats;
      nodes = b.nodes;
      naming = b.naming;
      currents = b.currents;
    }

-- the transistor t at place i, and other sets
abbrev pub standing : Board → ℕ → Transistor → List ℕ → Levels → ℕ → Board
standing b i t sets levels next =
    record {
      numbers = b.numbers;
      powers = b.powers;
      ticks = b.ticks;
      switches = b.switches;
      names = b.names;
      held = b.held;
      next = next;
      volts = levels.volts;
      totals = levels.totals;
      issues = set b.issues i t.issue;
      cards = set b.cards i t.card;
      seats = set b.seats i t.seat;
      nodes = written 0 b.nodes (roles * i) t.nodes roles;
      naming = sets;
      currents = written (pos 0) b.currents (branches * i) t.currents branches;
    }

-- other levels, and other currents held
abbrev pub leveled : Board → Levels → List ℤ → Board
leveled b levels held =
    record {
      numbers = b.numbers;
      powers = b.powers;
      ticks = b.ticks;
      switches = b.switches;
      names = b.names;
      held = b.held;
      next = b.next;
      volts = levels.volts;
      totals = levels.totals;
      issues = b.issues;
      cards = b.cards;
      seats = b.seats;
      nodes = b.nodes;
      naming = b.naming;
      currents = held;
    }

-- ---- the methods

unfoldable pub fresh_board : Board
fresh_board =
    record {
      numbers = replicate (numbers_each * cards_most) 0;
      powers = replicate (powers_each * cards_most) 0;
      ticks = replicate (ticks_each * cards_most) 0;
      switches = replicate (switches_each * cards_most) false;
      names = replicate (name_length * cards_most) 0;
      held = replicate cards_most 0;
      next = 1;
      volts = replicate nodes_most (kept_as (pos 0));
      totals = replicate nodes_most (pos 0);
      issues = replicate transistors_most 0;
      cards = replicate transistors_most 0;
      seats = replicate transistors_most 0;
      nodes = replicate (roles * transistors_most) 0;
      naming = replicate nodes_most 0;
      currents = replicate (branches * transistors_most) (pos 0);
    }

-- an answer without numbers
abbrev pub no_ticks : List ℤ
no_ticks = replicate branches (pos 0)

abbrev pub plain : Board → Answer → Answered
plain b a = record { board = b; answer = a; ticks = no_ticks; list = [] }

abbrev pub refuse : Board → Refusal → Answered
refuse b f = plain b (Refused f)

abbrev pub loaded : Board → List ℕ → Verdict WorkedCard → Answered
loaded b name (no f) = refuse b f
loaded b name (yes c) =
    plain
    (holding b (free_card (cards_of b)) (record { issue = b.next; name = padded name; ready = ready_of c }) (b.next + 1))
    (Issue b.next)

abbrev pub may_load : Board → List ℕ → List ℕ → Verdict WorkedCard
may_load b name bytes = load_verdict name bytes (leb cards_most (free_card (cards_of b))) (used_up b.next)

unfoldable pub loaded_of : Board → List ℕ → List ℕ → Answered
loaded_of b name bytes = loaded b name (may_load b name bytes)

-- the transistor that is placed on the card at place i
abbrev pub newcomer : Board → ℕ → List ℤ → Transistor
newcomer b i nodes =
    record {
      issue = b.next;
      card = (get_or (cards_of b) i no_card).issue;
      seat = i;
      nodes = map nat_abs nodes;
      currents = ticks_at (worked_at (cards_of b) i) (map nat_abs nodes) (volts_of b);
    }

abbrev pub placed : Board → List ℤ → Verdict ℕ → Answered
placed b nodes (no f) = refuse b f
placed b nodes (yes i) =
    plain
    (standing b (free_transistor (transistors_of b)) (newcomer b i nodes)
    (joined b.naming (free_transistor (transistors_of b)) (map nat_abs nodes))
    (put_in (levels_of b) (worked_at (cards_of b) i) (map nat_abs nodes)) (b.next + 1))
    (Issue b.next)

-- what the card that is asked for looks at of the nodes
abbrev pub seen_on : Board → ℤ → List ℤ → List ℤ
seen_on b card nodes =
    looked_at (wide_by (λ (i : ℕ). (worked_at (cards_of b) i).wide) (card_place (issue_of card) (cards_of b))) nodes

abbrev pub may_place : Board → ℤ → List ℤ → Verdict ℕ
may_place b card nodes =
    place_verdict (card_place (issue_of card) (cards_of b)) (λ (i : ℕ). ties_of (worked_at (cards_of b) i))
    (λ (i : ℕ). over_at (worked_at (cards_of b) i) (map nat_abs nodes) (volts_of b)) b.next nodes
    (leb transistors_most (free_transistor (transistors_of b))) (used_up b.next)

abbrev pub placed_on : Board → ℤ → List ℤ → Answered
placed_on b card nodes = placed b nodes (may_place b card nodes)

unfoldable pub placed_of : Board → ℤ → List ℤ → Answered
placed_of b card nodes = placed_on b card (seen_on b card nodes)

abbrev pub moved : Board → Verdict (List Shift) → Answered
moved b (no f) = refuse b f
moved b (yes shifts) = plain (leveled b (settled b shifts) (held_then b shifts)) Done

abbrev pub may_move : Board → List ℤ → Verdict (List Shift)
may_move b pairs = move_verdict pairs (first_over b (shifts_of pairs))

unfoldable pub moved_of : Board → List ℤ → Answered
moved_of b pairs = moved b (may_move b pairs)

abbrev pub lifted : Board → Verdict ℕ → Answered
lifted b (no f) = refuse b f
lifted b (yes i) =
    plain
    (standing b i empty_transistor (parted b.naming i (transistor_at b i).nodes)
    (taken_out (levels_of b) (transistor_at b i).nodes (transistor_at b i).currents) b.next)
    Done

abbrev pub may_lift : Board → ℤ → Verdict ℕ
may_lift b n = lift_verdict (transistor_place (issue_of n) (transistors_of b))

unfoldable pub lifted_of : Board → ℤ → Answered
lifted_of b n = lifted b (may_lift b n)

abbrev pub withdrawn : Board → Verdict ℕ → Answered
withdrawn b (no f) = refuse b f
withdrawn b (yes i) = plain (holding b i empty_card b.next) Done

abbrev pub may_withdraw : Board → ℤ → Verdict ℕ
may_withdraw b n =
    withdraw_verdict (card_place (issue_of n) (cards_of b)) (λ (i : ℕ). any_of (stands_on (issue_of n)) (transistors_of b))

unfoldable pub withdrawn_of : Board → ℤ → Answered
withdrawn_of b n = withdrawn b (may_withdraw b n)

abbrev pub looked : Board → Verdict ℕ → Answered
looked b (no f) = refuse b f
looked b (yes n) = plain b (Issue n)

abbrev pub may_look_up : Board → List ℕ → Verdict ℕ
may_look_up b name = look_verdict name (highest_at (padded name) (cards_of b))

unfoldable pub looked_of : Board → List ℕ → Answered
looked_of b name = looked b (may_look_up b name)

abbrev pub showed : Board → Verdict ℕ → Answered
showed b (no f) = refuse b f
showed b (yes n) = plain b (Node (given_back (get_or b.volts n 0)) (get_or b.totals n (pos 0)))

unfoldable pub showed_of : Board → ℤ → Answered
showed_of b n = showed b (node_verdict n)

-- what the transistor at a place holds
abbrev pub opened : Board → Verdict ℕ → Answered
opened b (no f) = refuse b f
opened b (yes i) = record { board = b; answer = Currents; ticks = (transistor_at b i).currents; list = [] }

abbrev pub may_open : Board → ℤ → Verdict ℕ
may_open b n = open_verdict (transistor_place (issue_of n) (transistors_of b))

unfoldable pub opened_of : Board → ℤ → Answered
opened_of b n = opened b (may_open b n)

-- what f tells of the transistors at the places of a node's set, and their issue numbers in rising order
abbrev pub told_on : {A : Type 0} → Board → (Transistor → A) → ℕ → List A
told_on b f n = list_of (member (get_or b.naming n 0)) (λ (i : ℕ). f (transistor_at b i)) transistors_most

abbrev pub issues_on : Board → ℕ → List ℕ
issues_on b n = in_order (told_on b (λ (t : Transistor). t.issue) n)

abbrev pub listed : Board → Verdict ℕ → Answered
listed b (no f) = refuse b f
listed b (yes n) =
    record { board = b; answer = Listed (length (issues_on b n)); ticks = no_ticks; list = issues_on b n }

abbrev pub may_list : Board → ℤ → ℕ → Verdict ℕ
may_list b n room = list_verdict n (λ (k : ℕ). ltb room (length (issues_on b k)))

unfoldable pub listed_of : Board → ℤ → ℕ → Answered
listed_of b n room = listed b (may_list b n room)

abbrev pub summed : Board → Verdict ℕ → Answered
summed b (no f) = refuse b f
summed b (yes n) =
    plain b
    (Summed (length (told_on b (λ (t : Transistor). t.issue) n)) (different (told_on b (λ (t : Transistor). t.card) n))
    (largest (told_on b (λ (t : Transistor). size_at n t.nodes t.currents) n)))

unfoldable pub summed_of : Board → ℤ → Answered
summed_of b n = summed b (node_verdict n)

-- ---- boards as calls leave them

unfoldable pub answered : Board → Call → Answered
answered b (load name bytes) = loaded_of b name bytes
answered b (place card nodes sized) = placed_of b card nodes
answered b (move pairs) = moved_of b pairs
answered b (lift n) = lifted_of b n
answered b (withdraw n) = withdrawn_of b n
answered b (look_up name) = looked_of b name
answered b (node n) = showed_of b n
answered b (currents n) = opened_of b n
answered b (who n room) = listed_of b n room
answered b (sum_up n) = summed_of b n

-- the board after calls from a fresh one, the last call first in the list
unfoldable pub board_after : List Call → Board
unfolding answered fresh_board
board_after [] = fresh_board
board_after (c ∷ cs) = (answered (board_after cs) c).board

-- some calls, whatever their arguments and answers, leave this board
pub record Reached (b : Board) : Type 0 where
  pub calls : List Call
  pub leaves : board_after calls ≡ b
