-- What a call leaves in the arrays of the cards is the whole next board: it changes nothing else.
use mathlib.Core.Path.{◌≡◌, refl}
use mathlib.Core.Bool.{Bool}
use mathlib.Core.List.{List}
use Prim.Native.Nat.{ℕ}
use lib.IntN.{ℤ}
use Rattle.refusal.specs.Order.{Verdict, no, yes}
use Rattle.card.specs.declared.WorkedCard.{WorkedCard}
use Rattle.model.specs.Board.{Board, Answered}
use Rattle.model.specs.declared.Answer.{Answer}
use Rattle.model.specs.Model.{plain, loaded, loaded_of, may_load, withdrawn, withdrawn_of, may_withdraw, looked, looked_of}
use Rattle.model.specs.Model.{may_look_up}
use Rattle.model.proofs.Whole.{Plain}
use Rattle.holding.specs.inner.Lent.{CardArrays, LeavesCards}

-- a board lends its own arrays
pub own_cards : (b : Board) → CardArrays b b.numbers b.powers b.ticks b.switches b.names b.held
own_cards b =
    record {
      numbers_are = refl;
      powers_are = refl;
      ticks_are = refl;
      switches_are = refl;
      names_are = refl;
      held_are = refl;
    }

-- b with other arrays of cards and another next number
abbrev pub with_cards : Board → List ℕ → List ℕ → List ℕ → List Bool → List ℕ → List ℕ → ℕ → Board
with_cards b numbers powers ticks switches names held next =
    record {
      numbers = numbers;
      powers = powers;
      ticks = ticks;
      switches = switches;
      names = names;
      held = held;
      next = next;
      volts = b.volts;
      totals = b.totals;
      issues = b.issues;
      cards = b.cards;
      seats = b.seats;
      nodes = b.nodes;
      naming = b.naming;
      currents = b.currents;
    }

-- ---- nothing else changes

abbrev OnlyCards : Board → Board → Type 0
OnlyCards b c = c ≡ with_cards b c.numbers c.powers c.ticks c.switches c.names c.held c.next

load_only : (b : Board) (name bytes : List ℕ) → OnlyCards b (loaded_of b name bytes).board
unfolding loaded_of
load_only b name bytes = go (may_load b name bytes)
  where
    go : (v : Verdict WorkedCard) → OnlyCards b (loaded b name v).board
    go (no f) = refl
    go (yes c) = refl

withdraw_only : (b : Board) (n : ℤ) → OnlyCards b (withdrawn_of b n).board
unfolding withdrawn_of
withdraw_only b n = go (may_withdraw b n)
  where
    go : (v : Verdict ℕ) → OnlyCards b (withdrawn b v).board
    go (no f) = refl
    go (yes i) = refl

-- ---- and neither call tells numbers beside its answer

pub load_plain : (b : Board) (name bytes : List ℕ) → Plain (loaded_of b name bytes)
unfolding loaded_of
load_plain b name bytes = go (may_load b name bytes)
  where
    go : (v : Verdict WorkedCard) → Plain (loaded b name v)
    go (no f) = (refl, refl)
    go (yes c) = (refl, refl)

pub withdraw_plain : (b : Board) (n : ℤ) → Plain (withdrawn_of b n)
unfolding withdrawn_of
withdraw_plain b n = go (may_withdraw b n)
  where
    go : (v : Verdict ℕ) → Plain (withdrawn b v)
    go (no f) = (refl, refl)
    go (yes i) = (refl, refl)

-- ---- so that what was left is the answer, whole

cards_whole : (b : Board) {a : Answered} {answer : Answer} {numbers powers ticks : List ℕ} {switches : List Bool}
    {names held : List ℕ} {next : ℕ} → OnlyCards b a.board → Plain a →
    LeavesCards a answer numbers powers ticks switches names held next →
    plain (with_cards b numbers powers ticks switches names held next) answer ≡ a
cards_whole b {a} only none l =
    let c = l.cards_are in
    rw (
      c.numbers_are,
      c.powers_are,
      c.ticks_are,
      c.switches_are,
      c.names_are,
      c.held_are,
      l.next_is,
      l.answer_is,
      ← only,
      ← none.0,
      ← none.1,
    )

pub loaded_whole : (b : Board) (name bytes : List ℕ) {answer : Answer} {numbers powers ticks : List ℕ}
    {switches : List Bool} {names held : List ℕ} {next : ℕ} →
    LeavesCards (loaded_of b name bytes) answer numbers powers ticks switches names held next →
    plain (with_cards b numbers powers ticks switches names held next) answer ≡ loaded_of b name bytes
loaded_whole b name bytes l = cards_whole b (load_only b name bytes) (load_plain b name bytes) l

pub withdrawn_whole : (b : Board) (n : ℤ) {answer : Answer} {numbers powers ticks : List ℕ} {switches : List Bool}
    {names held : List ℕ} → LeavesCards (withdrawn_of b n) answer numbers powers ticks switches names held b.next →
    plain (with_cards b numbers powers ticks switches names held b.next) answer ≡ withdrawn_of b n
withdrawn_whole b n l = cards_whole b (withdraw_only b n) (withdraw_plain b n) l

-- ---- looking up changes nothing

pub looked_whole : (b : Board) (name : List ℕ) {answer : Answer} → answer ≡ (looked_of b name).answer →
    plain b answer ≡ looked_of b name
unfolding looked_of
looked_whole b name {answer} e = go (may_look_up b name) e
  where
    go : (v : Verdict ℕ) → answer ≡ (looked b v).answer → plain b answer ≡ looked b v
    go (no f) e = rw e
    go (yes n) e = rw e
