-- Each kind of row as its definition has it.
use Rattle.std.proofs.Common.{◌≡◌, ◌||◌}
use Rattle.script.specs.Command.{has_numbers}
use Rattle.script.proofs.Sayings.{said_texts, said_numbers, said_either, said_list, said_any}
use Rattle.script.proofs.saying.said_to.Goals as goal
use Rattle.script.proofs.saying.said_to.Goals.{Joined-has_numbers, then-has_numbers, else-has_numbers}

pub returns-in-Texts : goal.returns-in-Texts
returns-in-Texts c = said_texts _ _ c.in-Texts.is c.verb_if.ensures c.said.ensures

pub returns-in-Numbers : goal.returns-in-Numbers
returns-in-Numbers c =
    said_numbers _ _ c.in-Numbers.is c.has_numbers.ensures c.verb_if-in-Numbers.ensures c.said-in-Numbers.ensures

-- one number of words or the other
either : (c : Joined-has_numbers) → c.if-has_numbers.good
    ≡ has_numbers c.args.line.now c.args.words c.in-Either.m || has_numbers c.args.line.now c.args.words c.in-Either.n
either c =
    elim c.if-has_numbers.branch [
      | then-has_numbers w ↦ rw (w.good-is, ← c.has_numbers-in-Either.ensures, w.if-has_numbers.true)
      | else-has_numbers w ↦ rw (w.good-is, ← c.has_numbers-in-Either.ensures, w.if-has_numbers.false) w.has_numbers-good.ensures
    ]

pub returns-after-has_numbers : goal.returns-after-has_numbers
returns-after-has_numbers c =
    said_either _ _ c.in-Either.is (either (goal.at.returns-after-has_numbers c).Joined-has_numbers)
    c.verb_if-in-Either.ensures c.said-in-Either.ensures

pub returns-in-Pairs : goal.returns-in-Pairs
returns-in-Pairs c = said_list _ _ c.in-Pairs.is c.said_pairs.ensures

pub returns-in-Anything : goal.returns-in-Anything
returns-in-Anything c = said_any _ _ c.in-Anything.is c.said-in-Anything.ensures
