-- Past the line and where spaces alone follow there is no word, else it ends at a space or at the line's end.
use Rattle.std.proofs.Common.{◌≡◌, ◌∙◌, ◌<◌, ◌≤◌, ◌+◌, drop, length, rules, tests}
use Rattle.std.specs.List.{AllWithin, HoldsAt}
use Rattle.std.specs.Option.{MatchOption}
use Rattle.std.proofs.lemmas.Iterator.{IsFirst-from_position, YieldsList-from_slice}
use Rattle.words.proofs.Parts.{Space, Letter, range_to_end, outside_end, spaces_alone, word_to_space, word_to_end}
use Rattle.words.proofs.parting.next_word.Goals as goal
use Rattle.words.proofs.parting.next_word.Goals.{After-position, After-position-2}

-- the first letter ahead, or none
first_letter : (c : After-position)
    → MatchOption c.position.result
    (AllWithin Space (drop c.args.at c.args.line.now) 0 (length (drop c.args.at c.args.line.now)))
    (λ n. (n < length (drop c.args.at c.args.line.now)) × HoldsAt Letter (drop c.args.at c.args.line.now) n
    × AllWithin Space (drop c.args.at c.args.line.now) 0 n)
first_letter c =
    let e = range_to_end c.args.line.now c.args.at in
    let rest : c.iter.result.rest.now ≡ drop c.args.at c.args.line.now =
    c.iter.ensures.rest ∙ c.in_ok-get.ensures.lookup.0.2 ∙ e in
    IsFirst-from_position _ _ _ Letter Space c.position.ensures.ran
    (YieldsList-from_slice (drop c.args.at c.args.line.now) rest) (λ y q k. search (rules, tests))
    (λ y q k. search (rules, tests))

-- the space after the letters from `start` on, or none
first_space : (c : After-position-2)
    → MatchOption c.position-2.result
    (AllWithin Letter (drop (c.args.at + c.in_ok-start.field-0) c.args.line.now) 0
    (length (drop (c.args.at + c.in_ok-start.field-0) c.args.line.now)))
    (λ n. (n < length (drop (c.args.at + c.in_ok-start.field-0) c.args.line.now))
    × HoldsAt Space (drop (c.args.at + c.in_ok-start.field-0) c.args.line.now) n
    × AllWithin Letter (drop (c.args.at + c.in_ok-start.field-0) c.args.line.now) 0 n)
first_space c =
    let e = range_to_end c.args.line.now (c.args.at + c.in_ok-start.field-0) in
    IsFirst-from_position _ _ _ Space Letter c.position-2.ensures.ran
    (YieldsList-from_slice (drop (c.args.at + c.in_ok-start.field-0) c.args.line.now) (c.iter-2.ensures.rest ∙ e))
    (λ y q k. search (rules, tests)) (λ y q k. search (rules, tests))

pub returns-in_err-get : goal.returns-in_err-get
returns-in_err-get c =
    let h : length c.args.line.now ≤ c.args.at = search rules in
    rw c.from_residual.ensures (outside_end c.args.line.now c.args.at h)

pub returns-in_err-start : goal.returns-in_err-start
returns-in_err-start c =
    let h : c.args.at ≤ length c.args.line.now = search rules in
    rw c.from_residual-in_err-start.ensures
    (spaces_alone c.args.line.now c.args.at h
    (rw c.in_err-start.was at (first_letter (goal.at.returns-in_err-start c).After-position)))

pub returns-in-Some : goal.returns-in-Some
returns-in-Some c =
    let n = rw c.in_ok-start.was at (first_letter (goal.at.returns-in-Some c).After-position) in
    let m = rw c.in-Some.is at (first_space (goal.at.returns-in-Some c).After-position-2) in
    word_to_space c.args.line.now c.args.at c.in_ok-start.field-0 n.0 n.1 n.2 c.in-Some.n m.0 m.1 m.2

pub returns-in-None : goal.returns-in-None
returns-in-None c =
    let n = rw c.in_ok-start.was at (first_letter (goal.at.returns-in-None c).After-position) in
    word_to_end c.args.line.now c.args.at c.in_ok-start.field-0 n.0 n.1 n.2
    (rw c.in-None.is at (first_space (goal.at.returns-in-None c).After-position-2))
