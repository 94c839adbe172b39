-- The words after the first one by one, up to one that is no number or to the line's end.
use Rattle.std.proofs.Common.{◌≡◌, sym, ap, ◌∙◌, set, rules}
use mir.Syntax.{w64}
use mir.ValLaws.{to_z-of_z}
use Rattle.std.proofs.lemmas.List.{set_past}
use Rattle.spelling.specs.Number.{parsed_of}
use Rattle.words.proofs.Parts.{part_there}
use Rattle.series.specs.Series.{parsed_in}
use Rattle.series.proofs.Going.{gone_first, gone_none, gone_on, gone_bad, gone_all}
use Rattle.series.proofs.series_of.Goals as goal
use Rattle.series.proofs.series_of.Goals.{in-Some, in-None, After-number, Joined-count-lt-ROOM}
use Rattle.series.proofs.series_of.Goals.{then-count-lt-ROOM, else-count-lt-ROOM}

-- the word's number
parsed : (c : After-number) → parsed_in c.args.line.now c.in-Some-next_word.span ≡ c.number.result
parsed c =
    let w = c.in-Some-next_word.ensures in
    let o = w.order in
    sym (ap parsed_of (part_there c.args.line.now c.in-Some-next_word.span.start c.in-Some-next_word.span.end (search rules) w.most)) ∙ sym c.number.ensures

pub loop-span-init : goal.loop-span-init
loop-span-init c = elim c.match-next_word.branch [
  | in-Some w ↦ rw w.at-is (gone_first _ _ w.in-Some.ensures)
  | in-None w ↦ rw w.at-is (gone_none _ w.in-None.ensures)
]

pub returns-in_err-x : goal.returns-in_err-x
returns-in_err-x c =
    c.from_residual.ensures
    ∙ gone_bad _ c.loop-span.invariant c.in-Some-next_word.span c.in-Some-next_word.ensures
    (parsed (goal.at.returns-in_err-x c).After-number ∙ c.in_err-x.was)

-- the number is written where there is room, and else there is nothing to write over
stored : (c : Joined-count-lt-ROOM) → c.if-count-lt-ROOM.numbers ≡ set c.loop-span.numbers c.loop-span.count c.in_ok-x.x
stored c =
    let wide = c.loop-span.invariant.wide in
    elim c.if-count-lt-ROOM.branch [
      | then-count-lt-ROOM w ↦ w.numbers-is ∙ ap (set c.loop-span.numbers c.loop-span.count) (to_z-of_z w64 c.in_ok-x.x (search rules))
      | else-count-lt-ROOM w ↦ w.numbers-is ∙ sym (set_past c.loop-span.numbers c.loop-span.count c.in_ok-x.x (search rules))
    ]

pub loop-span-preserved : goal.loop-span-preserved
loop-span-preserved c =
    rw (stored c)
    (gone_on _ c.loop-span.invariant c.in-Some-next_word.span c.in_ok-x.x c.in-Some-next_word.ensures
    (parsed (goal.at.loop-span-preserved c).After-number ∙ c.in_ok-x.was))

pub returns : goal.returns
returns c = gone_all _ c.loop-span.invariant c.in_default.ensures
