-- The name at a turn's place is compared with the one asked for, and its number counts where they are the same.
use Rattle.std.proofs.Common.{rules, arith, sym, ap₂, ◌∙◌, ◌≡◌, ◌*◌, ◌-◌, length}
use Rattle.name.specs.Name.{name_length, same}
use Rattle.name.proofs.Laws.{words_in, same_swap}
use Rattle.places.specs.Counts.{cards_most}
use Rattle.deck.specs.Stretch.{stretch}
use Rattle.given.specs.laws.Larger.{max_larger}
use Rattle.deck.specs.laws.Stretches.{part_stretch}
use Rattle.newest.proofs.Parts.{none_larger, further, none_named}
use Rattle.newest.proofs.highest.Goals as goal
use Rattle.newest.proofs.highest.Goals.{After-stands_at}

pub loop-i-init : goal.loop-i-init
loop-i-init c = none_named _ _ _

compared : (c : After-stands_at) →
    let a = c.args in
    c.stands_at.result ≡ same (stretch 0 a.names.now (name_length * (c.loop-i.i - 1)) name_length) a.asked.now
compared c =
    let a = c.args in
    let long : length a.names.now ≡ name_length * cards_most = search rules in
    let e = (words_in a.asked.now (search rules) c.u64_at-low.ensures c.u64_at-high.ensures).bytes in
    let at = name_length * (c.loop-i.i - 1) in
    c.stands_at.ensures
    ∙ ap₂ same (sym e) (part_stretch 0 a.names.now at name_length (omega arith))
    ∙ same_swap a.asked.now (stretch 0 a.names.now at name_length)

pub loop-i-preserved-then-stands_at : goal.loop-i-preserved-then-stands_at
loop-i-preserved-then-stands_at c =
    let a = c.args in
    let s = (goal.at.loop-i-preserved-then-stands_at c).After-stands_at in
    further a.asked.now a.held.now a.names.now c.loop-i.i (omega arith) (omega arith)
    (sym c.if-stands_at.true ∙ compared s) c.loop-i.invariant
    (c.max-best.ensures ∙ max_larger _ _)

pub loop-i-preserved : goal.loop-i-preserved
loop-i-preserved c =
    let a = c.args in
    let s = (goal.at.loop-i-preserved c).After-stands_at in
    further a.asked.now a.held.now a.names.now c.loop-i.i (omega arith) (omega arith)
    (sym c.if-stands_at.false ∙ compared s) c.loop-i.invariant (none_larger _)
