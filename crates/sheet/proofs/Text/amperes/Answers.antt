-- The sign, whole amperes, the point and twelve decimals.
use mathlib.Core.Path.{ap, ◌∙◌}
use Rattle.whole.proofs.Halves.{back}
use Rattle.current.specs.Current.{opened_of}
use Rattle.sheet.proofs.Texts.{then}
use Rattle.sheet.proofs.Numerals.{amperes_done}
use Rattle.sheet.proofs.Text.amperes.Goals as goal

pub returns : goal.returns
returns c =
    amperes_done c.args.ticks (c.open-s.ensures ∙ ap opened_of (back c.args.ticks c.ranges.ticks)) c.picoamperes-p.ensures
    c.shows_minus.ensures c.sign.ensures (then c.decimal.ensures (then c.push.ensures c.spell.ensures))
