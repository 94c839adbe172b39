-- The pieces one after the other.
use Rattle.std.proofs.Common.{ap, ◌∙◌}
use native.Mathlib.Nat.{le_refl}
use native.Mathlib.Omega.{arith}
use Rattle.sheet.specs.Text.{shown}
use Rattle.sheet.specs.Digits.{mask_digits, word_digits}
use Rattle.sheet.specs.laws.LinesFit.{hex_whole, mask_short}
use Rattle.clipped.specs.Clipped.{clip_line}
use Rattle.page.proofs.Pages.{then}
use Rattle.texts.proofs.Written.{text_written}
use Rattle.clipped.proofs.clip_line.Goals as goal

pub returns : goal.returns
unfolding clip_line
returns c =
    let w = c.args.wide in
    let short = mask_short w in
    then c.put.ensures
    (then (text_written c.mask_digits.ensures (hex_whole (mask_digits w) _ (omega arith)) c.put_text.ensures)
    (c.put_each.ensures _ (λ i none t h m. ap shown m ∙ hex_whole word_digits _ (le_refl _))))
