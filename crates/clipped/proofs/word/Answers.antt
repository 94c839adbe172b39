use Rattle.std.proofs.Common.{ℕ, ap, ◌∙◌}
use Rattle.sheet.specs.Text.{text_of}
use Rattle.sheet.specs.Digits.{word_digits, hex_digits}
use Rattle.clipped.proofs.word.Goals as goal

pub returns : goal.returns
returns c = c.word_digits.ensures ∙ ap (λ (b : ℕ). text_of (hex_digits word_digits b)) c.bits.ensures
