-- A dash, too many pairs, pairs, and other bytes.
use Rattle.std.proofs.Common.{sym, ◌∙◌}
use Rattle.hex_bytes.proofs.HexPairs.{dashed, too_many, not_pairs, all_spelled}
use Rattle.hex_bytes.proofs.hex_bytes.Goals as goal

pub returns-then-is_dash : goal.returns-then-is_dash
returns-then-is_dash c = dashed _ _ (sym c.if-is_dash.true ∙ c.is_dash.ensures)

pub returns-then-out-word : goal.returns-then-out-word
returns-then-out-word c = too_many _ _ (sym c.if-is_dash.false ∙ c.is_dash.ensures) c.if-out-word.true

pub returns-then-are_pairs : goal.returns-then-are_pairs
returns-then-are_pairs c =
    all_spelled _ _ (sym c.if-is_dash.false ∙ c.is_dash.ensures) c.if-out-word.false
    (sym c.if-are_pairs.true ∙ c.are_pairs.ensures) c.fill.ensures

pub returns : goal.returns
returns c =
    not_pairs _ _ (sym c.if-is_dash.false ∙ c.is_dash.ensures) c.if-out-word.false
    (sym c.if-are_pairs.false ∙ c.are_pairs.ensures)
