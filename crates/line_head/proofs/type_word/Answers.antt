-- No word, an NPN, a PNP, and any other word.
use Rattle.std.proofs.Common.{sym, ◌∙◌, rules}
use Rattle.line.proofs.Heads.{next_words, next_none, type_none, type_npn, type_pnp, type_other}
use Rattle.line_head.proofs.type_word.Goals as goal
use Rattle.line_head.proofs.type_word.Goals.{then-is_npn, else-is_npn+then-is_pnp}

pub returns-in_default : goal.returns-in_default
returns-in_default c = (type_none _ (next_none _ _ c.in_default.ensures), tt)

pub returns-else-is_pnp : goal.returns-else-is_pnp
returns-else-is_pnp c =
    let w = c.in-Some.ensures in (
      type_other _ (next_words w) (sym c.if-is_npn.false ∙ c.is_npn.ensures)
          (sym c.if-is_pnp.false ∙ c.is_pnp.ensures),
      tt,
    )

pub returns : goal.returns
returns c =
    elim c.if-is_npn.branch [
      | then-is_npn w ↦ (
        rw w.polarity-is (type_npn _ (next_words c.in-Some.ensures) (sym w.if-is_npn.true ∙ c.is_npn.ensures)),
        search rules,
      )
      | else-is_npn+then-is_pnp w ↦ (
        rw w.polarity-is
            (type_pnp _ (next_words c.in-Some.ensures) (sym w.if-is_npn.false ∙ c.is_npn.ensures)
            (sym w.if-is_pnp.true ∙ w.is_pnp.ensures)),
        search rules,
      )
    ]
