-- `look_up` gives the highest issue of the name.
use mathlib.Core.Path.{sym, ◌∙◌}
use Rattle.looking.proofs.Shows.{look_malformed, look_not_held, looks_up}
use Rattle.looking.proofs.look_up.Goals as goal

pub returns-then-not-is_asked : goal.returns-then-not-is_asked
returns-then-not-is_asked c = λ b l m. look_malformed _ _ (sym c.is_asked.ensures ∙ c.if-not-is_asked.true)

pub returns-in_default : goal.returns-in_default
returns-in_default c =
    λ b l m. look_not_held _ _ l m (sym c.is_asked.ensures ∙ c.if-not-is_asked.false) c.pad-asked.ensures
    c.highest.ensures c.in_default.is

pub returns : goal.returns
returns c =
    λ b l m. looks_up _ _ l m (sym c.is_asked.ensures ∙ c.if-not-is_asked.false) c.pad-asked.ensures
    c.highest.ensures c.in-Some.is
