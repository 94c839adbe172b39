use Rattle.sheet.proofs.Text.+spell.Given as goal

abbrev pub decreases-spell : goal.decreases-spell
decreases-spell l = l.k
