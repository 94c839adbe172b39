use Rattle.sheet.proofs.Text.+plain.Given as goal

abbrev pub decreases-plain : goal.decreases-plain
decreases-plain l = l.k
