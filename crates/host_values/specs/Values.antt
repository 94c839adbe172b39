-- The values of an answer of the board, each put where a number was; an answer that has none leaves that number.
use Rattle.std.specs.Prelude.{ℕ, ℤ}
use Rattle.model.specs.declared.Answer.{Answer}
use Rattle.model.specs.declared.Answer.TheVariants.{Issue, Done, Node, Currents, Listed, Summed, Refused}

-- a node's voltage and its total
abbrev pub voltage_over : Answer → ℤ → ℤ
voltage_over (Issue n) was = was
voltage_over Done was = was
voltage_over (Node v t) was = v
voltage_over Currents was = was
voltage_over (Listed n) was = was
voltage_over (Summed t c l) was = was
voltage_over (Refused f) was = was

abbrev pub total_over : Answer → ℤ → ℤ
total_over (Issue n) was = was
total_over Done was = was
total_over (Node v t) was = t
total_over Currents was = was
total_over (Listed n) was = was
total_over (Summed t c l) was = was
total_over (Refused f) was = was

-- how many were listed
abbrev pub count_over : Answer → ℕ → ℕ
count_over (Issue n) was = was
count_over Done was = was
count_over (Node v t) was = was
count_over Currents was = was
count_over (Listed n) was = n
count_over (Summed t c l) was = was
count_over (Refused f) was = was

-- a node's transistors, their cards, and the largest size of a branch
abbrev pub transistors_over : Answer → ℕ → ℕ
transistors_over (Issue n) was = was
transistors_over Done was = was
transistors_over (Node v t) was = was
transistors_over Currents was = was
transistors_over (Listed n) was = was
transistors_over (Summed t c l) was = t
transistors_over (Refused f) was = was

abbrev pub cards_over : Answer → ℕ → ℕ
cards_over (Issue n) was = was
cards_over Done was = was
cards_over (Node v t) was = was
cards_over Currents was = was
cards_over (Listed n) was = was
cards_over (Summed t c l) was = c
cards_over (Refused f) was = was

abbrev pub largest_over : Answer → ℕ → ℕ
largest_over (Issue n) was = was
largest_over Done was = was
largest_over (Node v t) was = was
largest_over Currents was = was
largest_over (Listed n) was = was
largest_over (Summed t c l) was = l
largest_over (Refused f) was = was
