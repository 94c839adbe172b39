-- The answer to reading a transistor's currents, and what stands beside it: zeros beside a refusal.
use Rattle.std.specs.Prelude.{Result, Ok, Err, List, ℤ}
use Rattle.refusal.specs.declared.Refusal.{Refusal}
use Rattle.lending.specs.OfModel.Answer.{Answer}
use Rattle.lending.specs.OfModel.Answer.TheVariants.{Currents, Refused}
use Rattle.lending.specs.OfModel.Model.{no_ticks}

abbrev pub told_currents : Result (List ℤ) Refusal → Answer
told_currents (Ok ticks) = Currents
told_currents (Err f) = Refused f

abbrev pub told_ticks : Result (List ℤ) Refusal → List ℤ
told_ticks (Ok ticks) = ticks
told_ticks (Err f) = no_ticks
