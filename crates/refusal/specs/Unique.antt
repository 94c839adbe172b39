-- One result for one input: what every promise that is a single equation gives.
use Rattle.std.specs.Prelude.{◌≡◌}
use Rattle.std.proofs.Common.{sym, ◌∙◌}

-- any two results that equal the definition are equal
pub unique_by_equation : {A : Type 0} {r s d : A} → r ≡ d → s ≡ d → r ≡ s
unique_by_equation p q = p ∙ sym q
