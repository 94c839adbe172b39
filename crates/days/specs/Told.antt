-- What it means that something stands in a list, and that of all that overloads one is told.
use Rattle.std.specs.Prelude.{◌≡◌, true, List, [], ◌∷◌, ◌⊎◌}
use Rattle.model.specs.Faults.{Fault, before}

-- a is one of the list
abbrev pub Among : {A : Type 0} → A → List A → Type 0
Among a [] = ⊥
Among a (b ∷ l) = (a ≡ b) ⊎ Among a l

-- f is one of them, and none of the others goes before it
pub record FirstTold (f : Fault) (l : List Fault) : Type 0 where
  pub one : Among f l
  pub none_before : (g : Fault) → Among g l → before f g ≡ true
