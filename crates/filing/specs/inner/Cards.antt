-- A card filed after n others, of whose name and record the bytes are at hand.
use Rattle.std.specs.Prelude.{◌≡◌, List, ℕ}
use Rattle.name.specs.Name.{padded}
use Rattle.directory.specs.Format.{bytes_of_all}
use Rattle.line.specs.Line.{Model}
use Rattle.std.specs.Prelude.{Result}
use Rattle.refusal.specs.declared.Refusal.{Refusal}
use Rattle.filing.specs.Filed.{besides, Leaves}

-- whatever the model is that has this padded name and this record
abbrev pub FilesCard : List ℕ → List ℕ → ℕ → List ℕ → List ℕ → Result (Unit {0}) Refusal → List ℕ → List ℕ → Type 0
FilesCard name rec n names records r names' records' =
    (m : Model) → padded m.name ≡ name → bytes_of_all m.words ≡ rec
    → Leaves (besides names n m) n names records r names' records'
