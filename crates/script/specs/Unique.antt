-- One input has one result: any two that a contract permits are equal.
use Rattle.std.specs.Prelude.{◌≡◌, List, ℕ}
use Rattle.refusal.specs.Unique.{unique_by_equation}
use Rattle.script.specs.declared.Command.{Command}
use Rattle.script.specs.Command.{Says}

-- what a line says, and every byte of the buffer for what its hex digits spell
pub unique_says : {line old : List ℕ} {r r' : Command} {new new' : List ℕ}
    → Says line old r new → Says line old r' new' → (r ≡ r') × (new ≡ new')
unique_says a b = (unique_by_equation a.command b.command, unique_by_equation a.buffer b.buffer)
