-- Voltages kept one after the other.
use Rattle.std.specs.Prelude.{Option, Some, None, cond, List, map, ℕ, ℤ}
use Rattle.volts.specs.Volts.{kept_as, some_off}

-- all of them kept, where every one is within its range
abbrev pub all_kept : List ℤ → Option (List ℕ)
all_kept volts = cond (some_off volts) None (Some (map kept_as volts))
