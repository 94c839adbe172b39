-- The voltages of E1 and C2 exchanged.
use Rattle.std.specs.Prelude.{◌≡◌, List, ℤ, pos, get_or}
use Rattle.terms.specs.Rows.{Role, E1, B2, C2, role_index}

-- the voltage of a role
abbrev pub volts_at : List ℤ → Role → ℤ
volts_at volts r = get_or volts (role_index r) (pos 0)

-- each of the two has the other's voltage, and B2 its own; nothing is said of the roles that branch 1 does not see
pub record Exchanged (volts others : List ℤ) : Type 0 where
  pub emitter : volts_at others E1 ≡ volts_at volts C2
  pub collector : volts_at others C2 ≡ volts_at volts E1
  pub base : volts_at others B2 ≡ volts_at volts B2

-- the same of voltages by junction: those from B2 to the two are exchanged
pub record Crossed (v w : Role → Role → ℤ) : Type 0 where
  pub emitter : w B2 E1 ≡ v B2 C2
  pub collector : w B2 C2 ≡ v B2 E1
