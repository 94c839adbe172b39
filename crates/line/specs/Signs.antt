-- The word of a type in a record: +1 or -1.
use Rattle.std.specs.Prelude.{ℕ}
use Rattle.keys.specs.Keys.{plus_one, minus_one}
use Rattle.line.specs.declared.Polarity.{Polarity}
use Rattle.line.specs.declared.Polarity.TheVariants.{Npn, Pnp}

abbrev pub sign_of : Polarity → ℕ
sign_of Npn = plus_one
sign_of Pnp = minus_one
