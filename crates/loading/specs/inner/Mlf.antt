-- A word of inner contracts: what clipping makes sure of m_Lf.
use Rattle.std.specs.Prelude.{List, T, Float}
use Rattle.std.specs.Float.Ieee.{le}
use Rattle.std.specs.Float.Ieee.Scale.{finite}
use Rattle.working.specs.OfClip.Limits.{tenth}
use Rattle.loading.specs.Numbers.{mlf}

pub record GoodMlf (x : List Float) : Type 0 where
  pub number : T (finite (mlf x))
  pub least : T (le tenth (mlf x))
