-- What the first test that fails draws, test by test.
use Rattle.std.proofs.Common.{◌≡◌, Bool, true, false, List, Err, Ok}
use borrow.Author.Tests.{not-true, not-false}
use Rattle.std.specs.Prelude.{Float}
use Rattle.std.specs.Float.Ieee.{eq, ne}
use Rattle.refusal.specs.declared.Refusal.TheVariants.{WrongLevel, BadExsub, NegativeIcss, BadOctave}
use Rattle.octaves.specs.OfLoading.Octave.{octave_good}
use Rattle.octaves.specs.OfLoading.Numbers.{level, level504, settings_good, icss_below, octave}
use Rattle.settings.specs.inner.Tests.{first_wrong}

equal : (a b : Float) → ne a b ≡ false → eq a b ≡ true
unfolding eq ne
equal a b e = not-false (eq a b) e

unequal : (a b : Float) → ne a b ≡ true → eq a b ≡ false
unfolding eq ne
unequal a b e = not-true (eq a b) e

module _ (spares : Bool) (x : List Float) where
  pub wrong_level : ne (level x) level504 ≡ true → Err WrongLevel ≡ first_wrong spares x
  wrong_level a = rw (unequal _ _ a)

  module _ (a : ne (level x) level504 ≡ false) where
    pub bad_exsub : settings_good spares x ≡ false → Err BadExsub ≡ first_wrong spares x
    bad_exsub b = rw (equal _ _ a, b)

    module _ (b : settings_good spares x ≡ true) where
      pub negative_icss : icss_below x ≡ true → Err NegativeIcss ≡ first_wrong spares x
      negative_icss c = rw (equal _ _ a, b, c)

      module _ (c : icss_below x ≡ false) where
        pub bad_octave : octave_good (octave x) ≡ false → Err BadOctave ≡ first_wrong spares x
        bad_octave d = rw (equal _ _ a, b, c, d)

        pub none_wrong : octave_good (octave x) ≡ true → Ok tt ≡ first_wrong spares x
        none_wrong d = rw (equal _ _ a, b, c, d)
