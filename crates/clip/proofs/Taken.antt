-- Which bytes are no record; clipping's verdict on it, and the clipping that goes with that.
use mathlib.Core.Path.{◌≡◌}
use mathlib.Core.Bool.{true, false}
use mathlib.Core.List.{List}
use Prim.Native.Nat.{ℕ}
use lib.Ieee.{Float}
use Rattle.std.specs.Prelude.{Ok, Err}
use Rattle.refusal.specs.declared.Refusal.{Refusal}
use Rattle.refusal.specs.declared.Refusal.TheVariants.{Malformed, NotFinite}
use Rattle.refusal.specs.Order.{no, yes}
use Rattle.clip.specs.Limits.{wide, narrow}
use Rattle.clip.specs.Record.{is_wide, is_narrow, finite_up}
use Rattle.clip.specs.Clip.{padded_up, mask_up, clip_of, Clips}
use Rattle.clip.specs.inner.Width.{IsRecord}

module _ (s : List ℕ) where
  module _ (w : is_wide s ≡ false) where
    pub no_record : is_narrow s ≡ false → clip_of s ≡ no Malformed
    unfolding clip_of
    no_record n = rw (w, n)

-- ---- the verdict
module _ {s : List ℕ} {n : ℕ} (p : IsRecord s n) where
  pub not_number : finite_up s n ≡ false → clip_of s ≡ no NotFinite
  unfolding clip_of
  not_number f = rw (p.long, p.width, f)

  taken : finite_up s n ≡ true → clip_of s ≡ yes tt
  unfolding clip_of
  taken f = rw (p.long, p.width, f)

  pub clips_taken : finite_up s n ≡ true → {numbers : List Float} {mask : ℕ} → numbers ≡ padded_up s n
      → mask ≡ mask_up s n → Clips s (Ok (record { numbers = numbers; mask = mask }))
  clips_taken f en em =
      let e = taken f in record { answer = rw e; numbers = rw (e, p.width) en; mask = rw (e, p.width) em }

pub clips_refused : {s : List ℕ} {f : Refusal} → clip_of s ≡ no f → Clips s (Err f)
clips_refused e = record { answer = rw e; numbers = rw e; mask = rw e }
