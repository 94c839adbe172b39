-- The end of a line, and what is left in the buffers.
use mathlib.Core.Path.{◌≡◌, refl, subst}
use mathlib.Core.Bool.{true, false, not}
use mathlib.Core.List.{List}
use Prim.Native.Nat.{ℕ, ◌≤◌}
use lib.ListN.{length, get_or, replicate}
use borrow.Author.Tests.{le-ltb}
use Rattle.refusal.specs.declared.Refusal.{Refusal}
use Rattle.refusal.specs.declared.Refusal.TheVariants.{KeyMissing}
use Rattle.refusal.specs.Order.{Verdict, no, yes, and_then}
use Rattle.name.specs.Name.{name_length}
use Rattle.clip.specs.Numbers.{octave}
use Rattle.std.proofs.Common.{Result, Err}
use Rattle.keys.specs.Keys.{key_count, defaults}
use Rattle.line.specs.Line.{Head, Taken, Model, taken, model_of, ends_in_space, take_keys, closed, head_of, line_of}
use Rattle.line.specs.Answers.{record_bytes, room_for, reading_of, Leaves}
use Rattle.line.specs.inner.Steps.{after_keys, from_keys}

-- ---- a verdict, and what it leaves

pub refused_leaves : {v : Verdict Model} (name rec : List ℕ) {f : Refusal} → no f ≡ v
    → Leaves v name rec (Err f) name rec
refused_leaves name rec {f} e =
    subst (λ (v : Verdict Model). Leaves v name rec (Err f) name rec) e
    (record { told = refl; named = refl; worded = refl })

-- ---- after the keys

module _ (line : List ℕ) (h : Head) (s : Taken) (name rec : List ℕ) where
  module _ (p : false ≡ ends_in_space line) where
    pub end_missing : not (get_or s.given octave false) ≡ true → no KeyMissing ≡ after_keys line h s name rec
    end_missing e = rw (← p, e) refl

    pub end_given : not (get_or s.given octave false) ≡ false
        → room_for name rec (model_of h s.words) ≡ after_keys line h s name rec
    end_given e = rw (← p, e) refl

-- ---- the buffers

module _ (m : Model) (name rec : List ℕ) where
  pub both_fit : name_length ≤ length name → record_bytes ≤ length rec → yes m ≡ room_for name rec m
  both_fit n l = rw (le-ltb _ _ n, le-ltb _ _ l) refl

pub same_verdict : {v w : Verdict Model} {name rec : List ℕ} {r : Result (Unit {0}) Refusal} {name' rec' : List ℕ} → v ≡ w
    → Leaves v name rec r name' rec' → Leaves w name rec r name' rec'
same_verdict {name = name} {rec} {r} {name'} {rec'} e l =
    subst (λ (v : Verdict Model). Leaves v name rec r name' rec') e l

-- ---- from the line on

-- the keys, then the end of the line, then the buffers, however they are put together
keys_first : (line : List ℕ) (h : Head) (name rec : List ℕ) (v : Verdict Taken)
    → from_keys line h v name rec ≡ and_then (and_then v (closed line h)) (room_for name rec)
keys_first line h name rec (no f) = refl
keys_first line h name rec (yes s) = refl

module _ (line name rec : List ℕ) where
  pub head_refused : {f : Refusal} → no f ≡ head_of line → no f ≡ reading_of line name rec
  unfolding reading_of line_of
  head_refused e = rw (← e) refl

  module _ {h : Head} (e : yes h ≡ head_of line) where
    module _ {d : List ℕ} (p : d ≡ defaults) where
      pub from_keys_lem : {v : Verdict Taken} → v ≡ take_keys (taken d (replicate key_count false)) h.rest
          → from_keys line h v name rec ≡ reading_of line name rec
      unfolding reading_of line_of
      from_keys_lem {v} g = rw (← e, ← p, ← g) (keys_first line h name rec v)
