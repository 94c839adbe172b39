-- A list of pairs from a place on: the pair that stands there, and the pairs after it.
use Rattle.std.specs.Prelude.{◌≡◌, ◌||◌, ℕ, suc, ◌+◌, ◌-◌, ◌≤◌, ◌<◌, get_or, drop, ℤ, pos, nat_abs}
use Rattle.std.proofs.Math.Path.{refl, ap}
use Rattle.std.proofs.Common.{◌∙◌, arith, length-drop, drop-cons}
use Rattle.std.proofs.Math.Bool.{false}
use mathlib.Core.List.{List, [], ◌∷◌}
use Rattle.std.proofs.Math.ListN.{length}
use Rattle.volts.specs.Volts.{off_volts}
use Rattle.given.specs.Arguments.{off_node}
use Rattle.given.specs.Pairs.{some_pair_off, shifts_of}

module _ (l : List ℤ) (i : ℕ) where
  abbrev node_there : ℤ
  node_there = get_or l i (pos 0)

  abbrev volts_there : ℤ
  volts_there = get_or l (i + 1) (pos 0)

  two_more : i + 1 < length l → drop i l ≡ node_there ∷ volts_there ∷ drop (i + 2) l
  two_more h =
      let e : suc i ≡ i + 1 = omega arith in
      let f : suc (i + 1) ≡ i + 2 = omega arith in
      drop-cons l i (pos 0) (omega arith)
      ∙ ap (λ (r : List ℤ). node_there ∷ r)
      (ap (λ (k : ℕ). drop k l) e ∙ drop-cons l (i + 1) (pos 0) h
      ∙ ap (λ (k : ℕ). volts_there ∷ drop k l) f)

  pub shifts_from : i + 1 < length l →
      shifts_of (drop i l) ≡ record { node = nat_abs node_there; volts = volts_there } ∷ shifts_of (drop (i + 2) l)
  unfolding shifts_of
  shifts_from h = ap shifts_of (two_more h)

  pub off_from : i + 1 < length l →
      some_pair_off (drop i l) ≡ (off_node node_there || off_volts volts_there) || some_pair_off (drop (i + 2) l)
  unfolding some_pair_off
  off_from h = ap some_pair_off (two_more h)

  pub shifts_end : length l ≤ i + 1 → shifts_of (drop i l) ≡ []
  unfolding shifts_of
  shifts_end h = go (drop i l) (length-drop i l)
    where
      go : (r : List ℤ) → length r ≡ length l - i → shifts_of r ≡ []
      go [] e = refl
      go (n ∷ []) e = refl
      go (n ∷ v ∷ rest) e = absurd (omega arith)

  pub off_end : length l ≤ i + 1 → some_pair_off (drop i l) ≡ false
  unfolding some_pair_off
  off_end h = go (drop i l) (length-drop i l)
    where
      go : (r : List ℤ) → length r ≡ length l - i → some_pair_off r ≡ false
      go [] e = refl
      go (n ∷ []) e = refl
      go (n ∷ v ∷ rest) e = absurd (omega arith)
