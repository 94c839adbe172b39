-- A voltage in range is kept as one number, from which it comes back; one that is not in range is outside.
use Rattle.std.specs.Prelude.{◌≡◌, refl, Bool, true, false, Option, Some, None, cond, ◌||◌, List, [], ◌∷◌, map, ℕ, zero, suc, ◌+◌, ◌-◌, ◌≤◌, ◌<◌, ltb, get_or, set, replicate, length, ℤ, pos, negsuc}
use Rattle.std.proofs.Common.{sym, ap, subst, ◌∙◌, zero-le, arith, ltb-false}
use Rattle.whole.specs.laws.Biased.{sub_up, sub_down}
use Rattle.volts.specs.Volts.{volts_most, span, off_volts, kept_as, given_back, keeping, Near, AllNear}

-- two different constructors are not equal
clash : {A : Type 0} → ◌≡◌ {A = ℕ} 0 1 → A
clash z = absurd (omega arith)

-- x is what the voltage v is kept as
pub record KeptIs (v : ℤ) (x : ℕ) : Type 0 where
  pub on : off_volts v ≡ false
  pub from : x ≡ kept_as v
  pub is : given_back x ≡ v
  pub near : x ≤ span

pub kept : (v : ℤ) → off_volts v ≡ false → KeptIs v (kept_as v)
kept (pos n) e =
    let h = within (ltb volts_most n) refl e in
    record {
      on = e;
      from = refl;
      is = sub_up (volts_most + n) volts_most (omega arith) ∙ ap pos (omega arith);
      near = omega arith;
    }
  where
    within : (t : Bool) → ltb volts_most n ≡ t → t || false ≡ false → n ≤ volts_most
    within true p q = clash cc
    within false p q = ltb-false volts_most n p
kept (negsuc n) e =
    let h = ltb-false (volts_most - 1) n e in
    record {
      on = e;
      from = refl;
      is = sub_down (volts_most - suc n) volts_most (omega arith) ∙ ap negsuc (omega arith);
      near = omega arith;
    }

-- from what `keep` says
pub kept_is : {v w : ℤ} {l : Option ℕ} {x : ℕ} → w ≡ v → l ≡ keeping w → l ≡ Some x → KeptIs v x
kept_is {v} {w} {l} {x} p q r = go (off_volts v) refl (sym (ap keeping p) ∙ sym q ∙ r)
  where
    go : (t : Bool) → off_volts v ≡ t → cond t None (Some (kept_as v)) ≡ Some x → KeptIs v x
    go true e f = clash cc
    go false e f = let same : kept_as v ≡ x = cc in subst (KeptIs v) same (kept v e)

pub outside_is : {v w : ℤ} {l : Option ℕ} → w ≡ v → l ≡ keeping w → l ≡ None → off_volts v ≡ true
outside_is {v} {w} {l} p q r = go (off_volts v) (sym (ap keeping p) ∙ sym q ∙ r)
  where
    go : (t : Bool) → cond t None (Some (kept_as v)) ≡ None → t ≡ true
    go true f = refl
    go false f = clash cc

-- ---- lists of kept voltages

-- one of a list, given back
pub given_back_at : (l : List ℕ) (k : ℕ) → k < length l → given_back (get_or l k 0) ≡ get_or (map given_back l) k (pos 0)
given_back_at [] k h = absurd (omega arith)
given_back_at (x ∷ l) zero h = refl
given_back_at (x ∷ l) (suc k) h = given_back_at l k (omega arith)

-- as many as are wanted of one near voltage
pub near_replicate : (n : ℕ) {x : ℕ} → x ≤ span → AllNear (replicate n x)
near_replicate n {x} h = record { each = go n }
  where
    go : (n k : ℕ) → get_or (replicate n x) k 0 ≤ span
    go zero k = zero-le
    go (suc n) zero = h
    go (suc n) (suc k) = go n k

-- another near voltage at one place
pub near_set : {l : List ℕ} (n : ℕ) {x : ℕ} → x ≤ span → AllNear l → AllNear (set l n x)
near_set {l} n {x} h near = record { each = λ k. go l n k (near.each k) }
  where
    go : (l : List ℕ) (n k : ℕ) → get_or l k 0 ≤ span → get_or (set l n x) k 0 ≤ span
    go [] n k p = p
    go (y ∷ l) zero zero p = h
    go (y ∷ l) zero (suc k) p = p
    go (y ∷ l) (suc n) zero p = p
    go (y ∷ l) (suc n) (suc k) p = go l n k p

-- one of a list is near
pub near_at : {l : List ℕ} → AllNear l → (k : ℕ) → Near (get_or l k 0)
near_at a k = record { near = a.each k }
