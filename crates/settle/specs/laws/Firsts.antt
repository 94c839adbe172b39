-- The first that overloads: where it is nobody all are within their limits; else it is one that overloads, and none
-- that does has a lower number.
use Rattle.std.specs.Prelude.{◌≡◌, Option, Some, None, Bool, cond, ◌⊎◌, leb}
use Rattle.std.proofs.Math.Path.{refl}
use Rattle.std.proofs.Common.{ap, ◌∙◌, inl, inr, ⊎_elim}
use Rattle.std.proofs.Math.Bool.{true, false}
use Prim.Native.Nat.{ℕ, zero, suc, ◌≤◌, ◌<◌}
use native.Mathlib.Omega.{arith}
use Rattle.std.proofs.Math.Dec.{eqb}
use borrow.Author.Tests.{eqb-true, eqb-false, leb-true, leb-false}
use Rattle.refusal.specs.Clash.{clash}
use Rattle.places.specs.OfRowsTypes.Over.{Over}
use Rattle.places.specs.OfRows.Outcome.{is_over}
use Rattle.settle.specs.declared.First.{First}
use Rattle.settle.specs.First.{first_by, first_issue, earlier, first_below}

-- of two, one overloads where either does
earlier_quiet : (a : Option First) (issue : ℕ) (over : Option Over) →
    is_over (first_by (earlier a issue over)) ≡ false →
    (is_over (first_by a) ≡ false) × (is_over over ≡ false)
earlier_quiet a issue None e = (e, refl)
earlier_quiet None issue (Some over) e = clash cc
earlier_quiet (Some f) issue (Some over) e = go (leb f.issue issue) e
  where
    go : (t : Bool) → is_over (first_by (cond t (Some f) (Some (record { issue = issue; over = over })))) ≡ false →
        (true ≡ false) × (true ≡ false)
    go true e = clash cc
    go false e = clash cc

-- the one told is one of the two, of a number that is no higher than either's
earlier_one : (a : Option First) (issue : ℕ) (over : Option Over) →
    (earlier a issue over ≡ a) ⊎ (
    (first_by (earlier a issue over) ≡ over) × (first_issue (earlier a issue over) ≡ issue))
earlier_one a issue None = inl refl
earlier_one None issue (Some over) = inr (refl, refl)
earlier_one (Some f) issue (Some over) = go (leb f.issue issue)
  where
    go : (t : Bool) →
        (cond t (Some f) (Some (record { issue = issue; over = over })) ≡ Some f)
        ⊎ ((first_by (cond t (Some f) (Some (record { issue = issue; over = over }))) ≡ Some over)
        × (first_issue (cond t (Some f) (Some (record { issue = issue; over = over }))) ≡ issue))
    go true = inl refl
    go false = inr (refl, refl)

earlier_new : (a : Option First) (issue : ℕ) (over : Option Over) → is_over over ≡ true →
    first_issue (earlier a issue over) ≤ issue
earlier_new a issue None o = clash cc
earlier_new None issue (Some over) o = omega arith
earlier_new (Some f) issue (Some over) o = go (leb f.issue issue) refl
  where
    go : (t : Bool) → leb f.issue issue ≡ t →
        first_issue (cond t (Some f) (Some (record { issue = issue; over = over }))) ≤ issue
    go true e = leb-true f.issue issue e
    go false e = omega arith

earlier_old : (a : Option First) (issue : ℕ) (over : Option Over) → is_over (first_by a) ≡ true →
    first_issue (earlier a issue over) ≤ first_issue a
earlier_old a issue None o = omega arith
earlier_old None issue (Some over) o = clash cc
earlier_old (Some f) issue (Some over) o = go (leb f.issue issue) refl
  where
    go : (t : Bool) → leb f.issue issue ≡ t →
        first_issue (cond t (Some f) (Some (record { issue = issue; over = over }))) ≤ f.issue
    go true e = omega arith
    go false e = let h = leb-false f.issue issue e in omega arith

module _ (worked : ℕ → Bool) (issue : ℕ → ℕ) (over : ℕ → Option Over) where
  pub first_quiet : (k : ℕ) → is_over (first_by (first_below worked issue over k)) ≡ false → (i : ℕ) → i < k →
      worked i ≡ true → is_over (over i) ≡ false
  unfolding first_below
  first_quiet zero e i h w = absurd (omega arith)
  first_quiet (suc k) e i h w = go (worked k) refl e (eqb i k) refl (λ f. first_quiet k f i)
    where
      go : (t : Bool) → worked k ≡ t →
          is_over
          (first_by
          (cond t (earlier (first_below worked issue over k) (issue k) (over k)) (first_below worked issue over k)))
          ≡ false → (u : Bool) → eqb i k ≡ u →
          (is_over (first_by (first_below worked issue over k)) ≡ false → i < k → worked i ≡ true →
          is_over (over i) ≡ false) →
          is_over (over i) ≡ false
      go true p f true q before = rw (eqb-true i k q) (earlier_quiet (first_below worked issue over k) (issue k)
          (over k) f).1
      go true p f false q before =
          let n = eqb-false i k q in before (earlier_quiet (first_below worked issue over k) (issue k) (over k) f).0
          (omega arith) w
      go false p f true q before = let z : worked i ≡ false = rw (eqb-true i k q) p in clash cc
      go false p f false q before = let n = eqb-false i k q in before f (omega arith) w

  -- it is that of one of the places
  pub first_one : (k : ℕ) → is_over (first_by (first_below worked issue over k)) ≡ true →
      (i : ℕ) × (i < k) × (worked i ≡ true)
      × ((first_by (first_below worked issue over k) ≡ over i)
      × (first_issue (first_below worked issue over k) ≡ issue i))
  unfolding first_below
  first_one zero e = clash cc
  first_one (suc k) e = go (worked k) refl e (λ q. first_one k q)
    where
      later : (f : Option First) →
          (i : ℕ) × (i < k) × (worked i ≡ true) × ((first_by f ≡ over i) × (first_issue f ≡ issue i)) →
          (i : ℕ) × (i < suc k) × (worked i ≡ true) × ((first_by f ≡ over i) × (first_issue f ≡ issue i))
      later f r = let h = r.1 in (r.0, omega arith, r.2, r.3)

      go : (t : Bool) → worked k ≡ t →
          is_over
          (first_by
          (cond t (earlier (first_below worked issue over k) (issue k) (over k)) (first_below worked issue over k)))
          ≡ true →
          (is_over (first_by (first_below worked issue over k)) ≡ true →
          (i : ℕ) × (i < k) × (worked i ≡ true)
          × ((first_by (first_below worked issue over k) ≡ over i)
          × (first_issue (first_below worked issue over k) ≡ issue i))) →
          (i : ℕ) × (i < suc k) × (worked i ≡ true)
          × ((first_by
          (cond t (earlier (first_below worked issue over k) (issue k) (over k)) (first_below worked issue over k))
          ≡ over i)
          × (first_issue
          (cond t (earlier (first_below worked issue over k) (issue k) (over k)) (first_below worked issue over k))
          ≡ issue i))
      go true p f before =
          ⊎_elim
          (λ q. let r = later _ (before (rw q at f)) in
          (r.0, r.1, r.2, (ap first_by q ∙ r.3.0, ap first_issue q ∙ r.3.1)))
          (λ q. (k, omega arith, p, q)) (earlier_one (first_below worked issue over k) (issue k) (over k))
      go false p f before = later _ (before f)

  -- and no place that overloads has a lower number
  pub first_least : (k : ℕ) (i : ℕ) → i < k → worked i ≡ true → is_over (over i) ≡ true →
      first_issue (first_below worked issue over k) ≤ issue i
  unfolding first_below
  first_least zero i h w o = absurd (omega arith)
  first_least (suc k) i h w o =
      go (worked k) refl (eqb i k) refl (λ q. first_least k i q w o)
      (is_over (first_by (first_below worked issue over k)))
      refl
    where
      go : (t : Bool) → worked k ≡ t → (u : Bool) → eqb i k ≡ u →
          (i < k → first_issue (first_below worked issue over k) ≤ issue i) → (v : Bool) →
          is_over (first_by (first_below worked issue over k)) ≡ v →
          first_issue
          (cond t (earlier (first_below worked issue over k) (issue k) (over k)) (first_below worked issue over k))
          ≤ issue i
      go true p true q before v f =
          let e = eqb-true i k q in
          rw e (earlier_new (first_below worked issue over k) (issue k) (over k) (rw e at o))
      go true p false q before true f =
          let n = eqb-false i k q in
          let a = before (omega arith) in
          let b = earlier_old (first_below worked issue over k) (issue k) (over k) f in omega arith
      go true p false q before false f =
          let n = eqb-false i k q in let z = first_quiet k f i (omega arith) w in clash cc
      go false p true q before v f = let z : worked i ≡ false = rw (eqb-true i k q) p in clash cc
      go false p false q before v f = let n = eqb-false i k q in before (omega arith)

-- the same places worked, each with the same number and the same overload, have the same first
pub first_same : (p q : ℕ → Bool) (a b : ℕ → ℕ) (o u : ℕ → Option Over) (k : ℕ) → ((i : ℕ) → i < k → p i ≡ q i) →
    ((i : ℕ) → i < k → q i ≡ true → a i ≡ b i) → ((i : ℕ) → i < k → q i ≡ true → o i ≡ u i) →
    first_below p a o k ≡ first_below q b u k
unfolding first_below
first_same p q a b o u zero s t w = refl
first_same p q a b o u (suc k) s t w =
    go (q k) refl
    (first_same p q a b o u k (λ i h. s i (omega arith)) (λ i h. t i (omega arith)) (λ i h. w i (omega arith)))
  where
    go : (x : Bool) → q k ≡ x → first_below p a o k ≡ first_below q b u k →
        cond (p k) (earlier (first_below p a o k) (a k) (o k)) (first_below p a o k)
        ≡ cond (q k) (earlier (first_below q b u k) (b k) (u k)) (first_below q b u k)
    go true e before = rw (s k (omega arith), e, t k (omega arith) e, w k (omega arith) e, before)
    go false e before = rw (s k (omega arith), e, before)
