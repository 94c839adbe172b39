-- The order in which faults are told is a total one, so that of each list one fault is told.
use mathlib.Core.Path.{◌≡◌, refl, sym, ap, ◌∙◌}
use mathlib.Core.Bool.{Bool, true, false, cond, ◌&&◌, ◌||◌}
use mathlib.Core.List.{List, [], ◌∷◌}
use mathlib.Core.Logic.{◌⊎◌, inl, inr}
use Prim.Native.Nat.{◌<◌}
use native.Mathlib.Omega.{arith}
use lib.Dec.{eqb, ltb}
use borrow.Author.Tests.{eqb-true, eqb-false, eq-eqb, ltb-true, ltb-false, lt-ltb}
use Rattle.refusal.specs.Clash.{clash}
use Rattle.refusal.specs.Order.{Verdict, no}
use Rattle.model.specs.Faults.{Kind, ticks, ratio, kind_before, Fault, before, first, refusal_for, refuse_first}
use Rattle.days.specs.Told.{Among, FirstTold}

-- ---- the order in words

pub data Sooner (f g : Fault) : Type 0 where
  by_issue : f.issue < g.issue → Sooner f g
  by_branch : f.issue ≡ g.issue → f.branch < g.branch → Sooner f g
  by_kind : f.issue ≡ g.issue → f.branch ≡ g.branch → kind_before f.kind g.kind ≡ true → Sooner f g

module _ (f g : Fault) where
  sooner_of : before f g ≡ true → Sooner f g
  unfolding before
  sooner_of e =
      go (ltb f.issue g.issue) refl (eqb f.issue g.issue) refl (ltb f.branch g.branch) refl
      (eqb f.branch g.branch) refl e
    where
      go : (t : Bool) → ltb f.issue g.issue ≡ t → (u : Bool) → eqb f.issue g.issue ≡ u →
          (v : Bool) → ltb f.branch g.branch ≡ v → (w : Bool) → eqb f.branch g.branch ≡ w →
          t || (u && (v || (w && kind_before f.kind g.kind))) ≡ true → Sooner f g
      go true p u q v r w s h = by_issue (ltb-true _ _ p)
      go false p false q v r w s h = clash cc
      go false p true q true r w s h = by_branch (eqb-true _ _ q) (ltb-true _ _ r)
      go false p true q false r true s h = by_kind (eqb-true _ _ q) (eqb-true _ _ s) h
      go false p true q false r false s h = clash cc

  or_else : (t u : Bool) → u ≡ true → t || u ≡ true
  or_else true u e = refl
  or_else false u e = e

  pub before_of : Sooner f g → before f g ≡ true
  unfolding before
  before_of (by_issue h) = rw (lt-ltb _ _ h)
  before_of (by_branch e h) = or_else (ltb f.issue g.issue) _ (rw (eq-eqb _ _ e, lt-ltb _ _ h))
  before_of (by_kind e h k) =
      or_else (ltb f.issue g.issue) _
      (rw (eq-eqb _ _ e) (or_else (ltb f.branch g.branch) _ (rw (eq-eqb _ _ h) k)))

  kind_turns : (a b : Kind) → kind_before a b ≡ false → kind_before b a ≡ true
  kind_turns ticks b e = clash cc
  kind_turns ratio ticks e = refl
  kind_turns ratio ratio e = clash cc

  -- of two one goes first
  turns : before f g ≡ false → Sooner g f
  unfolding before
  turns e =
      go (ltb f.issue g.issue) refl (eqb f.issue g.issue) refl (ltb f.branch g.branch) refl
      (eqb f.branch g.branch) refl e
    where
      go : (t : Bool) → ltb f.issue g.issue ≡ t → (u : Bool) → eqb f.issue g.issue ≡ u →
          (v : Bool) → ltb f.branch g.branch ≡ v → (w : Bool) → eqb f.branch g.branch ≡ w →
          t || (u && (v || (w && kind_before f.kind g.kind))) ≡ false → Sooner g f
      go true p u q v r w s h = clash cc
      go false p false q v r w s h =
          let a = ltb-false f.issue g.issue p in
          let b = eqb-false f.issue g.issue q in by_issue (omega arith)
      go false p true q true r w s h = clash cc
      go false p true q false r true s h =
          by_kind (sym (eqb-true _ _ q)) (sym (eqb-true _ _ s)) (kind_turns f.kind g.kind h)
      go false p true q false r false s h =
          let a = ltb-false f.branch g.branch r in
          let b = eqb-false f.branch g.branch s in by_branch (sym (eqb-true _ _ q)) (omega arith)

kind_self : (a : Kind) → kind_before a a ≡ true
kind_self ticks = refl
kind_self ratio = refl

kind_then : (a b c : Kind) → kind_before a b ≡ true → kind_before b c ≡ true → kind_before a c ≡ true
kind_then ticks b c p q = refl
kind_then ratio ticks c p q = clash cc
kind_then ratio ratio c p q = q

kind_both : (a b : Kind) → kind_before a b ≡ true → kind_before b a ≡ true → a ≡ b
kind_both ticks ticks p q = refl
kind_both ticks ratio p q = clash cc
kind_both ratio ticks p q = clash cc
kind_both ratio ratio p q = refl

sooner_self : (f : Fault) → Sooner f f
sooner_self f = by_kind refl refl (kind_self f.kind)

sooner_then : (f g h : Fault) → Sooner f g → Sooner g h → Sooner f h
sooner_then f g h (by_issue a) (by_issue b) = by_issue (omega arith)
sooner_then f g h (by_issue a) (by_branch e b) = by_issue (omega arith)
sooner_then f g h (by_issue a) (by_kind e b k) = by_issue (omega arith)
sooner_then f g h (by_branch e a) (by_issue b) = by_issue (omega arith)
sooner_then f g h (by_branch e a) (by_branch i b) = by_branch (e ∙ i) (omega arith)
sooner_then f g h (by_branch e a) (by_kind i b k) = by_branch (e ∙ i) (omega arith)
sooner_then f g h (by_kind e a k) (by_issue b) = by_issue (omega arith)
sooner_then f g h (by_kind e a k) (by_branch i b) = by_branch (e ∙ i) (omega arith)
sooner_then f g h (by_kind e a k) (by_kind i b l) =
    by_kind (e ∙ i) (a ∙ b) (kind_then f.kind g.kind h.kind k l)

-- each before the other: one and the same
sooner_both : (f g : Fault) → Sooner f g → Sooner g f → f ≡ g
sooner_both f g (by_issue a) (by_issue b) = absurd (omega arith)
sooner_both f g (by_issue a) (by_branch e b) = absurd (omega arith)
sooner_both f g (by_issue a) (by_kind e b k) = absurd (omega arith)
sooner_both f g (by_branch e a) (by_issue b) = absurd (omega arith)
sooner_both f g (by_branch e a) (by_branch i b) = absurd (omega arith)
sooner_both f g (by_branch e a) (by_kind i b k) = absurd (omega arith)
sooner_both f g (by_kind e a k) (by_issue b) = absurd (omega arith)
sooner_both f g (by_kind e a k) (by_branch i b) = absurd (omega arith)
sooner_both f g (by_kind e a k) (by_kind i b l) =
    let m = kind_both f.kind g.kind k l in λ x. record { issue = e x; branch = a x; kind = m x }

-- ---- the one that is told

before_then : (f g h : Fault) → before f g ≡ true → before g h ≡ true → before f h ≡ true
before_then f g h a b = before_of f h (sooner_then f g h (sooner_of f g a) (sooner_of g h b))

pub first_told : (f : Fault) (l : List Fault) → FirstTold (first f l) (f ∷ l)
unfolding first
first_told f [] =
    record { one = inl refl; none_before = only }
  where
    only : (g : Fault) → (g ≡ f) ⊎ ⊥ → before f g ≡ true
    only g (inl e) = rw e (before_of f f (sooner_self f))
    only g (inr z) = absurd z
first_told f (g ∷ l) = go (before f g) refl (first_told f l) (first_told g l)
  where
    go : (t : Bool) → before f g ≡ t → FirstTold (first f l) (f ∷ l) → FirstTold (first g l) (g ∷ l) →
        FirstTold (first (cond t f g) l) (f ∷ g ∷ l)
    go true e r s = record { one = own r.one; none_before = each }
      where
        own : {x : Fault} → (x ≡ f) ⊎ Among x l → (x ≡ f) ⊎ ((x ≡ g) ⊎ Among x l)
        own (inl p) = inl p
        own (inr p) = inr (inr p)

        each : (x : Fault) → (x ≡ f) ⊎ ((x ≡ g) ⊎ Among x l) → before (first f l) x ≡ true
        each x (inl p) = r.none_before x (inl p)
        each x (inr (inl p)) = rw p (before_then (first f l) f g (r.none_before f (inl refl)) e)
        each x (inr (inr p)) = r.none_before x (inr p)
    go false e s r = record { one = inr r.one; none_before = each }
      where
        each : (x : Fault) → (x ≡ f) ⊎ ((x ≡ g) ⊎ Among x l) → before (first g l) x ≡ true
        each x (inl p) =
            rw p (before_then (first g l) g f (r.none_before g (inl refl)) (before_of g f (turns f g e)))
        each x (inr p) = r.none_before x p

pub told_one : (f g : Fault) {l : List Fault} → FirstTold f l → FirstTold g l → f ≡ g
told_one f g a b = sooner_both f g (sooner_of f g (a.none_before g b.one)) (sooner_of g f (b.none_before f a.one))

pub refuse_told : {A : Type 0} (f : Fault) (l : List Fault) (v : Verdict A) → FirstTold f l →
    refuse_first l v ≡ no (refusal_for f)
refuse_told f [] v t = absurd t.one
refuse_told f (g ∷ l) v t = ap (λ (x : Fault). no (refusal_for x)) (told_one (first g l) f (first_told g l) t)
