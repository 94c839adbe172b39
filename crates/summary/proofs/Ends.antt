-- The branches of a transistor gone through from the last: the largest size at a node of those passed.
use mathlib.Core.Path.{◌≡◌, sym, ap, ◌∙◌}
use mathlib.Core.Bool.{cond}
use mathlib.Core.List.{List}
use Prim.Native.Nat.{ℕ, ◌-◌, ◌≤◌, ◌<◌}
use native.Mathlib.Nat.{zero-add}
use native.Mathlib.Omega.{arith}
use lib.ListN.{get_or, drop}
use lib.IntN.{ℤ, pos, nat_abs}
use Rattle.terms.specs.Rows.{branches}
use Rattle.rows.specs.inner.FromTerms.{list_up}
use Rattle.deck.specs.laws.Ups.{length_up, get_or_up}
use Rattle.given.specs.Lists.{larger, largest}
use Rattle.places.proofs.Scans.{largest_more, largest_none}
use Rattle.model.specs.Largest.{ends_at, size_at}

module _ (n : ℕ) (on : List ℕ) (own : List ℤ) where
  -- the size of the branch k at the node, and all of them
  abbrev here : ℕ → ℕ
  here k = cond (ends_at n on k) (nat_abs (get_or own k (pos 0))) 0

  abbrev sizes : List ℕ
  sizes = list_up here branches 0

  -- of those from the branch k on
  pub record From (k most : ℕ) : Type 0 where
    pub is : most ≡ largest (drop k sizes)

  pub from_last : From branches 0
  from_last = let l = length_up here branches 0 in record { is = largest_none sizes branches (omega arith) }

  pub from_more : {k most x y : ℕ} → From k most → 0 < k → k ≤ branches → x ≡ here (k - 1) → y ≡ larger x most →
      From (k - 1) y
  from_more {k} {most} {x} {y} f z h e q =
      let l = length_up here branches 0 in
      let at = get_or_up here branches 0 (k - 1) 0 (omega arith) ∙ ap here (zero-add (k - 1)) in
      record {
        is = q ∙ (λ j. larger ((e ∙ sym at) j) (f.is j)) ∙ sym (largest_more sizes k z (omega arith));
      }

  pub from_all : {k most : ℕ} → From k most → k ≤ 0 → most ≡ size_at n on own
  unfolding size_at
  from_all {k} f h = let e : k ≡ 0 = omega arith in f.is ∙ ap (λ (j : ℕ). largest (drop j sizes)) e
