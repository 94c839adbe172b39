-- Going through a transistor's nodes: what is still to be done to the sets of those left makes what is to be done in
-- all.
use mathlib.Core.Path.{◌≡◌, refl, sym, ap, ◌∙◌}
use mathlib.Core.Bool.{Bool, true, false, cond, ◌||◌}
use mathlib.Core.List.{List, ◌∷◌}
use Prim.Native.Nat.{ℕ, suc, ◌+◌, ◌≤◌, ◌<◌}
use native.Mathlib.Nat.{zero-add}
use native.Mathlib.Numerals.{add-one}
use lib.Dec.{eqb}
use lib.ListN.{length, get_or, set, drop, length-set, drop_of_length-le}
use lib.Seq.{drop-cons, ext_get_or, get_or-set_same, get_or-set_other}
use borrow.Author.Tests.{eqb-true, eqb-false}
use Rattle.rows.specs.inner.FromTerms.{list_up}
use Rattle.deck.specs.laws.Ups.{length_up, get_or_up, up_same}
use Rattle.stretches.specs.OfTotals.Gives.{nodes_most}
use Rattle.stretches.specs.OfGiven.Lists.{any_of}
use Rattle.stretches.specs.OfPlaces.Finding.{names}
use Rattle.stretches.specs.OfPlaces.Naming.{at_nodes}

-- after k of the nodes
pub record Visited (f : ℕ → ℕ) (sets₀ on : List ℕ) (k : ℕ) (sets : List ℕ) : Type 0 where
  pub long : length sets ≡ nodes_most
  pub left : at_nodes f sets (drop k on) ≡ at_nodes f sets₀ on

pub visited_none : {f : ℕ → ℕ} {sets on : List ℕ} → length sets ≡ nodes_most → Visited f sets on 0 sets
visited_none h = record { long = h; left = refl }

module _ (f : ℕ → ℕ) (again : (s : ℕ) → f (f s) ≡ f s) where
  at_one : (sets rest : List ℕ) (a : ℕ) → a < length sets → (n : ℕ) (t u : Bool) → eqb a n ≡ t → names n rest ≡ u →
      cond (t || u) (f (get_or sets n 0)) (get_or sets n 0)
      ≡ cond u (f (get_or (set sets a (f (get_or sets a 0))) n 0)) (get_or (set sets a (f (get_or sets a 0))) n 0)
  at_one sets rest a h n true u e q =
      let o = eqb-true a n e in
      rw (← o, get_or-set_same sets a (f (get_or sets a 0)) 0 h) (sym (go u))
    where
      go : (u : Bool) → cond u (f (f (get_or sets a 0))) (f (get_or sets a 0)) ≡ f (get_or sets a 0)
      go true = again (get_or sets a 0)
      go false = refl
  at_one sets rest a h n false u e q =
      let o = eqb-false a n e in
      let same = get_or-set_other sets a n (f (get_or sets a 0)) 0 (λ z. o (sym z)) in
      sym (ap (λ (x : ℕ). cond u (f x) x) same)

  one_node : (sets rest : List ℕ) (a : ℕ) → a < length sets →
      at_nodes f sets (a ∷ rest) ≡ at_nodes f (set sets a (f (get_or sets a 0))) rest
  unfolding at_nodes any_of
  one_node sets rest a h =
      up_same _ _ nodes_most 0 (λ n k. at_one sets rest a h (0 + n) (eqb a (0 + n)) (names (0 + n) rest) refl refl)

  pub visited_more : {sets₀ on sets : List ℕ} {k n : ℕ} → Visited f sets₀ on k sets → k < length on →
      n ≡ get_or on k 0 → n < nodes_most → Visited f sets₀ on (k + 1) (set sets n (f (get_or sets n 0)))
  visited_more {sets₀} {on} {sets} {k} {n} v h e l =
      record {
        long = length-set sets n _ ∙ v.long;
        left =
            rw add-one
            (sym (one_node sets (drop (suc k) on) n (rw v.long l))
            ∙ ap (λ (m : ℕ). at_nodes f sets (m ∷ drop (suc k) on)) e
            ∙ ap (at_nodes f sets) (sym (drop-cons on k 0 h))
            ∙ v.left);
      }

-- no node is left
pub visited_all : {f : ℕ → ℕ} {sets₀ on sets : List ℕ} {k : ℕ} → Visited f sets₀ on k sets → length on ≤ k →
    sets ≡ at_nodes f sets₀ on
unfolding at_nodes any_of
visited_all {f} {sets₀} {on} {sets} {k} v h =
    ext_get_or 0 sets (list_up (λ (n : ℕ). get_or sets n 0) nodes_most 0)
    (v.long ∙ sym (length_up (λ (n : ℕ). get_or sets n 0) nodes_most 0))
    (λ n q. let m : n < nodes_most = rw v.long at q in
    sym (get_or_up (λ (n : ℕ). get_or sets n 0) nodes_most 0 n 0 m ∙ ap (λ (i : ℕ). get_or sets i 0) (zero-add n)))
    ∙ ap (at_nodes f sets) (sym (drop_of_length-le on h))
    ∙ v.left
