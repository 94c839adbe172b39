-- What is looked at of a card: its name, a part of all names, and its issue number, which is no less than none.
use mathlib.Core.Path.{◌≡◌, refl, sym, ap, ◌∙◌}
use mathlib.Core.Bool.{Bool, cond}
use mathlib.Core.List.{List}
use Prim.Native.Nat.{ℕ, zero, suc, ◌*◌, ◌-◌, ◌≤◌, ◌<◌}
use native.Mathlib.Nat.{zero-add}
use native.Mathlib.Omega.{arith}
use lib.ListN.{get_or, drop}
use borrow.Author.Tests.{lt-ltb}
use Rattle.name.specs.Name.{name_length, same}
use Rattle.rows.specs.inner.FromTerms.{list_up}
use Rattle.given.specs.Lists.{larger, largest}
use Rattle.deck.specs.Stretch.{stretch}
use Rattle.deck.specs.laws.Ups.{length_up, get_or_up}
use Rattle.places.specs.Counts.{cards_most}
use Rattle.places.specs.inner.Flat.{issue_if_at}
use Rattle.places.proofs.Scans.{largest_more, largest_none}

pub none_larger : (n : ℕ) → n ≡ larger 0 n
none_larger zero = refl
none_larger (suc n) = rw (lt-ltb 0 (suc n) (omega arith))

-- the issue numbers of the name, place by place
abbrev pub named : List ℕ → List ℕ → List ℕ → List ℕ
named asked held names = list_up (issue_if_at asked held names) cards_most 0

-- one place further on
pub further : (asked held names : List ℕ) (k : ℕ) {is : Bool} {best r : ℕ} → 0 < k → k ≤ cards_most →
    is ≡ same (stretch 0 names (name_length * (k - 1)) name_length) asked →
    best ≡ largest (drop k (named asked held names)) →
    r ≡ larger (cond is (get_or held (k - 1) 0) 0) best → r ≡ largest (drop (k - 1) (named asked held names))
further asked held names k z h o b e =
    let l = length_up (issue_if_at asked held names) cards_most 0 in
    let here = get_or_up (issue_if_at asked held names) cards_most 0 (k - 1) 0 (omega arith) in
    let more = largest_more (named asked held names) k z (omega arith) in
    let this = here ∙ ap (issue_if_at asked held names) (zero-add (k - 1)) in
    e ∙ (λ j. larger (cond (o j) (get_or held (k - 1) 0) 0) (b j))
    ∙ sym (more ∙ (λ j. larger (this j) (largest (drop k (named asked held names)))))

pub none_named : (asked held names : List ℕ) → 0 ≡ largest (drop cards_most (named asked held names))
none_named asked held names =
    let l = length_up (issue_if_at asked held names) cards_most 0 in
    largest_none (named asked held names) cards_most (omega arith)
