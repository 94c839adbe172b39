-- Where a number was found among the places; and nodes in range.
use mathlib.Core.Path.{◌≡◌, refl}
use mathlib.Core.Bool.{Bool, true, false, cond, ◌||◌}
use mathlib.Core.List.{List, [], ◌∷◌, map}
use Prim.Native.Nat.{ℕ, zero, suc, ◌<◌}
use lib.Dec.{eqb, lit<}
use lib.ListN.{length, get_or}
use lib.IntN.{ℤ, nat_abs}
use borrow.Author.Tests.{eqb-true, eqb-false}
use Rattle.refusal.specs.Clash.{clash}
use Rattle.settle.specs.OfGiven.Arguments.{none, some, off_node, some_node_off}
use Rattle.settle.specs.OfPlaces.Gathered.{Card, Transistor, no_card, no_transistor}
use Rattle.settle.specs.OfPlaces.Finding.{first, found_at, card_place, transistor_place}
use Rattle.model.specs.Counts.{nodes_most, cards_most, transistors_most}
use Rattle.model.proofs.Lists.{first_passes, found_is}
use Rattle.model.proofs.Verdicts.{on_node_lem}

-- the place i of a list of so many is the first one with the number n
pub record At {A : Type 0} (key : A → ℕ) (d : A) (n : ℕ) (l : List A) (i : ℕ) : Type 0 where
  pub given : n ≡ 0 → ⊥
  pub below : i < length l
  pub is : i ≡ first (λ (a : A). eqb (key a) n) l
  pub issue_is : key (get_or l i d) ≡ n

at : {A : Type 0} (key : A → ℕ) (d : A) (n : ℕ) (l : List A) (i most : ℕ) → length l ≡ most →
    cond (eqb n 0) none (found_at most (first (λ (a : A). eqb (key a) n) l)) ≡ some i → At key d n l i
at {A} key d n l i most long e = go (eqb n 0) refl e
  where
    go : (t : Bool) → eqb n 0 ≡ t → cond t none (found_at most (first (λ (a : A). eqb (key a) n) l)) ≡ some i →
        At key d n l i
    go true p q = clash cc
    go false p q =
        let f = found_is most (first (λ (a : A). eqb (key a) n) l) i q in
        let k : first (λ (a : A). eqb (key a) n) l < length l = rw long f.1 in
        record {
          given = eqb-false n 0 p;
          below = rw f.0 k;
          is = f.0;
          issue_is = rw f.0 (eqb-true _ n (first_passes (λ (a : A). eqb (key a) n) d l k));
        }

abbrev pub AtCard : ℕ → List Card → ℕ → Type 0
AtCard n cards i = At (λ (c : Card). c.issue) no_card n cards i

pub at_card : (n : ℕ) (cards : List Card) (i : ℕ) → length cards ≡ cards_most → card_place n cards ≡ some i →
    AtCard n cards i
at_card n cards i long e = at (λ (c : Card). c.issue) no_card n cards i cards_most long e

abbrev pub AtTransistor : ℕ → List Transistor → ℕ → Type 0
AtTransistor n ts i = At (λ (t : Transistor). t.issue) no_transistor n ts i

pub at_transistor : (n : ℕ) (ts : List Transistor) (i : ℕ) → length ts ≡ transistors_most →
    transistor_place n ts ≡ some i → AtTransistor n ts i
at_transistor n ts i long e = at (λ (t : Transistor). t.issue) no_transistor n ts i transistors_most long e

-- nodes that are not off the board are on it
pub on_nodes : (nodes : List ℤ) → some_node_off nodes ≡ false → (k : ℕ) → get_or (map nat_abs nodes) k 0 < nodes_most
on_nodes [] e k = lit< tt
on_nodes (z ∷ nodes) e k = go (off_node z) refl e k (λ p. on_nodes nodes p)
  where
    go : (t : Bool) → off_node z ≡ t → t || some_node_off nodes ≡ false → (k : ℕ) →
        (some_node_off nodes ≡ false → (j : ℕ) → get_or (map nat_abs nodes) j 0 < nodes_most) →
        get_or (map nat_abs (z ∷ nodes)) k 0 < nodes_most
    go true p q k next = clash cc
    go false p q zero next = on_node_lem z p
    go false p q (suc k) next = next q k
