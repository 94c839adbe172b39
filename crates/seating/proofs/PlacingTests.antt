-- How the test of the currents comes after placing's other tests.
use mathlib.Core.Path.{◌≡◌, refl, ap}
use mathlib.Core.Bool.{Bool, true, false, cond, ◌||◌}
use mathlib.Core.List.{List, [], ◌∷◌, map}
use Prim.Native.Nat.{ℕ, zero, suc}
use lib.Dec.{leb}
use lib.ListN.{get_or}
use lib.IntN.{ℤ, pos, nat_abs}
use borrow.Author.Tests.{lt-leb}
use Rattle.refusal.specs.declared.Refusal.TheVariants.{NoRoom, OutOfRange, SplitCollector}
use Rattle.refusal.specs.declared.Refusal.TheVariants.{NumbersUsedUp}
use Rattle.refusal.specs.Order.{Verdict, no, yes, refuse_if}
use Rattle.refusal.specs.Clash.{clash}
use Rattle.terms.specs.Rows.{C1, C3, C4, role_index}
use Rattle.lending.specs.OfModel.Counts.{nodes_most}
use Rattle.given.specs.Arguments.{Found, none, some, off_node, some_node_off, Ties, torn}
use Rattle.std.specs.Prelude.{Option}
use Rattle.rows.specs.declared.Over.{Over}
use Rattle.lending.specs.OfModel.Verdict.{place_verdict, refuse_over}
use Rattle.given.specs.Lists.{any_of}
use Rattle.given.specs.inner.Nodes.{node_of}
use Rattle.placing.specs.inner.Placing.{torn_on, placing}
use Rattle.lending.proofs.OfModel.Verdicts.{on_node_lem}

abbrev pub lastly : {A : Type 0} → Verdict A → (A → Option Over) → ℕ → Verdict A
lastly (no f) over next = no f
lastly (yes a) over next = refuse_over next (over a) (yes a)

-- nodes as the board holds them tell what the caller's numbers tell
off_same : (nodes : List ℤ) → any_of (leb nodes_most) (map node_of nodes) ≡ some_node_off nodes
unfolding any_of
off_same [] = refl
off_same (z ∷ nodes) = go (off_node z) refl (off_same nodes)
  where
    go : (t : Bool) → off_node z ≡ t → any_of (leb nodes_most) (map node_of nodes) ≡ some_node_off nodes →
        leb nodes_most (cond t nodes_most (nat_abs z)) || any_of (leb nodes_most) (map node_of nodes) ≡ t || some_node_off nodes
    go true e next = refl
    go false e next = rw (lt-leb _ _ (on_node_lem z e), next)

pub on_same : (nodes : List ℤ) → some_node_off nodes ≡ false → map node_of nodes ≡ map nat_abs nodes
on_same [] e = refl
on_same (z ∷ nodes) e = go (off_node z) refl e (λ h. on_same nodes h)
  where
    go : (t : Bool) → off_node z ≡ t → t || some_node_off nodes ≡ false →
        (some_node_off nodes ≡ false → map node_of nodes ≡ map nat_abs nodes) →
        cond t nodes_most (nat_abs z) ∷ map node_of nodes ≡ nat_abs z ∷ map nat_abs nodes
    go true p q next = clash cc
    go false p q next = ap (λ (l : List ℕ). nat_abs z ∷ l) (next q)

size_at : (nodes : List ℤ) (k : ℕ) → get_or (map nat_abs nodes) k 0 ≡ nat_abs (get_or nodes k (pos 0))
size_at [] k = refl
size_at (z ∷ nodes) zero = refl
size_at (z ∷ nodes) (suc k) = size_at nodes k

pub then_lastly :
    {A : Type 0} (found : Found A) (joins : A → Ties) (over : A → Option Over) (next : ℕ) (nodes : List ℤ)
    (no_room used : Bool) →
    place_verdict found joins over next nodes no_room used
    ≡ lastly (placing found joins (map node_of nodes) no_room used) over next
unfolding place_verdict placing
then_lastly none joins over next nodes no_room used = refl
then_lastly (some a) joins over next nodes no_room used = rw (off_same nodes) (go (some_node_off nodes) refl)
  where
    chain : (s r u : Bool) →
        refuse_if s SplitCollector (refuse_if r NoRoom (refuse_if u NumbersUsedUp (refuse_over next (over a) (yes a))))
        ≡ lastly (refuse_if s SplitCollector (refuse_if r NoRoom (refuse_if u NumbersUsedUp (yes a)))) over next
    chain true r u = refl
    chain false true u = refl
    chain false false true = refl
    chain false false false = refl

    go : (t : Bool) → some_node_off nodes ≡ t →
        refuse_if t OutOfRange
        (refuse_if (torn (joins a) nodes) SplitCollector
        (refuse_if no_room NoRoom (refuse_if used NumbersUsedUp (refuse_over next (over a) (yes a))))) ≡ lastly
        (refuse_if t OutOfRange
        (refuse_if (torn_on (joins a) (map node_of nodes)) SplitCollector
        (refuse_if no_room NoRoom (refuse_if used NumbersUsedUp (yes a))))) over next
    go true e = refl
    go false e =
        rw (on_same nodes e, size_at nodes (role_index C4), size_at nodes (role_index C1), size_at nodes (role_index C3))
        (chain (torn (joins a) nodes) no_room used)
