-- Numbers read at their places in the arrays are those of the place's stretches.
use mathlib.Core.Path.{◌≡◌, sym, ap, ◌∙◌}
use mathlib.Core.Bool.{Bool, false}
use mathlib.Core.List.{List}
use Prim.Native.Nat.{ℕ, ◌+◌, ◌*◌, ◌<◌}
use native.Mathlib.Nat.{add-zero, add_assoc}
use native.Mathlib.Omega.{arith}
use lib.ListN.{get_or}
use Rattle.deck.specs.Layout.{numbers_each, powers_each, ticks_each, switches_each}
use Rattle.deck.specs.Layout.{numbers_at, powers_at, ticks_at, switches_at}
use Rattle.deck.specs.laws.Stretches.{get_or_stretch}

pub number_is : (numbers : List ℕ) (i k : ℕ) → k < numbers_each →
    get_or numbers (numbers_each * i + k) 0 ≡ get_or (numbers_at numbers i) k 0
number_is numbers i k h = sym (get_or_stretch 0 numbers (numbers_each * i) numbers_each k h)

-- counted on from another
pub number_after : (numbers : List ℕ) (i k j : ℕ) → k + j < numbers_each →
    get_or numbers (numbers_each * i + k + j) 0 ≡ get_or (numbers_at numbers i) (k + j) 0
number_after numbers i k j h = rw add_assoc (number_is numbers i (k + j) h)

pub power_is : (powers : List ℕ) (i k : ℕ) → k < powers_each →
    get_or powers (powers_each * i + k) 0 ≡ get_or (powers_at powers i) k 0
power_is powers i k h = sym (get_or_stretch 0 powers (powers_each * i) powers_each k h)

pub tick_is : (ticks : List ℕ) (i k : ℕ) → k < ticks_each →
    get_or ticks (ticks_each * i + k) 0 ≡ get_or (ticks_at ticks i) k 0
tick_is ticks i k h = sym (get_or_stretch 0 ticks (ticks_each * i) ticks_each k h)

pub switch_is : (switches : List Bool) (i k : ℕ) → k < switches_each →
    get_or switches (switches_each * i + k) false ≡ get_or (switches_at switches i) k false
switch_is switches i k h = sym (get_or_stretch false switches (switches_each * i) switches_each k h)

pub first_switch : (switches : List Bool) (i : ℕ) →
    get_or switches (switches_each * i) false ≡ get_or (switches_at switches i) 0 false
first_switch switches i =
    ap (λ (j : ℕ). get_or switches j false) (sym (add-zero (switches_each * i))) ∙ switch_is switches i 0 (omega arith)
