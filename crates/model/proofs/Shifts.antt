-- Voltages after a list of shifts: as many as before, in range, and what they are where they are given back.
use mathlib.Core.Path.{◌≡◌, refl, ap, ◌∙◌}
use mathlib.Core.Bool.{false, ◌||◌}
use mathlib.Core.List.{List, [], ◌∷◌, map}
use Prim.Native.Nat.{ℕ, zero, suc}
use lib.ListN.{length, set, length-set}
use lib.IntN.{ℤ, nat_abs}
use Rattle.volts.specs.Volts.{given_back, kept_as, off_volts, AllNear}
use Rattle.volts.specs.laws.Keeping.{kept, near_set}
use Rattle.settle.specs.OfGiven.Arguments.{off_node}
use Rattle.settle.specs.OfGiven.Pairs.{Shift, some_pair_off, shifts_of, shifted_in}
use Rattle.model.specs.Desk.{moved_to}
use Rattle.model.specs.Model.{shifted}
use Rattle.model.proofs.Gains.{either_false}

pub shifted_long : (shifts : List Shift) (volts : List ℕ) → length (shifted volts shifts) ≡ length volts
unfolding shifted_in
shifted_long [] volts = refl
shifted_long (s ∷ rest) volts =
    shifted_long rest (set volts s.node (kept_as s.volts)) ∙ length-set volts s.node (kept_as s.volts)

-- the voltage of a pair in range, and the pairs after it
record PairOn (v : ℤ) (rest : List ℤ) : Type 0 where
  volts_on : off_volts v ≡ false
  rest_on : some_pair_off rest ≡ false

pair_on : (n v : ℤ) (rest : List ℤ) → some_pair_off (n ∷ v ∷ rest) ≡ false → PairOn v rest
unfolding some_pair_off
pair_on n v rest e =
    let both = either_false (off_node n || off_volts v) (some_pair_off rest) e in
    record { volts_on = (either_false (off_node n) (off_volts v) both.0).1; rest_on = both.1 }

pub shifted_near : (pairs : List ℤ) {volts : List ℕ} → some_pair_off pairs ≡ false → AllNear volts →
    AllNear (shifted volts (shifts_of pairs))
unfolding shifts_of shifted_in
shifted_near [] e near = near
shifted_near (n ∷ []) e near = near
shifted_near (n ∷ v ∷ rest) e near =
    let p = pair_on n v rest e in
    shifted_near rest p.rest_on (near_set (nat_abs n) (kept v p.volts_on).near near)

map_set : {A B : Type 0} (f : A → B) (l : List A) (n : ℕ) (x : A) → map f (set l n x) ≡ set (map f l) n (f x)
map_set f [] n x = refl
map_set f (y ∷ l) zero x = refl
map_set f (y ∷ l) (suc n) x = ap (λ r. f y ∷ r) (map_set f l n x)

-- given back they are the voltages that the nodes are moved to
pub shifted_back : (pairs : List ℤ) (volts : List ℕ) → some_pair_off pairs ≡ false →
    map given_back (shifted volts (shifts_of pairs)) ≡ moved_to (map given_back volts) (shifts_of pairs)
unfolding shifts_of shifted_in
shifted_back [] volts e = refl
shifted_back (n ∷ []) volts e = refl
shifted_back (n ∷ v ∷ rest) volts e =
    let p = pair_on n v rest e in
    shifted_back rest (set volts (nat_abs n) (kept_as v)) p.rest_on
    ∙ ap (λ (l : List ℤ). moved_to l (shifts_of rest))
    (map_set given_back volts (nat_abs n) (kept_as v)
    ∙ ap (λ (x : ℤ). set (map given_back volts) (nat_abs n) x) (kept v p.volts_on).is)
