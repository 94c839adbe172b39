-- Going from place to place of a set: what has come and what has gone, who overloads first, and what is held, once the
-- places below i are passed.
use mathlib.Core.Path.{◌≡◌, refl, sym, ap, ◌∙◌}
use mathlib.Core.Bool.{Bool, true, false, cond, not}
use mathlib.Core.Logic.{◌⊎◌, inl, inr}
use mathlib.Core.List.{List, map}
use Prim.Native.Nat.{ℕ, zero, suc, ◌+◌, ◌-◌, ◌*◌, ◌%◌, ◌^◌, ◌≤◌, ◌<◌, zero-le}
use native.Mathlib.Nat.{suc-mul, mul-le-mul_right, lt_of_lt_of_le, zero-lt-suc, pow-le-pow_right}
use native.Mathlib.Nat.{div-eq_of_lt, zero-div}
use native.Mathlib.Numerals.{add-one}
use native.Mathlib.Omega.{arith}
use lib.Dec.{eqb}
use lib.ListN.{length, get_or, replicate, length-replicate, get_or-eq_default}
use lib.IntN.{ℤ, pos, nat_abs, neg_ℤ, ◌+ℤ◌, ◌-ℤ◌, +ℤ_idr, +ℤ_comm, neg_ℤ-+ℤ}
use Rattle.whole.specs.laws.Biased.{below_or_not}
use Rattle.refusal.specs.declared.Refusal.{Refusal}
use Rattle.refusal.specs.declared.Refusal.TheVariants.{OutOfReach}
use Rattle.volts.specs.Volts.{given_back}
use Rattle.octave.specs.Table.{entries}
use Rattle.scaling.specs.Scaled.{tick_limit}
use Rattle.std.specs.Prelude.{Option, Some, None, Result, Ok, Err, is_ok}
use Rattle.std.specs.Result.{result_err}
use Rattle.places.specs.OfRowsTypes.Over.{Over}
use Rattle.places.specs.OfRows.Outcome.{Outcome, told_over, told_ticks, drawn_by}
use Rattle.flows.specs.OfTerms.Rows.{branches}
use Rattle.places.specs.OfTotals.Gives.{nodes_most}
use Rattle.places.specs.OfTotals.Flow.{flow, ticks_give, sum_below, with_more}
use Rattle.places.specs.OfTotals.inner.Sums.{More, Within, Room, Wired, Givable}
use Rattle.places.specs.OfTotals.inner.Sizes.{flow_most, room_most}
use Rattle.places.proofs.OfTotals.Integers.{abs_add, swap_inner}
use Rattle.places.specs.OfDeck.Stretch.{written}
use Rattle.places.specs.OfDeck.laws.Stretches.{length_stretch, get_or_none}
use Rattle.places.specs.OfDeck.laws.Ups.{up_same}
use Rattle.small.specs.OfSlices.Slices.{some_outside, changed, StandsIn}
use Rattle.small.proofs.OfSlices.Passing.{more_long}
use Rattle.small.specs.inner.Small.{small_most, EachSmall, Near}
use Rattle.flows.specs.Back.{ticks_back}
use Rattle.flows.specs.inner.Workable.{Workable, Works, card_of}
use Rattle.flows.proofs.Currents.{ticks_within, ticks_count, ticks_small_give}
use Rattle.places.specs.Counts.{transistors_most}
use Rattle.places.specs.Sets.{member}
use Rattle.places.specs.inner.Parts.{NextIn}
use Rattle.settle.specs.declared.First.{First}
use Rattle.settle.specs.Change.{change_by, changes}
use Rattle.settle.specs.First.{earlier, first_below, judged}
use Rattle.settle.specs.Renewed.{renewed}
use Rattle.settle.specs.inner.Working.{card_at, nodes_at, held_at, Round, gained, new_at, first_so, held_from}
use Rattle.settle.specs.inner.Working.{given, Sums, few_places, standing, Settling, Gone}
use Rattle.settle.specs.inner.Working.{Going, Settled}
use Rattle.settle.specs.laws.Renewals.{renewed_past}

-- ---- what counts of an outcome, and by what it overloads, by the library's words

pub own_over : (w : Outcome) → result_err w ≡ told_over w
own_over (Ok ticks) = refl
own_over (Err over) = refl

-- ---- sums and firsts over places that are passed over

sum_past : (f : ℕ → ℤ) (from k : ℕ) → ((j : ℕ) → from ≤ j → j < from + k → f j ≡ pos 0) →
    sum_below f (from + k) ≡ sum_below f from
unfolding sum_below
sum_past f from zero h = let e : from + 0 ≡ from = omega arith in rw e
sum_past f from (suc k) h =
    let e : from + suc k ≡ suc (from + k) = omega arith in
    rw (e, h (from + k) (omega arith) (omega arith))
    (+ℤ_idr _ ∙ sum_past f from k (λ j p q. h j p (omega arith)))

first_past : (worked : ℕ → Bool) (issue : ℕ → ℕ) (over : ℕ → Option Over) (from k : ℕ) →
    ((j : ℕ) → from ≤ j → j < from + k → worked j ≡ false) →
    first_below worked issue over (from + k) ≡ first_below worked issue over from
unfolding first_below
first_past worked issue over from zero h = let e : from + 0 ≡ from = omega arith in rw e
first_past worked issue over from (suc k) h =
    let e : from + suc k ≡ suc (from + k) = omega arith in
    rw (e, h (from + k) (omega arith) (omega arith))
    (first_past worked issue over from k (λ j p q. h j p (omega arith)))

-- the next place is no earlier one
pub reach : {places from next : ℕ} → from ≤ transistors_most → NextIn places from next → from ≤ next
reach {from = from} {next = next} h n = go (below_or_not next transistors_most)
  where
    go : (next < transistors_most) ⊎ (transistors_most ≤ next) → from ≤ next
    go (inl b) = n.later b
    go (inr b) = omega arith

-- ---- the places below i are passed, and i is one of the set or none is left

-- what the places passed give
module _ (r : Round) (each : ℕ → List ℤ) where
  sums_none : Sums r each 0 (replicate nodes_most (pos 0))
  unfolding given sum_below
  sums_none = record { long = length-replicate nodes_most (pos 0); at = λ n h. get_or_none (pos 0) nodes_most n }

  -- on to the next of the set
  sums_on : (from i : ℕ) → from ≤ transistors_most → NextIn r.marked from i → {l : List ℤ} → Sums r each from l →
      Sums r each i l
  unfolding given
  sums_on from i h next s = record { long = s.long; at = λ n b. s.at n b ∙ sym (same n) }
    where
      sum : from + (i - from) ≡ i
      sum = let e = reach h next in omega arith

      same : (n : ℕ) → given r each i n ≡ given r each from n
      same n =
          rw (sym sum)
          (sum_past _ from (i - from)
          (λ j p q. ap (λ (t : Bool). cond t (ticks_give (nodes_at r.nodes j) (each j) n) (pos 0))
          (next.between j p (rw sum at q))))

  -- past a place of it
  sums_more : {i : ℕ} → member r.marked i ≡ true → {l l' : List ℤ} → Sums r each i l →
      More nodes_most l l' (ticks_give (nodes_at r.nodes i) (each i)) → Sums r each (i + 1) l'
  unfolding given sum_below
  sums_more {i} m s more =
      record {
        long = more.long;
        at =
            λ n b. rw (add-one i, m)
            (more.at n b ∙ ap (λ (z : ℤ). z +ℤ ticks_give (nodes_at r.nodes i) (each i) n) (s.at n b));
      }

  -- none is above what all places can give
  module _ (small : (j : ℕ) → j < transistors_most → member r.marked j ≡ true → Within tick_limit (each j)) where
    given_small : (k n : ℕ) → k ≤ transistors_most → nat_abs (given r each k n) ≤ k * flow_most
    unfolding given sum_below
    given_small zero n h = zero-le
    given_small (suc k) n h =
        let a = given_small k n (omega arith) in
        let b = go (member r.marked k) refl in
        let s = abs_add (given r each k n) (cond (member r.marked k) (ticks_give (nodes_at r.nodes k) (each k) n)
        (pos 0)) in rw (suc-mul k flow_most) (omega arith)
      where
        go : (t : Bool) → member r.marked k ≡ t →
            nat_abs (cond t (ticks_give (nodes_at r.nodes k) (each k) n) (pos 0)) ≤ flow_most
        go true e = ticks_small_give (nodes_at r.nodes k) (each k) (small k (omega arith) e) n
        go false e = zero-le

    sums_room : {k : ℕ} → k ≤ transistors_most → {l : List ℤ} → Sums r each k l → Room nodes_most room_most l
    sums_room {k} h {l} s = record { long = s.long; within = λ n. go n (below_or_not n nodes_most) }
      where
        go : (n : ℕ) → (n < nodes_most) ⊎ (nodes_most ≤ n) → nat_abs (get_or l n (pos 0)) ≤ room_most
        go n (inl b) =
            let a = given_small k n h in
            let m = mul-le-mul_right flow_most h in rw (s.at n b) (omega arith)
        go n (inr b) = rw (get_or-eq_default l (pos 0) {n = n} (rw s.long b)) zero-le

    -- and what the first few can give is small
    sums_few : r.marked < 2 ^ few_places → {l : List ℤ} → Sums r each transistors_most l → EachSmall l
    unfolding given
    sums_few h {l} s = record { each = λ n b. record { size = go n b } }
      where
        none : (j : ℕ) → few_places ≤ j → member r.marked j ≡ false
        none j p =
            ap (λ (x : ℕ). eqb (x % 2) 1) (div-eq_of_lt (lt_of_lt_of_le h (pow-le-pow_right (zero-lt-suc 1) p)))

        same : (n : ℕ) → given r each transistors_most n ≡ given r each few_places n
        same n =
            sum_past _ few_places (transistors_most - few_places)
            (λ j p q. ap (λ (t : Bool). cond t (ticks_give (nodes_at r.nodes j) (each j) n) (pos 0)) (none j p))

        go : (n : ℕ) → n < nodes_most → nat_abs (get_or l n (pos 0)) ≤ small_most
        go n b = let a = given_small few_places n (omega arith) in rw (s.at n b ∙ same n) (omega arith)

module _ (r : Round) (currents : List ℤ) where
  -- what comes in less what goes out is what is gained, at one place and over all of them
  difference_at : (k n : ℕ) (t : Bool) →
      cond t (ticks_give (nodes_at r.nodes k) (new_at r k) n) (pos 0)
      -ℤ cond t (ticks_give (nodes_at r.nodes k) (held_at currents k) n) (pos 0)
      ≡ cond t (change_by (card_at r.deck r.seats k) (nodes_at r.nodes k) (held_at currents k)
      (map given_back r.will) n) (pos 0)
  unfolding change_by flow ticks_back
  difference_at k n true =
      +ℤ_comm (ticks_give (nodes_at r.nodes k) (new_at r k) n)
      (neg_ℤ (ticks_give (nodes_at r.nodes k) (held_at currents k) n))
  difference_at k n false = refl

  difference : (k n : ℕ) → given r (new_at r) k n -ℤ given r (held_at currents) k n ≡ gained r currents k n
  unfolding given changes sum_below
  difference zero n = refl
  difference (suc k) n =
      ap (λ (z : ℤ). given r (new_at r) (suc k) n +ℤ z) (neg_ℤ-+ℤ (given r (held_at currents) k n) _)
      ∙ swap_inner (given r (new_at r) k n) _ (neg_ℤ (given r (held_at currents) k n)) _
      ∙ (λ j. difference k n j +ℤ difference_at k n (member r.marked k) j)

  -- so the totals with the one and less the other are as they would stand
  changed_is : (totals : List ℤ) {coming going : List ℤ} → Sums r (new_at r) transistors_most coming →
      Sums r (held_at currents) transistors_most going → changed totals coming going ≡ standing r currents totals
  unfolding with_more
  changed_is totals {coming} {going} c g =
      up_same
      (λ (n : ℕ). get_or totals n (pos 0) +ℤ (get_or coming n (pos 0) -ℤ get_or going n (pos 0)))
      (λ (n : ℕ). get_or totals n (pos 0) +ℤ gained r currents transistors_most n) nodes_most 0
      (λ i h. let z : 0 + i ≡ i = omega arith in
      rw z (ap (λ (x : ℤ). get_or totals i (pos 0) +ℤ x)
      ((λ j. c.at i h j -ℤ g.at i h j) ∙ difference transistors_most i)))

  -- from a place before on to the next of the set
  on_to : (from i : ℕ) → from ≤ transistors_most → NextIn r.marked from i →
      {coming going : List ℤ} {first : Option First} →
      Sums r (new_at r) from coming → Sums r (held_at currents) from going → first ≡ first_so r from →
      Gone r currents i coming going first
  on_to from i h next comes goes told =
      record {
        most = next.most;
        is = next.is;
        comes = sums_on r (new_at r) from i h next comes;
        goes = sums_on r (held_at currents) from i h next goes;
        first_is =
            told ∙ sym (rw (sym sum) (first_past (member r.marked) _ _ from (i - from) (λ j p q. next.between j p
            (rw sum at q))));
      }
    where
      sum : from + (i - from) ≡ i
      sum = let e = reach h next in omega arith

  -- and what is held from there on
  held_past : (from i : ℕ) → from ≤ transistors_most → NextIn r.marked from i →
      held_from r currents from ≡ held_from r currents i
  held_past from i h next =
      let e = reach h next in
      let m = next.most in
      let a : transistors_most - from ≡ (i - from) + (transistors_most - i) = omega arith in
      let b : from + (i - from) ≡ i = omega arith in
      ap (λ (k : ℕ). renewed (member r.marked) (new_at r) currents k from) a
      ∙ renewed_past (member r.marked) (new_at r) currents (i - from) (transistors_most - i) from
      (λ j p q. next.between j p (rw b at q))
      ∙ ap (λ (k : ℕ). renewed (member r.marked) (new_at r) currents (transistors_most - i) k) b

  -- ---- the first place

  gone_none : (i : ℕ) → NextIn r.marked 0 i →
      Gone r currents i (replicate nodes_most (pos 0)) (replicate nodes_most (pos 0)) None
  unfolding first_below
  gone_none i next = on_to 0 i zero-le next (sums_none r (new_at r)) (sums_none r (held_at currents)) refl

  pub begins : {table : List ℕ} {totals : List ℤ} → table ≡ entries → Settling r currents totals → (i : ℕ) →
      NextIn r.marked 0 i →
      Going r table currents totals i (replicate nodes_most (pos 0)) (replicate nodes_most (pos 0)) None
  begins t s i next = record { table_is = t; settling = s; gone = gone_none i next }

  pub held_start : (i : ℕ) → NextIn r.marked 0 i → {totals : List ℤ} {told : Result (Unit {0}) Refusal} {after held : List ℤ} →
      Settled r currents totals i told after held → Settled r currents totals 0 told after held
  held_start i next {told = told} s =
      record {
        told_is = s.told_is;
        totals_are = s.totals_are;
        held = s.held ∙ ap (λ (l : List ℤ). cond (is_ok told) l currents) (sym (held_past 0 i zero-le next));
      }

  -- ---- a place worked

  module _ {totals : List ℤ} (s : Settling r currents totals) {i : ℕ} {coming going : List ℤ} {first : Option First}
      (g : Gone r currents i coming going first) (h : i < transistors_most) {on : List ℕ}
      (o : on ≡ nodes_at r.nodes i) where
    -- what the place i asks of working it
    pub gone_works : (table : List ℕ) → table ≡ entries → Workable table r.deck (get_or r.seats i 0) on r.will
    gone_works table t =
        record { table_is = t; able = rw o (s.able i h (g.is h)); volts_are = s.will_are }

    wired : Wired nodes_most on
    wired = record { wired = rw o (s.able i h (g.is h)).wired }

    -- of letting go what it holds
    pub gone_goes : {old : List ℤ} → old ≡ held_at currents i → Givable going on old × (length old ≡ branches)
    gone_goes e = (
      record {
        wired = wired;
        room = sums_room r (held_at currents) s.small g.most g.goes;
        within = rw e (s.small i h (g.is h));
      },
      rw e (length_stretch (pos 0) currents (branches * i) branches),
    )

    -- and of letting its new currents come
    pub gone_comes : {w : Outcome} → Works (card_of r.deck (get_or r.seats i 0)) on (map given_back r.will) w →
        Givable coming on (told_ticks w) × (length (told_ticks w) ≡ branches)
    gone_comes works = (
      record {
        wired = wired;
        room = sums_room r (new_at r) (λ j q m. ticks_within _ _ _) g.most g.comes;
        within = rw works.ticks (ticks_within _ on (map given_back r.will));
      },
      rw works.ticks (ticks_count _ on (map given_back r.will)),
    )

  -- going on from there is going on from the next place
  pub goes_on : {table : List ℕ} {totals : List ℤ} {i : ℕ} {coming going : List ℤ} {first : Option First} →
      Going r table currents totals i coming going first → i < transistors_most → {on : List ℕ} →
      on ≡ nodes_at r.nodes i → {old : List ℤ} → old ≡ held_at currents i → {going' : List ℤ} →
      More nodes_most going going' (ticks_give on old) → {w : Outcome} →
      Works (card_of r.deck (get_or r.seats i 0)) on (map given_back r.will) w → {coming' : List ℤ} →
      More nodes_most coming coming' (ticks_give on (told_ticks w)) → {found : Option First} →
      found ≡ earlier first (get_or r.issues i 0) (told_over w) → (next : ℕ) → NextIn r.marked (i + 1) next →
      Going r table currents totals next coming' going' found
  unfolding first_below
  goes_on {i = i} {coming = coming} {going = going} {first = first} q h o e out {w} works into f next n =
      record {
        table_is = q.table_is;
        settling = q.settling;
        gone =
            on_to (i + 1) next (omega arith) n
            (sums_more r (new_at r) (g.is h) g.comes (rw (← new, ← o) into))
            (sums_more r (held_at currents) (g.is h) g.goes (rw (← e, ← o) out))
            (rw (add-one i, g.is h) (f ∙ rw (g.first_is, works.over, o)));
      }
    where
      g : Gone r currents i coming going first
      g = q.gone

      new : told_ticks w ≡ new_at r i
      new = works.ticks ∙ rw o

  -- ---- none is left, and on the way back

  module _ {i : ℕ} {coming going : List ℤ} {first : Option First} (g : Gone r currents i coming going first)
      (h : transistors_most ≤ i) where
    last : i ≡ transistors_most
    last = let m = g.most in omega arith

    -- of the first few places what comes and what goes is small
    pub gone_near : {totals : List ℤ} → Settling r currents totals → r.marked < 2 ^ few_places → Near coming going
    gone_near s f =
        record {
          coming_small = sums_few r (new_at r) (λ j q m. ticks_within _ _ _) f (rw last at g.comes);
          going_small = sums_few r (held_at currents) s.small f (rw last at g.goes);
        }

    -- somebody overloads: nothing more is judged
    pub gone_over : {f : First} → first ≡ Some f → {totals : List ℤ} →
        Settled r currents totals i (Err (drawn_by f.issue (Some f.over))) totals currents
    gone_over e {totals} =
        record {
          told_is =
              ap (λ (x : Option First). judged x (not (some_outside (standing r currents totals))))
              (sym e ∙ (rw last at g.first_is));
          totals_are = refl;
          held = refl;
        }

    -- nobody does: the totals are judged
    pub gone_all : first ≡ None → {totals : List ℤ} {told : Result (Unit {0}) Refusal} {totals' : List ℤ} →
        StandsIn totals coming going told totals' → Settled r currents totals i told totals' currents
    unfolding renewed
    gone_all e {totals} {told} {totals'} stands =
        let same = changed_is totals (rw last at g.comes) (rw last at g.goes) in
        record {
          told_is =
              stands.told ∙ ap (λ (l : List ℤ). told_by (some_outside l)) same
              ∙ judged_none (some_outside (standing r currents totals))
              ∙ ap (λ (x : Option First). judged x (not (some_outside (standing r currents totals))))
              (sym e ∙ (rw last at g.first_is));
          totals_are =
              stands.totals_are ∙ taken (some_outside (changed totals coming going)) totals (changed totals coming going)
              ∙ ap (λ (t : Result (Unit {0}) Refusal). cond (is_ok t) (changed totals coming going) totals)
              (sym stands.told)
              ∙ ap (λ (l : List ℤ). cond (is_ok told) l totals) same;
          held = rw last (sym (either (is_ok told)));
        }
      where
        told_by : Bool → Result (Unit {0}) Refusal
        told_by out = cond out (Err OutOfReach) (Ok tt)

        judged_none : (out : Bool) → told_by out ≡ judged None (not out)
        judged_none true = refl
        judged_none false = refl

        taken : (out : Bool) (l then : List ℤ) → cond out l then ≡ cond (is_ok (told_by out)) then l
        taken true l then = refl
        taken false l then = refl

        either : (t : Bool) → cond t currents currents ≡ currents
        either true = refl
        either false = refl

  -- a set without places: nobody overloads, nothing comes and nothing goes, and what is held is held on
  pub settled_none : r.marked ≡ 0 → {totals : List ℤ} {told : Result (Unit {0}) Refusal} →
      StandsIn totals (replicate nodes_most (pos 0)) (replicate nodes_most (pos 0)) told totals →
      Settled r currents totals 0 told totals currents
  settled_none e stands =
      held_start transistors_most end (gone_all (gone_none transistors_most end) (omega arith) refl stands)
    where
      end : NextIn r.marked 0 transistors_most
      end =
          record {
            most = omega arith;
            later = λ q. zero-le;
            is = λ q. absurd (omega arith);
            between = λ j p q. rw e (ap (λ (x : ℕ). eqb (x % 2) 1) (zero-div (2 ^ j)));
          }

  -- as many totals as before
  pub settled_long : {totals : List ℤ} → length totals ≡ nodes_most →
      {i : ℕ} {told : Result (Unit {0}) Refusal} {totals' held : List ℤ} →
      Settled r currents totals i told totals' held → length totals' ≡ length totals
  settled_long {totals} long {told = told} s = ap length s.totals_are ∙ go (is_ok told)
    where
      go : (t : Bool) → length (cond t (standing r currents totals) totals) ≡ length totals
      go true = more_long totals _ ∙ sym long
      go false = refl

  module _ {i next : ℕ} (h : i < transistors_most) (n : NextIn r.marked (i + 1) next) {totals : List ℤ}
      {told : Result (Unit {0}) Refusal} {after held : List ℤ} (s : Settled r currents totals next told after held) where
    -- it is refused: what was held is held on
    pub back_left : is_ok told ≡ false → Settled r currents totals i told after held
    back_left e =
        record { told_is = s.told_is; totals_are = s.totals_are; held = s.held ∙ rw e }

    pub back_held : is_ok told ≡ true → member r.marked i ≡ true → {on : List ℕ} →
        on ≡ nodes_at r.nodes i → {w : Outcome} →
        Works (card_of r.deck (get_or r.seats i 0)) on (map given_back r.will) w →
        Settled r currents totals i told after (written (pos 0) held (branches * i) (told_ticks w) branches)
    unfolding renewed
    back_held e m o {w} works =
        record {
          told_is = s.told_is;
          totals_are = s.totals_are;
          held = rw (e, one, m, new, rest);
        }
      where
        new : told_ticks w ≡ new_at r i
        new = works.ticks ∙ rw o

        one : transistors_most - i ≡ suc (transistors_most - suc i)
        one = omega arith

        rest : held ≡ renewed (member r.marked) (new_at r) currents (transistors_most - suc i) (suc i)
        rest = s.held ∙ rw e (sym (held_past (i + 1) next (omega arith) n) ∙ rw (add-one i))
