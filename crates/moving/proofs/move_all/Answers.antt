-- `move_all` turns away slices, what is no list and what is out of range, settles the places that name a node of a
-- pair, and writes what comes out unless that is refused.
use mathlib.Core.Path.{◌≡◌, refl, sym, ap, ◌∙◌}
use mathlib.Core.Bool.{Bool, true, false, cond}
use mathlib.Core.List.{List, map}
use Prim.Native.Nat.{ℕ}
use lib.IntN.{ℤ}
use borrow.Author.Rules.{rules}
use Rattle.std.specs.Prelude.{Option, Some, Result, Ok, Err}
use Rattle.std.proofs.lemmas.Result.{err_from_is_err_and}
use Rattle.refusal.specs.declared.Refusal.{Refusal}
use Rattle.refusal.specs.declared.Refusal.TheVariants.{OutOfRange}
use Rattle.refusal.specs.Clash.{clash}
use Rattle.volts.specs.Volts.{given_back, kept_as}
use Rattle.given.specs.Pairs.{some_pair_off, shifts_of}
use Rattle.slices.specs.Slices.{off_slices, kept_slices}
use Rattle.slices.proofs.Keeping.{not_kept, kept_so, volts_on, all_back}
use Rattle.lending.specs.OfModel.Desk.{moved_to}
use Rattle.lending.specs.OfModel.Model.{shifted}
use Rattle.lending.proofs.OfModel.Shifts.{shifted_back}
use Rattle.pairs.specs.inner.Pairs.{KeepsPairs}
use Rattle.moving.proofs.Moving.{lent_turned, lent_malformed, lent_off, lent_settling, lent_taken, lent_left}
use Rattle.moving.proofs.Moving.{levels_as}
use Rattle.moving.proofs.move_all.Goals as goal

pairs_off : (off : Bool) {told : Result (Unit {0}) Refusal} {f : Refusal} →
    told ≡ cond off (Err OutOfRange) (Ok tt) → told ≡ Err f → (off ≡ true) × (f ≡ OutOfRange)
pairs_off true e h = (refl, cc)
pairs_off false e h = clash cc

pairs_on : (off : Bool) {told : Result (Unit {0}) Refusal} {u : Unit {0}} →
    told ≡ cond off (Err OutOfRange) (Ok tt) → told ≡ Ok u → off ≡ false
pairs_on true e h = clash cc
pairs_on false e h = refl

-- what the tests have shown where none of them turns the call away
module _ (volts totals pairs : List ℤ) {found : Option (List ℕ)} {kept will : List ℕ}
    (k : found ≡ kept_slices volts totals) (t : found ≡ Some kept) {told : Result (Unit {0}) Refusal}
    (p : KeepsPairs pairs kept told will) {u : Unit {0}} (h : told ≡ Ok u) where
  good : off_slices volts totals ≡ false
  good = (kept_so volts totals k t).0

  on : some_pair_off pairs ≡ false
  on = pairs_on _ p.told h

  will_is : will ≡ shifted (map kept_as volts) (shifts_of pairs)
  will_is = p.volts on ∙ ap (λ (l : List ℕ). shifted l (shifts_of pairs)) (kept_so volts totals k t).1

  -- the voltages kept, given back, are those of the slice moved to the pairs'
  back_is : moved_to volts (shifts_of pairs) ≡ map given_back will
  back_is =
      sym
      (ap (map given_back) will_is ∙ shifted_back pairs (map kept_as volts) on
      ∙ ap (λ (l : List ℤ). moved_to l (shifts_of pairs)) (all_back volts (volts_on volts totals good)))

pub returns-in_default : goal.returns-in_default
returns-in_default c =
    let a = c.args in
    λ r k l. lent_turned l _ _ _ (not_kept a.volts.now a.totals.now c.keep_slices.ensures c.in_default.is)

pub returns-then-not-are_pairs : goal.returns-then-not-are_pairs
returns-then-not-are_pairs c =
    let a = c.args in
    λ r k l. lent_malformed l _ _ _ (kept_so a.volts.now a.totals.now c.keep_slices.ensures c.in-Some.is).0
    (sym c.are_pairs.ensures ∙ c.if-not-are_pairs.true)

pub returns-in_err-keep_pairs : goal.returns-in_err-keep_pairs
returns-in_err-keep_pairs c =
    let a = c.args in
    let q = err_from_is_err_and c.from_residual.result c.from_residual.ensures.1 in
    let o = pairs_off _ c.keep_pairs.ensures.told c.in_err-keep_pairs.was in
    λ r k l. rw (q.1, q.2, o.1)
    (lent_off l _ _ _ (kept_so a.volts.now a.totals.now c.keep_slices.ensures c.in-Some.is).0
    (sym c.are_pairs.ensures ∙ c.if-not-are_pairs.false) o.0)

pub settle-settled-requires : goal.settle-settled-requires
settle-settled-requires c =
    let a = c.args in
    let s = c.keep_slices.ensures in
    let t = c.in-Some.is in
    let p = c.keep_pairs.ensures in
    let u = c.in_ok-keep_pairs.was in
    lent_settling c.requires.2 a.volts.now a.totals.now a.pairs.now (good a.volts.now a.totals.now _ s t p u) c.requires.1
    (sym c.are_pairs.ensures ∙ c.if-not-are_pairs.false) (on a.volts.now a.totals.now _ s t p u) _ (will_is a.volts.now a.totals.now _ s t p u) _
    (search rules)

pub returns-in_err-settled : goal.returns-in_err-settled
returns-in_err-settled c =
    let a = c.args in
    let s = c.keep_slices.ensures in
    let t = c.in-Some.is in
    let p = c.keep_pairs.ensures in
    let u = c.in_ok-keep_pairs.was in
    let pairs = sym c.are_pairs.ensures ∙ c.if-not-are_pairs.false in
    let q = err_from_is_err_and c.from_residual-in_err-settled.result c.from_residual-in_err-settled.ensures.1 in
    λ r k l. rw (q.1, q.2)
    (lent_left l a.volts.now a.totals.now a.pairs.now (good a.volts.now a.totals.now _ s t p u) k pairs (on a.volts.now a.totals.now _ s t p u) _
    (will_is a.volts.now a.totals.now _ s t p u) _ (search rules) c.settle-settled.ensures c.in_err-settled.was)

pub returns : goal.returns
returns c =
    let a = c.args in
    let s = c.keep_slices.ensures in
    let t = c.in-Some.is in
    let p = c.keep_pairs.ensures in
    let u = c.in_ok-keep_pairs.was in
    let pairs = sym c.are_pairs.ensures ∙ c.if-not-are_pairs.false in
    λ r k l. levels_as refl (c.put_pairs.ensures ∙ back_is a.volts.now a.totals.now _ s t p u) refl
    (lent_taken l a.volts.now a.totals.now a.pairs.now (good a.volts.now a.totals.now _ s t p u) k pairs (on a.volts.now a.totals.now _ s t p u) _
    (will_is a.volts.now a.totals.now _ s t p u) _ (search rules) c.settle-settled.ensures c.in_ok-settled.was)
