-- Cards laid out: a card written is read back, the others stay, and places of zeros hold no card.
use Rattle.std.specs.Prelude.{◌≡◌, Bool, List, ℕ, ◌+◌, ◌*◌, ◌<◌, length, get_or, replicate}
use Rattle.std.proofs.Math.Path.{refl}
use Rattle.std.proofs.Math.Bool.{false}
use Rattle.std.proofs.Common.{arith}
use Rattle.rows.specs.OfTerms.Ready.{Ready}
use Rattle.rows.specs.OfTerms.inner.Ready.{no_ready}
use Rattle.deck.specs.Stretch.{written}
use Rattle.deck.specs.Layout.{
  cards_most,
  numbers_each,
  powers_each,
  ticks_each,
  switches_each,
  numbers_of,
  powers_of,
  ticks_of,
  switches_of,
  ready_at,
}
use Rattle.deck.specs.laws.Stretches.{get_or_stretch, stretch_written, stretch_apart, stretch_none}

module _ (numbers powers ticks : List ℕ) (switches : List Bool) (i : ℕ) (r : Ready) where
  pub ready_put : i < cards_most → length numbers ≡ numbers_each * cards_most → length powers ≡ powers_each * cards_most →
      length ticks ≡ ticks_each * cards_most → length switches ≡ switches_each * cards_most →
      ready_at (written 0 numbers (numbers_each * i) (numbers_of r) numbers_each)
      (written 0 powers (powers_each * i) (powers_of r.card) powers_each)
      (written 0 ticks (ticks_each * i) (ticks_of r) ticks_each)
      (written false switches (switches_each * i) (switches_of r.card) switches_each) i ≡ r
  unfolding ready_at
  ready_put h n p t s =
      rw (
        stretch_written 0 numbers (numbers_each * i) (numbers_of r) numbers_each (omega arith) refl,
        stretch_written 0 powers (powers_each * i) (powers_of r.card) powers_each (omega arith) refl,
        stretch_written 0 ticks (ticks_each * i) (ticks_of r) ticks_each (omega arith) refl,
        stretch_written false switches (switches_each * i) (switches_of r.card) switches_each (omega arith) refl,
      )

  pub ready_other : (j : ℕ) → (i ≡ j → ⊥) →
      ready_at (written 0 numbers (numbers_each * i) (numbers_of r) numbers_each)
      (written 0 powers (powers_each * i) (powers_of r.card) powers_each)
      (written 0 ticks (ticks_each * i) (ticks_of r) ticks_each)
      (written false switches (switches_each * i) (switches_of r.card) switches_each) j
      ≡ ready_at numbers powers ticks switches j
  unfolding ready_at
  ready_other j e =
      rw (
        stretch_apart 0 numbers (numbers_of r) numbers_each i j e,
        stretch_apart 0 powers (powers_of r.card) powers_each i j e,
        stretch_apart 0 ticks (ticks_of r) ticks_each i j e,
        stretch_apart false switches (switches_of r.card) switches_each i j e,
      )

-- R_Cbli is 0, R_Cblx is 0, and there are series resistors
module _ (numbers powers ticks : List ℕ) (switches : List Bool) (i : ℕ) where
  pub ready_joined :
      (ready_at numbers powers ticks switches i).card.rcbli_zero ≡ get_or switches (switches_each * i + 1) false
  unfolding ready_at
  ready_joined = get_or_stretch false switches (switches_each * i) switches_each 1 (omega arith)

  pub ready_close :
      (ready_at numbers powers ticks switches i).card.rcblx_zero ≡ get_or switches (switches_each * i + 3) false
  unfolding ready_at
  ready_close = get_or_stretch false switches (switches_each * i) switches_each 3 (omega arith)

  pub ready_wide : (ready_at numbers powers ticks switches i).card.wide ≡ get_or switches (switches_each * i + 4) false
  unfolding ready_at
  ready_wide = get_or_stretch false switches (switches_each * i) switches_each 4 (omega arith)

pub ready_fresh : (n p t s i : ℕ) →
    ready_at (replicate n 0) (replicate p 0) (replicate t 0) (replicate s false) i ≡ no_ready
unfolding ready_at
ready_fresh n p t s i =
    rw (
      stretch_none {A = ℕ} 0 n (numbers_each * i) numbers_each,
      stretch_none {A = ℕ} 0 p (powers_each * i) powers_each,
      stretch_none {A = ℕ} 0 t (ticks_each * i) ticks_each,
      stretch_none false s (switches_each * i) switches_each,
    )
