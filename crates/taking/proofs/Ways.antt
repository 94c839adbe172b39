-- Loading's way through its tests, and what the way tells.
use mathlib.Core.Path.{◌≡◌, sym, ap, ◌∙◌}
use mathlib.Core.Bool.{true, false}
use mathlib.Core.List.{List}
use Prim.Native.Nat.{ℕ, ◌≤◌, ◌<◌}
use lib.Dec.{leb}
use Rattle.std.specs.Prelude.{Result, Ok, Err}
use borrow.Author.Tests.{le-leb, lt-leb, lt-ltb, le-ltb, leb-false, ltb-false}
use Rattle.refusal.specs.declared.Refusal.{Refusal}
use Rattle.refusal.specs.declared.Refusal.TheVariants.{Malformed, BadName, NoRoom, NumbersUsedUp}
use Rattle.refusal.specs.Order.{Verdict, no, yes}
use Rattle.refusal.specs.Clash.{clash}
use Rattle.name.specs.Name.{asked}
use Rattle.clip.specs.Record.{right_length}
use Rattle.card.specs.declared.WorkedCard.{WorkedCard}
use Rattle.card.specs.Judge.{judge_of}
use Rattle.given.specs.Arguments.{issues_most, used_up}
use Rattle.places.specs.inner.Flat.{first_at}
use Rattle.model.specs.Counts.{cards_most}
use Rattle.model.specs.Verdict.{load_verdict}
use Rattle.model.proofs.Verdicts.{Loads, loads}
use Rattle.taking.specs.declared.Loading.{Loading}
use Rattle.taking.specs.inner.Loading.{way_of, loading}

stopped : (free : ℕ) (v : Verdict WorkedCard) {f : Refusal} → way_of free v ≡ Err f → v ≡ no f
stopped free (no g) e = cc
stopped free (yes c) e = clash cc

went : (free : ℕ) (v : Verdict WorkedCard) {i : ℕ} {c : WorkedCard} → way_of free v ≡ Ok (record { place = i; worked = c }) →
    (v ≡ yes c) × (i ≡ free)
went free (no g) e = clash cc
went free (yes d) {i} {c} e =
    let p : ◌≡◌ {A = Loading} (record { place = free; worked = d }) (record { place = i; worked = c }) = cc in
    (ap (λ (l : Loading). yes l.worked) p, sym (ap (λ (l : Loading). l.place) p))

module _ (held : List ℕ) (next : ℕ) (name bytes : List ℕ) where
  abbrev free : ℕ
  free = first_at cards_most 0 held

  abbrev pub verdict : Verdict WorkedCard
  verdict = load_verdict name bytes (leb cards_most free) (used_up next)

  pub stop_malformed : right_length bytes ≡ false → Err Malformed ≡ loading held next name bytes
  unfolding loading load_verdict
  stop_malformed e = rw e

  module _ (l : right_length bytes ≡ true) where
    pub stop_bad_name : asked name ≡ false → Err BadName ≡ loading held next name bytes
    unfolding loading load_verdict
    stop_bad_name e = rw (l, e)

    module _ (e : asked name ≡ true) where
      pub stop_judged : (f : Refusal) → judge_of bytes ≡ no f → Err f ≡ loading held next name bytes
      unfolding loading load_verdict
      stop_judged f j = rw (l, e, j)

      pub stop_no_room : (w : WorkedCard) → judge_of bytes ≡ yes w → cards_most ≤ free →
          Err NoRoom ≡ loading held next name bytes
      unfolding loading load_verdict
      stop_no_room w j h = rw (l, e, j, le-leb _ _ h)

      -- the card, and the place found
      module _ (w : WorkedCard) (j : judge_of bytes ≡ yes w) (i : ℕ) (p : i ≡ free) where
        pub stop_used_up : i < cards_most → issues_most < next → Err NumbersUsedUp ≡ loading held next name bytes
        unfolding loading load_verdict
        stop_used_up h k = rw (l, e, j, ← p, lt-leb _ _ h, lt-ltb _ _ k)

        pub goes : i < cards_most → next ≤ issues_most → Ok (record { place = i; worked = w }) ≡ loading held next name bytes
        unfolding loading load_verdict
        goes h k = rw (l, e, j, ← p, lt-leb _ _ h, le-ltb _ _ k)

  module _ {w : Result Loading Refusal} (way-is : w ≡ loading held next name bytes) where
    pub way_stops : {f : Refusal} → w ≡ Err f → verdict ≡ no f
    unfolding loading
    way_stops e = stopped free verdict (sym way-is ∙ e)

    module _ {i : ℕ} {c : WorkedCard} (e : w ≡ Ok (record { place = i; worked = c })) where
      pub way_goes : (verdict ≡ yes c) × (i ≡ free)
      unfolding loading
      way_goes = went free verdict (sym way-is ∙ e)

      passed : Loads bytes (leb cards_most free) (used_up next) c
      passed = loads name way_goes.0

      pub is_judged : judge_of bytes ≡ yes c
      is_judged = passed.judged

      pub place_there : i < cards_most
      place_there = rw way_goes.1 (leb-false cards_most free passed.room)

      pub number_there : next ≤ issues_most
      number_there = ltb-false issues_most next passed.number
