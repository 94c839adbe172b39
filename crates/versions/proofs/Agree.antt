-- A record of version 2 that says no more than one of version 1 has the same currents in branches 1 to 8, and of those
-- the same overloads first.
use mathlib.Core.Path.{◌≡◌, refl, sym, ap, ◌∙◌}
use mathlib.Core.Bool.{Bool, true, false}
use mathlib.Core.List.{List, [], ◌∷◌, map}
use Prim.Native.Nat.{ℕ, suc, ◌*◌}
use native.Mathlib.Nat.{zero-mul, mul-pos}
use lib.Dec.{lit<}
use lib.IntN.{ℤ}
use lib.Ieee.{Float, nan, inf, fin, binary64, of_bits, mul, round, units, odd, size, unlike, up, down}
use lib.Ieee.Scale.{round_same}
use lib.Ieee.Fits.{down_pos}
use lib.ListN.{length}
use borrow.Author.Tests.{eqb-true}
use Rattle.refusal.specs.Order.{Verdict, no, yes}
use Rattle.clip.specs.Numbers as number
use Rattle.clip.specs.Limits.{zero}
use Rattle.clip.specs.Record.{is_wide, is_narrow}
use Rattle.clip.specs.Clip.{clipped_up}
use Rattle.float.specs.Split.{split_a}
use Rattle.card.specs.declared.WorkedCard.{WorkedCard}
use Rattle.loading.specs.Numbers.{at, judged_numbers}
use Rattle.card.specs.Judge.{card_of}
use Rattle.card.specs.Judge.{judge_of}
use Rattle.card_laws.specs.laws.Version.{SaysNoMore, with_leads, judged_with_leads}
use Rattle.card_laws.proofs.Versions.{versions_agree}
use Rattle.card_laws.proofs.WorkedCards.{passes}
use Rattle.terms.specs.Rows.{Role, Row, row1, row2, row3, row4, row5, row6, row7, row8, junction_rows}
use Rattle.rows.specs.Ticks.{row_ticks}
use Rattle.rows.specs.Outcome.{ratio_limit, some_above, ratios_in, over_ticks, first_over}

-- ---- without a reverse current V_Lr says nothing, and the resistors have rows of their own

module _ (d c : WorkedCard) (v : Role → Role → ℤ) where
  -- a row that comes out the same with another V_Lr and with resistors
  record Blind (r : Row) : Type 0 where
    over : over_ticks (with_leads d c) v r r.divisor ≡ over_ticks c v r r.divisor
    ratio :
        some_above ratio_limit (ratios_in (with_leads d c) v r.divisor)
        ≡ some_above ratio_limit (ratios_in c v r.divisor)
    ticks : row_ticks (with_leads d c) v r ≡ row_ticks c v r

  abbrev AllBlind : List Row → Type 0
  AllBlind [] = Unit {0}
  AllBlind (r ∷ rows) = Blind r × AllBlind rows

  first_same : (rows : List Row) (n : ℕ) → AllBlind rows → first_over (with_leads d c) v n rows ≡ first_over c v n rows
  first_same [] n b = refl
  first_same (r ∷ rows) n b = rw (b.0.over, b.0.ratio, first_same rows (suc n) b.1)

  ticks_same : (rows : List Row) → AllBlind rows → map (row_ticks (with_leads d c) v) rows ≡ map (row_ticks c v) rows
  ticks_same [] b = refl
  ticks_same (r ∷ rows) b = let here = b.0.ticks in let rest = ticks_same rows b.1 in λ i. here i ∷ rest i

  plain : {r : Row} → over_ticks (with_leads d c) v r r.divisor ≡ over_ticks c v r r.divisor →
      some_above ratio_limit (ratios_in (with_leads d c) v r.divisor)
      ≡ some_above ratio_limit (ratios_in c v r.divisor) →
      row_ticks (with_leads d c) v r ≡ row_ticks c v r → Blind r
  plain a b t = record { over = a; ratio = b; ticks = t }

  six : (x : Bool) → Blind (row6 x)
  six true = plain refl refl refl
  six false = plain refl refl refl

  all_blind : (x : Bool) → c.reverse.a ≡ 0 → AllBlind (junction_rows x)
  all_blind x e = (
    plain {r = row1} refl refl refl,
    (
      plain {r = row2} refl refl refl,
      (
        plain {r = row3} refl refl refl,
        (
          plain {r = row4} refl refl refl,
          (
            plain {r = row5} refl refl refl,
            (
              six x,
              (plain {r = row7} refl refl refl, (plain {r = row8} (rw e) refl (rw e), tt)),
            ),
          ),
        ),
      ),
    ),
  )

-- ---- two cards whose junctions do the same at every voltage: the same ticks in branches 1 to 8, and the same of them
-- overloads first, by the same kind

pub record SameJunctions (c d : WorkedCard) : Type 0 where
  pub polarity : d.pnp ≡ c.pnp
  pub over : (v : Role → Role → ℤ) →
      first_over d v 1 (junction_rows d.exsub) ≡ first_over c v 1 (junction_rows c.exsub)
  pub ticks : (v : Role → Role → ℤ) →
      map (row_ticks d v) (junction_rows d.exsub) ≡ map (row_ticks c v) (junction_rows c.exsub)

-- refused alike, or two such cards
abbrev pub Alike : Verdict WorkedCard → Verdict WorkedCard → Type 0
Alike (no f) j = j ≡ no f
Alike (yes c) j = (d : WorkedCard) × (j ≡ yes d) × SameJunctions c d

none_left : (s : Bool) → split_a (round binary64 s 0 1) ≡ 0
unfolding round units odd size
none_left true = refl
none_left false = refl

none_of : (y : Float) → split_a (mul binary64 zero y) ≡ 0
unfolding of_bits mul
none_of nan = refl
none_of (inf s) = refl
none_of (fin s m e) =
    ap split_a
    (round_same binary64 (unlike false s) (0 * (m * up e)) (1 * down e) 0 1 (mul-pos (lit< tt) (down_pos e)) (lit< tt)
    (ap (λ (x : ℕ). x * 1) (zero-mul (m * up e)) ∙ sym (zero-mul (1 * down e))))
    ∙ none_left (unlike false s)

-- ---- a record of version 1 has none

not_wide : (s : List ℕ) → is_narrow s ≡ true → is_wide s ≡ false
not_wide s e = let h = eqb-true (length s) 128 e in rw h

missing_ibr : (s : List ℕ) → is_narrow s ≡ true → at (judged_numbers s) number.ibr ≡ zero
unfolding clipped_up
missing_ibr s e = rw (not_wide s e)

card_is : (s : List ℕ) (c : WorkedCard) → judge_of s ≡ yes c → c ≡ card_of (judged_numbers s)
card_is s c e = (passes s c e).card

reverse_none : (s : List ℕ) (c : WorkedCard) → is_narrow s ≡ true → judge_of s ≡ yes c → c.reverse.a ≡ 0
reverse_none s c n e =
    ap (λ (x : WorkedCard). x.reverse.a) (card_is s c e)
    ∙ ap (λ (x : Float). split_a (mul binary64 x (at (judged_numbers s) number.mult))) (missing_ibr s n)
    ∙ none_of (at (judged_numbers s) number.mult)

-- judged alike, and taken with the same currents in branches 1 to 8 at every voltage; the resistors are version 2's own
pub versions_same_currents : {s t : List ℕ} → SaysNoMore s t → Alike (judge_of s) (judge_of t)
versions_same_currents {s} {t} p = go (judge_of s) refl (versions_agree p)
  where
    own : WorkedCard
    own = card_of (judged_numbers t)

    go : (j : Verdict WorkedCard) → judge_of s ≡ j → judge_of t ≡ judged_with_leads own j → Alike j (judge_of t)
    go (no f) e a = a
    go (yes c) e a =
        let none = reverse_none s c p.first e in (
          with_leads own c,
          a,
          record {
            polarity = refl;
            over = λ v. first_same own c v (junction_rows c.exsub) 1 (all_blind own c v c.exsub none);
            ticks = λ v. ticks_same own c v (junction_rows c.exsub) (all_blind own c v c.exsub none);
          },
        )
