-- A line that was read is written again, whatever it was, and reading that changes nothing.
use mathlib.Core.Path.{◌≡◌, refl, sym, ap, ap₂, ◌∙◌}
use mathlib.Core.Bool.{true, ◌&&◌, ◌||◌}
use mathlib.Core.List.{List, [], ◌∷◌, ◌++◌}
use mathlib.Core.Logic.{◌⊎◌, inl, inr}
use Prim.Native.Nat.{ℕ, zero, suc, ◌+◌, ◌*◌, ◌^◌, ◌≤◌, ◌<◌}
use native.Mathlib.Omega.{arith}
use borrow.Author.Tests.{eq-eqb}
use lib.Dec.{eqb, lit<, lit≤}
use lib.ListN.{length, take, drop, get_or}
use lib.Seq.{take-suc, take_all, drop-drop}
use Rattle.refusal.specs.Order.{yes}
use Rattle.bytes_le.specs.Le.{le, le_bytes, Below}
use Rattle.clip.specs.Numbers.{polarity, spare}
use Rattle.clip.specs.Record.{is_wide, word_at}
use Rattle.directory.specs.Format.{bytes_of_all}
use Rattle.copying.proofs.BytesWritten.{length_all}
use Rattle.std.specs.Prelude.{Option, Some, None}
use Rattle.decimal.specs.declared.Decimal.{Decimal}
use Rattle.shortest.specs.Form.{form_of}
use Rattle.decimal_laws.proofs.Numbered.{Numbered, numbered_form, numbered_below}
use Rattle.keys.specs.Keys.{key_count, plus_one, minus_one}
use Rattle.line.specs.Line.{Model, line_of}
use Rattle.keyed.specs.Keyed.{is_form, forms_up}
use Rattle.line_write.specs.Text.{settled, line_text, text_of}
use Rattle.line_laws.proofs.Taking.{words_up}
use Rattle.line_laws.proofs.Back.{line_after_record, below_all}
use Rattle.line_laws.proofs.Sound.{GoodModel, line_good}

-- ---- the words in a record's bytes

word_at_lem : (ws : List ℕ) → Below (2 ^ 64) ws → (k : ℕ) → k < length ws → word_at (bytes_of_all ws) k ≡ get_or ws k 0
word_at_lem [] b k h = absurd (omega arith)
word_at_lem (x ∷ ws) b zero h = le_bytes 8 x (b 0)
word_at_lem (x ∷ ws) b (suc k) h =
    let e : 8 * suc k ≡ 8 + 8 * k = omega arith in
    ap (λ (i : ℕ). le (take 8 (drop i (bytes_of_all (x ∷ ws))))) e
    ∙ ap (λ (l : List ℕ). le (take 8 l)) (sym (drop-drop (8 * k) 8 (bytes_of_all (x ∷ ws))))
    ∙ word_at_lem ws (λ i. b (suc i)) k (omega arith)

words_up_lem : (ws : List ℕ) → Below (2 ^ 64) ws → (n : ℕ) → n ≤ length ws → words_up (bytes_of_all ws) n ≡ take n ws
words_up_lem ws b zero h = refl
words_up_lem ws b (suc n) h =
    ap₂ (λ (l : List ℕ) (x : ℕ). l ++ (x ∷ [])) (words_up_lem ws b n (omega arith)) (word_at_lem ws b n h)
    ∙ sym (take-suc ws n 0 h)

-- ---- what the writer asks

has_form : (w : ℕ) → Numbered w → is_form (form_of w) ≡ true
has_form w v = by (form_of w) refl
  where
    by : (f : Option Decimal) → form_of w ≡ f → is_form f ≡ true
    by (Some x) e = refl
    by None e = absurd (numbered_form w v e)

module _ (m : Model) (g : GoodModel m) where
  below : Below (2 ^ 64) m.words
  below i = numbered_below _ (g.sound.numbered i)

  at : (k : ℕ) → k < 24 → word_at (bytes_of_all m.words) k ≡ get_or m.words k 0
  at k h = word_at_lem m.words below k (let l = g.sound.long in omega arith)

  is_wide_lem : is_wide (bytes_of_all m.words) ≡ true
  is_wide_lem = eq-eqb _ _ (length_all m.words ∙ ap (λ (n : ℕ). 8 * n) g.sound.long)

  forms : (n : ℕ) → n ≤ 24 → forms_up (bytes_of_all m.words) n ≡ true
  unfolding forms_up
  forms zero h = refl
  forms (suc n) h =
      ap₂ ◌&&◌ (forms n (omega arith)) (ap (λ (w : ℕ). is_form (form_of w)) (at n h) ∙ has_form _ (g.sound.numbered n))

  polar : (p : ℕ) → (p ≡ plus_one) ⊎ (p ≡ minus_one) → eqb p plus_one || eqb p minus_one ≡ true
  polar p (inl e) = rw e
  polar p (inr e) = rw e

  is_settled : settled (bytes_of_all m.words) ≡ true
  unfolding settled
  is_settled =
      ap₂ ◌&&◌ (ap (λ (p : ℕ). eqb p plus_one || eqb p minus_one) (at polarity (lit< tt)) ∙ polar _ g.polar)
      (ap₂ ◌&&◌ (eq-eqb _ 0 (at spare (lit< tt) ∙ g.sound.first_spare))
      (eq-eqb _ 0 (at (spare + 1) (lit< tt) ∙ g.sound.last_spare)))

  written : text_of m.name (bytes_of_all m.words) ≡ yes (line_text m.name (bytes_of_all m.words))
  unfolding text_of
  written = rw (is_wide_lem, g.asks, is_settled, forms key_count (lit≤ tt))

  same_words : words_up (bytes_of_all m.words) 24 ≡ m.words
  same_words =
      let l = g.sound.long in
      words_up_lem m.words below 24 (omega arith) ∙ take_all 24 m.words (omega arith)

-- the writer takes every card that the reader gives, and reading its line gives that very card
pub record_after_line : (line : List ℕ) (m : Model) → line_of line ≡ yes m
    → (text_of m.name (bytes_of_all m.words) ≡ yes (line_text m.name (bytes_of_all m.words)))
    × (line_of (line_text m.name (bytes_of_all m.words)) ≡ yes m)
record_after_line line m e =
    let g = line_good line m e in
    let rec = bytes_of_all m.words in (
      written m g,
      (line_after_record m.name rec (line_text m.name rec) (written m g) (below_all m.words)).0
          ∙ ap (λ (ws : List ℕ). yes (record { name = m.name; words = ws })) (same_words m g),
    )
