-- The words of a line are a plain split of it at spaces: spaces and words joined in their order are the line, no word
-- is empty or holds a space, and two words have a space between them.
use Rattle.std.specs.Prelude.{◌≡◌, refl, Bool, true, false, not, ◌&&◌, List, [], ◌∷◌, ◌++◌, ℕ, suc, ◌+◌, ◌<◌, eqb, length}
use Rattle.std.proofs.Common.{append_assoc, add-one, arith, eqb-true, length-append}
use Rattle.spelling.specs.Bytes.{space}
use Rattle.words.specs.declared.Span.{Span}
use Rattle.words.specs.Words.{span, spans_from, spans_of}

abbrev pub spaceless : List ℕ → Bool
spaceless [] = true
spaceless (b ∷ l) = not (eqb b space) && spaceless l

-- the bytes of a word
pub record IsWord (w : List ℕ) : Type 0 where
  pub some : 0 < length w
  pub letters : spaceless w ≡ true

-- what may follow a word: nothing, or a space and whatever comes
abbrev pub Apart : List ℕ → Type 0
Apart [] = Unit
Apart (b ∷ l) = b ≡ space

-- bytes from the place `at` on, and the places of their words: nothing; a space, then such bytes; a word, then such
pub data Split : ℕ → List ℕ → List Span → Type 0 where
  nothing : {at : ℕ} → Split at [] []
  gap : {at b : ℕ} {l : List ℕ} {s : List Span} → b ≡ space → Split (suc at) l s → Split at (b ∷ l) s
  word : {at : ℕ} {w l : List ℕ} {s : List Span} → IsWord w → Apart l → Split (at + length w) l s
      → Split at (w ++ l) (span at (at + length w) ∷ s)

-- outside a word, and in the midst of one of which w is read
record Splits (l : List ℕ) : Type 0 where
  outside : (at : ℕ) → Split at l (spans_from false 0 at l)
  inside : (start : ℕ) (w : List ℕ) → IsWord w → Split start (w ++ l) (spans_from true start (start + length w) l)

-- a letter more
longer : (w : List ℕ) (b : ℕ) → IsWord w → eqb b space ≡ false → IsWord (w ++ b ∷ [])
longer w b h e = record { some = rw length-append (omega arith); letters = on w h.letters }
  where
    then : (t : Bool) {x y : Bool} → (x ≡ true → y ≡ true) → t && x ≡ true → t && y ≡ true
    then true f g = f g
    then false f g = g

    on : (w : List ℕ) → spaceless w ≡ true → spaceless (w ++ b ∷ []) ≡ true
    on [] g = rw e
    on (c ∷ w) g = then (not (eqb c space)) (on w) g

by_byte : (b : ℕ) (l : List ℕ) (t : Bool) → eqb b space ≡ t → Splits l → Splits (b ∷ l)
unfolding spans_from
by_byte b l true e v =
    let sp = eqb-true b space e in
    record {
      outside = λ at. rw e (gap sp (v.outside (suc at)));
      inside = λ start w h. rw e (word h sp (gap sp (v.outside (suc _))));
    }
by_byte b l false e v =
    record {
      outside = λ at.
          rw (e, ← add-one) (v.inside at (b ∷ []) (record { some = omega arith; letters = rw e }));
      inside = λ start w h.
          let n : suc (start + length w) ≡ start + length (w ++ b ∷ []) = rw length-append (omega arith) in
          rw (e, n, ← append_assoc w (b ∷ []) l) (v.inside start (w ++ b ∷ []) (longer w b h e));
    }

all_splits : (l : List ℕ) → Splits l
unfolding spans_from
all_splits [] = record { outside = λ at. nothing; inside = λ start w h. word h tt nothing }
all_splits (b ∷ l) = by_byte b l (eqb b space) refl (all_splits l)

pub words_split : (line : List ℕ) → Split 0 line (spans_of line)
words_split line = (all_splits line).outside 0
