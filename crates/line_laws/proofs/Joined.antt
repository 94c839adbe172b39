-- The words of a line whose words are put together with one space before each but the first.
use mathlib.Core.Path.{◌≡◌, refl, sym, ap, ap₂, ◌∙◌}
use mathlib.Core.Bool.{Bool, true, false, cond, not, ◌&&◌}
use mathlib.Core.List.{List, [], ◌∷◌, ◌++◌, map, append_assoc, append-nil}
use Prim.Native.Nat.{ℕ, suc, ◌+◌, ◌-◌, ◌≤◌, ◌<◌}
use native.Mathlib.Numerals.{add-one}
use native.Mathlib.Omega.{arith}
use lib.Dec.{eqb}
use lib.ListN.{length, take, length-append}
use lib.Seq.{take_at, drop_at}
use Rattle.refusal.specs.Clash.{clash}
use Rattle.spelling.specs.Bytes.{space}
use Rattle.words.specs.declared.Span.{Span}
use Rattle.words.specs.Words.{spans_from, part_of}
use Rattle.words.specs.laws.Split.{spaceless, IsWord}
use Rattle.words.proofs.Parts.{part_there}
use Rattle.line.specs.Line.{words_from}

-- ---- words cut from bytes, w being the part of one that is read

abbrev ended : List ℕ → List (List ℕ) → List (List ℕ)
ended [] ws = ws
ended (x ∷ w) ws = (x ∷ w) ∷ ws

unfoldable cut : List ℕ → List ℕ → List (List ℕ)
cut w [] = ended w []
cut w (b ∷ l) = cond (eqb b space) (ended w (cut [] l)) (cut (w ++ (b ∷ [])) l)

ended_some : (w : List ℕ) (ws : List (List ℕ)) → 0 < length w → ended w ws ≡ w ∷ ws
ended_some [] ws h = absurd (omega arith)
ended_some (x ∷ w) ws h = refl

-- ---- they are the words of the line

abbrev word_at : List ℕ → Span → List ℕ
word_at line s = part_of line s.start s.end

-- the part that is w
here : (pre w l : List ℕ) → part_of (pre ++ (w ++ l)) (length pre) (length pre + length w) ≡ w
here pre w l =
    let a : length pre ≤ length pre + length w = omega arith in
    let b : length pre + length w ≤ length (pre ++ (w ++ l)) = rw (length-append, length-append) (omega arith) in
    let e : length w ≡ length pre + length w - length pre = omega arith in
    sym (part_there (pre ++ (w ++ l)) (length pre) (length pre + length w) a b)
    ∙ ap (take (length pre + length w - length pre)) (drop_at pre (w ++ l) (length pre) refl)
    ∙ take_at w l (length pre + length w - length pre) e

record Cuts (l : List ℕ) : Type 0 where
  outside : (pre : List ℕ) → map (word_at (pre ++ l)) (spans_from false 0 (length pre) l) ≡ cut [] l
  inside : (pre w : List ℕ) → 0 < length w
      → map (word_at (pre ++ (w ++ l))) (spans_from true (length pre) (length pre + length w) l) ≡ cut w l

-- a byte more before the place
one_on : (pre : List ℕ) (b : ℕ) → suc (length pre) ≡ length (pre ++ (b ∷ []))
one_on pre b = rw length-append (omega arith)

by_byte : (b : ℕ) (l : List ℕ) (t : Bool) → eqb b space ≡ t → Cuts l → Cuts (b ∷ l)
unfolding spans_from cut
by_byte b l true e v = record {
  outside = λ pre.
      rw (e, one_on pre b, ← append_assoc pre (b ∷ []) l) (v.outside (pre ++ (b ∷ [])));
  inside = λ pre w h.
      let n : suc (length pre + length w) ≡ length ((pre ++ w) ++ (b ∷ [])) =
      rw (length-append, length-append) (omega arith) in
      let z : pre ++ (w ++ (b ∷ l)) ≡ ((pre ++ w) ++ (b ∷ [])) ++ l =
      sym (append_assoc (pre ++ w) (b ∷ []) l ∙ append_assoc pre w (b ∷ l)) in
      rw (e, n) (ap₂ ◌∷◌ (here pre w (b ∷ l))
      (ap (λ (x : List ℕ). map (word_at x) (spans_from false 0 (length ((pre ++ w) ++ (b ∷ []))) l)) z
      ∙ v.outside ((pre ++ w) ++ (b ∷ []))) ∙ sym (ended_some w (cut [] l) h));
}
by_byte b l false e v = record {
  outside = λ pre. rw (e, ← add-one) (v.inside pre (b ∷ []) (omega arith));
  inside = λ pre w h.
      let n : suc (length pre + length w) ≡ length pre + length (w ++ (b ∷ [])) = rw length-append (omega arith) in
      let z : w ++ (b ∷ l) ≡ (w ++ (b ∷ [])) ++ l = sym (append_assoc w (b ∷ []) l) in
      let k : 0 < length (w ++ (b ∷ [])) = rw length-append (omega arith) in
      rw (e, n, z) (v.inside pre (w ++ (b ∷ [])) k);
}

cuts : (l : List ℕ) → Cuts l
unfolding spans_from cut
cuts [] = record {
  outside = λ pre. refl;
  inside = λ pre w h. ap (λ (x : List ℕ). x ∷ []) (here pre w []) ∙ sym (ended_some w [] h);
}
cuts (b ∷ l) = by_byte b l (eqb b space) refl (cuts l)

words_cut : (line : List ℕ) → words_from line 0 ≡ cut [] line
unfolding words_from
words_cut line = (cuts line).outside []

-- ---- joined words

abbrev pub joined : List (List ℕ) → List ℕ
joined [] = []
joined (w ∷ ws) = space ∷ (w ++ joined ws)

pub joined_two : (a b : List (List ℕ)) → joined (a ++ b) ≡ joined a ++ joined b
joined_two [] b = refl
joined_two (w ∷ a) b =
    ap (λ (t : List ℕ). space ∷ t) (ap (λ (t : List ℕ). w ++ t) (joined_two a b)
    ∙ sym (append_assoc w (joined a) (joined b)))

pub data AllWords : List (List ℕ) → Type 0 where
  none : AllWords []
  more : {w : List ℕ} {ws : List (List ℕ)} → IsWord w → AllWords ws → AllWords (w ∷ ws)

-- bytes that are no space go on with the word
goes_on : (w v l : List ℕ) → spaceless v ≡ true → cut w (v ++ l) ≡ cut (w ++ v) l
unfolding cut
goes_on w [] l h = ap (λ (x : List ℕ). cut x l) (sym (append-nil w))
goes_on w (b ∷ v) l h = by (eqb b space) refl h (goes_on (w ++ (b ∷ [])) v l)
  where
    by : (t : Bool) → eqb b space ≡ t → not t && spaceless v ≡ true
        → (spaceless v ≡ true → cut (w ++ (b ∷ [])) (v ++ l) ≡ cut ((w ++ (b ∷ [])) ++ v) l)
        → cond (eqb b space) (ended w (cut [] (v ++ l))) (cut (w ++ (b ∷ [])) (v ++ l)) ≡ cut (w ++ (b ∷ v)) l
    by true e h f = clash cc
    by false e h f = rw e (f h ∙ ap (λ (x : List ℕ). cut x l) (append_assoc w (b ∷ []) v))

cut_joined : (w : List ℕ) (ws : List (List ℕ)) → 0 < length w → AllWords ws → cut w (joined ws) ≡ w ∷ ws
unfolding cut
cut_joined w [] h none = ended_some w [] h
cut_joined w (v ∷ ws) h (more p q) =
    ended_some w (cut [] (v ++ joined ws)) h
    ∙ ap (λ (x : List (List ℕ)). w ∷ x) (goes_on [] v (joined ws) p.letters ∙ cut_joined v ws p.some q)

pub words_joined : (w : List ℕ) (ws : List (List ℕ)) → IsWord w → AllWords ws
    → words_from (w ++ joined ws) 0 ≡ w ∷ ws
words_joined w ws p q = words_cut (w ++ joined ws) ∙ goes_on [] w (joined ws) p.letters ∙ cut_joined w ws p.some q
