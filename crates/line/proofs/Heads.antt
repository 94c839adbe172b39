-- The first words of a line: one word after the other, and what each brings to the head.
use mathlib.Core.Path.{◌≡◌, sym, ap, ap₂, ◌∙◌}
use mathlib.Core.Bool.{Bool, true, false, not}
use mathlib.Core.List.{List, [], ◌∷◌, map}
use Prim.Native.Nat.{ℕ, ◌-◌}
use native.Mathlib.Omega.{arith}
use lib.ListN.{take, drop}
use Rattle.refusal.specs.declared.Refusal.TheVariants.{BadName, BadLine}
use Rattle.refusal.specs.Order.{Verdict, no, yes, refuse_if}
use Rattle.name.specs.Name.{asked, same}
use Rattle.spelling.specs.Bytes.{bytes}
use Rattle.words.specs.declared.Span.{Span}
use Rattle.words.specs.Words.{part_at}
use Rattle.words.specs.inner.Passing.{outside, FirstWord}
use Rattle.words.proofs.Parts.{part_there}
use Rattle.keys.specs.Keys.{plus_one, minus_one}
use Rattle.line.specs.Line.{Head, words_from, starts_in_space, typed_if, typed, named, headed, head_of}

-- ---- a word more of the line

pub next_words : {line : List ℕ} {at : ℕ} {s : Span} → FirstWord line at s
    → words_from line at ≡ take (s.end - s.start) (drop s.start line) ∷ words_from line s.end
unfolding words_from
next_words {line} {at} {s} v =
    let o = v.order in
    ap (map (part_at line)) v.parted
    ∙ ap (λ (w : List ℕ). w ∷ words_from line s.end) (sym (part_there line s.start s.end (omega arith) v.most))

pub next_none : (line : List ℕ) (at : ℕ) → outside line at ≡ [] → words_from line at ≡ []
unfolding words_from
next_none line at e = ap (map (part_at line)) e

-- ---- the type

module _ (n : List ℕ) {ws : List (List ℕ)} where
  pub type_none : ws ≡ [] → no BadLine ≡ typed n ws
  type_none e = ap (typed n) (sym e)

  module _ {w : List ℕ} {r : List (List ℕ)} (e : ws ≡ w ∷ r) where
    pub type_npn : true ≡ same w (bytes "npn") → yes (record { name = n; sign = plus_one; rest = r }) ≡ typed n ws
    type_npn f = ap (λ (t : Bool). typed_if t (same w (bytes "pnp")) n r) f ∙ ap (typed n) (sym e)

    pub type_pnp : false ≡ same w (bytes "npn") → true ≡ same w (bytes "pnp")
        → yes (record { name = n; sign = minus_one; rest = r }) ≡ typed n ws
    type_pnp f g = ap₂ (λ (s t : Bool). typed_if s t n r) f g ∙ ap (typed n) (sym e)

    pub type_other : false ≡ same w (bytes "npn") → false ≡ same w (bytes "pnp") → no BadLine ≡ typed n ws
    type_other f g = ap₂ (λ (s t : Bool). typed_if s t n r) f g ∙ ap (typed n) (sym e)

-- ---- the name

module _ {ws : List (List ℕ)} where
  pub name_none : ws ≡ [] → no BadLine ≡ named ws
  name_none e = ap named (sym e)

  module _ {w : List ℕ} {r : List (List ℕ)} (e : ws ≡ w ∷ r) where
    pub name_bad : false ≡ asked w → no BadName ≡ named ws
    name_bad f = ap (λ (t : Bool). refuse_if (not t) BadName (typed w r)) f ∙ ap named (sym e)

    pub name_good : {v : Verdict Head} → true ≡ asked w → v ≡ typed w r → v ≡ named ws
    name_good f g = g ∙ ap (λ (t : Bool). refuse_if (not t) BadName (typed w r)) f ∙ ap named (sym e)

-- ---- `.model`

module _ (line : List ℕ) where
  pub space_first : starts_in_space line ≡ true → no BadLine ≡ head_of line
  unfolding head_of
  space_first e = sym (ap (λ (t : Bool). refuse_if t BadLine (headed (words_from line 0))) e)

  module _ (h : starts_in_space line ≡ false) where
    plain : headed (words_from line 0) ≡ head_of line
    unfolding head_of
    plain = sym (ap (λ (t : Bool). refuse_if t BadLine (headed (words_from line 0))) h)

    pub no_word : words_from line 0 ≡ [] → no BadLine ≡ head_of line
    no_word e = ap headed (sym e) ∙ plain

    module _ {w : List ℕ} {r : List (List ℕ)} (e : words_from line 0 ≡ w ∷ r) where
      first : (t : Bool) → t ≡ same w (bytes ".model") → refuse_if (not t) BadLine (named r) ≡ head_of line
      first t f = ap (λ (t : Bool). refuse_if (not t) BadLine (named r)) f ∙ ap headed (sym e) ∙ plain

      pub other_word : false ≡ same w (bytes ".model") → no BadLine ≡ head_of line
      other_word f = first false f

      pub model_word : {v : Verdict Head} → true ≡ same w (bytes ".model") → v ≡ named r → v ≡ head_of line
      model_word f g = g ∙ first true f
