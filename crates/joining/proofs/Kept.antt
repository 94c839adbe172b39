-- Bytes and texts kept in a room, a carriage return, and what a line is.
use mathlib.Core.Path.{◌≡◌, refl, sym, ap, ◌∙◌}
use mathlib.Core.Bool.{Bool, true, false, cond}
use mathlib.Core.List.{List, [], ◌∷◌, ◌++◌, append_assoc}
use Prim.Native.Nat.{ℕ, ◌+◌, ◌-◌, ◌≤◌, ◌<◌}
use Rattle.std.specs.Prelude.{min}
use Rattle.std.proofs.lemmas.List.{take_min}
use native.Mathlib.Numerals.{add-one}
use native.Mathlib.Omega.{arith}
use borrow.Author.Tests.{lt-ltb, le-ltb, eq-eqb, ne_eqb}
use lib.Dec.{eqb, ltb}
use lib.ListN.{length, take, get_or, set, length-set}
use lib.Seq.{take_all, take_at, take-append-add, take-suc-set, length-take-le}
use Rattle.trimming.specs.Trimmed.{from_first, to_last, trimmed}
use Rattle.joining.specs.declared.Kind.TheVariants.{Passed, Model, More}
use Rattle.joining.specs.Lines.{longest_line, line_room, star_byte, plus_byte, return_byte, marked, kept_if, with_byte}
use Rattle.joining.specs.Lines.{with_text, bare_of, first_if, kind_if, kind_of}

-- ---- a byte more

pub byte_put : (l : List ℕ) (n b : ℕ) → length l ≡ line_room → n < line_room
    → take (n + 1) (set l n b) ≡ with_byte (take n l) b
unfolding with_byte
byte_put l n b e h =
    let long : length (take n l) ≡ n = length-take-le n l (omega arith) in
    ap (λ (i : ℕ). take i (set l n b)) (add-one n) ∙ take-suc-set l n b (omega arith)
    ∙ sym (ap (λ (t : Bool). kept_if t (take n l) b) (lt-ltb (length (take n l)) line_room (omega arith)))

pub byte_over : (l : List ℕ) (n b x : ℕ) → length l ≡ line_room → line_room ≤ n
    → x ≡ marked (get_or l longest_line 0) (get_or l (longest_line + 1) 0)
    → take line_room (set (set l longest_line x) (longest_line + 1) b) ≡ with_byte (take n l) b
unfolding with_byte
byte_over l n b x e h f =
    let m : List ℕ = set l longest_line x in
    let all : take n l ≡ l = take_all n l (omega arith) in
    take-suc-set m (longest_line + 1) b (let k = length-set l longest_line x in omega arith)
    ∙ ap (λ (t : List ℕ). t ++ (b ∷ [])) (take-suc-set l longest_line x (omega arith))
    ∙ append_assoc (take longest_line l) (x ∷ []) (b ∷ [])
    ∙ ap (λ (y : ℕ). take longest_line l ++ (y ∷ b ∷ [])) f
    ∙ sym (ap (λ (t : Bool). kept_if t l b) (le-ltb (length l) line_room (omega arith)))
    ∙ ap (λ (t : List ℕ). kept_if (ltb (length t) line_room) t b) (sym all)

-- ---- a text more

pub text_over : (l text : List ℕ) (n : ℕ) → length l ≡ line_room → line_room ≤ n → take n l ≡ with_text (take n l) text
unfolding with_text
text_over l text n e h =
    let all : take n l ≡ l = take_all n l (omega arith) in
    sym (ap (λ (t : List ℕ). take line_room (t ++ text)) all ∙ take_at l text line_room e ∙ sym all)

pub text_more : (l text : List ℕ) (n k : ℕ) → length l ≡ line_room → n < line_room
    → k ≡ min (line_room - n) (length text) → take n l ++ take k text ≡ with_text (take n l) text
unfolding with_text
text_more l text n k e h q =
    let long : length (take n l) ≡ n = length-take-le n l (omega arith) in
    let whole : length (take n l) + (line_room - n) ≡ line_room = omega arith in
    ap (λ (t : List ℕ). take n l ++ t) (ap (λ (i : ℕ). take i text) q ∙ take_min (line_room - n) text)
    ∙ sym (take-append-add (take n l) text (line_room - n))
    ∙ ap (λ (i : ℕ). take i (take n l ++ text)) whole

-- ---- a carriage return

pub bare_none : (l : List ℕ) → length l ≡ 0 → l ≡ bare_of l
unfolding bare_of
bare_none [] h = refl
bare_none (b ∷ l) h = absurd (omega arith)

pub bare_return : (l : List ℕ) → get_or l (length l - 1) 0 ≡ return_byte
    → take (length l - 1) l ≡ bare_of l
unfolding bare_of
bare_return l e =
    sym (ap (λ (t : Bool). cond t (take (length l - 1) l) l) (eq-eqb (get_or l (length l - 1) 0) return_byte e))

pub bare_other : (l : List ℕ) → (get_or l (length l - 1) 0 ≡ return_byte → ⊥) → l ≡ bare_of l
unfolding bare_of
bare_other l e =
    sym (ap (λ (t : Bool). cond t (take (length l - 1) l) l) (ne_eqb (get_or l (length l - 1) 0) return_byte e))

-- ---- what a line is

pub kind_blank : (l t : List ℕ) → t ≡ trimmed l → length t ≡ 0 → Passed ≡ kind_of l
unfolding kind_of
kind_blank l t e h = sym (ap (λ (b : Bool). kind_if b (get_or l 0 0))
    (eq-eqb (length (trimmed l)) 0 (ap length (sym e) ∙ h)))

pub kind_none : (l : List ℕ) → length l ≡ 0 → Passed ≡ kind_of l
unfolding kind_of trimmed from_first to_last
kind_none [] h = refl
kind_none (b ∷ l) h = absurd (omega arith)

module _ (l t : List ℕ) (e : t ≡ trimmed l) (h : length t ≡ 0 → ⊥) where
  by_first : (p q : Bool) → eqb (get_or l 0 0) star_byte ≡ p → eqb (get_or l 0 0) plus_byte ≡ q → first_if p q ≡ kind_of l
  unfolding kind_of
  by_first p q a b =
      sym (ap (λ (x : Bool). kind_if x (get_or l 0 0))
      (ne_eqb (length (trimmed l)) 0 (λ (z : length (trimmed l) ≡ 0). h (ap length e ∙ z)))
      ∙ ap (λ (x : Bool). first_if x (eqb (get_or l 0 0) plus_byte)) a ∙ ap (first_if p) b)

  pub kind_comment : get_or l 0 0 ≡ star_byte → Passed ≡ kind_of l
  kind_comment a = by_first true (eqb (get_or l 0 0) plus_byte) (eq-eqb _ star_byte a) refl

  module _ (a : get_or l 0 0 ≡ star_byte → ⊥) where
    pub kind_more : get_or l 0 0 ≡ plus_byte → More ≡ kind_of l
    kind_more b = by_first false true (ne_eqb _ star_byte a) (eq-eqb _ plus_byte b)

    pub kind_model : (get_or l 0 0 ≡ plus_byte → ⊥) → Model ≡ kind_of l
    kind_model b = by_first false false (ne_eqb _ star_byte a) (ne_eqb _ plus_byte b)
