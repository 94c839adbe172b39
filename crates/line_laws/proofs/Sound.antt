-- The words that a line is read as: each is a number's, and so has a form.
use mathlib.Core.Path.{◌≡◌, refl, ap, ◌∙◌, subst}
use mathlib.Core.Bool.{Bool, true, false, not}
use mathlib.Core.List.{List, [], ◌∷◌, ◌++◌, map}
use mathlib.Core.Logic.{◌⊎◌, inl, inr}
use Prim.Native.Nat.{ℕ, zero, suc, ◌+◌, ◌<◌}
use native.Mathlib.Omega.{arith}
use borrow.Author.Tests.{leb-false}
use lib.Dec.{leb, lit<}
use lib.ListN.{length, drop, get_or, set, length-set}
use lib.Seq.{get_or-set_same, get_or-set_other}
use Rattle.refusal.specs.Clash.{clash}
use Rattle.refusal.specs.declared.Refusal.TheVariants.{BadName, BadKey, KeyMissing, BadLine}
use Rattle.refusal.specs.Order.{Verdict, no, yes, and_then, passes_if}
use Rattle.name.specs.Name.{asked, same}
use Rattle.clip.specs.Numbers.{octave, polarity, spare}
use Rattle.spelling.specs.Bytes.{bytes}
use Rattle.decimal.specs.Decimal.{word_of, value_of}
use Rattle.std.specs.Prelude.{Option, Some, None}
use Rattle.decimal_read.specs.Text.{word_read}
use Rattle.decimal_laws.proofs.Numbered.{Numbered, read_numbered}
use lib.Ieee.{round, to_bits}
use Rattle.keys.specs.Keys.{Key, keys, key_count, word_in, defaults, plus_one, minus_one}
use Rattle.line.specs.Line.{Head, Taken, Model, none_taken, equals_at, key_of, number_of, with_number, take_key}
use Rattle.line.specs.Line.{take_keys}
use Rattle.line.specs.Line.{typed_if, typed, named, headed, head_of, starts_in_space, ends_in_space, words_from, model_of}
use Rattle.line.specs.Line.{closed, line_of}

-- ---- words of which each is a number's; past their end there is 0, which is one

abbrev pub AllNumbered : List ℕ → Type 0
AllNumbered ws = (k : ℕ) → Numbered (get_or ws k 0)

-- 0e0, 1e0 and -1e0
zero_numbered : Numbered 0
unfolding word_of value_of round to_bits
zero_numbered =
    record { minus = false; digits = 0; power = 22; back = record { digits = lit< tt; power = lit< tt; bits = refl } }

plus_numbered : Numbered plus_one
unfolding word_of value_of round to_bits
plus_numbered =
    record { minus = false; digits = 1; power = 22; back = record { digits = lit< tt; power = lit< tt; bits = refl } }

minus_numbered : Numbered minus_one
unfolding word_of value_of round to_bits
minus_numbered =
    record { minus = true; digits = 1; power = 22; back = record { digits = lit< tt; power = lit< tt; bits = refl } }

none_in : AllNumbered []
none_in k = zero_numbered

more_in : (x : ℕ) (ws : List ℕ) → Numbered x → AllNumbered ws → AllNumbered (x ∷ ws)
more_in x ws n v zero = n
more_in x ws n v (suc k) = v k

two_in : (a b : List ℕ) → AllNumbered a → AllNumbered b → AllNumbered (a ++ b)
two_in [] b v w = w
two_in (x ∷ a) b v w = more_in x (a ++ b) (v 0) (two_in a b (λ k. v (suc k)) w)

set_in : (ws : List ℕ) (i x : ℕ) → AllNumbered ws → Numbered x → AllNumbered (set ws i x)
set_in [] i x v n = v
set_in (y ∷ ws) zero x v n = more_in x ws n (λ k. v (suc k))
set_in (y ∷ ws) (suc i) x v n = more_in y (set ws i x) (v 0) (set_in ws i x (λ k. v (suc k)) n)

-- a default, which is +0 where the key must be given
default_in : (s : List ℕ) (r : Option ℕ) → word_read s ≡ r → Numbered (word_in r)
default_in s (Some w) e = read_numbered s w e
default_in s None e = zero_numbered

abbrev default_of : Key → ℕ
default_of k = word_in (word_read k.default)

defaults_in : (l : List Key) → AllNumbered (map default_of l)
defaults_in [] = none_in
defaults_in (k ∷ l) =
    more_in (default_of k) (map default_of l) (default_in k.default (word_read k.default) refl) (defaults_in l)

-- ---- what is taken of a line

-- as many words as a record has, each a number's, and spare words that are +0
pub record Sound (ws : List ℕ) : Type 0 where
  pub long : length ws ≡ 24
  pub numbered : AllNumbered ws
  pub first_spare : get_or ws spare 0 ≡ 0
  pub last_spare : get_or ws (spare + 1) 0 ≡ 0

last_words : AllNumbered (plus_one ∷ 0 ∷ 0 ∷ [])
last_words zero = plus_numbered
last_words (suc zero) = zero_numbered
last_words (suc (suc zero)) = zero_numbered
last_words (suc (suc (suc k))) = zero_numbered

sound_first : Sound defaults
unfolding defaults
sound_first =
    record {
      long = refl;
      numbered = two_in (map default_of keys) (plus_one ∷ 0 ∷ 0 ∷ []) (defaults_in keys) last_words;
      first_spare = refl;
      last_spare = refl;
    }

sound_set : (ws : List ℕ) (i x : ℕ) → Sound ws → i < spare → Numbered x → Sound (set ws i x)
sound_set ws i x v h n =
    record {
      long = length-set ws i x ∙ v.long;
      numbered = set_in ws i x v.numbered n;
      first_spare = get_or-set_other ws i spare x 0 (λ (e : spare ≡ i). omega arith) ∙ v.first_spare;
      last_spare = get_or-set_other ws i (spare + 1) x 0 (λ (e : spare + 1 ≡ i). omega arith) ∙ v.last_spare;
    }

words_in : Verdict Taken → List ℕ
words_in (no f) = []
words_in (yes t) = t.words

number_sound : (s t : Taken) (k : ℕ) (text : List ℕ) (r : Option ℕ) → word_read text ≡ r → k < key_count → Sound s.words
    → with_number s k r ≡ yes t → Sound t.words
unfolding words_in
number_sound s t k text (Some x) e h v g =
    subst Sound (ap words_in g) (sound_set s.words k x v (omega arith) (read_numbered text x e))
number_sound s t k text None e h v g = clash cc

key_sound : (s t : Taken) (w : List ℕ) → Sound s.words → take_key s w ≡ yes t → Sound t.words
unfolding take_key
key_sound s t w v e =
    let a = passes_if (leb (length w) (equals_at w)) BadLine _ t e in
    let b = passes_if (leb key_count (key_of w)) BadKey _ t a.1 in
    let c = passes_if (get_or s.given (key_of w) false) BadKey _ t b.1 in
    number_sound s t (key_of w) (drop (suc (equals_at w)) w) (number_of w) refl (leb-false _ _ b.0) v c.1

keys_sound : (s t : Taken) (ws : List (List ℕ)) → Sound s.words → take_keys s ws ≡ yes t → Sound t.words
unfolding take_keys words_in
keys_sound s t [] v e = subst Sound (ap words_in e) v
keys_sound s t (w ∷ ws) v e = by (take_key s w) refl e (λ (u : Taken). keys_sound u t ws)
  where
    by : (r : Verdict Taken) → take_key s w ≡ r → and_then r (λ (u : Taken). take_keys u ws) ≡ yes t
        → ((u : Taken) → Sound u.words → take_keys u ws ≡ yes t → Sound t.words) → Sound t.words
    by (no f) g e on = clash cc
    by (yes u) g e on = on u (key_sound s u w v g) e

-- ---- the head

pub record GoodHead (h : Head) : Type 0 where
  pub asks : asked h.name ≡ true
  pub sign : (h.sign ≡ plus_one) ⊎ (h.sign ≡ minus_one)

not_false : (b : Bool) → not b ≡ false → b ≡ true
not_false true e = refl
not_false false e = clash cc

head_in : Head → Verdict Head → Head
head_in d (no f) = d
head_in d (yes h) = h

typed_good : (a b : Bool) (n : List ℕ) (ws : List (List ℕ)) (h : Head) → asked n ≡ true → typed_if a b n ws ≡ yes h
    → GoodHead h
unfolding head_in
typed_good true b n ws h g e = subst GoodHead (ap (head_in h) e) (record { asks = g; sign = inl refl })
typed_good false true n ws h g e = subst GoodHead (ap (head_in h) e) (record { asks = g; sign = inr refl })
typed_good false false n ws h g e = clash cc

type_good : (n : List ℕ) (ws : List (List ℕ)) (h : Head) → asked n ≡ true → typed n ws ≡ yes h → GoodHead h
type_good n [] h g e = clash cc
type_good n (t ∷ ws) h g e = typed_good (same t (bytes "npn")) (same t (bytes "pnp")) n ws h g e

named_good : (ws : List (List ℕ)) (h : Head) → named ws ≡ yes h → GoodHead h
named_good [] h e = clash cc
named_good (n ∷ ws) h e =
    let a = passes_if (not (asked n)) BadName (typed n ws) h e in type_good n ws h (not_false _ a.0) a.1

headed_good : (ws : List (List ℕ)) (h : Head) → headed ws ≡ yes h → GoodHead h
headed_good [] h e = clash cc
headed_good (w ∷ ws) h e =
    named_good ws h (passes_if (not (same w (bytes ".model"))) BadLine (named ws) h e).1

head_good : (line : List ℕ) (h : Head) → head_of line ≡ yes h → GoodHead h
unfolding head_of
head_good line h e = headed_good (words_from line 0) h (passes_if (starts_in_space line) BadLine _ h e).1

-- ---- the whole line

-- a name as it is asked for, and a sound record whose polarity is +1 or -1
pub record GoodModel (m : Model) : Type 0 where
  pub asks : asked m.name ≡ true
  pub sound : Sound m.words
  pub polar : (get_or m.words polarity 0 ≡ plus_one) ⊎ (get_or m.words polarity 0 ≡ minus_one)

model_in : Model → Verdict Model → Model
model_in d (no f) = d
model_in d (yes m) = m

sign_numbered : (x : ℕ) → (x ≡ plus_one) ⊎ (x ≡ minus_one) → Numbered x
sign_numbered x (inl e) = rw e plus_numbered
sign_numbered x (inr e) = rw e minus_numbered

-- the polarity put among the words
model_good : (h : Head) (ws : List ℕ) → GoodHead h → Sound ws → GoodModel (model_of h ws)
model_good h ws g v =
    let s = h.sign in
    let e : get_or (set ws polarity s) polarity 0 ≡ s =
    get_or-set_same ws polarity s 0 (let l = v.long in omega arith) in
    record {
      asks = g.asks;
      sound = sound_set ws polarity s v (lit< tt) (sign_numbered s g.sign);
      polar = rw e g.sign;
    }

closed_good : (line : List ℕ) (h : Head) (s : Taken) (m : Model) → GoodHead h → Sound s.words
    → closed line h s ≡ yes m → GoodModel m
unfolding model_in
closed_good line h s m g v e =
    let a = passes_if (ends_in_space line) BadLine _ m e in
    let b = passes_if (not (get_or s.given octave false)) KeyMissing _ m a.1 in
    subst GoodModel (ap (model_in m) b.1) (model_good h s.words g v)

pub line_good : (line : List ℕ) (m : Model) → line_of line ≡ yes m → GoodModel m
unfolding line_of
line_good line m e = by (head_of line) refl e
  where
    then : (h : Head) → GoodHead h → (r : Verdict Taken) → take_keys none_taken h.rest ≡ r
        → and_then r (λ (s : Taken). closed line h s) ≡ yes m → GoodModel m
    then h g (no f) k e = clash cc
    then h g (yes s) k e = closed_good line h s m g (keys_sound none_taken s h.rest sound_first k) e

    by : (r : Verdict Head) → head_of line ≡ r
        → and_then r (λ (h : Head). and_then (take_keys none_taken h.rest) (λ (s : Taken). closed line h s)) ≡ yes m
        → GoodModel m
    by (no f) k e = clash cc
    by (yes h) k e = then h (head_good line h k) (take_keys none_taken h.rest) refl e
