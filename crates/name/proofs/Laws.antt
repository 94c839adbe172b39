-- The tests of a name's bytes on plain values, its padding, and what two equal words say of two names.
use mathlib.Core.Path.{◌≡◌, refl, sym, ◌∙◌, ap, ap₂}
use mathlib.Core.Bool.{Bool, true, false, cond, ◌&&◌, true≢false}
use mathlib.Core.List.{List, [], ◌∷◌, ◌++◌}
use Prim.Native.Nat.{ℕ, zero, suc, ◌+◌, ◌-◌, ◌^◌, ◌<◌, ◌≤◌, min, zero-le}
use native.Mathlib.Nat.{le_of_eq, sub-zero}
use native.Mathlib.Numerals.{add-one}
use native.Mathlib.Omega.{arith}
use borrow.Author.Tests.{lt-leb, le-leb, eqb-true, eqb-false, eq-eqb, ne_eqb, lt-ltb, le-ltb}
use lib.Dec.{eqb}
use lib.ListN.{length, take, drop, get_or, set, replicate, length-append, length-drop, length-take, length-set}
use lib.ListN.{length-replicate}
use Rattle.std.proofs.lemmas.List.{take_min}
use lib.Seq.{take-add, take_at, drop_at, drop-cons, take_all, take-suc, set_at, append_snoc, length-take-le}
use Rattle.bytes_le.specs.Le.{le, bytes_of, Word, le_bytes, length_bytes}
use Rattle.bytes_le.proofs.Laws.{rest}
use Rattle.name.specs.Name.{name_length, mark, run, zeros, well_formed, asked, padded, same, same_equal, same_self}

pub and_true : {a b : Bool} → a ≡ true → a && b ≡ b
and_true {a} {b} e = ap (λ (t : Bool). t && b) e

pub and_false : {a : Bool} → a ≡ false → (b : Bool) → a && b ≡ false
and_false e b = ap (λ (t : Bool). t && b) e

-- ---- the leading bytes

run_step : (t : Bool) (m n : ℕ) → m ≤ n → cond t (suc m) 0 ≤ suc n
run_step true m n h = omega arith
run_step false m n h = omega arith

pub run_within : (s : List ℕ) → run s ≤ length s
run_within [] = omega arith
run_within (b ∷ s) = run_step (mark b) (run s) (length s) (run_within s)

-- ---- the tests of a whole name

module _ (s : List ℕ) where
  pub not_sixteen : (length s ≡ name_length → ⊥) → false ≡ well_formed s
  unfolding well_formed
  not_sixteen h = sym (and_false (ne_eqb (length s) name_length h) _)

  module _ (h : length s ≡ name_length) {k : ℕ} (e : k ≡ run s) where
    pub no_mark : k ≡ 0 → false ≡ well_formed s
    unfolding well_formed
    no_mark z =
        let l : run s ≤ 0 = omega arith in sym
        (and_true (eq-eqb (length s) name_length h) ∙ and_false (le-ltb 0 (run s) l) _)

    -- t is what was found of the part after the k leading bytes
    pub then_zeros : (k ≡ 0 → ⊥) → (t : Bool) → t ≡ zeros (take (length s - k) (drop k s)) → t ≡ well_formed s
    unfolding well_formed
    then_zeros z t f =
        let l : 0 < run s = omega arith in
        f ∙ ap zeros (rest s k ∙ ap (λ (n : ℕ). drop n s) e)
        ∙ sym (and_true (eq-eqb (length s) name_length h) ∙ and_true (lt-ltb 0 (run s) l))

module _ (x : List ℕ) where
  pub asked_none : length x ≤ 0 → false ≡ asked x
  unfolding asked
  asked_none h = sym (and_false (le-ltb 0 (length x) h) _)

  module _ (h : 0 < length x) where
    pub asked_long : name_length < length x → false ≡ asked x
    unfolding asked
    asked_long l = sym (and_true (lt-ltb 0 (length x) h) ∙ and_false (lt-leb (length x) name_length l) _)

    pub asked_run : length x ≤ name_length → {k : ℕ} → k ≡ run x → eqb k (length x) ≡ asked x
    unfolding asked
    asked_run l e =
        ap (λ (n : ℕ). eqb n (length x)) e
        ∙ sym (and_true (lt-ltb 0 (length x) h) ∙ and_true (le-leb (length x) name_length l))

-- ---- filling a list from its front

-- cur is new as far as i, and old from there on
pub record Filled (new old cur : List ℕ) (i : ℕ) : Type 0 where
  pub fits : length new ≤ length old
  pub within : i ≤ length new
  pub kept : length cur ≡ length old
  pub so_far : cur ≡ take i new ++ drop i old

pub fill_first : {new old : List ℕ} → length new ≤ length old → Filled new old old 0
fill_first h = record { fits = h; within = zero-le; kept = refl; so_far = refl }

module _ {new old cur : List ℕ} {i : ℕ} (v : Filled new old cur i) where
  pub fill_more : (x : ℕ) → i < length new → x ≡ get_or new i 0 → Filled new old (set cur i x) (i + 1)
  fill_more x h e =
      let ho : i < length old = let f = v.fits in omega arith in
      let apart : cur ≡ take i new ++ get_or old i 0 ∷ drop (suc i) old = v.so_far
      ∙ ap (λ (l : List ℕ). take i new ++ l) (drop-cons old i 0 ho) in
      let stored : set cur i x ≡ take i new ++ x ∷ drop (suc i) old =
      ap (λ (l : List ℕ). set l i x) apart
      ∙ set_at (take i new) (get_or old i 0) (drop (suc i) old) x i (length-take-le i new v.within) in
      let longer : take i new ++ x ∷ drop (suc i) old ≡ take (suc i) new ++ drop (suc i) old =
      ap (λ (y : ℕ). take i new ++ y ∷ drop (suc i) old) e
      ∙ sym (append_snoc (take i new) (get_or new i 0) (drop (suc i) old))
      ∙ ap (λ (l : List ℕ). l ++ drop (suc i) old) (sym (take-suc new i 0 h)) in
      record {
        fits = v.fits;
        within = omega arith;
        kept = length-set cur i x ∙ v.kept;
        so_far = stored ∙ longer ∙ ap (λ (n : ℕ). take n new ++ drop n old) (sym (add-one i));
      }

  pub fill_all : length new ≤ i → cur ≡ new ++ drop (length new) old
  fill_all h =
      let e : i ≡ length new = let w = v.within in omega arith in
      v.so_far ∙ ap (λ (l : List ℕ). l ++ drop i old) (take_all i new h) ∙ ap (λ (n : ℕ). new ++ drop n old) e

-- ---- padding

-- a name padded has sixteen bytes
pub padded_long : (x : List ℕ) → length (padded x) ≡ name_length
unfolding padded
padded_long x =
    length-append (take name_length x) (replicate (name_length - length x) 0)
    ∙ rw (length-take name_length x, length-replicate (name_length - length x) zero) (omega arith)

drop_zeros : (k n : ℕ) → drop {A = ℕ} k (replicate n 0) ≡ replicate (n - k) 0
drop_zeros zero n = ap (λ (m : ℕ). replicate m 0) (sym (sub-zero n))
drop_zeros (suc k) zero = let e : 0 ≡ 0 - suc k = omega arith in ap (λ (m : ℕ). replicate m 0) e
drop_zeros (suc k) (suc n) =
    let e : n - k ≡ suc n - suc k = omega arith in drop_zeros k n ∙ ap (λ (m : ℕ). replicate m 0) e

-- its first bytes, as many as it has room for, and zeros after them
pub is_padded : (x : List ℕ) {cur : List ℕ} {n : ℕ} → n ≡ min name_length (length x) → cur ≡ take n x
    → cur ++ drop n (replicate name_length 0) ≡ padded x
unfolding padded
is_padded x {cur} {n} h e =
    let f : name_length - n ≡ name_length - length x = omega arith in
    ap₂ ◌++◌ (e ∙ ap (λ (m : ℕ). take m x) h ∙ take_min name_length x)
    (drop_zeros n name_length ∙ ap (λ (m : ℕ). replicate m 0) f)

-- ---- two names as words

unlike : (a b : List ℕ) (t : Bool) → same a b ≡ t → (a ≡ b → ⊥) → same a b ≡ false
unlike a b true e h = absurd (h (same_equal a b e))
unlike a b false e h = e

-- names that are not equal are not the same
pub same_not : (a b : List ℕ) → (a ≡ b → ⊥) → same a b ≡ false
same_not a b h = unlike a b (same a b) refl h

pub same_eq : {a b : List ℕ} → a ≡ b → same a b ≡ true
same_eq {a} {b} e = ap (same a) (sym e) ∙ same_self a

-- which of two names stands first does not matter
pub same_swap : (a b : List ℕ) → same a b ≡ same b a
same_swap a b = go (same a b) refl
  where
    go : (t : Bool) → same a b ≡ t → t ≡ same b a
    go true e = sym (same_eq (sym (same_equal a b e)))
    go false e = sym (same_not b a (λ f. true≢false (sym (same_eq (sym f)) ∙ e)))

-- no name stands where there is no room for sixteen bytes
pub short_apart : (x y : ℕ) (s : List ℕ) (at : ℕ) → length s < at + name_length
    → same (bytes_of 8 x ++ bytes_of 8 y) (take name_length (drop at s)) ≡ false
short_apart x y s at h =
    let few : length (take name_length (drop at s)) < name_length = rw (length-take, length-drop) (omega arith) in
    same_not (bytes_of 8 x ++ bytes_of 8 y) (take name_length (drop at s)) (λ e. let l = ap length e in omega arith)

-- x and y are the two words of the name a
pub record Words (a : List ℕ) (x y : ℕ) : Type 0 where
  pub low : x ≡ le (take 8 a)
  pub high : y ≡ le (drop 8 a)
  pub bytes : a ≡ bytes_of 8 x ++ bytes_of 8 y

-- the words that are read at the start of a slice are those of the name there
pub words_of : (t : List ℕ) {x y : ℕ} → name_length ≤ length t → Word t x → Word (drop 8 t) y
    → Words (take name_length t) x y
words_of t {x} {y} h p q =
    let l : 8 ≤ length t = omega arith in
    let m : 8 ≤ length (drop 8 t) = rw length-drop (omega arith) in
    let f : take name_length t ≡ take 8 t ++ take 8 (drop 8 t) = take-add 8 8 t in
    let k : length (take 8 t) ≡ 8 = length-take-le 8 t l in
    record {
      low = p.value ∙ ap le (sym (ap (take 8) f ∙ take_at (take 8 t) (take 8 (drop 8 t)) 8 k));
      high = q.value ∙ ap le (sym (ap (drop 8) f ∙ drop_at (take 8 t) (take 8 (drop 8 t)) 8 k));
      bytes = f ∙ ap₂ ◌++◌ (sym (p.bytes l)) (sym (q.bytes m));
    }

-- the words of sixteen bytes, all of which are the name
pub words_in : (a : List ℕ) {x y : ℕ} → length a ≡ name_length → Word a x → Word (drop 8 a) y → Words a x y
words_in a h p q = rw (take_all name_length a (le_of_eq h)) at (words_of a (le_of_eq (sym h)) p q)

-- two numbers of 64 bits are the words of the name that they spell
pub words_made : {x y : ℕ} → x < 2 ^ 64 → y < 2 ^ 64 → Words (bytes_of 8 x ++ bytes_of 8 y) x y
words_made {x} {y} p q =
    record {
      low = sym (ap le (take_at (bytes_of 8 x) (bytes_of 8 y) 8 (length_bytes 8 x)) ∙ le_bytes 8 x p);
      high = sym (ap le (drop_at (bytes_of 8 x) (bytes_of 8 y) 8 (length_bytes 8 x)) ∙ le_bytes 8 y q);
      bytes = refl;
    }

module _ {a b : List ℕ} {x y u v : ℕ} (p : Words a x y) (q : Words b u v) where
  pub words_equal : x ≡ u → y ≡ v → a ≡ b
  words_equal e f = p.bytes ∙ ap₂ (λ (m n : ℕ). bytes_of 8 m ++ bytes_of 8 n) e f ∙ sym q.bytes

  pub low_apart : (x ≡ u → ⊥) → same a b ≡ false
  low_apart h = same_not a b (λ e. h (p.low ∙ ap (λ (l : List ℕ). le (take 8 l)) e ∙ sym q.low))

  pub high_apart : (y ≡ v → ⊥) → same a b ≡ false
  high_apart h = same_not a b (λ e. h (p.high ∙ ap (λ (l : List ℕ). le (drop 8 l)) e ∙ sym q.high))

  by_high : x ≡ u → (t : Bool) → eqb y v ≡ t → t ≡ same a b
  by_high e true f = sym (same_eq (words_equal e (eqb-true y v f)))
  by_high e false f = sym (high_apart (eqb-false y v f))

  -- where the low words are equal, the high ones decide
  pub high_decides : x ≡ u → eqb y v ≡ same a b
  high_decides e = by_high e (eqb y v) refl
