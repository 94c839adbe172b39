-- A word is its sign and its size: a form of the word is one of the size, and the other way round.
use mathlib.Core.Path.{◌≡◌, refl, sym, ap, subst, ◌∙◌}
use Rattle.std.specs.Prelude.{Option, Some, None}
use mathlib.Core.Bool.{Bool, true, false, cond, ◌&&◌}
use Prim.Native.Nat.{ℕ, zero, suc, ◌+◌, ◌%◌, ◌^◌, ◌<◌, zero-le}
use native.Mathlib.Nat.{lt_of_le_of_lt}
use native.Mathlib.Omega.{arith}
use lib.Dec.{ltb, leb, lit<}
use borrow.Author.Tests.{lt-ltb, leb-true, leb-false}
use Rattle.decimal.specs.declared.Decimal.{Decimal}
use Rattle.decimal.specs.Decimal.{sign_weight, size_bits}
use Rattle.shortest.specs.inner.Search.{Reads, Smallest, NoneAbove, Searched}
use Rattle.shortest.specs.laws.Least.{ReadsBack, Shortest, Formed}
use Rattle.decimal.proofs.Exact.{ten_pos}
use Rattle.decimal.proofs.Order.{size_zero, size_pos, size_under, word_is}
use Rattle.shortest.proofs.Powers.{some}

pub form_is : {w : ℕ} {m : Bool} {e p : ℕ} → ReadsBack w m e p → w ≡ cond (m && ltb 0 e) sign_weight 0 + size_bits e p
form_is {w} {m} {e} {p} f = sym f.bits ∙ word_is m e p f.digits f.power

pub form_reads : {w : ℕ} {m : Bool} {e p : ℕ} → ReadsBack w m e p → Reads (w % sign_weight) e p
form_reads {w} {m} {e} {p} f = record {
  digits = f.digits;
  power = f.power;
  bits =
      go (m && ltb 0 e) (size_bits e p) (form_is f) (size_under e p f.digits f.power);
}
  where
    go : (b : Bool) (s : ℕ) → w ≡ cond b sign_weight 0 + s → s < sign_weight → s ≡ w % sign_weight
    go true s h l = omega arith
    go false s h l = omega arith

pub zero_form : (w : ℕ) → w ≡ 0 → Shortest w false 0 22
zero_form w e = record {
  form = record {
    digits = lit< tt;
    power = lit< tt;
    bits = word_is false 0 22 (lit< tt) (lit< tt)
        ∙ ap (λ (z : ℕ). 0 + z) (size_zero 22) ∙ sym e;
  };
  fewest = λ (m : Bool) (e p k : ℕ) (f : ReadsBack w m e p) (h : e < 10 ^ k). ten_pos k;
  smallest = λ (m : Bool) (e p : ℕ) (f : ReadsBack w m e p). zero-le;
  plain = λ (h : ◌≡◌ {A = ℕ} 0 0). refl;
  zero = λ (h : ◌≡◌ {A = ℕ} 0 0). refl;
}

pub no_minus_zero : {w : ℕ} → (w ≡ 0 → ⊥) → w % sign_weight ≡ 0 → (m : Bool) (e p : ℕ) → ReadsBack w m e p → ⊥
no_minus_zero {w} n z m e p f = go e m f
  where
    plain : (m : Bool) (p : ℕ) → cond (m && ltb 0 0) sign_weight 0 + size_bits 0 p ≡ size_bits 0 p
    plain true p = omega arith
    plain false p = omega arith

    go : (e : ℕ) (m : Bool) → ReadsBack w m e p → ⊥
    go zero m f = n (form_is f ∙ plain m p ∙ size_zero p)
    go (suc e) m f = let a = size_pos (suc e) p (omega arith) f.digits f.power in let b = (form_reads f).bits in
        omega arith

pub found_form : {w d q : ℕ} → w < 18446744073709551616 → 0 < w % sign_weight → Smallest (w % sign_weight) d q
    → Shortest w (leb sign_weight w) d q
found_form {w} {d} {q} W z s = record {
  form = record {
    digits = s.reads.digits;
    power = s.reads.power;
    bits =
        word_is (leb sign_weight w) d q s.reads.digits s.reads.power
        ∙ ap (λ (b : Bool). cond (leb sign_weight w && b) sign_weight 0 + size_bits d q) (lt-ltb 0 d (some d z s.reads))
        ∙ go (leb sign_weight w) refl;
  };
  fewest = λ (m : Bool) (e p k : ℕ) (f : ReadsBack w m e p) (h : e < 10 ^ k). lt_of_le_of_lt
      (s.least e p (form_reads f)) h;
  smallest = λ (m : Bool) (e p : ℕ) (f : ReadsBack w m e p). s.least e p (form_reads f);
  plain = λ (h : d ≡ 0). let a = some d z s.reads in absurd (omega arith);
  zero = λ (h : d ≡ 0). let a = some d z s.reads in absurd (omega arith);
}
  where
    go : (b : Bool) → leb sign_weight w ≡ b → cond (b && true) sign_weight 0 + size_bits d q ≡ w
    go true h = let a = leb-true sign_weight w h in let b = s.reads.bits in omega arith
    go false h = let a = leb-false sign_weight w h in let b = s.reads.bits in omega arith

pub no_form : {w : ℕ} → NoneAbove (w % sign_weight) 0 → (m : Bool) (e p : ℕ) → ReadsBack w m e p → ⊥
no_form n m e p f = n.none e p zero-le (form_reads f)

-- what the search gives is the word's form, where it is given the word's sign and size
pub searched_form : {w : ℕ} (x : Option Decimal) → w < 18446744073709551616 → 0 < w % sign_weight
    → Searched (leb sign_weight w) (w % sign_weight) x → Formed w x
searched_form {w} (Some x) l z s =
    subst (λ (b : Bool). Shortest w b x.digits x.power) (sym s.0) (found_form l z s.1)
searched_form None l z s = no_form s
