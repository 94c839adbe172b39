-- Tests in their order: what a verdict says of each, and what is known of a library in which nothing is refused.
use mathlib.Core.Path.{◌≡◌, refl, ◌∙◌, ap}
use mathlib.Core.Bool.{Bool, true, false, not}
use mathlib.Core.List.{List}
use Prim.Native.Nat.{ℕ}
use borrow.Author.Tests.{not-false}
use Rattle.refusal.specs.declared.Refusal.{Refusal}
use Rattle.refusal.specs.declared.Refusal.TheVariants.{Malformed, BadName, NameTwice}
use Rattle.refusal.specs.Order.{Verdict, no, yes, refuse_if, and_then}
use Rattle.roll.specs.Directory.{names_in, all_named, twice}
use Rattle.roll.proofs.Names.{never}
use Rattle.directory.specs.Format.{headed, directory}
use Rattle.directory.specs.Judged.{names_judged, numbers_of, library_judged, Sound}

-- a test that is true draws its refusal, one that is not leaves what comes after
pub drawn : {A : Type 0} {t : Bool} → t ≡ true → (f : Refusal) (v : Verdict A) → refuse_if t f v ≡ no f
drawn e f v = ap (λ (t : Bool). refuse_if t f v) e

pub passed : {A : Type 0} {t : Bool} → t ≡ false → (f : Refusal) (v : Verdict A) → refuse_if t f v ≡ v
passed e f v = ap (λ (t : Bool). refuse_if t f v) e

-- where nothing is refused, no test is true
pub refuse_yes : {A : Type 0} (t : Bool) (f : Refusal) {v : Verdict A} {a : A} → refuse_if t f v ≡ yes a
    → (t ≡ false) × (v ≡ yes a)
refuse_yes true f e = never (cc)
refuse_yes false f e = (refl, e)

-- a verdict gives a value, and what comes after gives b of it
pub record Gives {A B : Type 0} (v : Verdict A) (next : A → Verdict B) (b : B) : Type 0 where
  pub value : A
  pub first : v ≡ yes value
  pub after : next value ≡ yes b

pub then_yes : {A B : Type 0} (v : Verdict A) (next : A → Verdict B) {b : B} → and_then v next ≡ yes b → Gives v next b
then_yes (no f) next e = never (cc)
then_yes (yes a) next e = record { value = a; first = refl; after = e }

-- ---- what is known where none of 1, 2, 3 is given

pub record SoundNames (d : List ℕ) : Type 0 where
  pub valid : all_named (names_in d) ≡ true
  pub single : twice (names_in d) ≡ false

pub record SoundLibrary (s : List ℕ) : Type 0 where
  pub header : headed s ≡ true
  pub names : SoundNames (directory s)

pub names_pass : {A : Type 0} {d : List ℕ} → SoundNames d → (a : A) → names_judged d a ≡ yes a
unfolding names_judged
names_pass n a = passed (ap not n.valid) BadName _ ∙ passed n.single NameTwice (yes a)

pub names_yes : {A : Type 0} (d : List ℕ) {a b : A} → names_judged d a ≡ yes b → SoundNames d × (a ≡ b)
unfolding names_judged
names_yes d e =
    let p = refuse_yes (not (all_named (names_in d))) BadName e in
    let q = refuse_yes (twice (names_in d)) NameTwice p.1 in
    (record { valid = not-false _ p.0; single = q.0 }, cc)

pub library_pass : {s : List ℕ} → SoundLibrary s → Sound s
unfolding library_judged
library_pass {s} v = passed (ap not v.header) Malformed _ ∙ names_pass v.names (numbers_of s)

pub library_yes : (s : List ℕ) {p : ℕ × ℕ} → library_judged s ≡ yes p → SoundLibrary s × (numbers_of s ≡ p)
unfolding library_judged
library_yes s e =
    let p = refuse_yes (not (headed s)) Malformed e in
    let q = names_yes (directory s) p.1 in
    (record { header = not-false _ p.0; names = q.0 }, q.1)
