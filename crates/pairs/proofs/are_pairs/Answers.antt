-- `are_pairs` meets its contract: too few, too many, or by whether they are even.
use mathlib.Core.Path.{◌≡◌, refl, sym}
use mathlib.Core.Bool.{Bool, true, false, ◌&&◌}
use Prim.Native.Nat.{ℕ, ◌%◌, ◌≤◌, ◌<◌}
use lib.Dec.{eqb, leb}
use borrow.Author.Tests.{le-leb, lt-leb}
use Rattle.pairs.proofs.are_pairs.Goals as goal

none : (t u : Bool) → u ≡ false → t && u ≡ false
none true u e = e
none false u e = refl

all : (t u : Bool) → u ≡ true → t && u ≡ t
all true u e = e
all false u e = refl

few : (n : ℕ) → n < 2 → eqb (n % 2) 0 && (leb 2 n && leb n 64) ≡ false
few n h = none (eqb (n % 2) 0) (leb 2 n && leb n 64) (rw (lt-leb 2 n h))

many : (n : ℕ) → 2 ≤ n → 64 < n → eqb (n % 2) 0 && (leb 2 n && leb n 64) ≡ false
many n h k = none (eqb (n % 2) 0) (leb 2 n && leb n 64) (rw (le-leb 2 n h, lt-leb n 64 k))

enough : (n : ℕ) → 2 ≤ n → n ≤ 64 → eqb (n % 2) 0 && (leb 2 n && leb n 64) ≡ eqb (n % 2) 0
enough n h k = all (eqb (n % 2) 0) (leb 2 n && leb n 64) (rw (le-leb 2 n h, le-leb n 64 k))

pub returns-then-n-lt2 : goal.returns-then-n-lt2
returns-then-n-lt2 c = sym (few _ c.if-n-lt2.true)

pub returns-then-n-gt-NUMBERS : goal.returns-then-n-gt-NUMBERS
returns-then-n-gt-NUMBERS c = sym (many _ c.if-n-lt2.false c.if-n-gt-NUMBERS.true)

pub returns : goal.returns
returns c = sym (enough _ c.if-n-lt2.false c.if-n-gt-NUMBERS.false)
