-- One turn of the bitwise root, over plain numbers.
use mathlib.Core.Path.{◌≡◌, refl, sym, ap, subst, ◌∙◌}
use mathlib.Core.Bool.{cond}
use Prim.Native.Nat.{ℕ, suc, ◌+◌, ◌-◌, ◌*◌, ◌%◌, ◌^◌, ◌≤◌, ◌<◌}
use native.Mathlib.Nat.{one-mul, pow-suc, mul-le-mul}
use native.Mathlib.Omega.{arith}
use lib.Dec.{leb, lit<}
use lib.Pow.{shl_exact, pow_pos}
use borrow.Author.Tests.{le-leb, lt-leb}
use Rattle.roots.specs.Root.{root_bits, root_of}

-- `1 << k` as the machine has it
abbrev pub bit : ℕ → ℕ
bit k = (1 * 2 ^ k) % 2 ^ 64

bit_is : (k : ℕ) → k < 64 → bit k ≡ 2 ^ k
bit_is k h = shl_exact {a = 1} 1 k 64 (lit< tt) (omega arith) ∙ one-mul (2 ^ k)

-- the definition's clauses, so that nothing below unfolds it
next_bit : (k x t : ℕ) → root_bits (suc k) x t ≡ root_bits k x (cond (leb ((t + 2 ^ k) * (t + 2 ^ k)) x) (t + 2 ^ k) t)
unfolding root_bits
next_bit k x t = refl

no_bits : (x t : ℕ) → root_bits 0 x t ≡ t
unfolding root_bits
no_bits x t = refl

all_bits : (x : ℕ) → root_bits 32 x 0 ≡ root_of x
unfolding root_of
all_bits x = refl

-- t holds the bits found, and k are left
pub record Turn (x t k : ℕ) : Type 0 where
  pub same : root_bits k x t ≡ root_of x
  pub room : t + 2 ^ k ≤ 2 ^ 32
  pub few : k ≤ 32

pub begun : (x : ℕ) → Turn x 0 32
begun x = record { same = all_bits x; room = omega arith; few = omega arith }

pub ended : (x t k : ℕ) → Turn x t k → k ≡ 0 → t ≡ root_of x
ended x t k s e = sym (no_bits x t) ∙ subst (λ (n : ℕ). root_bits n x t ≡ root_of x) e s.same

module _ (x t k : ℕ) (s : Turn x t k) (h : 0 < k) where
  one_more : k ≡ suc (k - 1)
  one_more = omega arith

  is : bit (k - 1) ≡ 2 ^ (k - 1)
  is = bit_is (k - 1) (omega (arith, s))

  turned : root_bits (k - 1) x (cond (leb ((t + 2 ^ (k - 1)) * (t + 2 ^ (k - 1))) x) (t + 2 ^ (k - 1)) t) ≡ root_of x
  turned = sym (next_bit (k - 1) x t) ∙ subst (λ (n : ℕ). root_bits n x t ≡ root_of x) one_more s.same

  twice : 2 ^ k ≡ 2 ^ (k - 1) * 2
  twice = ap (λ (n : ℕ). 2 ^ n) one_more ∙ pow-suc 2 (k - 1)

  pub small : t + bit (k - 1) ≤ 2 ^ 32 - 1
  small = omega (arith, is, twice, s, pow_pos (k - 1))

  pub squared : (t + bit (k - 1)) * (t + bit (k - 1)) ≤ (2 ^ 32 - 1) * (2 ^ 32 - 1)
  squared = mul-le-mul small small

  pub taken : (t + bit (k - 1)) * (t + bit (k - 1)) ≤ x → Turn x (t + bit (k - 1)) (k - 1)
  taken l = record {
    same = rw is (rw (le-leb ((t + 2 ^ (k - 1)) * (t + 2 ^ (k - 1))) x (rw is at l)) at turned);
    room = omega (arith, is, twice, s);
    few = omega (arith, s);
  }

  pub passed : x < (t + bit (k - 1)) * (t + bit (k - 1)) → Turn x t (k - 1)
  passed l = record {
    same = rw (lt-leb ((t + 2 ^ (k - 1)) * (t + 2 ^ (k - 1))) x (rw is at l)) at turned;
    room = omega (arith, is, twice, s);
    few = omega (arith, s);
  }
