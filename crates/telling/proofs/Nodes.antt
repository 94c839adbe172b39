-- The number of a node, by whether a number of 32 bits holds it.
use Rattle.std.proofs.Common.{◌≡◌, ℕ, ◌^◌, ◌≤◌, min, inl, inr, ap, ◌∙◌, arith}
use Rattle.std.proofs.lemmas.Bool.{cases_lt}
use Rattle.std.specs.declared.result.Result.{Result}
use Rattle.std.specs.declared.result.Result.TheVariants.{Ok, Err}
use Rattle.std.specs.Result.{OkIff, result_unwrap_or}
use Rattle.std.specs.Int.{FitsUnsignedBits}
use borrow.Author.Tests.{lt-ltb, le-ltb}
use lib.IntN.{ℤ, pos, negsuc, nat_abs}
use Rattle.telling.specs.Said.{board_nodes, node_number}

as_min : (n : ℕ) → min n board_nodes ≡ node_number (pos n)
unfolding node_number
as_min n = elim (cases_lt n board_nodes) [
  | inl there ↦ rw (lt-ltb n board_nodes there) (omega arith)
  | inr above ↦ rw (le-ltb n board_nodes above) (omega arith)
]

pub number_is : {E : Type 0} (z : ℤ) (r : Result ℕ E) → OkIff r (FitsUnsignedBits 32 z) (nat_abs z)
    → min (result_unwrap_or r board_nodes) board_nodes ≡ node_number z
unfolding node_number
number_is (pos n) (Ok x) p = ap (λ (m : ℕ). min m board_nodes) p.1 ∙ as_min n
number_is (pos n) (Err e) p = elim (cases_lt n (2 ^ 32)) [
  | inl fits ↦ absurd (p fits)
  | inr above ↦ let over : board_nodes ≤ n = omega arith in rw (le-ltb n board_nodes over) (omega arith)
]
number_is (negsuc n) (Ok x) p = absurd p.0
number_is (negsuc n) (Err e) p = omega arith
