-- A PNP, and an NPN.
use native.Mathlib.Omega.{arith}
use Rattle.decimal_write.proofs.Puts.{then, made}
use Rattle.line_write.proofs.Lines.{head_pnp, head_npn}
use borrow.Author.Rules.{rules}
use Rattle.line_write.proofs.put_head.Goals as goal

pub returns-then-pnp : goal.returns-then-pnp
returns-then-pnp c =
    let a = c.args in (
      omega arith,
      made (then (then c.put_bytes-spaced.ensures.1 c.put_bytes-named.ensures.1) c.put_bytes.ensures.1)
          (head_pnp a.name.now a.pnp (search rules)),
    )

pub returns : goal.returns
returns c =
    let a = c.args in (
      omega arith,
      made (then (then c.put_bytes-spaced.ensures.1 c.put_bytes-named.ensures.1) c.put_bytes-2.ensures.1)
          (head_npn a.name.now a.pnp (search rules)),
    )
