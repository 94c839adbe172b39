-- A space, the letters, and the sign after them.
use Rattle.std.proofs.Common.{◌≡◌, ◌≤◌, ◌-◌, length, take, get_or, arith, rules}
use Rattle.decimal_write.proofs.Puts.{then, made}
use Rattle.keys.specs.Keys.{key_word}
use Rattle.keyed.proofs.Lettered.{letters_few, letters}
use Rattle.keyed.proofs.put_key.Goals as goal
use Rattle.keyed.proofs.put_key.Goals.{After-bytes-letters}

few : (c : After-bytes-letters)
    → length (take (get_or c.args.tables.now.lengths c.args.k 0 - 0) c.bytes-letters.result) ≤ 6
few c = rw c.bytes-letters.ensures (letters_few (search rules) (search rules) c.args.k (search rules))

spelt : (c : After-bytes-letters)
    → take (get_or c.args.tables.now.lengths c.args.k 0 - 0) c.bytes-letters.result ≡ key_word c.args.k
spelt c = rw c.bytes-letters.ensures (letters (search rules) (search rules) c.args.k (search rules))

pub put_bytes-requires : goal.put_bytes-requires
put_bytes-requires c =
    let f = few (goal.at.put_bytes-requires c).After-bytes-letters in omega arith

pub returns : goal.returns
returns c =
    let b = (goal.at.returns c).After-bytes-letters in
    let f = few b in (
      omega arith,
      then (then c.put_bytes-spaced.ensures.1 (made c.put_bytes-keyed.ensures.1 (spelt b))) c.put_bytes.ensures.1,
    )
