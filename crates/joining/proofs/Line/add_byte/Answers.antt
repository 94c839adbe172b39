-- A byte that there is room for, and one of a line that is too long.
use Rattle.std.proofs.Common.{rules}
use Rattle.joining.proofs.Kept.{byte_put, byte_over}
use Rattle.joining.proofs.Line.add_byte.Goals as goal

pub returns-then-self-lt-LINE_ROOM : goal.returns-then-self-lt-LINE_ROOM
returns-then-self-lt-LINE_ROOM c =
    let l = c.args.self.now in byte_put l.bytes l.used c.args.b (search rules) c.if-self-lt-LINE_ROOM.true

pub returns : goal.returns
returns c =
    let l = c.args.self.now in
    byte_over l.bytes l.used c.args.b c.marked.result (search rules) c.if-self-lt-LINE_ROOM.false c.marked.ensures
