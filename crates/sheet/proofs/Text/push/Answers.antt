-- A byte that has room, and one that has none.
use Rattle.std.proofs.Common.{ap, Bool}
use borrow.Author.Tests.{lt-ltb, le-ltb}
use Rattle.sheet.specs.Text.{room, push_if, pushed}
use Rattle.sheet.proofs.Texts.{one}
use Rattle.sheet.proofs.Text.push.Goals as goal

pub returns-then-self-lt-ROOM : goal.returns-then-self-lt-ROOM
unfolding pushed
returns-then-self-lt-ROOM c =
    let t = c.args.self.now in
    one (ap (λ (h : Bool). push_if h t c.args.b) (lt-ltb t.len room c.if-self-lt-ROOM.true))

pub returns-else-self-lt-ROOM : goal.returns-else-self-lt-ROOM
unfolding pushed
returns-else-self-lt-ROOM c =
    let t = c.args.self.now in
    one (ap (λ (h : Bool). push_if h t c.args.b) (le-ltb t.len room c.if-self-lt-ROOM.false))
