-- A line with room for some of the text or all of it, and one that is full.
use Rattle.std.proofs.Common.{◌≡◌, ℕ, ◌+◌, ◌-◌, List, ◌++◌, take, length, ap, ◌∙◌, arith, rules}
use lib.Seq.{length-take-le}
use Rattle.std.proofs.lemmas.Slice.{take-put_mid}
use Rattle.joining.specs.Lines.{line_room}
use Rattle.joining.proofs.Kept.{text_over, text_more}
use Rattle.joining.proofs.Line.add_text.Goals as goal

pub returns-then-n-lt-LINE_ROOM : goal.returns-then-n-lt-LINE_ROOM
returns-then-n-lt-LINE_ROOM c =
    let line = c.args.self.now.bytes in
    let text = c.args.text.now in
    let n = c.args.self.now.used in
    let k = c.min-kept.result in
    let room : length line ≡ line_room = search rules in
    let part = c.copy_from_slice.ensures.after in
    let least = c.min-kept.ensures in
    let long : length c.copy_from_slice.new.self ≡ k = ap length part ∙ length-take-le k text (omega arith) in
    take-put_mid n (n + k - n) line c.copy_from_slice.new.self (n + k) (omega arith) (omega arith)
    ∙ ap (λ (t : List ℕ). take n line ++ t) part ∙ text_more line text n k room c.if-n-lt-LINE_ROOM.true least

pub returns-else-n-lt-LINE_ROOM : goal.returns-else-n-lt-LINE_ROOM
returns-else-n-lt-LINE_ROOM c =
    let l = c.args.self.now in text_over l.bytes c.args.text.now l.used (search rules) c.if-n-lt-LINE_ROOM.false
