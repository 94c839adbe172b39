-- A list and a refusal are told, and no other answer is.
use Rattle.std.proofs.Common.{◌≡◌, ℕ, min, length, take, sym, ap, ◌∙◌}
use Rattle.std.proofs.Math.Nat.{min_comm}
use Rattle.std.proofs.lemmas.List.{take_min}
use Rattle.page.proofs.Pages.{as_bytes, write_nothing}
use Rattle.spaced.specs.Spaced.{who_line}
use Rattle.telling.specs.Said.{listed_of}
use Rattle.telling.proofs.Others.{listed_none}
use Rattle.telling.proofs.put_listed.Goals as goal

pub returns-in-Listed : goal.returns-in-Listed
unfolding listed_of
returns-in-Listed c =
    let issues = c.args.issues.now in
    let n = c.in-Listed.n in
    let bound : c.min.result ≡ min n (length issues) =
    c.min.ensures ∙ min_comm _ n ∙ ap (λ (k : ℕ). min n k) (sym c.told-issues) in
    let first = ap (λ (k : ℕ). take k issues) bound ∙ take_min n issues in
    rw c.in-Listed.is (as_bytes (ap who_line first) c.who_line.ensures)

pub returns-in-Refused : goal.returns-in-Refused
unfolding listed_of
returns-in-Refused c = rw c.in-Refused.is c.put_refused.ensures

pub returns-in_default : goal.returns-in_default
returns-in_default c =
    as_bytes (listed_none c.args.answer c.args.issues.now c.in_default.not-Listed c.in_default.not-Refused) write_nothing
