-- The keys word by word, as far as the line's end or a refusal.
use Rattle.std.proofs.Common.{◌∙◌}
use Rattle.std.proofs.lemmas.Result.{err_from_is_err_and}
use Rattle.line.specs.Line.{taken}
use Rattle.line.proofs.Heads.{next_words, next_none}
use Rattle.line.proofs.Keyed.{keys_none, keys_on, keys_refused}
use Rattle.line_keys.proofs.take_keys.Goals as goal

pub returns-in_err-take_key : goal.returns-in_err-take_key
returns-in_err-take_key c =
    let p = err_from_is_err_and c.from_residual.result c.from_residual.ensures.1 in
    let e =
    keys_refused (taken c.loop-span.words c.loop-span.given) (next_words c.in-Some.ensures)
    c.in_err-take_key.ensures
    ∙ c.loop-span.invariant.same in
    rw (p.1, p.2) e

pub loop-span-preserved : goal.loop-span-preserved
loop-span-preserved c = record {
  same =
      keys_on (taken c.loop-span.words c.loop-span.given) (next_words c.in-Some.ensures)
      c.in_ok-take_key.ensures
      ∙ c.loop-span.invariant.same;
}

pub returns : goal.returns
returns c =
    keys_none (taken c.loop-span.words c.loop-span.given) (next_none _ _ c.in_default.ensures) ∙ c.loop-span.invariant.same
