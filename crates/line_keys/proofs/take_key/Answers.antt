-- No `=`, no key, a key that was given, a text that is no number, and a number.
use Rattle.std.proofs.Common.{◌≡◌, eqb, refl, sym, ◌∙◌, arith, rules, tests}
use Rattle.std.specs.List.{position}
use Rattle.std.proofs.lemmas.Iterator.{YieldsList-from_slice}
use Rattle.std.proofs.lemmas.Iterator.Search.{position_from_yields_List}
use Rattle.line.specs.Line.{taken}
use Rattle.line.proofs.Keyed.{equals_here, equals_none, key_unmarked, key_unknown, key_again, key_number_lem}
use Rattle.line.proofs.Keyed.{key_text_lem}
use Rattle.line_keys.proofs.take_key.Goals as goal
use Rattle.line_keys.proofs.take_key.Goals.{After-position}

searched : (c : After-position) → c.position.result ≡ position (λ b. eqb b 61) c.args.w.now
searched c =
    position_from_yields_List (λ b. eqb b 61) _ _ _ c.position.ensures.ran (YieldsList-from_slice c.args.w.now (cc))
    (λ x b q k. search (rules, tests))

pub returns-in_default : goal.returns-in_default
returns-in_default c =
    let e = searched (goal.at.returns-in_default c).After-position in
    key_unmarked (taken c.args.words.now c.args.given.now) c.args.w.now refl (equals_none _ (sym e ∙ c.in_default.is))

pub returns-in_default-number_of : goal.returns-in_default-number_of
returns-in_default-number_of c =
    let m = equals_here _ (sym (searched (goal.at.returns-in_default-number_of c).After-position) ∙ c.in-Some.is) in
    key_unknown (taken c.args.words.now c.args.given.now) c.args.w.now m.0 m.1
    (sym c.in_default-number_of.ensures) (omega arith)

pub returns-then-given-k : goal.returns-then-given-k
returns-then-given-k c =
    let m = equals_here _ (sym (searched (goal.at.returns-then-given-k c).After-position) ∙ c.in-Some.is) in
    let k = c.in-Some-number_of.ensures in
    key_again (taken c.args.words.now c.args.given.now) c.args.w.now m.0 m.1 k.0 k.1 (search rules)

pub returns-in_default-read_word : goal.returns-in_default-read_word
returns-in_default-read_word c =
    let m = equals_here _ (sym (searched (goal.at.returns-in_default-read_word c).After-position) ∙ c.in-Some.is) in
    let k = c.in-Some-number_of.ensures in
    key_text_lem (taken c.args.words.now c.args.given.now) c.args.w.now m.0 m.1 k.0 k.1 (search rules)
    c.read_word.ensures c.in_default-read_word.is

pub returns : goal.returns
returns c =
    let m = equals_here _ (sym (searched (goal.at.returns c).After-position) ∙ c.in-Some.is) in
    let k = c.in-Some-number_of.ensures in
    key_number_lem (taken c.args.words.now c.args.given.now) c.args.w.now m.0 m.1 k.0 k.1 (search rules)
    c.read_word.ensures c.in-Some-read_word.is
