-- `clip::words::clip_all` meets its contract: each turn reads, clips and marks one number.
use Rattle.std.proofs.Common.{◌*◌, ◌%◌, ◌^◌, ◌≡◌, ap, ◌∙◌, arith, rules, Some, None, Err}
use Rattle.refusal.specs.declared.Refusal.TheVariants.{NotFinite}
use Rattle.clip.proofs.Taken.{not_number, clips_refused}
use Rattle.clip.proofs.Turn.{start, turn, finished, is_real, is_nothing, not_finite, clipped_is, marked}
use Rattle.clip.proofs.words.clip_all.Goals as goal
use Rattle.clip.proofs.words.clip_all.Goals.{After-from_residual, After-from}

pub loop-i-init : goal.loop-i-init
loop-i-init c = start c.requires

nothing : (c : After-from_residual) → c.read.result ≡ None
nothing c = search rules

refused : (c : After-from_residual) → c.from_residual.result ≡ Err NotFinite
refused c = search rules

pub returns-in_err-x : goal.returns-in_err-x
returns-in_err-x c =
    let s = c.args.bytes.now in
    let none = is_nothing s c.loop-i.i _ _ c.u64_at.ensures.value c.read.ensures (nothing c) in
    let few = not_finite s c.args.words c.loop-i.i c.loop-i-test.true none in
    rw (refused c) (clips_refused (not_number c.requires few))

real : (c : After-from) → c.read.result ≡ Some c.in_ok-x.x
real c = search rules

pub loop-i-preserved : goal.loop-i-preserved
loop-i-preserved c =
    let l = c.loop-i in
    let s = c.args.bytes.now in
    let real = is_real s l.i _ _ c.u64_at.ensures.value c.read.ensures _ (real c) in
    let y = clipped_is s l.i _ _ _ c.rule_of.ensures real.1 c.apply-y.ensures in
    turn l.invariant c.loop-i-test.true
    (record {
      good = real.0;
      number = real.1;
      clipped = y;
      weight = ap (λ k. k * 2 ^ l.i % 2 ^ 32) c.from.ensures ∙ marked l.invariant c.loop-i-test.true _;
    })

pub returns : goal.returns
returns c = finished c.requires c.loop-i.invariant (omega arith)
