-- Each part of the card made ready is what its callee gives.
use Rattle.std.proofs.Common.{◌≡◌, ap, ◌∙◌, ℕ, rules}
use Rattle.octave.specs.Exponential.{exponential_of}
use Rattle.octave.specs.inner.Reciprocal.{equals_reciprocal, reciprocal_octave}
use Rattle.octave.specs.declared.Reciprocal.{Reciprocal}
use Rattle.terms.specs.Values.{doubled_octave, knee_volts}
use Rattle.terms.specs.inner.Ready.{ready_of}
use Rattle.terms.proofs.Readied.{doubled_in}
use Rattle.ready.proofs.prepare.Goals as goal

pub exponential_at-knee-requires : goal.exponential_at-knee-requires
exponential_at-knee-requires c =
    record {
      table_is = search rules;
      near = c.requires.knee_most_lem;
      reciprocal =
          equals_reciprocal (doubled_octave c.args.c) _ (doubled_in c.requires) c.reciprocal_of-doubled.ensures;
    }

pub returns : goal.returns
unfolding ready_of
returns c =
    -- the exponential of V_Lr, at the octave that the reciprocal is of
    let x = c.args.c in
    let knee : c.exponential_at-knee.result ≡ exponential_of (knee_volts x) (doubled_octave x) =
    c.exponential_at-knee.ensures
    ∙ ap (λ (w : ℕ). exponential_of (knee_volts x) w)
    (ap (λ (o : Reciprocal). o.w) c.reciprocal_of-doubled.ensures ∙ reciprocal_octave (doubled_octave x)) in
    λ i. record {
      card = x;
      plain = c.reciprocal_of-plain.ensures i;
      second = c.reciprocal_of-second.ensures i;
      doubled = c.reciprocal_of-doubled.ensures i;
      knee = knee i;
      bulk = c.alone.ensures i;
      side = c.alone-2.ensures i;
      nonideal = c.alone-3.ensures i;
      ex = c.alone-4.ensures i;
      sub = c.alone-5.ensures i;
      sf = c.alone-6.ensures i;
      reverse = c.alone-7.ensures i;
    }
