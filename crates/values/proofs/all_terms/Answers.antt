-- `values::all_terms` meets its contract: each term with the exponential that it names, worked once; row by row.
use lib.Dec.{lit<, lit≤}
use borrow.Author.Rules.{rules}
use Rattle.apart.specs.OfTerms.Rows.{row1, row2, row3, row4, row5, row6, row7, row8}
use Rattle.apart.specs.OfTerms.Rows.{row9, row10, row11, row12, row13}
use Rattle.apart.specs.OfTerms.inner.Terms.{none, more}
use Rattle.apart.proofs.OfScaling.Scaling.{upto_zero}
use Rattle.apart.proofs.OfTerms.Readied.{splits, plain_octave, second_octave}
use Rattle.apart.proofs.OfTerms.Readied.{own_bulk, own_side, own_nonideal, own_ex, own_sf}
use Rattle.apart.proofs.OfTerms.Readied.{plain_junction, second_junction, ticks_at_lem, parts_at}
use Rattle.values.proofs.all_terms.Goals as goal

pub exponential-b2e1-requires : goal.exponential-b2e1-requires
exponential-b2e1-requires c = plain_junction c.requires (lit< tt) (lit< tt)

pub exponential-b2c2-requires : goal.exponential-b2c2-requires
exponential-b2c2-requires c = plain_junction c.requires (lit< tt) (lit< tt)

pub exponential-b1e1-requires : goal.exponential-b1e1-requires
exponential-b1e1-requires c = plain_junction c.requires (lit< tt) (lit< tt)

pub exponential-second-requires : goal.exponential-second-requires
exponential-second-requires c =
    second_junction c.requires (lit< tt) (lit< tt)

pub exponential-b1c4-requires : goal.exponential-b1c4-requires
exponential-b1c4-requires c =
    plain_junction c.requires (lit< tt) (lit< tt)

pub exponential-sc1-requires : goal.exponential-sc1-requires
exponential-sc1-requires c =
    plain_junction c.requires (lit< tt) (lit< tt)

pub scaled-forward-requires : goal.scaled-forward-requires
scaled-forward-requires c =
    let s = splits c.requires.ready.worked in record { split = search rules; sized = search rules; near = lit≤ tt }

pub scaled-bulk-requires : goal.scaled-bulk-requires
scaled-bulk-requires c =
    let s = splits c.requires.ready.worked in record { split = search rules; sized = search rules; near = lit≤ tt }

pub scaled-side-requires : goal.scaled-side-requires
scaled-side-requires c =
    let s = splits c.requires.ready.worked in record { split = search rules; sized = search rules; near = lit≤ tt }

pub scaled-nonideal-requires : goal.scaled-nonideal-requires
scaled-nonideal-requires c =
    let s = splits c.requires.ready.worked in record { split = search rules; sized = search rules; near = lit≤ tt }

pub faint-ex-requires : goal.faint-ex-requires
faint-ex-requires c =
    let s = splits c.requires.ready.worked in record { split = search rules; sized = search rules; near = lit≤ tt }

pub faint-sub-requires : goal.faint-sub-requires
faint-sub-requires c =
    let s = splits c.requires.ready.worked in record { split = search rules; sized = search rules; near = lit≤ tt }

pub faint-exratio-requires : goal.faint-exratio-requires
faint-exratio-requires c =
    let s = splits c.requires.ready.worked in record {
      split = search rules;
      sized = search rules;
      near = lit≤ tt;
    }

pub faint-subratio-requires : goal.faint-subratio-requires
faint-subratio-requires c =
    let s = splits c.requires.ready.worked in record { split = search rules; sized = search rules; near = lit≤ tt }

pub faint-sf-requires : goal.faint-sf-requires
faint-sf-requires c =
    let s = splits c.requires.ready.worked in record {
      split = search rules;
      sized = search rules;
      near = lit≤ tt;
    }

pub faint-reverse-requires : goal.faint-reverse-requires
faint-reverse-requires c =
    let s = splits c.requires.ready.worked in
    let g = c.exponential-b2c2.ensures.sized in
    record { split = search rules; sized = search rules; near = lit≤ tt }

pub scaled-knee-requires : goal.scaled-knee-requires
scaled-knee-requires c =
    let s = splits c.requires.ready.worked in
    let g = c.exponential-b2e1.ensures.sized in
    record { split = search rules; sized = search rules; near = lit≤ tt }

pub faint-back-requires : goal.faint-back-requires
faint-back-requires c =
    let s = splits c.requires.ready.worked in
    let e = c.exponential-b2e1.ensures.sized in
    let g = c.exponential-b2c2.ensures.sized in
    record { split = search rules; sized = search rules; near = lit≤ tt }

pub term_x-x-requires : goal.term_x-x-requires
term_x-x-requires c = c.requires

pub term_8-eighth-requires : goal.term_8-eighth-requires
term_8-eighth-requires c = c.requires

pub all_leads-leads-requires : goal.all_leads-leads-requires
all_leads-leads-requires c =
    let a = c.requires in
    record { worked = a.ready.worked; long = a.long; near = a.near }

pub returns : goal.returns
returns c =
    let l = c.all_leads-leads.ensures in
    let h = c.requires.ready in
    let s = splits c.requires.ready.worked in
    let j1 = c.exponential-b2e1.ensures in
    let j2 = c.exponential-b2c2.ensures in
    let j3 = c.exponential-b1e1.ensures in
    let j4 = c.exponential-second.ensures in
    let j5 = c.exponential-b1c4.ensures in
    let j6 = c.exponential-sc1.ensures in
    let forward = ticks_at_lem s.sn j1 (plain_octave h) c.scaled-forward.ensures in
    let bulk = ticks_at_lem s.bulk j1 (plain_octave h) c.scaled-bulk.ensures in
    let side = ticks_at_lem s.side j3 (plain_octave h) c.scaled-side.ensures in
    let nonideal = ticks_at_lem s.nonideal j4 (second_octave h) c.scaled-nonideal.ensures in
    let ex = ticks_at_lem s.ex j5 (plain_octave h) c.faint-ex.ensures in
    let sub = ticks_at_lem s.sub j5 (plain_octave h) c.faint-sub.ensures in
    let exratio = parts_at s.rex j5 (plain_octave h) c.faint-exratio.ensures in
    let subratio = parts_at s.rsub j5 (plain_octave h) c.faint-subratio.ensures in
    let sf = ticks_at_lem s.sf j6 (plain_octave h) c.faint-sf.ensures in
    let reverse = ticks_at_lem s.sn j2 (plain_octave h) c.faint-reverse.ensures in
    let knee = parts_at s.rex j1 (plain_octave h) c.scaled-knee.ensures in
    let back = parts_at s.rex j2 (plain_octave h) c.faint-back.ensures in
    record {
      rows =
          more {r = row1} (record { counted = (forward, reverse); left = knee; right = back })
          (more {r = row2} (record { counted = (bulk, own_bulk h); left = upto_zero; right = upto_zero })
          (more {r = row3} (record { counted = (side, own_side h); left = upto_zero; right = upto_zero })
          (more {r = row4} (record { counted = (nonideal, own_nonideal h); left = upto_zero; right = upto_zero })
          (more {r = row5} (record { counted = (ex, own_ex h); left = upto_zero; right = exratio })
          (more {r = row6 c.args.r.card.exsub} (record {
            counted = (sub, c.term_x-x.ensures);
            left = upto_zero;
            right = subratio;
          })
          (more {r = row7} (record { counted = (sf, own_sf h); left = upto_zero; right = upto_zero })
          (more {r = row8} (record { counted = c.term_8-eighth.ensures; left = upto_zero; right = upto_zero })
          (more {r = row9} (record { counted = l.ninth; left = upto_zero; right = upto_zero })
          (more {r = row10} (record { counted = l.tenth; left = upto_zero; right = upto_zero })
          (more {r = row11} (record { counted = l.eleventh; left = upto_zero; right = upto_zero })
          (more {r = row12} (record { counted = l.twelfth; left = upto_zero; right = upto_zero })
          (more {r = row13} (record { counted = l.thirteenth; left = upto_zero; right = upto_zero })
          none))))))))))));
    }
