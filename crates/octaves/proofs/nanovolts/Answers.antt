-- An octave is in a range that can be cut.
use Rattle.std.proofs.Common.{◌≡◌, true, arith}
use lib.Ieee.{Float, le}
use Rattle.loading.specs.Octave.{octave_good, ten_million, fifty_million}
use Rattle.loading.proofs.Range.{can_cut, octave_most_lem}
use Rattle.loading.proofs.Clipped.{and_true}
use Rattle.octaves.proofs.nanovolts.Goals as goal

least : (x : Float) → octave_good x ≡ true → le ten_million x ≡ true
least x g = (and_true (le ten_million x) _ g).0

most : (x : Float) → octave_good x ≡ true → le x fifty_million ≡ true
most x g = (and_true (le x fifty_million) _ (and_true (le ten_million x) _ g).1).0

pub truncating_f64_to_u64-requires : goal.truncating_f64_to_u64-requires
truncating_f64_to_u64-requires c =
    let r = can_cut _ (least c.args.x c.requires) (most c.args.x c.requires) in
    record { lower_bound = r.0; upper_bound = r.1 }

pub overflow_cast-result : goal.overflow_cast-result
overflow_cast-result c =
    omega (
      arith,
      c.truncating_f64_to_u64.ensures,
      octave_most_lem _ (least c.args.x c.requires) (most c.args.x c.requires),
    )
