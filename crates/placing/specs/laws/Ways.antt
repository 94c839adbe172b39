-- What a way through placing's tests tells.
use Rattle.std.specs.Prelude.{◌≡◌, Result, Ok, Err, ℕ}
use Rattle.std.proofs.Common.{sym, ap}
use Rattle.refusal.specs.declared.Refusal.{Refusal}
use Rattle.refusal.specs.Order.{Verdict, no, yes}
use Rattle.refusal.specs.Clash.{clash}
use Rattle.placing.specs.declared.Spot.{Spot}
use Rattle.placing.specs.inner.Placing.{spot, way_of}

pub stopped : (free : ℕ) (v : Verdict ℕ) {f : Refusal} → way_of free v ≡ Err f → v ≡ no f
stopped free (no g) e = cc
stopped free (yes i) e = clash cc

card_in : Result Spot Refusal → ℕ
card_in (Ok s) = s.card
card_in (Err f) = 0

free_in : Result Spot Refusal → ℕ
free_in (Ok s) = s.free
free_in (Err f) = 0

pub went : (free : ℕ) (v : Verdict ℕ) {i k : ℕ} → way_of free v ≡ Ok (spot i k) → (v ≡ yes i) × (k ≡ free)
unfolding card_in free_in
went free (no g) e = clash cc
went free (yes j) e = (ap yes (ap card_in e), sym (ap free_in e))
