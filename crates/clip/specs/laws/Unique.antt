-- What clipping's telling leaves open: nothing. One record has one clipping.
use Rattle.std.specs.Prelude.{◌≡◌, Result, Ok, Err, List, ℕ, Float}
use Rattle.std.proofs.Common.{sym, ap, ap₂, ◌∙◌}
use Rattle.refusal.specs.declared.Refusal.{Refusal}
use Rattle.refusal.specs.Clash.{clash}
use Rattle.refusal.specs.Order.{Verdict, no, yes, tells, tells_one}
use Rattle.refusal.specs.Unique.{unique_by_equation}
use Rattle.clip.specs.declared.Clipping.{Clipping}
use Rattle.clip.specs.Clip.{Clips, told_answer, numbers_in, mask_in}

-- ---- a verdict from its result
pub clip_taken : {r : Result Clipping Refusal} (v : Verdict (Unit {0})) {k : Clipping} → told_answer r ≡ tells v
    → r ≡ Ok k → v ≡ yes tt
clip_taken v e k = sym (tells_one (yes tt) v (ap told_answer (sym k) ∙ e))

pub clip_refused : {r : Result Clipping Refusal} (v : Verdict (Unit {0})) {f : Refusal} → told_answer r ≡ tells v
    → r ≡ Err f → v ≡ no f
clip_refused v {f} e k = sym (tells_one (no f) v (ap told_answer (sym k) ∙ e))

-- ---- one result
clipping_same : (r r' : Result Clipping Refusal) → told_answer r ≡ told_answer r' → numbers_in r ≡ numbers_in r'
    → mask_in r ≡ mask_in r' → r ≡ r'
clipping_same (Ok k) (Ok k') a n m = ap₂ (λ (l : List Float) (b : ℕ). Ok (record { numbers = l; mask = b })) n m
clipping_same (Ok k) (Err f) a n m = clash cc
clipping_same (Err f) (Ok k) a n m = clash cc
clipping_same (Err f) (Err g) a n m = let e : no f ≡ no g = tells_one (no f) (no g) a in cc

pub unique_clip : (s : List ℕ) (r r' : Result Clipping Refusal) → Clips s r → Clips s r' → r ≡ r'
unique_clip s r r' p q =
    clipping_same r r'
    (unique_by_equation p.answer q.answer)
    (unique_by_equation p.numbers q.numbers)
    (unique_by_equation p.mask q.mask)
