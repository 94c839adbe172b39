-- One input has one result: any two that a contract permits are equal.
use Rattle.std.specs.Prelude.{◌≡◌, List, ℕ}
use Rattle.std.proofs.Common.{ap}
use Rattle.refusal.specs.Unique.{unique_by_equation}
use Rattle.page.specs.declared.Page.{Page}
use Rattle.page.specs.Page.{Writes, WritesAfter}

-- every byte of the page on which a line is written, and how many are used
pub unique_writes : {N : ℕ} {l : List ℕ} {old new new' : Page N} → Writes l old new → Writes l old new' → new ≡ new'
unique_writes a b = unique_by_equation a.written b.written

-- every byte of the lent buffer in which a line is written, and how many are used
pub unique_writes_after : {l old : List ℕ} {at : ℕ} {new new' : List ℕ} {end end' : ℕ}
    → WritesAfter l old at new end → WritesAfter l old at new' end' → (new ≡ new') × (end ≡ end')
unique_writes_after a b =
    let e = unique_writes (a.on_page 0) (b.on_page 0) in
    (ap (λ (p : Page 0). p.bytes) e, ap (λ (p : Page 0). p.used) e)
