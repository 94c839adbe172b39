-- What `chunks_exact` gives of a slice: its pieces, one after the other; and what `name::stands_at` says of a piece.
use Rattle.std.proofs.Common.{◌≡◌, ℕ, Bool, ◌<◌, ◌≤◌, List, ◌∷◌, ◌++◌, length, take, drop, ap, ap₂, subst, ◌∙◌, arith, length-append, length-take}
use Rattle.std.specs.Slice.Iter.{chunks_exact_rest, chunks_exact_size, chunks_exact_steps}
use Rattle.std.proofs.lemmas.Iterator.{YieldsList}
use Rattle.std.proofs.lemmas.Iterator.Splits.{YieldsList-from_shown_while}
use lib.Seq.{take_at, drop_at, take_all}
use Rattle.name.specs.Name.{same}
use Rattle.roll.specs.Directory.{cut, name_bytes}
use Rattle.roll.proofs.Names.{cut_none, cut_more}

cut_append : (w : ℕ) (x s : List ℕ) → 0 < w → length x ≡ w → cut w (x ++ s) ≡ x ∷ cut w s
cut_append w x s p l =
    let long : w ≤ length (x ++ s) = omega (arith, length-append x s) in
    cut_more w (x ++ s) p long ∙ ap₂ (λ (a b : List ℕ). a ∷ cut w b) (take_at x s w l) (drop_at x s w l)

pub YieldsList-from_chunks_exact : {s : _} (w : ℕ) (xs : List ℕ) → 0 < w → chunks_exact_rest s ≡ xs
    → chunks_exact_size s ≡ w
    → YieldsList (chunks_exact_steps {A = ℕ}) (λ x. x.now) s (cut w xs)
YieldsList-from_chunks_exact {s} w xs p e f =
    subst (λ (l : List ℕ). YieldsList (chunks_exact_steps {A = ℕ}) (λ x. x.now) s (cut w l)) e
    (YieldsList-from_shown_while (chunks_exact_steps {A = ℕ}) (λ x. x.now) (λ u. cut w (chunks_exact_rest u))
    (λ u. chunks_exact_size u ≡ w)
    (λ u t h g. ap length (cut_none w (chunks_exact_rest u) (omega arith)))
    (λ u x t h g. (g.0 ∙ h, ap (cut w) g.1.0 ∙ cut_append w x.now (chunks_exact_rest t) p (omega arith)))
    s f)

-- whether x stands at the start of a piece, as `stands_at` reads it
abbrev pub starts : List ℕ → List ℕ → Bool
starts x y = same x (take name_bytes (drop 0 y))

pub starts_piece : (x s : List ℕ) → starts x (take name_bytes s) ≡ same x (take name_bytes s)
starts_piece x s = ap (same x) (take_all name_bytes (take name_bytes s) (rw length-take (omega arith)))
