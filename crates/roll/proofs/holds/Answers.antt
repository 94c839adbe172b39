-- `roll::holds` meets its contract: some name of the directory is the one looked for.
use Rattle.std.proofs.Common.{◌≡◌, ℕ, zero, suc, ◌||◌, List, ◌++◌, drop, refl, ap₂, ◌∙◌, lit<, rules, tests}
use Rattle.std.specs.List.{list_any}
use Rattle.std.proofs.lemmas.Iterator.Search.{any_from_yields_List}
use Rattle.bytes_le.specs.Le.{bytes_of, word_bytes}
use Rattle.roll.specs.Directory.{name_bytes, names_held, pieces, among}
use Rattle.roll.proofs.Chunks.{starts, starts_piece, YieldsList-from_chunks_exact}
use Rattle.roll.proofs.holds.Goals as goal

any_piece : (x : List ℕ) (n : ℕ) (s : List ℕ)
    → list_any (starts x) (pieces name_bytes n s) ≡ among x (pieces name_bytes n s)
any_piece x zero s = refl
any_piece x (suc n) s =
    ap₂ ◌||◌ (starts_piece x s) (any_piece x n (drop name_bytes s))

pub returns : goal.returns
returns c =
    let d = c.args.d.now in
    let x : List ℕ = bytes_of word_bytes c.args.low ++ bytes_of word_bytes c.args.high in
    any_from_yields_List (starts x) _ _ _ c.any.ensures.ran
    (YieldsList-from_chunks_exact name_bytes d (lit< tt) c.chunks_exact.ensures.rest c.chunks_exact.ensures.size)
    (λ y b q k. search (rules, tests))
    ∙ any_piece x (names_held d) d
