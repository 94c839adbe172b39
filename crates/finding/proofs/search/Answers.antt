-- `finding::search` meets its contract: each piece of the directory is compared with the name, in its bytes.
use Rattle.std.proofs.Common.{◌≡◌, ℕ, cond, ltb, List, ◌++◌, length, Some, None, sym, ap, ◌∙◌, lit<, rules, tests}
use Rattle.std.specs.List.{position_or_len}
use Rattle.std.proofs.lemmas.Iterator.Search.{position_from_yields_List}
use Rattle.bytes_le.specs.Le.{bytes_of, word_bytes}
use Rattle.name.specs.Name.{same}
use Rattle.name.proofs.Laws.{words_in}
use Rattle.roll.specs.Directory.{name_bytes, names_in, names_held}
use Rattle.roll.proofs.Chunks.{starts, YieldsList-from_chunks_exact}
use Rattle.finding.proofs.Places.{piece_place}
use Rattle.finding.proofs.search.Goals as goal

pub returns : goal.returns
returns c =
    let d = c.args.d.now in
    let x : List ℕ = bytes_of word_bytes c.u64_at-low.result ++ bytes_of word_bytes c.u64_at-high.result in
    let e : c.args.x.now ≡ x = (words_in c.args.x.now (search rules) c.u64_at-low.ensures c.u64_at-high.ensures).bytes in
    let m : ℕ = length (names_in d) in
    position_from_yields_List (starts x) _ _ _ c.position.ensures.ran
    (YieldsList-from_chunks_exact name_bytes d (lit< tt) c.chunks_exact.ensures.rest c.chunks_exact.ensures.size)
    (λ y b q k. search (rules, tests))
    ∙ ap (λ (n : ℕ). cond (ltb n m) (Some n) None)
    (piece_place x (names_held d) d ∙ ap (λ (y : List ℕ). position_or_len (same y) (names_in d)) (sym e))
