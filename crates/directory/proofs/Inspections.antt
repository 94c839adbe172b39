-- A library inspected: what its header and its names say where nothing is refused.
use mathlib.Core.Path.{◌≡◌, sym, ◌∙◌, ap, ap₂}
use mathlib.Core.Bool.{true, not}
use mathlib.Core.List.{List}
use Prim.Native.Nat.{ℕ, ◌*◌, ◌≤◌}
use native.Mathlib.Omega.{arith}
use lib.ListN.{length}
use Rattle.refusal.specs.declared.Refusal.TheVariants.{Malformed}
use Rattle.refusal.specs.Order.{Verdict, yes}
use Rattle.directory.specs.Judged.{library_judged, names_judged}
use Rattle.directory.specs.Format.{count, directory, headed, most_cards, version, whole_of, words_of}
use Rattle.directory.proofs.Headers.{directory_part_lem, directory_part, few, narrow, sized}
use Rattle.directory.proofs.Verdicts.{library_yes, passed}
use Rattle.directory.specs.Format.{most_words}

pub by_header : (s : List ℕ) {n k : ℕ} → headed s ≡ true → n ≡ count s → k ≡ words_of (version s) → {v : Verdict (ℕ × ℕ)}
    → v ≡ names_judged (directory_part s n) (n, k) → v ≡ library_judged s
unfolding library_judged
by_header s {n} {k} h en ek e =
    e ∙ ap (λ (d : List ℕ). names_judged d (n, k)) (directory_part_lem s en)
    ∙ ap₂ (λ (a b : ℕ). names_judged (directory s) (a, b)) en ek ∙ sym (passed (ap not h) Malformed _)

-- a sound library of n cards with k words each
pub record Inspected (s : List ℕ) (n k : ℕ) : Type 0 where
  pub is_count : n ≡ count s
  pub cards : n ≤ most_cards
  pub width : k ≤ most_words
  pub words : k * n ≤ most_words * most_cards
  pub long : length s ≡ whole_of k n
  pub judged : library_judged s ≡ yes (n, k)

pub inspected : (s : List ℕ) {n k : ℕ} → library_judged s ≡ yes (n, k) → Inspected s n k
inspected s {n} {k} e =
    let g = library_yes s e in
    let z = sized s g.0.header in
    let en : n ≡ count s = sym (ap (λ (q : ℕ × ℕ). q.0) g.1) in
    let ek : k ≡ words_of (version s) = sym (ap (λ (q : ℕ × ℕ). q.1) g.1) in
    let hn : n ≤ most_cards = omega arith in
    let hk : k ≤ most_words = omega (arith, narrow (version s)) in
    record {
      is_count = en;
      cards = hn;
      width = hk;
      words = few hk hn;
      long = z.long ∙ sym (ap₂ whole_of ek en);
      judged = e;
    }
