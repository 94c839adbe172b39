-- Names and words that are to become a library: the tests in their order, and what is known where nothing is refused.
use mathlib.Core.Path.{◌≡◌, sym, ◌∙◌, ap, ap₂}
use mathlib.Core.Bool.{Bool, true, false, ◌&&◌, not}
use mathlib.Core.List.{List}
use Prim.Native.Nat.{ℕ, ◌*◌, ◌<◌, ◌≤◌}
use native.Mathlib.Omega.{arith}
use borrow.Author.Tests.{ltb-true, leb-true, eqb-true, lt-ltb, le-ltb, le-leb, lt-leb, eq-eqb, ne_eqb, not-false}
use lib.Dec.{eqb, leb, ltb}
use lib.ListN.{length}
use Rattle.name.proofs.Laws.{and_true, and_false}
use Rattle.refusal.specs.declared.Refusal.TheVariants.{Malformed}
use Rattle.directory.specs.Format.{words_of, offered, most_cards}
use Rattle.directory.specs.Judged.{names_judged, offer_judged}
use Rattle.directory.proofs.Verdicts.{SoundNames, drawn, names_yes, passed, refuse_yes}
use Rattle.directory.proofs.Headers.{narrow, few, both}
use Rattle.refusal.specs.Order.{Verdict, no, yes}
use Rattle.roll.specs.Directory.{name_bytes, names_held}
use Rattle.directory.specs.Format.{most_words}

module _ (v : ℕ) (ns ws : List ℕ) {k : ℕ} (e : k ≡ words_of v) where
  refuse : offered v ns ws ≡ false → no Malformed ≡ offer_judged v ns ws
  unfolding offer_judged
  refuse h = sym (drawn (ap not h) Malformed _)

  pub offer_version : k ≡ 0 → no Malformed ≡ offer_judged v ns ws
  unfolding offered
  offer_version z = let h : words_of v ≤ 0 = omega arith in refuse (and_false (le-ltb 0 (words_of v) h) _)

  module _ (z : k ≡ 0 → ⊥) where
    known : ltb 0 (words_of v) ≡ true
    known = let h : 0 < words_of v = omega arith in lt-ltb 0 (words_of v) h

    pub offer_names : (length ns ≡ name_bytes * (names_held ns) → ⊥) → no Malformed ≡ offer_judged v ns ws
    unfolding offered
    offer_names h = refuse (and_true known ∙ and_false (ne_eqb _ _ h) _)

    module _ (hn : length ns ≡ name_bytes * (names_held ns)) where
      pub offer_count : most_cards < names_held ns → no Malformed ≡ offer_judged v ns ws
      unfolding offered
      offer_count h = refuse (and_true known ∙ and_true (eq-eqb _ _ hn) ∙ and_false (lt-leb _ most_cards h) _)

      module _ (hc : names_held ns ≤ most_cards) where
        so_far : offered v ns ws ≡ eqb (length ws) (k * (names_held ns))
        unfolding offered
        so_far =
            and_true known ∙ and_true (eq-eqb _ _ hn) ∙ and_true (le-leb _ most_cards hc) ∙ ap
            (λ (m : ℕ). eqb (length ws) (m * (names_held ns))) (sym e)

        pub offer_words : (length ws ≡ k * (names_held ns) → ⊥) → no Malformed ≡ offer_judged v ns ws
        offer_words h = refuse (so_far ∙ ne_eqb _ _ h)

        pub offer_judged_lem : length ws ≡ k * (names_held ns) → {w : Verdict (ℕ × ℕ)}
            → w ≡ names_judged ns (names_held ns, k) → w ≡ offer_judged v ns ws
        unfolding offer_judged
        offer_judged_lem h f =
            f ∙ ap (λ (m : ℕ). names_judged ns (names_held ns, m)) e ∙ sym
            (passed (ap not (so_far ∙ eq-eqb _ _ h)) Malformed _)

-- ---- what is known where nothing is refused

pub record Offered (v : ℕ) (ns ws : List ℕ) (n k : ℕ) : Type 0 where
  pub is_count : n ≡ names_held ns
  pub is_width : k ≡ words_of v
  pub known : 0 < words_of v
  pub cards : n ≤ most_cards
  pub width : k ≤ most_words
  pub words : k * n ≤ most_words * most_cards
  pub names_long : length ns ≡ name_bytes * n
  pub words_long : length ws ≡ k * n
  pub names : SoundNames ns
  pub judged : offer_judged v ns ws ≡ yes (n, k)

pub offers : (v : ℕ) (ns ws : List ℕ) {n k : ℕ} → offer_judged v ns ws ≡ yes (n, k) → Offered v ns ws n k
unfolding offer_judged offered
offers v ns ws {n} {k} e =
    let m : ℕ = names_held ns in
    let right : Bool = leb m most_cards && eqb (length ws) (words_of v * m) in
    let g = refuse_yes (not (offered v ns ws)) Malformed e in
    let q = names_yes ns g.1 in
    let en : n ≡ m = sym (ap (λ (w : ℕ × ℕ). w.0) q.1) in
    let ek : k ≡ words_of v = sym (ap (λ (w : ℕ × ℕ). w.1) q.1) in
    let e₁ = both (ltb 0 (words_of v)) (eqb (length ns) (name_bytes * m) && right) (not-false _ g.0) in
    let e₂ = both (eqb (length ns) (name_bytes * m)) right e₁.1 in
    let e₃ = both (leb m most_cards) (eqb (length ws) (words_of v * m)) e₂.1 in
    let hl : length ns ≡ name_bytes * m = eqb-true _ _ e₂.0 in
    let hm : m ≤ most_cards = leb-true _ _ e₃.0 in
    let hn : n ≤ most_cards = omega arith in
    let hk : k ≤ most_words = omega (arith, narrow v) in
    record {
      is_count = en;
      is_width = ek;
      known = ltb-true 0 (words_of v) e₁.0;
      cards = hn;
      width = hk;
      words = few hk hn;
      names_long = omega arith;
      words_long = eqb-true (length ws) (words_of v * m) e₃.1 ∙ sym (ap₂ (λ (a b : ℕ). a * b) ek en);
      names = q.0;
      judged = e;
    }
