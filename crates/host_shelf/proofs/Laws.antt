-- What each call leaves, from what the library's operation ensures of its answer.
use Rattle.std.proofs.Common.{◌≡◌, ℕ, List, length, Ok, Err, ap}
use Rattle.refusal.specs.declared.Refusal.{Refusal}
use Rattle.refusal.specs.Told.{number_of}
use Rattle.refusal.specs.Order.{Verdict, no, yes, number_told, tells, tells_one}
use Rattle.finding.specs.declared.Place.{Place}
use Rattle.finding.specs.Answers.{locating, told_located}
use Rattle.library.specs.declared.Contents.{Contents}
use Rattle.library.specs.Answers.{read, Reads}
use Rattle.host_shelf.specs.Shelf.{first_over, second_over, ReadOut, Found}

module _ {s ns ns' ws ws' : List ℕ} (c v : ℕ) where
  pub reads_out : (k : Contents) → Reads s ns ws (Ok k) ns' ws' → ReadOut s ns ns' ws ws' c k.cards v k.version 0
  reads_out k p =
      let e : yes (k.cards, k.version) ≡ read s (length ns) (length ws) = tells_one _ _ p.answer in
      record {
        result = ap number_told e;
        names = p.names;
        words = p.words;
        cards = ap (λ (d : Verdict (ℕ × ℕ)). first_over d c) e;
        version = ap (λ (d : Verdict (ℕ × ℕ)). second_over d v) e;
      }

  pub reads_not : (f : Refusal) → Reads s ns ws (Err f) ns' ws' → ReadOut s ns ns' ws ws' c c v v (number_of f)
  reads_not f p =
      let e : no f ≡ read s (length ns) (length ws) = tells_one _ _ p.answer in
      record {
        result = ap number_told e;
        names = p.names;
        words = p.words;
        cards = ap (λ (d : Verdict (ℕ × ℕ)). first_over d c) e;
        version = ap (λ (d : Verdict (ℕ × ℕ)). second_over d v) e;
      }

module _ (s x : List ℕ) (a z : ℕ) where
  pub finds : (l : Place) → told_located (Ok l) ≡ tells (locating s x) → Found s x a l.at z l.size 0
  finds l p =
      let e : yes (l.at, l.size) ≡ locating s x = tells_one _ _ p in
      record {
        result = ap number_told e;
        at = ap (λ (d : Verdict (ℕ × ℕ)). first_over d a) e;
        size = ap (λ (d : Verdict (ℕ × ℕ)). second_over d z) e;
      }

  pub finds_not : (f : Refusal) → told_located (Err f) ≡ tells (locating s x) → Found s x a a z z (number_of f)
  finds_not f p =
      let e : no f ≡ locating s x = tells_one _ _ p in
      record {
        result = ap number_told e;
        at = ap (λ (d : Verdict (ℕ × ℕ)). first_over d a) e;
        size = ap (λ (d : Verdict (ℕ × ℕ)). second_over d z) e;
      }
