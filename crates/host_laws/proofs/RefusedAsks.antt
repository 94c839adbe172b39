-- A refused question, to a board or to a library, leaves every lent place and buffer as it was.
use mathlib.Core.Path.{◌≡◌, refl, ◌∙◌}
use mathlib.Core.List.{List}
use Prim.Native.Nat.{ℕ}
use lib.ListN.{length}
use lib.IntN.{ℤ}
use borrow.Author.Tests.{ne_eqb}
use Rattle.refusal.specs.Order.{Verdict, no, yes, number_told}
use Rattle.bytes_le.specs.Buffer.{over}
use Rattle.directory.specs.Format.{directory, records, words_in}
use Rattle.finding.specs.Answers.{locating}
use Rattle.library.specs.Answers.{left, read}
use Rattle.model.specs.Board as model
use Rattle.model.specs.declared.Answer.{Answer}
use Rattle.model.specs.declared.Answer.TheVariants.{Issue, Done, Node, Currents, Listed, Summed, Refused}
use Rattle.model.specs.Model as calls
use Rattle.lending.specs.Rest.{bare}
use Rattle.lending.specs.Lending as lending
use Rattle.fetching.specs.OfBoard.Board.{Board}
use Rattle.fetching.specs.OfBoard.Promise.{model_of}
use Rattle.host_words.specs.Words.{result_of, issue_over}
use Rattle.host_values.specs.Values.{voltage_over, total_over, count_over, transistors_over, cards_over, largest_over}
use Rattle.host_queries.specs.Queries as queries
use Rattle.host_queries.specs.Queries.{LookedUp, Shown, Opened, SummedUp}
use Rattle.host_shelf.specs.Shelf.{first_over, second_over, ReadOut, Found}

-- an answer with a result that is not 0 is a refusal, which has no value
module _ (a : Answer) (some : result_of a ≡ 0 → ⊥) where
  no_issue : (i : ℕ) → issue_over a i ≡ i
  no_issue i = go a some
    where
      go : (x : Answer) → (result_of x ≡ 0 → ⊥) → issue_over x i ≡ i
      go (Issue n) k = absurd (k refl)
      go Done k = refl
      go (Node v t) k = refl
      go Currents k = refl
      go (Listed n) k = refl
      go (Summed t c l) k = refl
      go (Refused f) k = refl

  no_node : (x y : ℤ) → (voltage_over a x ≡ x) × (total_over a y ≡ y)
  no_node x y = go a some
    where
      go : (z : Answer) → (result_of z ≡ 0 → ⊥) → (voltage_over z x ≡ x) × (total_over z y ≡ y)
      go (Issue n) k = (refl, refl)
      go Done k = (refl, refl)
      go (Node v t) k = absurd (k refl)
      go Currents k = (refl, refl)
      go (Listed n) k = (refl, refl)
      go (Summed t c l) k = (refl, refl)
      go (Refused f) k = (refl, refl)

  no_count : (n : ℕ) → count_over a n ≡ n
  no_count n = go a some
    where
      go : (x : Answer) → (result_of x ≡ 0 → ⊥) → count_over x n ≡ n
      go (Issue m) k = refl
      go Done k = refl
      go (Node v t) k = refl
      go Currents k = refl
      go (Listed m) k = absurd (k refl)
      go (Summed t c l) k = refl
      go (Refused f) k = refl

  no_sum : (t c l : ℕ) → (transistors_over a t ≡ t) × ((cards_over a c ≡ c) × (largest_over a l ≡ l))
  no_sum t c l = go a some
    where
      go : (x : Answer) → (result_of x ≡ 0 → ⊥) →
          (transistors_over x t ≡ t) × ((cards_over x c ≡ c) × (largest_over x l ≡ l))
      go (Issue m) k = (refl, (refl, refl))
      go Done k = (refl, (refl, refl))
      go (Node x y) k = (refl, (refl, refl))
      go Currents k = (refl, (refl, refl))
      go (Listed m) k = (refl, (refl, refl))
      go (Summed x y z) k = absurd (k refl)
      go (Refused f) k = (refl, (refl, refl))

pub refused_look_up : {a : model.Answered} {i i' r : ℕ} → LookedUp a i i' r → (r ≡ 0 → ⊥) → i' ≡ i
refused_look_up {a} {i} p k = p.issue ∙ no_issue a.answer (λ z. k (p.result ∙ z)) i

pub refused_node : {l : lending.Lent} {x x' y y' : ℤ} {r : ℕ} → Shown l x x' y y' r → (r ≡ 0 → ⊥) → (x' ≡ x) × (y' ≡ y)
refused_node {l} {x} {x'} {y} p k =
    let left = no_node l.answer (λ z. k (p.result ∙ z)) x y in
    (p.microvolts ∙ left.0, p.ticks ∙ left.1)

pub refused_currents : {a : model.Answered} {old new : List ℤ} {r : ℕ} → Opened a old new r → (r ≡ 0 → ⊥) → new ≡ old
refused_currents {a} {old} {new} {r} p k = rw (ne_eqb r 0 k) at p.currents

pub refused_sum : {a : model.Answered} {t t' c c' l l' r : ℕ} → SummedUp a t t' c c' l l' r → (r ≡ 0 → ⊥) →
    (t' ≡ t) × ((c' ≡ c) × (l' ≡ l))
refused_sum {a} {t} {t'} {c} {c'} {l} p k =
    let left = no_sum a.answer (λ z. k (p.result ∙ z)) t c l in
    (p.transistors ∙ left.0, (p.cards ∙ left.1.0, p.largest ∙ left.1.1))

-- of a list it is a law of what the board lists: a refused answer lists nobody
module _ (b : Board) (node : ℤ) {old new : List ℕ} {n n' r : ℕ} where
  pub refused_list : queries.Listed (calls.listed_of (bare (model_of b)) node (length old)) old new n n' r → (r ≡ 0 → ⊥) →
      (new ≡ old) × (n' ≡ n)
  unfolding calls.listed_of
  refused_list p k =
      let some : result_of (calls.listed_of (bare (model_of b)) node (length old)).answer ≡ 0 → ⊥ =
      λ z. k (p.result ∙ z) in (
        p.list ∙ go (calls.may_list (bare (model_of b)) node (length old)) some,
        p.count ∙ no_count (calls.listed_of (bare (model_of b)) node (length old)).answer some n,
      )
    where
      go : (v : Verdict ℕ) → (result_of (calls.listed (bare (model_of b)) v).answer ≡ 0 → ⊥) →
          over (calls.listed (bare (model_of b)) v).list old ≡ old
      go (no f) k = refl
      go (yes i) k = absurd (k refl)

-- ---- a library

-- a verdict whose number is not 0 refuses
numbers_stay : (d : Verdict (ℕ × ℕ)) → (number_told d ≡ 0 → ⊥) → (a b : ℕ) → (first_over d a ≡ a) × (second_over d b ≡ b)
numbers_stay (no f) k a b = (refl, refl)
numbers_stay (yes p) k a b = absurd (k refl)

buffer_stays : (d : Verdict (ℕ × ℕ)) → (number_told d ≡ 0 → ⊥) → (new old : List ℕ) → left d new old ≡ old
buffer_stays (no f) k new old = refl
buffer_stays (yes p) k new old = absurd (k refl)

pub refused_read : {s ns ns' ws ws' : List ℕ} {c c' v v' r : ℕ} → ReadOut s ns ns' ws ws' c c' v v' r → (r ≡ 0 → ⊥) →
    (ns' ≡ ns) × ((ws' ≡ ws) × ((c' ≡ c) × (v' ≡ v)))
refused_read {s} {ns} {ns'} {ws} {ws'} {c} {c'} {v} p k =
    let d = read s (length ns) (length ws) in
    let some : number_told (read s (length ns) (length ws)) ≡ 0 → ⊥ = λ z. k (p.result ∙ z) in
    let numbers = numbers_stay d some c v in (
      p.names ∙ buffer_stays d some (directory s) ns,
      (p.words ∙ buffer_stays d some (words_in (records s)) ws, (p.cards ∙ numbers.0, p.version ∙ numbers.1)),
    )

pub refused_find : {s x : List ℕ} {a a' z z' r : ℕ} → Found s x a a' z z' r → (r ≡ 0 → ⊥) → (a' ≡ a) × (z' ≡ z)
refused_find {s} {x} {a} {a'} {z} p k =
    let numbers = numbers_stay (locating s x) (λ e. k (p.result ∙ e)) a z in
    (p.at ∙ numbers.0, p.size ∙ numbers.1)
