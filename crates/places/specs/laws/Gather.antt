-- What is gathered, place by place; and a question put to what is gathered has the flat arrays' answer.
use Rattle.std.specs.Prelude.{◌≡◌, Bool, true, false, ◌||◌, List, eqb, ltb, length, get_or, ℤ}
use Rattle.std.proofs.Math.Path.{refl, ap}
use Rattle.std.proofs.Common.{sym, ◌∙◌, zero-add, arith, ltb-true, ltb-false}
use Rattle.std.proofs.Math.Bool.{cond}
use Prim.Native.Nat.{ℕ, zero, suc, ◌+◌, ◌*◌, ◌<◌}
use Rattle.std.proofs.Math.ListN.{get_or-eq_default}
use Rattle.deck.specs.OfRows.inner.FromTerms.{list_up}
use Rattle.deck.specs.Layout.{switches_each, ready_at}
use Rattle.deck.specs.laws.Ups.{length_up, get_or_up}
use Rattle.deck.specs.laws.Laid.{ready_joined, ready_close, ready_wide}
use Rattle.given.specs.Lists.{any_of, larger, largest}
use Rattle.deck.specs.OfCard.WorkedCard.{WorkedCard}
use Rattle.deck.specs.OfCard.Judge.{no_worked}
use Rattle.given.specs.Arguments.{none, ties_of}
use Rattle.places.specs.Counts.{cards_most, transistors_most}
use Rattle.places.specs.Gathered.{Card, card_in, cards_in, no_card, worked_at}
use Rattle.places.specs.Gathered.{Transistor, transistor_in, transistors_in, no_transistor}
use Rattle.places.specs.Finding.{first, found_at, is_card, is_transistor, card_place, transistor_place}
use Rattle.places.specs.Finding.{stands_on, stands_at, issue_if, highest_at}
use Rattle.places.specs.Sets.{set_of}
use Rattle.places.specs.inner.Flat.{is_at, first_at, number_place, ties_at, wide_at}
use Rattle.places.specs.inner.Flat.{stands_on_at, any_on, highest_in, naming_in}
use Rattle.places.specs.laws.Members.{set_same}

-- ---- two lists made up alike

module _ {A B : Type 0} (p : A → Bool) (q : B → Bool) (f : ℕ → A) (g : ℕ → B) (same : (i : ℕ) → p (f i) ≡ q (g i)) where
  first_up : (n k : ℕ) → first p (list_up f n k) ≡ first q (list_up g n k)
  unfolding first list_up
  first_up zero k = refl
  first_up (suc n) k = let rest = first_up n (suc k) in λ j. cond (same k j) 0 (suc (rest j))

  any_up : (n k : ℕ) → any_of p (list_up f n k) ≡ any_of q (list_up g n k)
  unfolding any_of list_up
  any_up zero k = refl
  any_up (suc n) k = let rest = any_up n (suc k) in λ j. same k j || rest j

highest_up : (asked : List ℕ) (f : ℕ → Card) (n k : ℕ) →
    highest_at asked (list_up f n k) ≡ largest (list_up (λ (i : ℕ). issue_if asked (f i).issue (f i).name) n k)
unfolding highest_at largest list_up
highest_up asked f zero k = refl
highest_up asked f (suc n) k = ap (larger (issue_if asked (f k).issue (f k).name)) (highest_up asked f n (suc k))

-- ---- cards

module _ (held names numbers powers ticks : List ℕ) (switches : List Bool) where
  abbrev cards : List Card
  cards = cards_in held names numbers powers ticks switches

  pub length_cards : length cards ≡ cards_most
  unfolding cards_in
  length_cards = length_up (card_in held names numbers powers ticks switches) cards_most 0

  pub card_there : (i : ℕ) → i < cards_most →
      get_or cards i no_card ≡ card_in held names numbers powers ticks switches i
  unfolding cards_in
  card_there i h =
      get_or_up (card_in held names numbers powers ticks switches) cards_most 0 i no_card h
      ∙ ap (card_in held names numbers powers ticks switches) (zero-add i)

  pub first_card : (n : ℕ) → first (is_card n) cards ≡ first_at cards_most n held
  unfolding cards_in
  first_card n =
      first_up (is_card n) (is_at n held) (card_in held names numbers powers ticks switches) (λ (i : ℕ). i) (λ i. refl)
      cards_most 0

  pub card_place_lem : (n : ℕ) → card_place n cards ≡ number_place cards_most n held
  card_place_lem n = ap (λ (k : ℕ). cond (eqb n 0) none (found_at cards_most k)) (first_card n)

  pub highest_flat : (asked : List ℕ) → highest_at asked cards ≡ highest_in asked held names
  unfolding cards_in
  highest_flat asked = highest_up asked (card_in held names numbers powers ticks switches) cards_most 0

  -- a switch: past the last place none is set
  switch_flat : (f : WorkedCard → Bool) (k : ℕ) → f no_worked ≡ false →
      ((i : ℕ) → f (ready_at numbers powers ticks switches i).card ≡ get_or switches (switches_each * i + k) false) →
      (i : ℕ) → length switches ≡ switches_each * cards_most →
      f (worked_at cards i) ≡ get_or switches (switches_each * i + k) false
  switch_flat f k unset is i long = go (ltb i cards_most) refl
    where
      go : (t : Bool) → ltb i cards_most ≡ t → f (worked_at cards i) ≡ get_or switches (switches_each * i + k) false
      go true e = ap (λ (c : Card). f c.ready.card) (card_there i (ltb-true i cards_most e)) ∙ is i
      go false e =
          let h = ltb-false i cards_most e in
          let l = length_cards in
          ap (λ (c : Card). f c.ready.card) (get_or-eq_default cards no_card (omega arith)) ∙ unset
          ∙ sym (get_or-eq_default switches false (omega arith))

  pub ties_flat : (i : ℕ) → length switches ≡ switches_each * cards_most → ties_of (worked_at cards i) ≡ ties_at switches i
  ties_flat i long =
      let a = switch_flat (λ (c : WorkedCard). c.rcbli_zero) 1 refl (ready_joined numbers powers ticks switches) i
      long in
      let b = switch_flat (λ (c : WorkedCard). c.rcblx_zero) 3 refl (ready_close numbers powers ticks switches) i
      long in
      λ j. record { joined = a j; close = b j }

  pub wide_flat : (i : ℕ) → length switches ≡ switches_each * cards_most → (worked_at cards i).wide ≡ wide_at switches i
  wide_flat i long =
      switch_flat (λ (c : WorkedCard). c.wide) 4 refl (ready_wide numbers powers ticks switches) i long

-- ---- transistors

module _ (issues cards seats nodes : List ℕ) (currents : List ℤ) where
  abbrev ts : List Transistor
  ts = transistors_in issues cards seats nodes currents

  pub length_transistors : length ts ≡ transistors_most
  unfolding transistors_in
  length_transistors = length_up (transistor_in issues cards seats nodes currents) transistors_most 0

  pub transistor_there : (i : ℕ) → i < transistors_most →
      get_or ts i no_transistor ≡ transistor_in issues cards seats nodes currents i
  unfolding transistors_in
  transistor_there i h =
      get_or_up (transistor_in issues cards seats nodes currents) transistors_most 0 i no_transistor h
      ∙ ap (transistor_in issues cards seats nodes currents) (zero-add i)

  pub first_transistor : (n : ℕ) → first (is_transistor n) ts ≡ first_at transistors_most n issues
  unfolding transistors_in
  first_transistor n =
      first_up (is_transistor n) (is_at n issues) (transistor_in issues cards seats nodes currents)
      (λ (i : ℕ). i) (λ i. refl)
      transistors_most 0

  pub transistor_place_lem : (n : ℕ) → transistor_place n ts ≡ number_place transistors_most n issues
  transistor_place_lem n = ap (λ (k : ℕ). cond (eqb n 0) none (found_at transistors_most k)) (first_transistor n)

  pub any_on_flat : (n : ℕ) → any_of (stands_on n) ts ≡ any_on n issues cards
  unfolding transistors_in
  any_on_flat n =
      any_up (stands_on n) (stands_on_at n issues cards) (transistor_in issues cards seats nodes currents) (λ (i : ℕ). i)
      (λ i. refl) transistors_most 0

  pub naming_flat : (n : ℕ) →
      set_of (λ (i : ℕ). stands_at n (get_or ts i no_transistor)) transistors_most ≡ naming_in n issues nodes
  naming_flat n = set_same _ _ transistors_most (λ i h. ap (stands_at n) (transistor_there i h))
