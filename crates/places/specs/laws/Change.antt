-- One place of the flat arrays written anew is one record set; and arrays of zeros hold empty places.
use Rattle.std.specs.Prelude.{◌≡◌, Bool, false, List, ℕ, ◌*◌, ◌<◌, length, set, replicate, ℤ, pos}
use Rattle.std.proofs.Common.{sym, ◌∙◌, arith, get_or-set_other}
use Rattle.std.proofs.Math.Path.{ap}
use Rattle.std.proofs.Math.Seq.{get_or-set_same}
use Rattle.name.specs.Name.{name_length}
use Rattle.deck.specs.OfTerms.Rows.{roles, branches}
use Rattle.deck.specs.OfRows.inner.FromTerms.{list_up}
use Rattle.deck.specs.Stretch.{written}
use Rattle.deck.specs.Layout.{numbers_each, powers_each, ticks_each, switches_each}
use Rattle.deck.specs.Layout.{numbers_of, powers_of, ticks_of, switches_of}
use Rattle.deck.specs.laws.Ups.{up_set, up_all}
use Rattle.deck.specs.laws.Stretches.{stretch_written, stretch_apart, stretch_none, get_or_none}
use Rattle.deck.specs.laws.Laid.{ready_put, ready_other, ready_fresh}
use Rattle.places.specs.Counts.{cards_most, transistors_most}
use Rattle.places.specs.Gathered.{Card, Transistor, card_in, cards_in, transistor_in, transistors_in}
use Rattle.places.specs.Gathered.{empty_card, no_card, empty_transistor, no_transistor}

module _ (held names numbers powers ticks : List ℕ) (switches : List Bool) (i : ℕ) (c : Card) where
  -- the cards with c written at place i of every array
  abbrev after : ℕ → Card
  after =
      card_in (set held i c.issue) (written 0 names (name_length * i) c.name name_length)
      (written 0 numbers (numbers_each * i) (numbers_of c.ready) numbers_each)
      (written 0 powers (powers_each * i) (powers_of c.ready.card) powers_each)
      (written 0 ticks (ticks_each * i) (ticks_of c.ready) ticks_each)
      (written false switches (switches_each * i) (switches_of c.ready.card) switches_each)

  other_card : (j : ℕ) → (j ≡ i → ⊥) → after j ≡ card_in held names numbers powers ticks switches j
  other_card j e =
      let e' : i ≡ j → ⊥ = λ q. e (sym q) in
      let a = get_or-set_other held i j c.issue 0 e in
      let b = stretch_apart 0 names c.name name_length i j e' in
      let r = ready_other numbers powers ticks switches i c.ready j e' in
      λ t. record { issue = a t; name = b t; ready = r t }

  pub cards_set : i < cards_most → length c.name ≡ name_length → length held ≡ cards_most →
      length names ≡ name_length * cards_most → length numbers ≡ numbers_each * cards_most →
      length powers ≡ powers_each * cards_most → length ticks ≡ ticks_each * cards_most →
      length switches ≡ switches_each * cards_most →
      cards_in (set held i c.issue) (written 0 names (name_length * i) c.name name_length)
      (written 0 numbers (numbers_each * i) (numbers_of c.ready) numbers_each)
      (written 0 powers (powers_each * i) (powers_of c.ready.card) powers_each)
      (written 0 ticks (ticks_each * i) (ticks_of c.ready) ticks_each)
      (written false switches (switches_each * i) (switches_of c.ready.card) switches_each)
      ≡ set (cards_in held names numbers powers ticks switches) i c
  unfolding cards_in
  cards_set h w a b n p t s =
      let x = get_or-set_same held i c.issue 0 (omega arith) in
      let y = stretch_written 0 names (name_length * i) c.name name_length (omega arith) w in
      let z = ready_put numbers powers ticks switches i c.ready h n p t s in
      let here : after i ≡ c = λ k. record { issue = x k; name = y k; ready = z k } in
      up_set no_card (card_in held names numbers powers ticks switches) after cards_most i h (λ j q e. other_card j e)
      ∙ ap (set (list_up (card_in held names numbers powers ticks switches) cards_most 0) i) here

module _ (issues cards seats nodes : List ℕ) (currents : List ℤ) (i : ℕ) (t : Transistor) where
  abbrev placed : ℕ → Transistor
  placed =
      transistor_in (set issues i t.issue) (set cards i t.card) (set seats i t.seat)
      (written 0 nodes (roles * i) t.nodes roles) (written (pos 0) currents (branches * i) t.currents branches)

  other_transistor : (j : ℕ) → (j ≡ i → ⊥) → placed j ≡ transistor_in issues cards seats nodes currents j
  other_transistor j e =
      let a = get_or-set_other issues i j t.issue 0 e in
      let b = get_or-set_other cards i j t.card 0 e in
      let c = get_or-set_other seats i j t.seat 0 e in
      let n = stretch_apart 0 nodes t.nodes roles i j (λ q. e (sym q)) in
      let x = stretch_apart (pos 0) currents t.currents branches i j (λ q. e (sym q)) in
      λ k. record { issue = a k; card = b k; seat = c k; nodes = n k; currents = x k }

  pub transistors_set : i < transistors_most → length t.nodes ≡ roles → length t.currents ≡ branches →
      length issues ≡ transistors_most → length cards ≡ transistors_most → length seats ≡ transistors_most →
      length nodes ≡ roles * transistors_most → length currents ≡ branches * transistors_most →
      transistors_in (set issues i t.issue) (set cards i t.card) (set seats i t.seat)
      (written 0 nodes (roles * i) t.nodes roles) (written (pos 0) currents (branches * i) t.currents branches)
      ≡ set (transistors_in issues cards seats nodes currents) i t
  unfolding transistors_in
  transistors_set h w v a b s n m =
      let x = get_or-set_same issues i t.issue 0 (omega arith) in
      let y = get_or-set_same cards i t.card 0 (omega arith) in
      let z = get_or-set_same seats i t.seat 0 (omega arith) in
      let on = stretch_written 0 nodes (roles * i) t.nodes roles (omega arith) w in
      let own = stretch_written (pos 0) currents (branches * i) t.currents branches (omega arith) v in
      let here : placed i ≡ t = λ k. record { issue = x k; card = y k; seat = z k; nodes = on k; currents = own k } in
      up_set no_transistor (transistor_in issues cards seats nodes currents) placed transistors_most i h
      (λ j q e. other_transistor j e)
      ∙ ap (set (list_up (transistor_in issues cards seats nodes currents) transistors_most 0) i) here

-- ---- zeros, as many as there may be

pub cards_fresh : (h m n p t s : ℕ) →
    cards_in (replicate h 0) (replicate m 0) (replicate n 0) (replicate p 0) (replicate t 0) (replicate s false)
    ≡ replicate cards_most empty_card
unfolding cards_in
cards_fresh h m n p t s =
    up_all _ empty_card cards_most 0
    (λ i.
    let a = get_or_none {A = ℕ} 0 h i in
    let b = stretch_none {A = ℕ} 0 m (name_length * i) name_length in
    let r = ready_fresh n p t s i in
    λ k. record { issue = a k; name = b k; ready = r k })

pub transistors_fresh : (h m n p q : ℕ) →
    transistors_in (replicate h 0) (replicate m 0) (replicate n 0) (replicate p 0) (replicate q (pos 0))
    ≡ replicate transistors_most empty_transistor
unfolding transistors_in
transistors_fresh h m n p q =
    up_all _ empty_transistor transistors_most 0
    (λ i.
    let a = get_or_none {A = ℕ} 0 h i in
    let b = get_or_none {A = ℕ} 0 m i in
    let c = get_or_none {A = ℕ} 0 n i in
    let d = stretch_none {A = ℕ} 0 p (roles * i) roles in
    let e = stretch_none {A = ℤ} (pos 0) q (branches * i) branches in
    λ k. record { issue = a k; card = b k; seat = c k; nodes = d k; currents = e k })
