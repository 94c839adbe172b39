-- The sets of nodes beside what stands: whoever comes joins those that a fresh scan would find it in, and whoever
-- leaves leaves them.
use mathlib.Core.Path.{◌≡◌, refl, sym, ap, ◌∙◌}
use mathlib.Core.Bool.{Bool, true, false, cond, not, ◌&&◌, ◌||◌}
use mathlib.Core.List.{List}
use Prim.Native.Nat.{ℕ, ◌<◌}
use native.Mathlib.Nat.{zero-add}
use lib.Dec.{eqb}
use lib.ListN.{length, get_or, set}
use lib.Seq.{get_or-set_same, get_or-set_other}
use borrow.Author.Tests.{eqb-true, eqb-false, eq-eqb, ne_eqb}
use Rattle.settle.specs.OfDeck.laws.Ups.{length_up, get_or_up}
use Rattle.settle.specs.OfPlaces.Gathered.{Transistor, no_transistor}
use Rattle.settle.specs.OfPlaces.Finding.{names, stands_at}
use Rattle.settle.specs.OfPlaces.Sets.{member, set_of, with_place, without_place}
use Rattle.settle.specs.OfPlaces.Naming.{at_nodes, joined, parted}
use Rattle.settle.specs.OfPlaces.laws.Members.{member_set, set_same}
use Rattle.model.specs.Counts.{nodes_most, transistors_most}

-- a fresh scan: the places of the transistors that name the node n
abbrev pub scan_of : List Transistor → ℕ → ℕ
scan_of ts n = set_of (λ (i : ℕ). stands_at n (get_or ts i no_transistor)) transistors_most

-- each node's set is one
pub record Scans (sets : List ℕ) (ts : List Transistor) : Type 0 where
  pub at : (n : ℕ) → n < nodes_most → get_or sets n 0 ≡ scan_of ts n

at_node_lem : (f : ℕ → ℕ) (sets nodes : List ℕ) (n : ℕ) → n < nodes_most →
    get_or (at_nodes f sets nodes) n 0 ≡ cond (names n nodes) (f (get_or sets n 0)) (get_or sets n 0)
unfolding at_nodes
at_node_lem f sets nodes n h =
    let g : ℕ → ℕ = λ (m : ℕ). cond (names m nodes) (f (get_or sets m 0)) (get_or sets m 0) in
    get_or_up g nodes_most 0 n 0 h ∙ ap g (zero-add n)

pub at_nodes_long : (f : ℕ → ℕ) (sets nodes : List ℕ) → length (at_nodes f sets nodes) ≡ nodes_most
unfolding at_nodes
at_nodes_long f sets nodes = length_up _ nodes_most 0

nobody : (n : ℕ) (t : Transistor) → t.issue ≡ 0 → stands_at n t ≡ false
nobody n t e = rw (eq-eqb t.issue 0 e)

not_named : (n : ℕ) (t : Transistor) → names n t.nodes ≡ false → stands_at n t ≡ false
not_named n t e = go (eqb t.issue 0)
  where
    go : (b : Bool) → cond b false (names n t.nodes) ≡ false
    go true = refl
    go false = e

-- what stands at the places once t stands at p
module _ (ts : List Transistor) (p : ℕ) (t : Transistor) (below : p < length ts) (n : ℕ) where
  abbrev here : ℕ → Bool
  here j = stands_at n (get_or ts j no_transistor)

  abbrev now : ℕ → Bool
  now j = stands_at n (get_or (set ts p t) j no_transistor)

  at_it : (j : ℕ) → j ≡ p → now j ≡ stands_at n t
  at_it j e = rw (e, get_or-set_same ts p t no_transistor below)

  aside : (j : ℕ) → (j ≡ p → ⊥) → now j ≡ here j
  aside j h = rw (get_or-set_other ts p j t no_transistor h)

  scan_comes : stands_at n t ≡ true → with_place (scan_of ts n) p ≡ scan_of (set ts p t) n
  unfolding with_place
  scan_comes e =
      set_same (λ (j : ℕ). member (scan_of ts n) j || eqb j p) now transistors_most
      (λ j h. ap (λ (b : Bool). b || eqb j p) (member_set here transistors_most j h) ∙ go j (eqb j p) refl)
    where
      either : (a : Bool) → a || true ≡ true
      either true = refl
      either false = refl

      alone : (a : Bool) → a || false ≡ a
      alone true = refl
      alone false = refl

      go : (j : ℕ) (u : Bool) → eqb j p ≡ u → here j || u ≡ now j
      go j true q = either (here j) ∙ sym (at_it j (eqb-true j p q) ∙ e)
      go j false q = alone (here j) ∙ sym (aside j (eqb-false j p q))

  scan_goes : stands_at n t ≡ false → without_place (scan_of ts n) p ≡ scan_of (set ts p t) n
  unfolding without_place
  scan_goes e =
      set_same (λ (j : ℕ). member (scan_of ts n) j && not (eqb j p)) now transistors_most
      (λ j h. ap (λ (b : Bool). b && not (eqb j p)) (member_set here transistors_most j h) ∙ go j (eqb j p) refl)
    where
      neither : (a : Bool) → a && false ≡ false
      neither true = refl
      neither false = refl

      alone : (a : Bool) → a && true ≡ a
      alone true = refl
      alone false = refl

      go : (j : ℕ) (u : Bool) → eqb j p ≡ u → here j && not u ≡ now j
      go j true q = neither (here j) ∙ sym (at_it j (eqb-true j p q) ∙ e)
      go j false q = alone (here j) ∙ sym (aside j (eqb-false j p q))

  -- one that did not name the node, and does not
  scan_stays : here p ≡ false → stands_at n t ≡ false → scan_of ts n ≡ scan_of (set ts p t) n
  scan_stays e f = set_same here now transistors_most (λ j h. go j (eqb j p) refl)
    where
      go : (j : ℕ) (u : Bool) → eqb j p ≡ u → here j ≡ now j
      go j true q = ap here (eqb-true j p q) ∙ e ∙ sym (at_it j (eqb-true j p q) ∙ f)
      go j false q = sym (aside j (eqb-false j p q))

pub scans_joined : {sets : List ℕ} {ts : List Transistor} → Scans sets ts → (p : ℕ) (t : Transistor) → p < length ts →
    (get_or ts p no_transistor).issue ≡ 0 → (t.issue ≡ 0 → ⊥) → Scans (joined sets p t.nodes) (set ts p t)
scans_joined {sets} {ts} s p t below free given =
    record {
      at =
          λ n h. at_node_lem (λ (x : ℕ). with_place x p) sets t.nodes n h
          ∙ go n (names n t.nodes) refl (s.at n h);
    }
  where
    go : (n : ℕ) (u : Bool) → names n t.nodes ≡ u → get_or sets n 0 ≡ scan_of ts n →
        cond u (with_place (get_or sets n 0) p) (get_or sets n 0) ≡ scan_of (set ts p t) n
    go n true e q =
        ap (λ (x : ℕ). with_place x p) q ∙ scan_comes ts p t below n (rw (ne_eqb t.issue 0 given) e)
    go n false e q =
        q ∙ scan_stays ts p t below n (nobody n (get_or ts p no_transistor) free) (not_named n t e)

pub scans_parted : {sets : List ℕ} {ts : List Transistor} → Scans sets ts → (p : ℕ) (t : Transistor) → p < length ts →
    t.issue ≡ 0 → Scans (parted sets p (get_or ts p no_transistor).nodes) (set ts p t)
scans_parted {sets} {ts} s p t below none =
    record {
      at =
          λ n h. at_node_lem (λ (x : ℕ). without_place x p) sets (get_or ts p no_transistor).nodes n h
          ∙ go n (names n (get_or ts p no_transistor).nodes) refl (s.at n h);
    }
  where
    go : (n : ℕ) (u : Bool) → names n (get_or ts p no_transistor).nodes ≡ u → get_or sets n 0 ≡ scan_of ts n →
        cond u (without_place (get_or sets n 0) p) (get_or sets n 0) ≡ scan_of (set ts p t) n
    go n true e q = ap (λ (x : ℕ). without_place x p) q ∙ scan_goes ts p t below n (nobody n t none)
    go n false e q =
        q ∙ scan_stays ts p t below n (not_named n (get_or ts p no_transistor) e) (nobody n t none)
