-- 15 and 18 are given exactly where a bare 15 was, at the same place in each order; and what they tell does overload,
-- and nothing that is told before it does.
use mathlib.Core.Path.{◌≡◌, refl, sym, ap, ◌∙◌, subst}
use mathlib.Core.Bool.{Bool, true, false, not, ◌||◌}
use mathlib.Core.List.{List, [], ◌∷◌, ◌++◌, map}
use Prim.Native.Nat.{ℕ}
use lib.Dec.{eqb, leb}
use lib.ListN.{length}
use lib.IntN.{ℤ, nat_abs}
use Rattle.refusal.specs.declared.Refusal.{Refusal}
use Rattle.refusal.specs.declared.Refusal.TheVariants.{Malformed, OutOfRange, SplitCollector, NoRoom}
use Rattle.refusal.specs.declared.Refusal.TheVariants.{NumbersUsedUp, Unknown}
use Rattle.refusal.specs.Told.{number_of}
use Rattle.refusal.specs.Clash.{clash}
use Rattle.refusal.specs.Order.{Verdict, no, yes, refuse_if, and_then, number_told}
use Rattle.rows.specs.Outcome.{is_over}
use Rattle.totals.specs.Flow.{over_at, overloads}
use Rattle.terms.specs.Rows.{roles}
use Rattle.given.specs.Lists.{any_of}
use Rattle.given.specs.Arguments.{Found, none, some, issue_of, some_node_off, ties_of, torn, known, used_up}
use Rattle.given.specs.Pairs.{are_pairs, some_pair_off, Shift, shifts_of}
use Rattle.model.specs.Counts.{transistors_most}
use Rattle.model.specs.Faults.{Kind, ticks, ratio, Fault, first, refusal_by, refusal_for, refuse_first, faults_of}
use Rattle.model.specs.Faults.{faults_among}
use Rattle.model.specs.Desk.{Held, Standing, Desk, Call, place, move, refused, looked_by, moved_to, faults_at, held_as}
use Rattle.model.specs.Desk.{may_place}
use Rattle.model.specs.Desk.{may_move, placed, moved, step, after}
use Rattle.model.specs.declared.Answer.TheVariants.{Refused}
use Rattle.model.specs.Model.{answered, board_after}
use Rattle.days.specs.Told.{Among, FirstTold}
use Rattle.days.specs.Bare.{bare15, bare_of, bare, place_before, move_before}
use Rattle.model.specs.declared.Answer.{Answer}
use Rattle.days.specs.Stands.{reply_of}
use Rattle.days.proofs.FaultOrder.{first_told}
use Rattle.days.proofs.Follows.{follows}
use Rattle.days.proofs.Faults.{fault_by, faults_told, faults_none}

-- ---- where they are given

-- whether there is a fault
abbrev some_fault : List Fault → Bool
some_fault [] = false
some_fault (f ∷ l) = true

bare_for : (f : Fault) → bare_of (refusal_for f) ≡ bare15
bare_for f = go f.kind
  where
    go : (k : Kind) → bare_of (refusal_by k f.issue f.branch) ≡ bare15
    go ticks = refl
    go ratio = refl

bare_first : {A : Type 0} (l : List Fault) (v : Verdict A) →
    bare (refuse_first l v) ≡ refuse_if (some_fault l) bare15 (bare v)
bare_first [] v = refl
bare_first (f ∷ l) v = ap no (bare_for (first f l))

bare_if : {A : Type 0} (t : Bool) (f : Refusal) (v : Verdict A) → bare (refuse_if t f v) ≡ refuse_if t (bare_of f) (bare v)
bare_if true f v = refl
bare_if false f v = refl

fault_over : (issue : ℕ) (t : Standing) (volts : List ℤ) →
    some_fault (faults_of issue t.worked t.nodes volts) ≡ overloads t.worked t.nodes volts
unfolding overloads
fault_over issue t volts = go (is_over (over_at t.worked t.nodes volts)) refl
  where
    held : (f : Fault) (l : List Fault) → Among f l → some_fault l ≡ true
    held f [] m = absurd m
    held f (g ∷ l) m = refl

    go : (u : Bool) → is_over (over_at t.worked t.nodes volts) ≡ u →
        some_fault (faults_of issue t.worked t.nodes volts) ≡ u
    go true e =
        held (fault_by issue (over_at t.worked t.nodes volts)) (faults_of issue t.worked t.nodes volts)
        (faults_told issue t.worked t.nodes volts e).one
    go false e = rw (faults_none issue t.worked t.nodes volts e)

some_joined : (l m : List Fault) → some_fault (l ++ m) ≡ some_fault l || some_fault m
some_joined [] m = refl
some_joined (f ∷ l) m = refl

faults_over_all : (l : List Standing) (volts : List ℤ) →
    some_fault (faults_among (λ (t : Standing). faults_of t.issue t.worked t.nodes volts) l)
    ≡ any_of (λ (t : Standing). overloads t.worked t.nodes volts) l
unfolding faults_among any_of
faults_over_all [] volts = refl
faults_over_all (t ∷ l) volts =
    some_joined (faults_of t.issue t.worked t.nodes volts) _
    ∙ rw (fault_over t.issue t volts, faults_over_all l volts)

pub place_as_before : (d : Desk) (card : ℤ) (nodes : List ℤ) → bare (may_place d card nodes) ≡ place_before d card nodes
place_as_before d card nodes = go (held_as (issue_of card) d.cards)
  where
    go : (found : Found Held) →
        bare
        (and_then (known found)
        (λ (h : Held). refuse_if (some_node_off (looked_by h nodes)) OutOfRange
        (refuse_if (torn (ties_of h.worked) (looked_by h nodes)) SplitCollector
        (refuse_if (leb transistors_most (length d.standing)) NoRoom
        (refuse_if (used_up d.next) NumbersUsedUp
        (refuse_first (faults_of d.next h.worked (map nat_abs (looked_by h nodes)) d.volts) (yes h)))))))
        ≡ and_then (known found)
        (λ (h : Held). refuse_if (some_node_off (looked_by h nodes)) OutOfRange
        (refuse_if (torn (ties_of h.worked) (looked_by h nodes)) SplitCollector
        (refuse_if (leb transistors_most (length d.standing)) NoRoom
        (refuse_if (used_up d.next) NumbersUsedUp
        (refuse_if (overloads h.worked (map nat_abs (looked_by h nodes)) d.volts) bare15 (yes h))))))
    go none = refl
    go (some h) =
        rw
        (← (fault_over d.next
        (record {
          issue = d.next;
          card = h.issue;
          worked = h.worked;
          nodes = map nat_abs (looked_by h nodes);
        }) d.volts))
        (simp (bare_if, bare_first))

pub move_as_before : (d : Desk) (pairs : List ℤ) → bare (may_move d pairs) ≡ move_before d pairs
move_as_before d pairs =
    rw (← (faults_over_all d.standing (moved_to d.volts (shifts_of pairs)))) (simp (bare_if, bare_first))

-- ---- what they tell

refusal_one : (f g : Fault) → refusal_for f ≡ refusal_for g → f ≡ g
refusal_one f g e = go f.kind refl g.kind refl e
  where
    same : f.issue ≡ g.issue → f.branch ≡ g.branch → f.kind ≡ g.kind → f ≡ g
    same p q r = λ x. record { issue = p x; branch = q x; kind = r x }

    go : (k : Kind) → f.kind ≡ k → (l : Kind) → g.kind ≡ l →
        refusal_by k f.issue f.branch ≡ refusal_by l g.issue g.branch → f ≡ g
    go ticks p ticks q h = same (cc) (cc) (p ∙ sym q)
    go ticks p ratio q h = clash cc
    go ratio p ticks q h = clash cc
    go ratio p ratio q h = same (cc) (cc) (p ∙ sym q)

-- no other test draws one of the two
abbrev one_of_two : Refusal → Bool
one_of_two r = eqb (number_of r) 15 || eqb (number_of r) 18

other : {A : Type 0} (f : Fault) (r : Refusal) → one_of_two r ≡ false → ◌≡◌ {A = Verdict A} (no r) (no (refusal_for f)) → ⊥
other f r h e = go f.kind (ap number_told e)
  where
    go : (k : Kind) → number_of r ≡ number_of (refusal_by k f.issue f.branch) → ⊥
    go ticks n = let z : one_of_two r ≡ true = rw n in clash cc
    go ratio n = let z : one_of_two r ≡ true = rw n in clash cc

past_if : {A : Type 0} (f : Fault) (t : Bool) (r : Refusal) (v : Verdict A) → one_of_two r ≡ false →
    refuse_if t r v ≡ no (refusal_for f) → v ≡ no (refusal_for f)
past_if f true r v h e = absurd (other f r h e)
past_if f false r v h e = e

first_of : {A : Type 0} (f : Fault) (l : List Fault) (a : A) → refuse_first l (yes a) ≡ no (refusal_for f) → FirstTold f l
first_of f [] a e = clash cc
first_of f (g ∷ l) a e =
    let h : refusal_for (first g l) ≡ refusal_for f = cc in
    subst (λ (x : Fault). FirstTold x (g ∷ l)) (refusal_one (first g l) f h) (first_told g l)

-- a move that is turned away by 15 or 18: of all that would overload in the transistors that stand, the first
pub move_told : (d : Desk) (pairs : List ℤ) (f : Fault) → may_move d pairs ≡ no (refusal_for f) →
    FirstTold f (faults_at d (moved_to d.volts (shifts_of pairs)))
move_told d pairs f e =
    let a = past_if f (not (are_pairs pairs)) Malformed _ refl e in
    first_of f _ _ (past_if f (some_pair_off pairs) OutOfRange _ refl a)

-- and a placing: of all that would overload in the transistor with its number to come
pub place_told : (d : Desk) (card : ℤ) (nodes : List ℤ) (f : Fault) → may_place d card nodes ≡ no (refusal_for f) →
    (h : Held) × (held_as (issue_of card) d.cards ≡ some h)
    × FirstTold f (faults_of d.next h.worked (map nat_abs (looked_by h nodes)) d.volts)
place_told d card nodes f e = go (held_as (issue_of card) d.cards) refl e
  where
    go : (found : Found Held) → held_as (issue_of card) d.cards ≡ found →
        and_then (known found)
        (λ (h : Held). refuse_if (some_node_off (looked_by h nodes)) OutOfRange
        (refuse_if (torn (ties_of h.worked) (looked_by h nodes)) SplitCollector
        (refuse_if (leb transistors_most (length d.standing)) NoRoom
        (refuse_if (used_up d.next) NumbersUsedUp
        (refuse_first (faults_of d.next h.worked (map nat_abs (looked_by h nodes)) d.volts) (yes h))))))
        ≡ no (refusal_for f) →
        (h : Held) × (held_as (issue_of card) d.cards ≡ some h)
        × FirstTold f (faults_of d.next h.worked (map nat_abs (looked_by h nodes)) d.volts)
    go none p q = absurd (other f Unknown refl q)
    go (some h) p q =
        let a = past_if f (some_node_off (looked_by h nodes)) OutOfRange _ refl q in
        let b = past_if f (torn (ties_of h.worked) (looked_by h nodes)) SplitCollector _ refl a in
        let c = past_if f (leb transistors_most (length d.standing)) NoRoom _ refl b in
        (h, p, first_of f _ h (past_if f (used_up d.next) NumbersUsedUp _ refl c))

-- ---- the same of the board

no_of : (d : Desk) (f : Refusal) (v : Verdict (List Shift)) → (moved d v).reply ≡ refused f → v ≡ no f
no_of d f (no g) e = cc
no_of d f (yes shifts) e = clash cc

no_placing : (d : Desk) (nodes : List ℤ) (f : Refusal) (v : Verdict Held) → (placed d nodes v).reply ≡ refused f →
    v ≡ no f
no_placing d nodes f (no g) e = cc
no_placing d nodes f (yes h) e = clash cc

-- after any calls, what the board tells of a move is the first of all that would overload
pub board_tells_of_a_move : (calls : List Call) (pairs : List ℤ) (f : Fault) →
    (answered (board_after calls) (move pairs)).answer ≡ Refused (refusal_for f) →
    FirstTold f (faults_at (after calls) (moved_to (after calls).volts (shifts_of pairs)))
unfolding step
board_tells_of_a_move calls pairs f e =
    move_told (after calls) pairs f
    (no_of (after calls) (refusal_for f) (may_move (after calls) pairs)
    (sym (follows calls (move pairs)).reply
    ∙ ap (λ (a : Answer). reply_of a (answered (board_after calls) (move pairs)).ticks
    (answered (board_after calls) (move pairs)).list) e))

pub board_tells_of_a_placing : (calls : List Call) (card : ℤ) (nodes : List ℤ) (sized : length nodes ≡ roles)
    (f : Fault) →
    (answered (board_after calls) (place card nodes sized)).answer ≡ Refused (refusal_for f) →
    (h : Held) × (held_as (issue_of card) (after calls).cards ≡ some h)
    × FirstTold f (faults_of (after calls).next h.worked (map nat_abs (looked_by h nodes)) (after calls).volts)
unfolding step
board_tells_of_a_placing calls card nodes sized f e =
    place_told (after calls) card nodes f
    (no_placing (after calls) nodes (refusal_for f) (may_place (after calls) card nodes)
    (sym (follows calls (place card nodes sized)).reply
    ∙ ap (λ (a : Answer). reply_of a (answered (board_after calls) (place card nodes sized)).ticks
    (answered (board_after calls) (place card nodes sized)).list) e))
