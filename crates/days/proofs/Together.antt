-- Moving together leaves what moving one after the other leaves, where no single move is refused on the way.
use mathlib.Core.Path.{◌≡◌, refl, sym, ap, subst, ◌∙◌}
use mathlib.Core.Bool.{Bool, true, false, not, ◌&&◌, ◌||◌}
use mathlib.Core.List.{List, [], ◌∷◌}
use Prim.Native.Nat.{◌%◌, ◌≤◌}
use native.Mathlib.Omega.{arith}
use lib.Dec.{eqb, leb}
use lib.ListN.{length, set}
use lib.IntN.{ℤ, nat_abs}
use borrow.Author.Tests.{eqb-true, leb-true}
use Rattle.refusal.specs.Clash.{clash}
use Rattle.refusal.specs.Order.{Verdict, no, yes, passes_if}
use Rattle.volts.specs.Volts.{off_volts}
use Rattle.given.specs.Arguments.{off_node}
use Rattle.given.specs.Pairs.{are_pairs, some_pair_off, Shift, shifts_of, shifted_in}
use Rattle.model.specs.Desk.{Desk, done, move, move_one, step, moved, may_move, moved_to, faults_at}
use Rattle.model.specs.Faults.{Fault, refuse_first}
use Rattle.days.specs.Singly.{singly, AllDone}

-- where nothing is told there is no fault
passes_first : {A : Type 0} (l : List Fault) (v : Verdict A) {a : A} → refuse_first l v ≡ yes a → (l ≡ []) × (v ≡ yes a)
passes_first [] v e = (refl, e)
passes_first (f ∷ l) v e = clash cc

-- the desk with these voltages
abbrev at_volts : Desk → List ℤ → Desk
at_volts d volts = record { cards = d.cards; standing = d.standing; volts = volts; next = d.next }

-- a list of pairs in range after which nothing overloads
record Quiet (d : Desk) (pairs : List ℤ) : Type 0 where
  on : some_pair_off pairs ≡ false
  quiet : faults_at d (moved_to d.volts (shifts_of pairs)) ≡ []

-- a move that is done: it sets its nodes' voltages alone
record Done (d : Desk) (pairs : List ℤ) : Type 0 where
  holds : Quiet d pairs
  leaves : (step d (move pairs)).desk ≡ at_volts d (moved_to d.volts (shifts_of pairs))

move_done : (d : Desk) (pairs : List ℤ) → (step d (move pairs)).reply ≡ done → Done d pairs
unfolding step
move_done d pairs e = go (may_move d pairs) refl e
  where
    go : (w : Verdict (List Shift)) → may_move d pairs ≡ w → (moved d w).reply ≡ done → Done d pairs
    go (no f) p q = clash cc
    go (yes shifts) p q =
        let a = passes_if (not (are_pairs pairs)) _ _ _ p in
        let b = passes_if (some_pair_off pairs) _ _ _ a.1 in
        let c = passes_first (faults_at d (moved_to d.volts (shifts_of pairs))) _ b.1 in
        let by : shifts_of pairs ≡ shifts = cc in
        record {
          holds = record { on = b.0; quiet = c.0 };
          leaves =
              ap (λ (w : Verdict (List Shift)). (moved d w).desk) p
              ∙ ap (λ (l : List Shift). at_volts d (moved_to d.volts l)) (sym by);
        }

-- and the other way round
does_move : (d : Desk) (pairs : List ℤ) → are_pairs pairs ≡ true → Quiet d pairs →
    step d (move pairs) ≡ record { reply = done; desk = at_volts d (moved_to d.volts (shifts_of pairs)) }
unfolding step
does_move d pairs e q = rw (e, q.on, q.quiet)

record Singles (d : Desk) (pairs : List ℤ) : Type 0 where
  holds : Quiet d pairs
  leaves : singly d pairs ≡ at_volts d (moved_to d.volts (shifts_of pairs))

one_more : (d : Desk) (n v : ℤ) (rest : List ℤ) → Done d (n ∷ v ∷ []) →
    Singles (at_volts d (set d.volts (nat_abs n) v)) rest → Singles d (n ∷ v ∷ rest)
unfolding singly some_pair_off shifts_of shifted_in
one_more d n v rest t s =
    record {
      holds = record { on = first_on t.holds.on s.holds.on; quiet = s.holds.quiet };
      leaves = ap (λ (x : Desk). singly x rest) t.leaves ∙ s.leaves;
    }
  where
    first_on : (off_node n || off_volts v) || false ≡ false → some_pair_off rest ≡ false →
        (off_node n || off_volts v) || some_pair_off rest ≡ false
    first_on p q = rw q p

singles : (d : Desk) (pairs : List ℤ) → 2 ≤ length pairs → length pairs % 2 ≡ 0 → AllDone d pairs → Singles d pairs
unfolding AllDone singly shifts_of shifted_in
singles d [] h p a = absurd (omega arith)
singles d (n ∷ []) h p a = absurd (omega arith)
singles d (n ∷ v ∷ []) h p a = last (move_done d (n ∷ v ∷ []) a.0)
  where
    last : Done d (n ∷ v ∷ []) → Singles d (n ∷ v ∷ [])
    last t = record { holds = t.holds; leaves = t.leaves }
singles d (n ∷ v ∷ m ∷ []) h p a = absurd (omega arith)
singles d (n ∷ v ∷ m ∷ w ∷ rest) h p a =
    let t = move_done d (n ∷ v ∷ []) a.0 in
    one_more d n v (m ∷ w ∷ rest) t
    (singles (at_volts d (set d.volts (nat_abs n) v)) (m ∷ w ∷ rest) (omega arith) (omega arith)
    (subst (λ (x : Desk). AllDone x (m ∷ w ∷ rest)) (after t) a.1))
  where
    after : Done d (n ∷ v ∷ []) → (step d (move_one n v)).desk ≡ at_volts d (set d.volts (nat_abs n) v)
    after t = t.leaves

both_true : (a b : Bool) → a && b ≡ true → (a ≡ true) × (b ≡ true)
both_true true b e = (refl, e)
both_true false b e = clash cc

-- a list of pairs whose single moves are all carried out is carried out together, and leaves the same desk
pub together_as_singly : (d : Desk) (pairs : List ℤ) → are_pairs pairs ≡ true → AllDone d pairs →
    step d (move pairs) ≡ record { reply = done; desk = singly d pairs }
together_as_singly d pairs e a =
    let both = both_true (eqb (length pairs % 2) 0) (leb 2 (length pairs) && leb (length pairs) 64) e in
    let two = both_true (leb 2 (length pairs)) (leb (length pairs) 64) both.1 in
    let s = singles d pairs (leb-true 2 (length pairs) two.0) (eqb-true (length pairs % 2) 0 both.0) a in
    does_move d pairs e s.holds ∙ ap (λ (x : Desk). record { reply = done; desk = x }) (sym s.leaves)
