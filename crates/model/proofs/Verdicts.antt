-- What a call that is taken has passed: each test of its order.
use mathlib.Core.Path.{◌≡◌, refl, ap, ◌∙◌}
use mathlib.Core.Bool.{Bool, true, false, cond, not, ◌||◌}
use mathlib.Core.List.{List}
use Prim.Native.Nat.{ℕ, ◌≤◌, ◌<◌}
use native.Mathlib.Omega.{arith}
use lib.IntN.{ℤ, pos, negsuc, nat_abs}
use Rattle.refusal.specs.declared.Refusal.TheVariants.{NoRoom, NumbersUsedUp}
use Rattle.card.specs.declared.WorkedCard.{WorkedCard}
use Rattle.card.specs.Judge.{judge_of}
use Rattle.clip.specs.Record.{right_length}
use Rattle.name.specs.Name.{asked}
use Rattle.std.specs.Prelude.{Option}
use Rattle.settle.specs.OfRowsTypes.Over.{Over}
use Rattle.settle.specs.OfRows.Outcome.{is_over}
use Rattle.settle.specs.declared.First.{First}
use Rattle.settle.specs.First.{first_by}
use lib.Dec.{leb, ltb}
use borrow.Author.Tests.{leb-false}
use Rattle.model.specs.Counts.{nodes_most}
use Rattle.settle.specs.OfGiven.Arguments.{Found, none, some, off_node, some_node_off, Ties, torn}
use Rattle.settle.specs.OfGiven.Pairs.{are_pairs, some_pair_off, Shift, shifts_of}
use Rattle.settle.specs.OfGiven.inner.Nodes.{node_of}
use Rattle.model.specs.Verdict.{load_verdict, place_verdict, move_verdict, lift_verdict, withdraw_verdict, node_verdict}
use Rattle.model.specs.Verdict.{open_verdict}
use Rattle.refusal.specs.Order.{Verdict, no, yes, refuse_if, and_then, passes_if}
use Rattle.refusal.specs.Clash.{clash}

pub record Loads (bytes : List ℕ) (no_room used : Bool) (c : WorkedCard) : Type 0 where
  pub judged : judge_of bytes ≡ yes c
  pub room : no_room ≡ false
  pub number : used ≡ false

pub loads : (name : List ℕ) {bytes : List ℕ} {no_room used : Bool} {c : WorkedCard} →
    load_verdict name bytes no_room used ≡ yes c → Loads bytes no_room used c
unfolding load_verdict
loads name {bytes} {no_room} {used} {c} e =
    let p = (passes_if (not (right_length bytes)) _ _ _ e).1 in
    let q = (passes_if (not (asked name)) _ _ _ p).1 in go (judge_of bytes) refl q
  where
    go : (v : Verdict WorkedCard) → judge_of bytes ≡ v →
        and_then v (λ (d : WorkedCard). refuse_if no_room NoRoom (refuse_if used NumbersUsedUp (yes d))) ≡ yes c →
        Loads bytes no_room used c
    go (no f) j h = clash cc
    go (yes d) j h =
        let r = passes_if no_room _ _ _ h in
        let s = passes_if used _ _ _ r.1 in
        let same : d ≡ c = cc in record { judged = j ∙ ap yes same; room = r.0; number = s.0 }

pub record Places {A : Type 0} (found : Found A) (joins : A → Ties) (over : A → Option Over) (nodes : List ℤ)
    (no_room used : Bool) (a : A) : Type 0 where
  pub there : found ≡ some a
  pub on : some_node_off nodes ≡ false
  pub joined : torn (joins a) nodes ≡ false
  pub room : no_room ≡ false
  pub number : used ≡ false
  pub quiet : is_over (over a) ≡ false

pub places :
    {A : Type 0} (found : Found A) {joins : A → Ties} {over : A → Option Over} (next : ℕ) {nodes : List ℤ}
    {no_room used : Bool} {a : A} →
    place_verdict found joins over next nodes no_room used ≡ yes a → Places found joins over nodes no_room used a
unfolding place_verdict
places none next e = clash cc
places (some b) {joins} {over} next {nodes} {no_room} {used} {a} e =
    let p = passes_if (some_node_off nodes) _ _ _ e in
    let q = passes_if (torn (joins b) nodes) _ _ _ p.1 in
    let r = passes_if no_room _ _ _ q.1 in
    let s = passes_if used _ _ _ r.1 in
    let t = passes_if (is_over (over b)) _ _ _ s.1 in
    let same : b ≡ a = cc in
    record {
      there = ap some same;
      on = p.0;
      joined = rw (← same) q.0;
      room = r.0;
      number = s.0;
      quiet = rw (← same) t.0;
    }

pub record Moves (pairs : List ℤ) (first : Option First) (shifts : List Shift) : Type 0 where
  pub by : shifts ≡ shifts_of pairs
  pub on : some_pair_off pairs ≡ false
  pub quiet : is_over (first_by first) ≡ false

pub moves : {pairs : List ℤ} {first : Option First} {shifts : List Shift} → move_verdict pairs first ≡ yes shifts →
    Moves pairs first shifts
unfolding move_verdict
moves {pairs} {first} e =
    let p = passes_if (not (are_pairs pairs)) _ _ _ e in
    let q = passes_if (some_pair_off pairs) _ _ _ p.1 in
    let r = passes_if (is_over (first_by first)) _ _ _ q.1 in record { by = cc; on = q.0; quiet = r.0 }

pub lifts : {A : Type 0} (found : Found A) {a : A} → lift_verdict found ≡ yes a → found ≡ some a
unfolding lift_verdict
lifts none e = clash cc
lifts (some b) e = cc

pub opens : {A : Type 0} (found : Found A) {a : A} → open_verdict found ≡ yes a → found ≡ some a
unfolding open_verdict
opens none e = clash cc
opens (some b) e = cc

pub record Withdraws {A : Type 0} (found : Found A) (inUse : A → Bool) (a : A) : Type 0 where
  pub there : found ≡ some a
  pub unused : inUse a ≡ false

pub withdraws : {A : Type 0} (found : Found A) {inUse : A → Bool} {a : A} → withdraw_verdict found inUse ≡ yes a →
    Withdraws found inUse a
unfolding withdraw_verdict
withdraws none e = clash cc
withdraws (some b) {inUse} {a} e =
    let p = passes_if (inUse b) _ _ _ e in
    let same : b ≡ a = cc in record { there = ap some same; unused = rw (← same) p.0 }

-- a node number in range
pub on_node_lem : (z : ℤ) → off_node z ≡ false → nat_abs z < nodes_most
on_node_lem (pos n) e = go (ltb n 0) (leb nodes_most n) refl e
  where
    go : (t u : Bool) → leb nodes_most n ≡ u → t || u ≡ false → n < nodes_most
    go true u p q = clash cc
    go false true p q = clash cc
    go false false p q = leb-false nodes_most n p
on_node_lem (negsuc n) e = clash cc

-- a caller's node in range, and out of it
pub off_board_lem : (z : ℤ) → nodes_most ≤ node_of z → off_node z ≡ true
off_board_lem z h = go (off_node z) refl h
  where
    go : (t : Bool) → off_node z ≡ t → nodes_most ≤ cond t nodes_most (nat_abs z) → off_node z ≡ true
    go true e k = e
    go false e k = let o = on_node_lem z e in absurd (omega arith)

pub on_board : (z : ℤ) → node_of z < nodes_most → (off_node z ≡ false) × (node_of z ≡ nat_abs z)
on_board z h = go (off_node z) refl h
  where
    go : (t : Bool) → off_node z ≡ t → cond t nodes_most (nat_abs z) < nodes_most →
        (off_node z ≡ false) × (cond t nodes_most (nat_abs z) ≡ nat_abs z)
    go true e k = absurd (omega arith)
    go false e k = (e, refl)

pub shown : (n : ℤ) {k : ℕ} → node_verdict n ≡ yes k → k < nodes_most
unfolding node_verdict
shown n {k} e =
    let p = passes_if (off_node n) _ _ _ e in
    let same : nat_abs n ≡ k = cc in rw (← same) (on_node_lem n p.0)
