-- Going through a list of pairs: what is kept so far, named so far and written so far, with the pairs that are left.
use mathlib.Core.Path.{◌≡◌, refl, sym, ap, ◌∙◌}
use mathlib.Core.Bool.{Bool, true, false, ◌||◌, or-true, or-false, or_assoc}
use mathlib.Core.List.{List, [], ◌∷◌}
use Prim.Native.Nat.{ℕ, ◌+◌, ◌-◌, ◌^◌, ◌≤◌, ◌<◌, ◌%◌}
use native.Mathlib.Nat.{zero-div}
use native.Mathlib.Omega.{arith}
use lib.Bits.{bit_or}
use lib.Dec.{eqb}
use lib.ListN.{length, get_or, take, drop, set, length-set, length-drop}
use lib.Seq.{take_all}
use lib.IntN.{ℤ, pos, nat_abs}
use Rattle.std.specs.Prelude.{Option, Some, None, Ok, Err}
use Rattle.std.specs.Option.{ok_or}
use Rattle.refusal.specs.declared.Refusal.{Refusal}
use Rattle.refusal.specs.declared.Refusal.TheVariants.{OutOfRange}
use Rattle.refusal.specs.Clash.{clash}
use Rattle.volts.specs.Volts.{off_volts}
use Rattle.volts.specs.laws.Keeping.{KeptIs}
use Rattle.given.specs.Lists.{any_of}
use Rattle.given.specs.Arguments.{off_node}
use Rattle.given.specs.Pairs.{some_pair_off, Shift, shifts_of, shifted_in}
use Rattle.given.specs.laws.Pairs.{shifts_from, off_from, shifts_end, off_end}
use Rattle.given.specs.inner.Nodes.{node_of}
use Rattle.places.specs.Counts.{transistors_most}
use Rattle.places.specs.Sets.{member}
use Rattle.places.specs.laws.Members.{member_or}
use Rattle.totals.specs.Gives.{nodes_most}
use Rattle.model.specs.Desk.{moved_to}
use Rattle.model.specs.Model.{shifted}
use Rattle.model.proofs.Gains.{either_false}
use Rattle.model.proofs.Verdicts.{on_node_lem}
use Rattle.pairs.specs.inner.Pairs.{KeepsPairs, NamesAny}

-- a voltage that is kept, or 13
pub kept_or : (o : Option ℕ) {x : ℕ} → ok_or o OutOfRange ≡ Ok x → o ≡ Some x
kept_or (Some y) e = cc
kept_or None e = clash cc

pub none_or : (o : Option ℕ) {f : Refusal} → ok_or o OutOfRange ≡ Err f → (o ≡ None) × (f ≡ OutOfRange)
none_or (Some y) e = clash cc
none_or None e = (refl, cc)

-- a node in range is held by its number
node_held : (z : ℤ) {n : ℕ} → off_node z ≡ false → n ≡ node_of z → n ≡ nat_abs z
node_held z e h = rw e at h

-- tests that agree on every node of the board agree on pairs in range
pub any_same : (p q : Shift → Bool) (pairs : List ℤ) → some_pair_off pairs ≡ false →
    ((s : Shift) → s.node < nodes_most → p s ≡ q s) → any_of p (shifts_of pairs) ≡ any_of q (shifts_of pairs)
unfolding any_of shifts_of some_pair_off
any_same p q [] e h = refl
any_same p q (n ∷ []) e h = refl
any_same p q (n ∷ v ∷ rest) e h =
    let both = either_false (off_node n || off_volts v) (some_pair_off rest) e in
    let on = (either_false (off_node n) (off_volts v) both.0).0 in
    let here = h (record { node = nat_abs n; volts = v }) (on_node_lem n on) in
    let more = any_same p q rest both.1 h in λ j. here j || more j

-- the next of pairs in range: its node is on the board, and the pairs after it are in range
pub record NextOn (pairs : List ℤ) (i n : ℕ) : Type 0 where
  pub at : n ≡ nat_abs (get_or pairs i (pos 0))
  pub there : n < nodes_most
  pub rest : some_pair_off (drop (i + 2) pairs) ≡ false

pub next_on : (pairs : List ℤ) {i n : ℕ} → some_pair_off (drop i pairs) ≡ false → i + 1 < length pairs →
    n ≡ node_of (get_or pairs i (pos 0)) → NextOn pairs i n
next_on pairs {i} {n} on h ne =
    let p = off_node (get_or pairs i (pos 0)) in
    let q = off_volts (get_or pairs (i + 1) (pos 0)) in
    let r = some_pair_off (drop (i + 2) pairs) in
    let o : (p || q) || r ≡ false = sym (off_from pairs i h) ∙ on in
    let both = either_false (p || q) r o in
    let here = (either_false p q both.0).0 in
    let at = node_held (get_or pairs i (pos 0)) here ne in
    record { at = at; there = rw at (on_node_lem (get_or pairs i (pos 0)) here); rest = both.1 }

-- ---- naming

module _ (pairs : List ℤ) (naming : List ℕ) where
  abbrev any_at : List Shift → ℕ → Bool
  any_at shifts k = any_of (λ (s : Shift). member (get_or naming s.node 0) k) shifts

  -- the places so far, and the pairs that are left
  pub record NamedTo (places : ℕ) (rest : List ℤ) : Type 0 where
    pub on : some_pair_off rest ≡ false
    pub left : (k : ℕ) → k < transistors_most →
        member places k || any_at (shifts_of rest) k ≡ any_at (shifts_of pairs) k

  pub named_none : some_pair_off pairs ≡ false → NamedTo 0 pairs
  named_none e = record { on = e; left = λ k h. rw (empty k) }
    where
      empty : (k : ℕ) → member 0 k ≡ false
      empty k = ap (λ (x : ℕ). eqb (x % 2) 1) (zero-div (2 ^ k))

  pub named_more : {places n : ℕ} {rest more : List ℤ} → NamedTo places rest → 2 ≤ length rest →
      n ≡ node_of (get_or rest 0 (pos 0)) → more ≡ drop 2 rest → NamedTo (bit_or places (get_or naming n 0)) more
  unfolding any_of
  named_more {places} {n} {rest} t h ne m =
      let next = next_on rest {i = 0} t.on (omega arith) ne in
      rw m
      (record {
        on = next.rest;
        left =
            λ k s. ap (λ (b : Bool). b || any_at (shifts_of (drop 2 rest)) k)
            (member_or places (get_or naming n 0) k)
            ∙ or_assoc (member places k) (member (get_or naming n 0) k) (any_at (shifts_of (drop 2 rest)) k)
            ∙ ap (λ (x : ℕ). member places k || (member (get_or naming x 0) k || any_at (shifts_of (drop 2 rest)) k))
            next.at
            ∙ ap (λ (l : List Shift). member places k || any_at l k) (sym (shifts_from rest 0 (omega arith)))
            ∙ t.left k s;
      })

  pub named_all : {places : ℕ} {rest : List ℤ} → NamedTo places rest → length rest < 2 → NamesAny pairs naming places
  unfolding any_of
  named_all {places} {rest} t h =
      record {
        is =
            λ k q. sym (or-false (member places k))
            ∙ ap (λ (l : List Shift). member places k || any_at l k) (sym (shifts_end rest 0 (omega arith)))
            ∙ t.left k q;
      }

-- ---- keeping

module _ (pairs : List ℤ) (was : List ℕ) where
  -- the voltages kept so far, and the pairs that are left
  pub record KeptTo (will : List ℕ) (rest : List ℤ) : Type 0 where
    pub on : some_pair_off rest ≡ some_pair_off pairs
    pub left : shifted will (shifts_of rest) ≡ shifted was (shifts_of pairs)

  pub kept_none : KeptTo was pairs
  kept_none = record { on = refl; left = refl }

  pub kept_more : {will : List ℕ} {n x : ℕ} {rest more : List ℤ} → KeptTo will rest → 2 ≤ length rest →
      off_node (get_or rest 0 (pos 0)) ≡ false → n ≡ node_of (get_or rest 0 (pos 0)) →
      KeptIs (get_or rest 1 (pos 0)) x → more ≡ drop 2 rest → KeptTo (set will n x) more
  unfolding shifted_in
  kept_more {will} {n} {x} {rest} t h on ne level m =
      let at = node_held (get_or rest 0 (pos 0)) on ne in
      rw m
      (record {
        on = sym (off_from rest 0 (omega arith) ∙ rw (on, level.on)) ∙ t.on;
        left =
            ap (λ (l : List ℕ). shifted l (shifts_of (drop 2 rest)))
            (ap (λ (m : ℕ). set will m x) at ∙ ap (λ (y : ℕ). set will (nat_abs (get_or rest 0 (pos 0))) y) level.from)
            ∙ ap (shifted will) (sym (shifts_from rest 0 (omega arith)))
            ∙ t.left;
      })

  -- a pair out of range
  kept_off : {will : List ℕ} {rest : List ℤ} (l : List ℕ) → KeptTo will rest → 2 ≤ length rest →
      off_node (get_or rest 0 (pos 0)) || off_volts (get_or rest 1 (pos 0)) ≡ true → KeepsPairs pairs was (Err OutOfRange) l
  kept_off {will} {rest} l t h off =
      let some : some_pair_off pairs ≡ true = sym t.on ∙ off_from rest 0 (omega arith) ∙ rw off in
      record { told = rw some; volts = λ e. clash cc }

  pub off_by_node : {will : List ℕ} {rest : List ℤ} (l : List ℕ) → KeptTo will rest → 2 ≤ length rest →
      off_node (get_or rest 0 (pos 0)) ≡ true → KeepsPairs pairs was (Err OutOfRange) l
  off_by_node {will} {rest} l t h e =
      kept_off l t h (ap (λ (b : Bool). b || off_volts (get_or rest 1 (pos 0))) e)

  pub off_by_volts : {will : List ℕ} {rest : List ℤ} (l : List ℕ) → KeptTo will rest → 2 ≤ length rest →
      off_volts (get_or rest 1 (pos 0)) ≡ true → KeepsPairs pairs was (Err OutOfRange) l
  off_by_volts {will} {rest} l t h e =
      let n = off_node (get_or rest 0 (pos 0)) in kept_off l t h (ap (λ (b : Bool). n || b) e ∙ or-true n)

  pub kept_all : {will : List ℕ} {rest : List ℤ} → KeptTo will rest → length rest < 2 → KeepsPairs pairs was (Ok tt) will
  unfolding shifted_in
  kept_all {will} {rest} t h =
      let none : some_pair_off pairs ≡ false = sym t.on ∙ off_end rest 0 (omega arith) in
      record {
        told = rw none;
        volts = λ e. ap (shifted will) (sym (shifts_end rest 0 (omega arith))) ∙ t.left;
      }

-- ---- writing

module _ (pairs was : List ℤ) where
  -- the voltages written so far, and the pairs that are left
  pub record PutTo (volts : List ℤ) (rest : List ℤ) : Type 0 where
    pub on : some_pair_off rest ≡ false
    pub long : length volts ≡ nodes_most
    pub left : moved_to volts (shifts_of rest) ≡ moved_to was (shifts_of pairs)

  pub put_none : length was ≡ nodes_most → some_pair_off pairs ≡ false → PutTo was pairs
  put_none l e = record { on = e; long = l; left = refl }

  pub put_more : {volts : List ℤ} {n : ℕ} {v : ℤ} {rest more : List ℤ} → PutTo volts rest → 2 ≤ length rest →
      n ≡ node_of (get_or rest 0 (pos 0)) → v ≡ get_or rest 1 (pos 0) → more ≡ drop 2 rest → PutTo (set volts n v) more
  unfolding shifted_in
  put_more {volts} {n} {v} {rest} t h ne ve m =
      let next = next_on rest {i = 0} t.on (omega arith) ne in
      rw m
      (record {
        on = next.rest;
        long = length-set volts n v ∙ t.long;
        left =
            ap (λ (l : List ℤ). moved_to l (shifts_of (drop 2 rest)))
            (ap (λ (m : ℕ). set volts m v) next.at
            ∙ ap (λ (z : ℤ). set volts (nat_abs (get_or rest 0 (pos 0))) z) ve)
            ∙ ap (moved_to volts) (sym (shifts_from rest 0 (omega arith)))
            ∙ t.left;
      })

  pub put_all : {volts : List ℤ} {rest : List ℤ} → PutTo volts rest → length rest < 2 →
      volts ≡ moved_to was (shifts_of pairs)
  unfolding shifted_in
  put_all {volts} {rest} t h = ap (moved_to volts) (sym (shifts_end rest 0 (omega arith))) ∙ t.left

-- the pairs after the first, as the pattern of a slice has them
pub after_first : (rest : List ℤ) → take (length rest - 2) (drop 2 rest) ≡ drop 2 rest
after_first rest = take_all (length rest - 2) (drop 2 rest) (rw length-drop (omega arith))
