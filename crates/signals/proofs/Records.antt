-- One record after the other, on plain values: what it becomes, and what the buffer then holds.
use mathlib.Core.Path.{◌≡◌, refl, sym, ◌∙◌, ap, ap₂}
use mathlib.Core.Bool.{Bool, true, false, cond}
use mathlib.Core.List.{List, ◌++◌, append-nil, append_assoc}
use Prim.Native.Nat.{ℕ, ◌+◌, ◌<◌, ◌≤◌}
use native.Mathlib.Nat.{add_assoc}
use native.Mathlib.Omega.{arith}
use mir.Val.{bool_byte}
use lib.ListN.{length, take, drop, replicate, length-append, length-drop, take-append-drop}
use lib.Seq.{length-take-le, take-append-le, drop-append-le}
use Rattle.bytes_le.specs.Buffer.{over}
use Rattle.bytes_le.specs.Le.{word_bytes}
use Rattle.roll.specs.Directory.{cut}
use Rattle.roll.proofs.Names.{cut_none, cut_more}
use Rattle.std.specs.List.{enumerate_from}
use Rattle.std.proofs.Common.{subst, ◌*◌, ◌/◌, get_or, drop-drop}
use native.Mathlib.Nat.{mul-le-mul_left, mul-suc}
use Rattle.copying.proofs.WordsRead.{turn_below, turn_number, turn_piece, turns_all}
use Rattle.copying.proofs.BytesWritten.{part_from, part_put, then_part}
use Rattle.signals.specs.Records.{signals, icss_at, icss_end, cleared, mended_record, mended_all, signalling}

-- ---- one record

module _ (r : List ℕ) (h : icss_end ≤ length r) where
  pub front : length (take icss_at r) ≡ icss_at
  front = length-take-le icss_at r (omega arith)

  pub front_end : length (take icss_at r ++ replicate word_bytes 0) ≡ icss_end
  front_end = length-append (take icss_at r) (replicate word_bytes 0) ∙ omega (arith, front)

  length_cleared : length (cleared r) ≡ length r
  length_cleared =
      length-append (take icss_at r ++ replicate word_bytes 0) (drop icss_end r)
      ∙ omega (arith, front_end, length-drop icss_end r)

  pub length_mended : length (mended_record r) ≡ length r
  length_mended = by_test (signals r)
    where
      by_test : (b : Bool) → length (cond b (cleared r) r) ≡ length r
      by_test true = length_cleared
      by_test false = refl

  -- cur starts with the record, and the part from I_CSs on, with the bytes of +0 put at its start, comes back as y
  pub clears : (d cur y : List ℕ) → cur ≡ over r d → y ≡ over (replicate word_bytes 0) (part_from icss_at cur)
      → part_put icss_at cur y ≡ over (cleared r) d
  clears d cur y e f =
      let z : List ℕ = replicate word_bytes 0 in
      let starts : take icss_at cur ≡ take icss_at r =
      ap (take icss_at) e ∙ take-append-le icss_at r (drop (length r) d) (omega arith) in
      let ends : drop icss_end cur ≡ drop icss_end r ++ drop (length r) d =
      ap (drop icss_end) e ∙ drop-append-le icss_end r (drop (length r) d) h in
      let same : cur ≡ over (take icss_at r) cur =
      sym (take-append-drop icss_at cur) ∙ ap₂ (λ (p : List ℕ) (n : ℕ). p ++ drop n cur) starts (sym front) in
      then_part (take icss_at r) z cur cur icss_at same front y f
      ∙ ap (λ (n : ℕ). take icss_at r ++ z ++ drop n cur) front_end
      ∙ ap (λ (l : List ℕ). take icss_at r ++ z ++ l) ends
      ∙ sym (append_assoc (take icss_at r ++ z) (drop icss_end r) (drop (length r) d))
      ∙ ap (λ (n : ℕ). cleared r ++ drop n d) (sym length_cleared)

-- ---- all records

-- cur has the records of src mended that t does not have, which take up its first bytes, n of them changed
pub record Going (w : ℕ) (src old cur t : List ℕ) (at n : ℕ) : Type 0 where
  pub done : List ℕ
  pub long : length done ≡ at
  pub so_far : cur ≡ over done old
  pub whole : mended_all (cut w src) ≡ done ++ mended_all (cut w t)
  pub told : signalling (cut w src) ≡ n + signalling (cut w t)
  pub within : at + length t ≡ length src
  pub room : length src ≤ length old
  pub few : n ≤ at

-- a record that has to be mended counts as 1
pub counted : {b t : Bool} {x : ℕ} → x ≡ bool_byte b → b ≡ t → x ≡ cond t 1 0
counted {b = true} e h = e ∙ ap (λ (u : Bool). cond u 1 0) h
counted {b = false} e h = e ∙ ap (λ (u : Bool). cond u 1 0) h

at_most_one : (b : Bool) → cond b 1 0 ≤ 1
at_most_one true = omega arith
at_most_one false = omega arith

module _ {w : ℕ} {src old cur t : List ℕ} {at n : ℕ} (v : Going w src old cur t at n) where
  module _ (hw : icss_end ≤ w) (h : w ≤ length t) where
    pub go_record : length (take w t) ≡ w
    go_record = length-take-le w t h

    some : 0 < w
    some = omega arith

    pub go_more : {x : ℕ} {y : List ℕ} → x ≡ cond (signals (take w t)) 1 0
        → y ≡ over (mended_record (take w t)) (part_from at cur)
        → Going w src old (part_put at cur y) (drop w t) (at + w) (n + x)
    go_more {x} {y} ex ey =
        let q : List ℕ = take w t in
        let here = cut_more w t some h in
        let long-q : length (mended_record q) ≡ w = length_mended q (omega (arith, go_record)) ∙ go_record in
        record {
          done = v.done ++ mended_record q;
          long = length-append v.done (mended_record q) ∙ ap₂ ◌+◌ v.long long-q;
          so_far = then_part v.done (mended_record q) old cur at v.so_far v.long y ey;
          whole =
              v.whole ∙ ap (λ (l : List (List ℕ)). v.done ++ mended_all l) here
              ∙ sym (append_assoc v.done (mended_record q) (mended_all (cut w (drop w t))));
          told =
              v.told ∙ ap (λ (l : List (List ℕ)). n + signalling l) here
              ∙ ap (λ (k : ℕ). n + (k + signalling (cut w (drop w t)))) (sym ex)
              ∙ sym (add_assoc n x (signalling (cut w (drop w t))));
          within = let i = v.within in omega (arith, length-drop w t);
          room = v.room;
          few = let f = v.few in omega (arith, at_most_one (signals q));
        }

  module _ (h : length t < w) where
    pub go_told : n ≡ signalling (cut w src)
    go_told = let e = ap signalling (cut_none w t h) in omega (arith, v.told)

    pub go_all : cur ≡ over (mended_all (cut w src)) old
    go_all =
        let e : mended_all (cut w src) ≡ v.done =
        v.whole ∙ ap (λ (l : List (List ℕ)). v.done ++ mended_all l) (cut_none w t h) ∙ append-nil v.done in
        v.so_far ∙ ap (λ (l : List ℕ). over l old) (sym e)

-- turn k of the loop over the records, at which the number i comes with the record r
module _ {w : ℕ} {src old cur : List ℕ} {k i n : ℕ} {r : List ℕ}
    (v : Going w src old cur (drop (w * k) src) (w * k) n) (hw : icss_end ≤ w)
    (t : (k < length (enumerate_from 0 (cut w src)))
    × ◌≡◌ {A = ℕ × List ℕ} (i, r) (get_or (enumerate_from 0 (cut w src)) k (i, r))) where
  there : w ≤ length (drop (w * k) src)
  there =
      let p : 0 < w = omega arith in
      let b = turn_below w src t in
      let m : w * (k + 1) ≤ w * (length src / w) = mul-le-mul_left w (omega arith) in
      rw length-drop (omega (arith, m, mul-suc w k))

  pub turn_more : {x : ℕ} → x ≡ cond (signals r) 1 0 → {y : List ℕ} → y ≡ over (mended_record r) (part_from (w * i) cur)
      → {m : ℕ} → m ≡ k + 1 → Going w src old (part_put (w * i) cur y) (drop (w * m) src) (w * m) (n + x)
  turn_more {x} ex {y} ey {m} em =
      let e : w * k + w ≡ w * m = rw em (omega (arith, mul-suc w k)) in
      rw (turn_number w src t)
      (subst (λ (l : List ℕ). Going w src old (part_put (w * k) cur y) l (w * m) (n + x))
      (drop-drop w (w * k) src ∙ ap (λ (z : ℕ). drop z src) e)
      (rw e at
      (go_more v hw there (rw (turn_piece w src t) at ex) (rw (turn_piece w src t, turn_number w src t) at ey))))

-- after the last turn less than a record is left
pub turns_end : (w : ℕ) (src : List ℕ) {k : ℕ} → 0 < w → k ≡ length (enumerate_from 0 (cut w src))
    → length (drop (w * k) src) < w
turns_end w src p e = let q = turns_all w src e in rw (q, length-drop) (omega arith)
