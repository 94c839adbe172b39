-- Each way out of locating, over plain values: the tests that lead there give the definition's verdict.
use mathlib.Core.Path.{◌≡◌, sym, ◌∙◌, ap, ap₂}
use mathlib.Core.Bool.{true, false, not}
use mathlib.Core.List.{List}
use Prim.Native.Nat.{ℕ, ◌+◌, ◌*◌, ◌<◌, ◌≤◌}
use native.Mathlib.Nat.{mul-le-mul_left, mul-suc}
use native.Mathlib.Omega.{arith}
use borrow.Author.Tests.{ltb-true, lt-ltb, le-ltb, not-false}
use lib.Dec.{ltb}
use lib.ListN.{length, drop, length-drop}
use lib.Seq.{length-take-le}
use Rattle.name.specs.Name.{asked, padded, same}
use Rattle.refusal.specs.declared.Refusal.{Refusal}
use Rattle.refusal.specs.declared.Refusal.TheVariants.{BadName, NameNotHeld}
use Rattle.refusal.specs.Order.{no, yes}
use Rattle.finding.specs.Answers.{locating, record_of}
use Rattle.directory.specs.Judged.{Sound, library_judged, numbers_of}
use Rattle.roll.specs.Directory.{among, name_bytes, names_held, names_in, place_of}
use Rattle.std.proofs.Common.{Option, Some, None}
use Rattle.std.specs.List.{position}
use Rattle.finding.proofs.Places.{among_place, place_some, place_none}
use Rattle.roll.proofs.Names.{length_pieces}
use Rattle.directory.specs.Format.{count, directory, header_bytes, records_at, version, words_of}
use Rattle.directory.proofs.Headers.{directory_part_lem, directory_part, known_width}
use Rattle.directory.proofs.Inspections.{Inspected, inspected}
use Rattle.directory.proofs.Verdicts.{library_pass, library_yes, refuse_yes, then_yes}
use Rattle.bytes_le.specs.Le.{word_bytes}

-- as many names as cards
names_count : {s : List ℕ} {n k : ℕ} → Inspected s n k → length (names_in (directory s)) ≡ n
names_count {s} {n} {k} v =
    let e = v.is_count in
    let h : name_bytes * count s ≤ length (drop header_bytes s) = let l = v.long in rw length-drop (omega arith) in
    let l : length (directory s) ≡ name_bytes * count s = length-take-le (name_bytes * count s) (drop header_bytes s) h in
    length_pieces name_bytes (names_held (directory s)) (directory s) ∙ omega arith

-- a record of k words among those of n cards
pub record_within : (k : ℕ) {i n : ℕ} → i < n → k * i + k ≤ k * n
record_within k {i} {n} h = let m = mul-le-mul_left k h in omega (arith, mul-suc k i, m)

module _ (s x : List ℕ) where
  pub locate_refused : {f : Refusal} → library_judged s ≡ no f → no f ≡ locating s x
  unfolding locating
  locate_refused e = rw e

  module _ {n k : ℕ} (v : Inspected s n k) where
    pub locate_name : asked x ≡ false → no BadName ≡ locating s x
    unfolding locating
    locate_name h = rw (v.judged, h)

    -- w is looked for in the directory's part
    module _ {w : List ℕ} (ew : w ≡ padded x) where
      l : List (List ℕ)
      l = names_in (directory s)

      searched : {o : Option ℕ} → position (same w) (names_in (directory_part s n)) ≡ o → position (same (padded x)) l ≡ o
      unfolding l
      searched e =
          sym (ap₂ (λ (a b : List ℕ). position (same a) (names_in b)) ew (directory_part_lem s v.is_count)) ∙ e

      held : among (padded x) l ≡ ltb (place_of (padded x) l) n
      unfolding l
      held = among_place (padded x) (names_in (directory s)) ∙ ap (ltb (place_of (padded x) (names_in (directory s)))) (names_count v)

      pub locate_none : asked x ≡ true → position (same w) (names_in (directory_part s n)) ≡ None → no NameNotHeld ≡ locating s x
      unfolding locating l
      locate_none h e =
          let g = place_none (padded x) (names_in (directory s)) (searched e) in
          let m : n ≤ place_of (padded x) (names_in (directory s)) = rw (names_count v) at g in
          rw (v.judged, h, held, le-ltb _ n m)

      module _ {i : ℕ} (e : position (same w) (names_in (directory_part s n)) ≡ Some i) where
        pub found_within : i < n
        unfolding l
        found_within = rw (names_count v) at (place_some (padded x) (names_in (directory s)) (searched e)).1

        pub locate_at : asked x ≡ true → yes (record_of (n, k) i) ≡ locating s x
        unfolding locating l
        locate_at h =
            let f : i ≡ place_of (padded x) (names_in (directory s)) =
            (place_some (padded x) (names_in (directory s)) (searched e)).0 in
            let m : place_of (padded x) (names_in (directory s)) < n = rw f at found_within in
            rw (v.judged, h, held, lt-ltb _ n m, f)

-- a record that is located is that of a card of a sound library
pub record Placed (s x : List ℕ) (p : ℕ × ℕ) : Type 0 where
  pub sound : Sound s
  pub held : place_of (padded x) (names_in (directory s)) < count s
  pub place : p ≡ record_of (numbers_of s) (place_of (padded x) (names_in (directory s)))

pub located_placed : (s x : List ℕ) {p : ℕ × ℕ} → locating s x ≡ yes p → Placed s x p
unfolding locating
located_placed s x {p} e =
    let i : ℕ = place_of (padded x) (names_in (directory s)) in
    let g = then_yes (library_judged s) _ e in
    let b = library_yes s g.first in
    let v = inspected s (library_pass b.0) in
    let p = refuse_yes (not (asked x)) BadName g.after in
    let q = refuse_yes (not (among (padded x) (names_in (directory s)))) NameNotHeld p.1 in
    record {
      sound = library_pass b.0;
      held =
          ltb-true i (count s)
          (ap (ltb i) (sym (names_count v)) ∙ sym (among_place (padded x) (names_in (directory s))) ∙ not-false _
          q.0);
      place = cc;
    }

-- it is one of the library's width, and lies within it
pub record Within (s : List ℕ) (at size : ℕ) : Type 0 where
  pub inside : at + size ≤ length s
  pub wide : size ≡ word_bytes * words_of (version s)
  pub known : 0 < words_of (version s)

pub located_within : (s x : List ℕ) {at size : ℕ} → locating s x ≡ yes (at, size) → Within s at size
located_within s x {at} {size} e =
    let g = located_placed s x e in
    let i : ℕ = place_of (padded x) (names_in (directory s)) in
    let k : ℕ = words_of (version s) in
    let r : k * i + k ≤ k * count s = record_within k g.held in
    let a : at ≡ records_at (count s) + word_bytes * (k * i) = ap (λ (w : ℕ × ℕ). w.0) g.place in
    let z : size ≡ word_bytes * k = ap (λ (w : ℕ × ℕ). w.1) g.place in
    let l = (inspected s g.sound).long in
    record { inside = omega arith; wide = z; known = known_width s (library_yes s g.sound).0.header }
