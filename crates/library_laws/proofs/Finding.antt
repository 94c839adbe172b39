-- Finding, locating and handing out agree: the part that is found is the located record, and empty where locating
-- refuses; of a sound library the part handed out for a card is its record, and what finding its name gives.
use mathlib.Core.Path.{◌≡◌, sym, ◌∙◌, ap}
use mathlib.Core.List.{List, []}
use mathlib.Core.Logic.{◌⊎◌}
use Prim.Native.Nat.{ℕ, zero, suc, ◌+◌, ◌*◌, ◌<◌, ◌≤◌}
use native.Mathlib.Nat.{mul-suc, mul-zero}
use native.Mathlib.Omega.{arith}
use lib.ListN.{length, take, drop, get_or, length-drop}
use lib.Seq.{length-take-le, drop-drop}
use denote.Ref.{Bor}
use Rattle.std.proofs.Common.{Result, Ok, Err}
use Rattle.refusal.specs.declared.Refusal.{Refusal}
use Rattle.finding.specs.declared.Place.{Place}
use Rattle.directory.specs.Format.{words_of, version, count, directory, records, records_at}
use Rattle.roll.specs.Directory.{names_in, pieces, place_of}
use Rattle.copying.proofs.WordsRead.{piece}
use Rattle.finding.specs.Answers.{locating, handed, standing, Finds, told_located, record_at, HandsOut}
use Rattle.directory.specs.Judged.{Sound}
use Rattle.directory.proofs.Headers.{known_version}
use Rattle.finding.proofs.Locating.{located_placed, located_within}
use Rattle.finding.proofs.HandingOut.{record_sound}
use Rattle.refusal.specs.Order.{Verdict, no, tells, tells_one, yes}
use Rattle.bytes_le.specs.Le.{word_bytes}
use Rattle.name.specs.Name.{padded}

-- the part p is the size bytes of l from the place at on, and they are one record of the library's version
pub record Part (l : Bor (List ℕ)) (at size : ℕ) (p : Bor (List ℕ)) : Type 0 where
  pub bytes : p.now ≡ take size (drop at l.now)
  pub place : p.ref_ptr ≡ (l.ref_ptr.0, at + l.ref_ptr.1)
  pub long : length p.now ≡ size
  pub width : size ≡ word_bytes * words_of (version l.now)
  pub known : (version l.now ≡ 1) ⊎ (version l.now ≡ 2)

-- what an answer of locating says of the part that is found
abbrev pub Agree : Bor (List ℕ) → Result Place Refusal → Bor (List ℕ) → Type 0
Agree l (Ok a) p = Part l a.at a.size p
Agree l (Err f) p = p.now ≡ []

pub find_agrees : {l : Bor (List ℕ)} {x : List ℕ} {p : Bor (List ℕ)} (r : Result Place Refusal)
    → Finds l x p → told_located r ≡ tells (locating l.now x) → Agree l r p
find_agrees {l} {x} {p} (Ok a) f e =
    let at : ℕ = a.at in
    let size : ℕ = a.size in
    let g : yes (at, size) ≡ locating l.now x = tells_one (yes (at, size)) (locating l.now x) e in
    let w = located_within l.now x (sym g) in
    let b : p.now ≡ take size (drop at l.now) = f.bytes ∙ ap (λ (v : Verdict (ℕ × ℕ)). handed v l.now) (sym g) in
    let m : size ≤ length (drop at l.now) = rw length-drop (omega arith) in
    record {
      bytes = b;
      place = f.place ∙ ap (λ (v : Verdict (ℕ × ℕ)). standing v l) (sym g);
      long = ap length b ∙ length-take-le size (drop at l.now) m;
      width = w.wide;
      known = known_version (version l.now) w.known;
    }
find_agrees {l} {x} (Err g) f e =
    f.bytes ∙ ap (λ (v : Verdict (ℕ × ℕ)). handed v l.now) (sym (tells_one (no g) (locating l.now x) e))

-- ---- handing out

-- the records of a sound library, one for each card
abbrev pub records_in : List ℕ → List (List ℕ)
records_in s = pieces (word_bytes * words_of (version s)) (count s) (records s)

pub record_of_card : {l r : Bor (List ℕ)} {k : ℕ}
    → Sound l.now → k < count l.now → HandsOut l k r → r.now ≡ get_or (records_in l.now) k []
record_of_card {l} {r} {k} g h d =
    let s = l.now in
    let w : ℕ = words_of (version s) in
    let e : records_at (count s) + word_bytes * w * k ≡ records_at (count s) + word_bytes * (w * k) = omega arith in
    d.bytes ∙ ap (λ (p : ℕ × ℕ). handed (yes p) s) (record_sound s k g h) ∙ sym
    (piece (word_bytes * w) (count s) (records s) k [] h ∙ ap (take (word_bytes * w))
    (drop-drop (word_bytes * w * k) (records_at (count s)) s ∙ ap (λ (m : ℕ). drop m s) e))

pub record_of_name : {l p r : Bor (List ℕ)} {x : List ℕ} {q : ℕ × ℕ}
    → locating l.now x ≡ yes q → Finds l x p → HandsOut l (place_of (padded x) (names_in (directory l.now))) r
    → (r.now ≡ p.now) × (r.ref_ptr ≡ p.ref_ptr)
record_of_name {l} {p} {r} {x} {q} e f d =
    let g = located_placed l.now x e in
    let i = place_of (padded x) (names_in (directory l.now)) in
    let o : record_at l.now i ≡ q = record_sound l.now i g.sound g.held ∙ sym g.place in
    let t : yes (record_at l.now i) ≡ locating l.now x = ap yes o ∙ sym e in (
      d.bytes ∙ ap (λ (v : Verdict (ℕ × ℕ)). handed v l.now) t ∙ sym f.bytes,
      d.place ∙ ap (λ (v : Verdict (ℕ × ℕ)). standing v l) t ∙ sym f.place,
    )
