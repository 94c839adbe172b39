-- Reading gives back what was written, and writing gives back what was read, in every version that is known.
use mathlib.Core.Path.{◌≡◌, refl, sym, ◌∙◌, ap, ap₂}
use mathlib.Core.Bool.{true, ◌||◌, not}
use mathlib.Core.List.{List, [], ◌∷◌, ◌++◌}
use mathlib.Core.Logic.{◌⊎◌, inl, inr}
use Prim.Native.Nat.{ℕ, zero, suc, ◌+◌, ◌*◌, ◌^◌, ◌<◌, ◌≤◌}
use native.Mathlib.Omega.{arith}
use borrow.Author.Tests.{lt-ltb, le-leb, eq-eqb}
use lib.Dec.{lit<, ltb}
use lib.ListN.{length, take, drop, length-append, length-drop, take-append-drop}
use lib.Seq.{take_at, drop_at, drop-drop, take-add, get_or-drop, length-take-le}
use Rattle.bytes_le.specs.Le.{le, le_at, bytes_of, le_bytes, Below, bytes_le, byte_values, word_bytes}
use Rattle.name.proofs.Laws.{and_true}
use Rattle.std.proofs.Common.{Result, Ok}
use Rattle.refusal.specs.declared.Refusal.{Refusal}
use Rattle.library.specs.declared.Contents.{Contents}
use Rattle.roll.specs.Directory.{all_named, twice, name_bytes, names_held, names_in}
use Rattle.directory.specs.Format.{words_of, records_at, whole_of, version, count, agree, headed, directory, records}
use Rattle.directory.specs.Format.{words_in, bytes_of_all, header_of, library_of, offered, header_bytes, most_cards}
use Rattle.directory.specs.Format.{directory_offset, records_offset, whole_length}
use Rattle.library.specs.Answers.{left, read, Reads, written, Writes}
use Rattle.directory.specs.Judged.{library_judged, numbers_of, offer_judged}
use Rattle.library.specs.Unique.{reading_told, as_reading, writing_told, as_writing}
use Rattle.directory.proofs.Verdicts.{SoundLibrary, library_pass, library_yes, names_pass, names_yes}
use Rattle.directory.proofs.Verdicts.{passed, refuse_yes, then_yes}
use Rattle.directory.proofs.Headers.{Agreed, agreed, known_version}
use Rattle.copying.proofs.WordsRead.{words_none, words_more, words_length}
use Rattle.copying.proofs.BytesWritten.{length_all}
use Rattle.directory.proofs.Inspections.{Inspected, inspected}
use Rattle.library.proofs.Outcomes.{read_yes}
use Rattle.directory.proofs.Offers.{Offered, offers}
use Rattle.library.proofs.Writings.{write_yes}
use Rattle.refusal.specs.Order.{Verdict, tells_one, yes}
use Rattle.refusal.specs.declared.Refusal.TheVariants.{Malformed, ShortOutput}
use Rattle.bytes_le.specs.Buffer.{over}

-- ---- bytes and words

pub below_drop : (m n : ℕ) (l : List ℕ) → Below m l → Below m (drop n l)
below_drop m n l b i = rw get_or-drop (b (n + i))

pub below_take : (m n : ℕ) (l : List ℕ) → 0 < m → Below m l → Below m (take n l)
below_take m zero l p b i = p
below_take m (suc n) [] p b i = p
below_take m (suc n) (x ∷ l) p b zero = b 0
below_take m (suc n) (x ∷ l) p b (suc i) = below_take m n l p (λ j. b (suc j)) i

words_back_of : (ws : List ℕ) → Below (2 ^ 64) ws → words_in (bytes_of_all ws) ≡ ws
words_back_of [] b = words_none [] (lit< tt)
words_back_of (x ∷ ws) b =
    let long : word_bytes ≤ length (bytes_of_all (x ∷ ws)) = rw length_all (omega arith) in
    words_more (bytes_of_all (x ∷ ws)) long ∙ ap₂ (λ (y : ℕ) (l : List ℕ). y ∷ l) (le_bytes word_bytes x (b 0))
    (words_back_of ws (λ i. b (suc i)))

bytes_back : (m : ℕ) (s : List ℕ) → length s ≡ word_bytes * m → Below byte_values s → bytes_of_all (words_in s) ≡ s
bytes_back zero [] e b = ap bytes_of_all (words_none [] (lit< tt))
bytes_back zero (x ∷ s) e b = absurd (omega arith)
bytes_back (suc m) s e b =
    let long : word_bytes ≤ length s = omega arith in
    let t : List ℕ = take word_bytes s in
    let first : bytes_of word_bytes (le t) ≡ t =
    ap (λ (n : ℕ). bytes_of n (le t)) (sym (length-take-le word_bytes s long)) ∙ bytes_le t
    (below_take byte_values word_bytes s (lit< tt) b) in
    let shorter : length (drop word_bytes s) ≡ word_bytes * m = rw length-drop (omega arith) in
    ap bytes_of_all (words_more s long) ∙ ap₂ ◌++◌ first
    (bytes_back m (drop word_bytes s) shorter (below_drop byte_values word_bytes s b)) ∙ take-append-drop word_bytes s

-- ---- the library that names and words make

-- a version that is known has room in its two bytes
version_fits : {v : ℕ} → (v ≡ 1) ⊎ (v ≡ 2) → v < byte_values ^ 2
version_fits (inl e) = omega arith
version_fits (inr e) = omega arith

module _ {v : ℕ} {ns ws : List ℕ} {n k : ℕ} (o : Offered v ns ws n k) where
  s : List ℕ
  s = library_of v ns ws

  is_version : version s ≡ v
  unfolding s header_of
  is_version = le_bytes 2 v (version_fits (known_version v o.known))

  is_count : count s ≡ n
  unfolding s header_of
  is_count = ap (λ (m : ℕ). le (bytes_of 2 m)) (sym o.is_count) ∙ le_bytes 2 n (let f = o.cards in omega arith)

  body : drop header_bytes s ≡ ns ++ bytes_of_all ws
  unfolding s header_of
  body = refl

  whole : length s ≡ whole_of k n
  unfolding s header_of
  whole = let a = length-append ns (bytes_of_all ws) in omega (arith, a, length_all ws, o.names_long, o.words_long)

  pub version_back : version (library_of v ns ws) ≡ v
  unfolding s
  version_back = is_version

  pub names_back : directory (library_of v ns ws) ≡ ns
  unfolding s
  names_back =
      ap₂ (λ (m : ℕ) (l : List ℕ). take (name_bytes * m) l) is_count body ∙ take_at ns (bytes_of_all ws) (name_bytes * n)
      o.names_long

  pub words_back : Below (2 ^ 64) ws → words_in (records (library_of v ns ws)) ≡ ws
  unfolding s
  words_back b =
      ap words_in
      (ap (λ (m : ℕ). drop (records_at m) s) is_count ∙ sym (drop-drop (name_bytes * n) header_bytes s) ∙ ap
      (drop (name_bytes * n)) body ∙ drop_at ns (bytes_of_all ws) (name_bytes * n) o.names_long)
      ∙ words_back_of ws b

  -- its header's numbers, each where it belongs
  is_headed : headed s ≡ true
  unfolding s header_of agree
  is_headed =
      let m : ℕ = names_held ns in
      let em : m ≡ n = sym o.is_count in
      let ek : words_of v ≡ k = sym o.is_width in
      let f₁ : records_offset s ≡ records_at (count s) =
      le_bytes 4 (records_at m) (let f = o.cards in omega arith) ∙ ap records_at (em ∙ sym is_count) in
      let same : whole_of (words_of v) m ≡ whole_of (words_of (version s)) (count s) =
      ap₂ whole_of (ap words_of (sym is_version)) (em ∙ sym is_count) in
      let small : whole_of (words_of v) m < byte_values ^ 4 =
      rw (ek, em) (let f = o.cards in let g = o.words in omega arith) in
      let f₂ : whole_length s ≡ whole_of (words_of (version s)) (count s) =
      le_bytes 4 (whole_of (words_of v) m) small ∙ same in
      let f₃ : length s ≡ whole_of (words_of (version s)) (count s) = whole ∙ ap₂ whole_of (sym ek) (sym em) ∙ same in
      and_true (lt-ltb 0 (words_of (version s)) (rw is_version o.known))
      ∙ and_true (le-leb (count s) most_cards (let f = o.cards in omega (arith, is_count)))
      ∙ and_true (eq-eqb (directory_offset s) header_bytes refl) ∙ and_true (eq-eqb _ _ f₁) ∙ and_true (eq-eqb _ _ f₂) ∙
      eq-eqb _ _ f₃

  pub is_sound : SoundLibrary (library_of v ns ws)
  unfolding s
  is_sound =
      record {
        header = is_headed;
        names = record {
          valid = ap (λ (l : List ℕ). all_named (names_in l)) names_back ∙ o.names.valid;
          single = ap (λ (l : List ℕ). twice (names_in l)) names_back ∙ o.names.single;
        };
      }

  pub made : Inspected (library_of v ns ws) n k
  unfolding s
  made =
      let e : ◌≡◌ {A = ℕ × ℕ} (numbers_of s) (n, k) =
      ap₂ (λ (a b : ℕ). (a, b)) is_count (ap words_of is_version ∙ sym o.is_width) in
      inspected s (library_pass is_sound ∙ ap yes e)

-- ---- reading after writing

-- what a verdict of writing that gives a length says
written_yes : (v : ℕ) (ns ws : List ℕ) (a : ℕ) {m : ℕ} → written v ns ws a ≡ yes m
    → Offered v ns ws (names_held ns) (words_of v) × (m ≡ whole_of (words_of v) (names_held ns))
unfolding written offer_judged
written_yes v ns ws a e =
    let g = then_yes (offer_judged v ns ws) _ e in
    let r = refuse_yes (not (offered v ns ws)) Malformed g.first in
    let q = names_yes ns r.1 in
    let p = refuse_yes (ltb a (whole_of g.value.1 g.value.0)) ShortOutput g.after in
    let m : yes (whole_of g.value.1 g.value.0) ≡ yes _ = p.1 in
    (offers v ns ws (g.first ∙ ap yes (sym q.1)), sym (ap (λ (w : ℕ × ℕ). whole_of w.1 w.0) q.1 ∙ same m))
  where
    same : {x y : ℕ} → yes x ≡ yes y → x ≡ y
    same e = cc

-- what was written into any buffer and is read into any buffers that are long enough comes back, at the start of each,
-- and the version told is the one that was written
pub read_after_write : {v : ℕ} {ns ws l l' : List ℕ} {m : ℕ} {n₀ w₀ n₁ w₁ : List ℕ} {r : Result Contents Refusal}
    → Writes v ns ws l (Ok m) l' → Below (2 ^ 64) ws → Reads (take m l') n₀ w₀ r n₁ w₁
    → length ns ≤ length n₀ → length ws ≤ length w₀
    → (r ≡ Ok (record { cards = names_held ns; version = v })) × (n₁ ≡ over ns n₀) × (w₁ ≡ over ws w₀)
read_after_write {v} {ns} {ws} {l} {l'} {m} {n₀} {w₀} {r = r} w b d hn hw =
    let answer : yes m ≡ written v ns ws (length l) = tells_one (yes m) (written v ns ws (length l)) w.answer in
    let t = written_yes v ns ws (length l) (sym answer) in
    let o = t.0 in
    let s : List ℕ = library_of v ns ws in
    let long : length s ≡ m = (made o).long ∙ sym t.1 in
    let back : take m l' ≡ s =
    ap (take m) (w.library ∙ ap (λ (a : Verdict ℕ). left a s l) (sym answer)) ∙ take_at s (drop (length s) l) m long
    in
    let e : read (take m l') (length n₀) (length w₀) ≡ yes (names_held ns, v) =
    rw back
    (read_yes s n₀ w₀ (made o) (rw o.names_long at hn) (rw o.words_long at hw)
    ∙ ap (λ (u : ℕ). yes (names_held ns, u)) (version_back o)) in (
      reading_told r (read (take m l') (length n₀) (length w₀)) d.answer ∙ ap as_reading e,
      d.names ∙ ap (λ (a : Verdict (ℕ × ℕ)). left a (directory (take m l')) n₀) e ∙ ap (λ (x : List ℕ). over x n₀)
          (ap directory back ∙ names_back o),
      d.words ∙ ap (λ (a : Verdict (ℕ × ℕ)). left a (words_in (records (take m l'))) w₀) e ∙ ap
          (λ (x : List ℕ). over x w₀)
          (ap (λ (y : List ℕ). words_in (records y)) back ∙ words_back o b),
    )

-- ---- writing after reading

module _ {s : List ℕ} (g : SoundLibrary s) (b : Below byte_values s) where
  a : Agreed (version s) (count s) (directory_offset s) (records_offset s) (whole_length s) (length s)
  a = agreed (version s) (count s) (directory_offset s) (records_offset s) (whole_length s) (length s) g.header

  -- the bytes of a number of the header
  field : (k at : ℕ) → at + k ≤ length s → bytes_of k (le_at k s at) ≡ take k (drop at s)
  field k at h =
      let m : length (take k (drop at s)) ≡ k = length-take-le k (drop at s) (rw length-drop (omega arith)) in
      ap (λ (i : ℕ). bytes_of i (le_at k s at)) (sym m) ∙ bytes_le (take k (drop at s))
      (below_take byte_values k (drop at s) (lit< tt) (below_drop byte_values at s b))

  header_back : header_of (version s) (count s) ≡ take header_bytes s
  unfolding header_of
  header_back =
      let h : header_bytes ≤ length s = let l = a.long in omega arith in
      let f₀ = field 2 0 (omega arith) in
      let f₁ = field 2 2 (omega arith) in
      let f₂ : bytes_of 4 header_bytes ≡ take 4 (drop 4 s) =
      ap (bytes_of 4) (sym a.directory) ∙ field 4 4 (omega arith) in
      let f₃ : bytes_of 4 (records_at (count s)) ≡ take 4 (drop 8 s) =
      ap (bytes_of 4) (sym a.records) ∙ field 4 8 (omega arith) in
      let f₄ : bytes_of 4 (whole_of (words_of (version s)) (count s)) ≡ take 4 (drop 12 s) =
      ap (bytes_of 4) (sym a.whole) ∙ field 4 12 (omega arith) in
      let g₁ : bytes_of 2 (version s) ++ bytes_of 2 (count s) ≡ take 4 s = ap₂ ◌++◌ f₀ f₁ ∙ sym (take-add 2 2 s) in
      let g₂ : bytes_of 2 (version s) ++ bytes_of 2 (count s) ++ bytes_of 4 header_bytes ≡ take 8 s =
      ap₂ ◌++◌ g₁ f₂ ∙ sym (take-add 4 4 s) in
      let g₃ : bytes_of 2 (version s) ++ bytes_of 2 (count s) ++ bytes_of 4 header_bytes ++ bytes_of 4
      (records_at (count s)) ≡ take 12 s =
      ap₂ ◌++◌ g₂ f₃ ∙ sym (take-add 8 4 s) in
      ap₂ ◌++◌ g₃ f₄ ∙ sym (take-add 12 4 s)

  names_long : length (directory s) ≡ name_bytes * count s
  names_long =
      let l = a.long in
      length-take-le (name_bytes * count s) (drop header_bytes s) (rw length-drop (omega arith))

  records_long : length (records s) ≡ word_bytes * (words_of (version s) * count s)
  records_long = let l = a.long in length-drop (records_at (count s)) s ∙ omega arith

  words_long : length (words_in (records s)) ≡ words_of (version s) * count s
  words_long = let l = records_long in words_length (records s) ∙ omega arith

  cards : names_held (directory s) ≡ count s
  cards = let l = names_long in omega arith

  written_back : library_of (version s) (directory s) (words_in (records s)) ≡ s
  written_back =
      let names : header_of (version s) (names_held (directory s)) ++ directory s ≡ take (records_at (count s)) s =
      ap (λ (h : List ℕ). h ++ directory s) (ap (header_of (version s)) cards ∙ header_back) ∙ sym
      (take-add header_bytes (name_bytes * count s) s) in
      ap₂ ◌++◌ names
      (bytes_back (words_of (version s) * count s) (records s) records_long
      (below_drop byte_values (records_at (count s)) s b)) ∙ take-append-drop (records_at (count s)) s

  meets_one : offered (version s) (directory s) (words_in (records s)) ≡ true
  unfolding offered
  meets_one =
      let n = cards in
      let l = names_long in
      let h = a.cards in
      and_true (lt-ltb 0 (words_of (version s)) a.known) ∙ and_true
      (eq-eqb (length (directory s)) (name_bytes * (names_held (directory s))) (omega arith))
      ∙ and_true (le-leb (names_held (directory s)) most_cards (omega arith))
      ∙ eq-eqb _ _ (words_long ∙ ap (λ (m : ℕ). words_of (version s) * m) (sym cards))

  is_offered : Offered (version s) (directory s) (words_in (records s)) (count s) (words_of (version s))
  unfolding offer_judged
  is_offered =
      offers (version s) (directory s) (words_in (records s))
      (passed (ap not meets_one) Malformed _ ∙ names_pass g.names _ ∙ ap (λ (n : ℕ). yes (n, words_of (version s)))
      cards)

-- what a verdict of reading that gives a count and a version says
read_yes_of : (s : List ℕ) (p q : ℕ) {n v : ℕ} → read s p q ≡ yes (n, v)
    → SoundLibrary s × (n ≡ count s) × (v ≡ version s)
unfolding read
read_yes_of s p q e =
    let g = then_yes (library_judged s) _ e in
    let b = library_yes s g.first in
    let r = refuse_yes (ltb p (name_bytes * g.value.0) || ltb q (g.value.1 * g.value.0)) ShortOutput g.after in
    let t = same r.1 in (
      b.0,
      sym (ap (λ (w : ℕ × ℕ). w.0) b.1 ∙ ap (λ (w : ℕ × ℕ). w.0) t),
      sym (ap (λ (w : ℕ × ℕ). w.1) t),
    )
  where
    same : {x y : ℕ × ℕ} → yes x ≡ yes y → x ≡ y
    same e = cc

-- a library that was read into any buffers and is written from their starts, in the version that reading told, into any
-- buffer that is long enough comes back
pub write_after_read : {s ns ws ns' ws' : List ℕ} {n v : ℕ} {l l' : List ℕ} {r : Result ℕ Refusal}
    → Reads s ns ws (Ok (record { cards = n; version = v })) ns' ws' → Below byte_values s
    → Writes v (take (name_bytes * n) ns') (take (words_of v * n) ws') l r l' → length s ≤ length l
    → (r ≡ Ok (length s)) × (l' ≡ over s l)
write_after_read {s} {ns} {ws} {ns'} {ws'} {n} {v} {l} {l'} {r} d b w h =
    let answer : yes (n, v) ≡ read s (length ns) (length ws) =
    tells_one (yes (n, v)) (read s (length ns) (length ws)) d.answer in
    let t = read_yes_of s (length ns) (length ws) (sym answer) in
    let g = t.0 in
    let en : n ≡ count s = t.1 in
    let ev : v ≡ version s = t.2 in
    let dir : take (name_bytes * n) ns' ≡ directory s =
    ap (take (name_bytes * n)) (d.names ∙ ap (λ (x : Verdict (ℕ × ℕ)). left x (directory s) ns) (sym answer))
    ∙ take_at (directory s) (drop (length (directory s)) ns) (name_bytes * n)
    (names_long g b ∙ ap (λ (m : ℕ). name_bytes * m) (sym en)) in
    let wds : take (words_of v * n) ws' ≡ words_in (records s) =
    ap (take (words_of v * n)) (d.words ∙ ap (λ (x : Verdict (ℕ × ℕ)). left x (words_in (records s)) ws) (sym answer))
    ∙ take_at (words_in (records s)) (drop (length (words_in (records s))) ws) (words_of v * n)
    (words_long g b ∙ ap₂ (λ (u m : ℕ). words_of u * m) (sym ev) (sym en)) in
    let long : length s ≡ whole_of (words_of (version s)) (count s) = (a g b).long in
    let e : written v (take (name_bytes * n) ns') (take (words_of v * n) ws') (length l) ≡ yes (length s) =
    rw (dir, wds, ev)
    (write_yes (version s) (directory s) (words_in (records s)) l (is_offered g b) (rw long at h) ∙ ap yes (sym long)) in
    let same : library_of v (directory s) (words_in (records s)) ≡ s =
    ap (λ (u : ℕ). library_of u (directory s) (words_in (records s))) ev ∙ written_back g b in (
      writing_told r (written v (take (name_bytes * n) ns') (take (words_of v * n) ws') (length l)) w.answer ∙ ap
          as_writing e,
      w.library ∙ ap
          (λ (x : Verdict ℕ). left x (library_of v (take (name_bytes * n) ns') (take (words_of v * n) ws')) l) e
          ∙ ap (λ (x : List ℕ). over x l) (ap₂ (library_of v) dir wds ∙ same),
    )
