-- Sound libraries: those that reading refuses with none of 1, 2, 3; and one of every size in each version.
use mathlib.Core.Path.{◌≡◌, refl, sym, ◌∙◌, ap}
use mathlib.Core.Bool.{Bool, true, false, not}
use mathlib.Core.List.{List, [], ◌∷◌, ◌++◌}
use mathlib.Core.Logic.{◌⊎◌}
use Prim.Native.Nat.{ℕ, zero, suc, ◌+◌, ◌*◌, ◌/◌, ◌%◌, ◌<◌, ◌≤◌, ◌-◌}
use native.Mathlib.Omega.{arith}
use borrow.Author.Tests.{lt-ltb, le-leb, eq-eqb}
use lib.Dec.{lit<}
use lib.ListN.{length, get_or, replicate, length-replicate, length-append}
use Rattle.name.specs.Name.{mark, well_formed}
use Rattle.name.proofs.Laws.{and_true, same_not}
use Rattle.std.proofs.Common.{Result, Ok}
use Rattle.refusal.specs.declared.Refusal.{Refusal}
use Rattle.library.specs.declared.Contents.{Contents}
use Rattle.roll.specs.Directory.{all_named, among, twice, name_bytes, names_held, names_in}
use Rattle.directory.specs.Format.{words_of, version, count, headed, directory, library_of, offered, most_cards}
use Rattle.library.specs.Answers.{read, Reads}
use Rattle.directory.specs.Judged.{Sound, library_judged, names_judged, numbers_of, offer_judged}
use Rattle.library.specs.Unique.{reading_told, as_reading}
use Rattle.directory.proofs.Verdicts.{SoundNames, library_pass, library_yes, names_pass, passed}
use Rattle.roll.proofs.Names.{or_false, cut_none, cut_more}
use Rattle.directory.proofs.Headers.{known_width, known_version}
use Rattle.directory.proofs.Inspections.{inspected}
use Rattle.library.proofs.Outcomes.{read_yes}
use Rattle.directory.proofs.Offers.{Offered, offers}
use Rattle.library_laws.proofs.Inverse.{is_sound, made, version_back}
use Rattle.refusal.specs.Order.{Verdict, and_then, no, refuse_if, yes}
use Rattle.refusal.specs.declared.Refusal.TheVariants.{BadName, Malformed, NameTwice}

-- ---- sound is what reading says

none_draws : {A B : Type 0} (p q r : Bool) (next : A → Verdict B) (a : A)
    → let v = refuse_if p Malformed (refuse_if q BadName (refuse_if r NameTwice (yes a))) in
    (and_then v next ≡ no Malformed → ⊥) → (and_then v next ≡ no BadName → ⊥) → (and_then v next ≡ no NameTwice → ⊥) → v
    ≡ yes a
none_draws false false false next a h₁ h₂ h₃ = refl
none_draws false false true next a h₁ h₂ h₃ = absurd (h₃ refl)
none_draws false true r next a h₁ h₂ h₃ = absurd (h₂ refl)
none_draws true q r next a h₁ h₂ h₃ = absurd (h₁ refl)

pub not_refused : (s : List ℕ) (a b : ℕ)
    → (read s a b ≡ no Malformed → ⊥) → (read s a b ≡ no BadName → ⊥) → (read s a b ≡ no NameTwice → ⊥) → Sound s
unfolding read library_judged names_judged
not_refused s a b h₁ h₂ h₃ =
    none_draws (not (headed s)) (not (all_named (names_in (directory s)))) (twice (names_in (directory s))) _
    (numbers_of s) h₁ h₂ h₃

-- a sound library is read wherever the buffers are long enough, and reading tells its version
pub sound_read : {s ns ws ns' ws' : List ℕ} {r : Result Contents Refusal}
    → Sound s → name_bytes * count s ≤ length ns → words_of (version s) * count s ≤ length ws
    → Reads s ns ws r ns' ws' → r ≡ Ok (record { cards = count s; version = version s })
sound_read {s} {ns} {ws} {r = r} g hn hw d =
    reading_told r (read s (length ns) (length ws)) d.answer ∙ ap as_reading (read_yes s ns ws (inspected s g) hn hw)

-- which is one of the two
pub sound_version : (s : List ℕ) → Sound s → (version s ≡ 1) ⊎ (version s ≡ 2)
sound_version s g = known_version (version s) (known_width s (library_yes s g).0.header)

-- ---- one of every size in each version

-- the digits of a number are to this base
abbrev digits : ℕ
digits = 16

-- a name for each number below 256: two bytes, one for each of its two digits
abbrev name_of : ℕ → List ℕ
name_of i = (0x21 + i / digits) ∷ (0x21 + i % digits) ∷ replicate (name_bytes - 2) 0

abbrev names_of : ℕ → List ℕ
names_of zero = []
names_of (suc n) = name_of n ++ names_of n

names_long : (n : ℕ) → length (names_of n) ≡ name_bytes * n
names_long zero = refl
names_long (suc n) = length-append (name_of n) (names_of n) ∙ omega (arith, names_long n)

names_more : (n : ℕ) → names_in (names_of (suc n)) ≡ name_of n ∷ names_in (names_of n)
names_more n = cut_more name_bytes (names_of (suc n)) (lit< tt) (rw (length-append (name_of n) (names_of n)) (omega arith))

is_mark : (b : ℕ) → 0x21 ≤ b → b ≤ 0x7E → mark b ≡ true
is_mark b l h = and_true (le-leb 0x21 b l) ∙ le-leb b 0x7E h

-- two bytes that a name may hold, and zeros
two_marks : (x y : ℕ) → mark x ≡ true → mark y ≡ true → well_formed (x ∷ y ∷ replicate (name_bytes - 2) 0) ≡ true
unfolding well_formed
two_marks x y p q = rw (p, q)

well : (i : ℕ) → i < most_cards → well_formed (name_of i) ≡ true
well i h =
    two_marks (0x21 + i / digits) (0x21 + i % digits)
    (is_mark (0x21 + i / digits) (omega arith) (omega arith)) (is_mark (0x21 + i % digits) (omega arith) (omega arith))

all_well : (n : ℕ) → n ≤ most_cards → all_named (names_in (names_of n)) ≡ true
all_well zero h = ap all_named (cut_none name_bytes [] (lit< tt))
all_well (suc n) h = ap all_named (names_more n) ∙ and_true (well n h) ∙ all_well n (omega arith)

differ : (i j : ℕ) → j < i → name_of i ≡ name_of j → ⊥
differ i j h e =
    let p : 0x21 + i / digits ≡ 0x21 + j / digits = ap (λ (l : List ℕ). get_or l 0 0) e in
    let q : 0x21 + i % digits ≡ 0x21 + j % digits = ap (λ (l : List ℕ). get_or l 1 0) e in omega arith

new : (i n : ℕ) → n ≤ i → among (name_of i) (names_in (names_of n)) ≡ false
new i zero h = ap (among (name_of i)) (cut_none name_bytes [] (lit< tt))
new i (suc n) h =
    ap (among (name_of i)) (names_more n) ∙ or_false (same_not (name_of i) (name_of n) (differ i n h)) ∙ new i n
    (omega arith)

single : (n : ℕ) → twice (names_in (names_of n)) ≡ false
single zero = ap twice (cut_none name_bytes [] (lit< tt))
single (suc n) = ap twice (names_more n) ∙ or_false (new n n (omega arith)) ∙ single n

-- a sound library of n cards in version v
pub record SoundOf (v n : ℕ) : Type 0 where
  pub library : List ℕ
  pub sound : Sound library
  pub of_version : version library ≡ v
  pub cards : count library ≡ n

module _ (v : ℕ) (known : 0 < words_of v) (n : ℕ) (h : n ≤ most_cards) where
  zeros : List ℕ
  zeros = replicate (words_of v * n) 0

  held : names_held (names_of n) ≡ n
  held = let l = names_long n in omega arith

  meets_one : offered v (names_of n) zeros ≡ true
  unfolding zeros offered
  meets_one =
      let l = names_long n in
      let m = held in
      and_true (lt-ltb 0 (words_of v) known)
      ∙ and_true (eq-eqb (length (names_of n)) (name_bytes * (names_held (names_of n))) (omega arith))
      ∙ and_true (le-leb (names_held (names_of n)) most_cards (omega arith))
      ∙ eq-eqb _ _ (length-replicate (words_of v * n) 0 ∙ ap (λ (k : ℕ). words_of v * k) (sym m))

  is_offered : Offered v (names_of n) zeros n (words_of v)
  unfolding offer_judged
  is_offered =
      let names : SoundNames (names_of n) = record { valid = all_well n h; single = single n } in
      offers v (names_of n) zeros
      (passed (ap not meets_one) Malformed _ ∙ names_pass names _ ∙ ap (λ (k : ℕ). yes (k, words_of v)) held)

  sound_of : SoundOf v n
  sound_of =
      record {
        library = library_of v (names_of n) zeros;
        sound = library_pass (is_sound is_offered);
        of_version = version_back is_offered;
        cards = sym (made is_offered).is_count;
      }

pub sound_of_every_size : (n : ℕ) → n ≤ most_cards → SoundOf 1 n × SoundOf 2 n
unfolding words_of
sound_of_every_size n h = (sound_of 1 (lit< tt) n h, sound_of 2 (lit< tt) n h)
