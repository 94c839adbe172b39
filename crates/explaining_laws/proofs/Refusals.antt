-- The answer to a refusal is explained by the sentence of its number, with the values that it tells; and the line has
-- room.
use mathlib.Core.Path.{◌≡◌, refl, ap}
use mathlib.Core.List.{List, [], ◌∷◌, ◌++◌, map, append_assoc, append-nil}
use Prim.Native.Nat.{ℕ, zero, suc, ◌^◌, ◌≤◌, ◌<◌}
use Prim.Native.String.{String}
use native.Mathlib.Omega.{arith}
use lib.Dec.{lit≤, lit<}
use lib.ListN.{length, drop, length-append, length-take, length-drop}
use Rattle.refusal.specs.declared.Refusal.{Refusal}
use Rattle.refusal.specs.declared.Refusal.TheVariants.{Malformed, BadName, NameTwice, NameNotHeld, ShortOutput}
use Rattle.refusal.specs.declared.Refusal.TheVariants.{NotFinite, WrongLevel, BadExsub, BadOctave, OutOfReach}
use Rattle.refusal.specs.declared.Refusal.TheVariants.{NoRoom, Unknown, OutOfRange, SplitCollector, Overload}
use Rattle.refusal.specs.declared.Refusal.TheVariants.{CardInUse, NumbersUsedUp, Injection, NegativeIcss}
use Rattle.refusal.specs.declared.Refusal.TheVariants.{BadKey, BadNumber, KeyMissing, BadLine}
use Rattle.refusal.specs.Told.{number_of, values_of, told}
use Rattle.spelling.specs.Bytes.{bytes, space, newline}
use Rattle.spelling.specs.Digits.{plain_digits}
use Rattle.spelling.specs.Number.{parsed_of, parsed_with, all_digits, decimal_from}
use Rattle.words.specs.Words.{spans_from, with_word, with_words, words_of, part_of}
use Rattle.words.specs.laws.Split.{IsWord}
use Rattle.sheet.specs.Digits.{decimal_of, most_digits}
use Rattle.sheet.specs.Lines.{numbers_line, told_line}
use Rattle.answers.specs.declared.Answer.TheVariants.{Refused}
use Rattle.answers.specs.Answers.{answer_line}
use Rattle.explaining.specs.Lines.{line_length, line_at}
use Rattle.explaining.specs.Sentences.{sentence_of, branch_ends, ends_of}
use Rattle.explaining.specs.Explanation.{refused_word, where_told, explanation}
use Rattle.explaining_laws.proofs.FourWords.{four_words}
use Rattle.explaining_laws.proofs.Digits.{decimal_word, decimal_parsed, plain_short}

-- what is said of a refusal: its sentence, then the transistor and the branch where it tells them
abbrev pub values_said : List ℕ → List ℕ
values_said [] = []
values_said (i ∷ []) = []
values_said (i ∷ b ∷ l) =
    bytes ": transistor " ++ (decimal_of i ++ (bytes ", branch " ++ (decimal_of b ++ ends_of b)))

abbrev pub refusal_said : Refusal → List ℕ
refusal_said f = bytes "# " ++ (sentence_of (number_of f) ++ (values_said (values_of f) ++ newline ∷ []))

-- ---- the line that answers it, without its newline

abbrev pub spaced : List ℕ → List ℕ
spaced [] = []
spaced (n ∷ l) = space ∷ (decimal_of n ++ spaced l)

abbrev pub refused_line : Refusal → List ℕ
refused_line f = refused_word ++ spaced (told f)

ended : (l : List ℕ) → numbers_line l ≡ spaced l ++ newline ∷ []
unfolding numbers_line
ended [] = refl
ended (n ∷ l) = rw (append_assoc, ended l)

pub refused_line_lem : (f : Refusal) → answer_line (Refused f) ≡ refused_line f ++ newline ∷ []
unfolding answer_line told_line
refused_line_lem f = ap (λ (l : List ℕ). refused_word ++ l) (ended (told f))

-- ---- explained

-- the values are numbers of 32 bits, as every refusal's are
abbrev pub Held : List ℕ → Type 0
Held [] = Unit {0}
Held (n ∷ l) = (n < 2 ^ 32) × Held l

refused_word_lem : IsWord refused_word
refused_word_lem = record { some = lit< tt; letters = refl }

four_explained : (n i b : ℕ) → n < 2 ^ 32 → Held (i ∷ b ∷ [])
    → explanation (refused_word ++ spaced (n ∷ i ∷ b ∷ []))
    ≡ bytes "# " ++ (sentence_of n ++ (values_said (i ∷ b ∷ []) ++ newline ∷ []))
unfolding explanation where_told
four_explained n i b h k =
    let v =
    four_words refused_word (decimal_of n) (decimal_of i) (decimal_of b) refused_word_lem (decimal_word n) (decimal_word i)
    (decimal_word b) in
    rw append-nil
    (rw (
      v.first,
      v.second,
      v.count,
      v.third,
      v.fourth,
      decimal_parsed n (omega arith),
      decimal_parsed b (omega arith),
    ))

pub refusal_explained : (f : Refusal) → Held (values_of f) → explanation (refused_line f) ≡ refusal_said f
unfolding explanation where_told spans_from with_word with_words words_of part_of parsed_of parsed_with all_digits decimal_from
    plain_digits
refusal_explained Malformed h = refl
refusal_explained BadName h = refl
refusal_explained NameTwice h = refl
refusal_explained NameNotHeld h = refl
refusal_explained ShortOutput h = refl
refusal_explained NotFinite h = refl
refusal_explained WrongLevel h = refl
refusal_explained BadExsub h = refl
refusal_explained BadOctave h = refl
refusal_explained OutOfReach h = refl
refusal_explained NoRoom h = refl
refusal_explained Unknown h = refl
refusal_explained OutOfRange h = refl
refusal_explained SplitCollector h = refl
refusal_explained (Overload i b) h = four_explained 15 i b (lit< tt) h
refusal_explained CardInUse h = refl
refusal_explained NumbersUsedUp h = refl
refusal_explained (Injection i b) h = four_explained 18 i b (lit< tt) h
refusal_explained NegativeIcss h = refl
refusal_explained BadKey h = refl
refusal_explained BadNumber h = refl
refusal_explained KeyMissing h = refl
refusal_explained BadLine h = refl

-- other answers, and a line that only begins like a refusal's, have no explanation
pub others_unexplained : map (λ (line : String). explanation (bytes line))
    ("moved" ∷ "card 15" ∷ "error refused" ∷ "refuseds 1" ∷ "" ∷ []) ≡ [] ∷ [] ∷ [] ∷ [] ∷ [] ∷ []
unfolding explanation spans_from with_word with_words words_of part_of
others_unexplained = refl

-- ---- and the line has room

line_within : (k : ℕ) (text : List ℕ) → length (line_at k text) ≤ length text
unfolding line_at
line_within zero text = rw length-take (omega arith)
line_within (suc k) text =
    let h = line_within k (drop (suc (line_length text)) text) in omega (arith, length-drop (suc (line_length text)) text)

over_room : (n i b : ℕ) → length (sentence_of n) ≤ 100
    → length (bytes "# " ++ (sentence_of n ++ (values_said (i ∷ b ∷ []) ++ newline ∷ []))) ≤ 320
unfolding ends_of
over_room n i b h =
    let x = plain_short most_digits i in
    let y = plain_short most_digits b in
    let z : length (line_at b branch_ends) ≤ 140 = omega (arith, line_within b branch_ends) in
    simp length-append (omega arith)

pub refusal_room : (f : Refusal) → length (refusal_said f) ≤ 320
unfolding sentence_of line_at
refusal_room Malformed = lit≤ tt
refusal_room BadName = lit≤ tt
refusal_room NameTwice = lit≤ tt
refusal_room NameNotHeld = lit≤ tt
refusal_room ShortOutput = lit≤ tt
refusal_room NotFinite = lit≤ tt
refusal_room WrongLevel = lit≤ tt
refusal_room BadExsub = lit≤ tt
refusal_room BadOctave = lit≤ tt
refusal_room OutOfReach = lit≤ tt
refusal_room NoRoom = lit≤ tt
refusal_room Unknown = lit≤ tt
refusal_room OutOfRange = lit≤ tt
refusal_room SplitCollector = lit≤ tt
refusal_room (Overload i b) = over_room 15 i b (lit≤ tt)
refusal_room CardInUse = lit≤ tt
refusal_room NumbersUsedUp = lit≤ tt
refusal_room (Injection i b) = over_room 18 i b (lit≤ tt)
refusal_room NegativeIcss = lit≤ tt
refusal_room BadKey = lit≤ tt
refusal_room BadNumber = lit≤ tt
refusal_room KeyMissing = lit≤ tt
refusal_room BadLine = lit≤ tt
