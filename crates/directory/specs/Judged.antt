-- 1, 2 and 3: of a library, and of names and words that are to become one.
use Rattle.std.specs.Prelude.{◌≡◌, not, List, ℕ, Result, Ok, Err}
use Rattle.refusal.specs.declared.Refusal.TheVariants.{Malformed, BadName, NameTwice}
use Rattle.refusal.specs.Order.{Verdict, no, yes, refuse_if}
use Rattle.refusal.specs.declared.Refusal.{Refusal}
use Rattle.directory.specs.declared.Numbers.{Numbers}
use Rattle.roll.specs.Directory.{names_in, names_held, all_named, twice}
use Rattle.directory.specs.Format.{words_of, version, count, headed, directory, offered}

-- what inspecting a library, or what is to become one, found
abbrev pub found : Result Numbers Refusal → Verdict (ℕ × ℕ)
found (Ok a) = yes (a.cards, a.words)
found (Err f) = no f

-- 2 for a malformed name anywhere in a directory, then 3 for a name that stands twice; else a
unfoldable pub names_judged : {A : Type 0} → List ℕ → A → Verdict A
names_judged d a =
    refuse_if (not (all_named (names_in d))) BadName
    (refuse_if (twice (names_in d)) NameTwice (yes a))

-- the count of a library's cards, and the words of a record
abbrev pub numbers_of : List ℕ → ℕ × ℕ
numbers_of s = (count s, words_of (version s))

-- 1 of a library, then 2 and 3 of its names; else its two numbers
unfoldable pub library_judged : List ℕ → Verdict (ℕ × ℕ)
library_judged s =
    refuse_if (not (headed s)) Malformed
    (names_judged (directory s) (numbers_of s))

-- a library to which none of 1, 2, 3 is given
abbrev pub Sound : List ℕ → Type 0
Sound s = library_judged s ≡ yes (numbers_of s)

-- 1 of names and words that are to become a library of version v, then 2 and 3 of the names; else its two numbers
unfoldable pub offer_judged : ℕ → List ℕ → List ℕ → Verdict (ℕ × ℕ)
offer_judged v ns ws =
    refuse_if (not (offered v ns ws)) Malformed
    (names_judged ns (names_held ns, words_of v))
