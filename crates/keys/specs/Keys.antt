-- The keys of a model line: one list, in the order of a record's numbers, with what a key that is not given stands for.
use Rattle.std.specs.Prelude.{◌≡◌, refl, List, [], ◌∷◌, ◌++◌, map, Option, Some, None, ℕ, zero, suc, ◌<◌, length, get_or}
use Prim.Native.String.{String}
use Rattle.bytes_le.specs.Le.{le}
use Rattle.roll.specs.Directory.{place_of}
use Rattle.clip.specs.Numbers.{mult, is, ik, bf, xibi, ibf, mlf, bri, iss, icss, iks, rcblx, rcbli, exsub, octave}
use Rattle.clip.specs.Numbers.{level}
use Rattle.clip.specs.Numbers.{ibr, vlr, re, rbc, rcc}
use Rattle.spelling.specs.Bytes.{bytes}
use Rattle.decimal_read.specs.Text.{word_read}

-- the word, the number of the parameter, and the text of its default; no text where the key must be given
pub record Key : Type 0 where
  pub word : List ℕ
  pub number : ℕ
  pub default : List ℕ

abbrev key : String → ℕ → String → Key
key w n t = record { word = bytes w; number = n; default = bytes t }

-- words and defaults are those of document 003's table, but for I_CSs, whose default is +0 here, and for the octave
abbrev pub keys : List Key
keys =
    key "mult" mult "1.0"
    ∷ key "is" is "22.0e-18"
    ∷ key "ik" ik "0.1"
    ∷ key "bf" bf "215.0"
    ∷ key "xibi" xibi "0.0"
    ∷ key "ibf" ibf "2.7e-15"
    ∷ key "mlf" mlf "2.0"
    ∷ key "bri" bri "7.0"
    ∷ key "iss" iss "48.0e-18"
    ∷ key "icss" icss "0"
    ∷ key "iks" iks "250.0e-6"
    ∷ key "rcblx" rcblx "0.0"
    ∷ key "rcbli" rcbli "0.0"
    ∷ key "exsub" exsub "0.0"
    ∷ key "octave" octave ""
    ∷ key "level" level "504"
    ∷ key "ibr" ibr "1.0e-15"
    ∷ key "vlr" vlr "0.2"
    ∷ key "re" re "5.0"
    ∷ key "rbc" rbc "23.0"
    ∷ key "rcc" rcc "12.0"
    ∷ []

abbrev pub key_count : ℕ
key_count = length keys

abbrev pub key_words : List (List ℕ)
key_words = map (λ (k : Key). k.word) keys

-- the number of the key with that word; how many there are, where none has it
unfoldable pub key_number : List ℕ → ℕ
key_number w = place_of w key_words

-- how a search tells it: the number of a key that has the word, or that none has it
abbrev pub IsNumberOf : List ℕ → Option ℕ → Type 0
IsNumberOf w (Some k) = (k ≡ key_number w) × (k < key_count)
IsNumberOf w None = key_number w ≡ key_count

-- the key of a number
abbrev pub key_word : ℕ → List ℕ
key_word k = get_or key_words k []

-- ---- what the record has before any key is taken

-- a default's word; +0 where there is none
abbrev pub word_in : Option ℕ → ℕ
word_in (Some w) = w
word_in None = 0

-- the words of the polarities: +1 and -1
abbrev pub plus_one : ℕ
plus_one = 0x3ff0_0000_0000_0000

abbrev pub minus_one : ℕ
minus_one = 0xbff0_0000_0000_0000

-- the defaults, polarity +1 and the two spare words
unfoldable pub defaults : List ℕ
defaults = map (λ (k : Key). word_in (word_read k.default)) keys ++ (plus_one ∷ 0 ∷ 0 ∷ [])

-- ---- the list is in the order of the record's numbers
abbrev up_from : ℕ → ℕ → List ℕ
up_from i zero = []
up_from i (suc n) = i ∷ up_from (suc i) n

in_order : map (λ (k : Key). k.number) keys ≡ up_from 0 key_count
in_order = refl

-- ---- the words as numbers, their first byte the lowest, and how many bytes each has
abbrev pub packed_keys : List ℕ
packed_keys = map le key_words

abbrev pub key_lengths : List ℕ
key_lengths = map length key_words
