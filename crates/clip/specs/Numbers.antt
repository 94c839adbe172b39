-- The parameters' numbers: the place of each among a record's words, and in the clip mask.
-- A record of version 1 has the first sixteen.
use Rattle.std.specs.Prelude.{ℕ}

abbrev pub mult : ℕ
mult = 0

abbrev pub is : ℕ
is = 1

abbrev pub ik : ℕ
ik = 2

abbrev pub bf : ℕ
bf = 3

abbrev pub xibi : ℕ
xibi = 4

abbrev pub ibf : ℕ
ibf = 5

abbrev pub mlf : ℕ
mlf = 6

abbrev pub bri : ℕ
bri = 7

abbrev pub iss : ℕ
iss = 8

abbrev pub icss : ℕ
icss = 9

abbrev pub iks : ℕ
iks = 10

abbrev pub rcblx : ℕ
rcblx = 11

abbrev pub rcbli : ℕ
rcbli = 12

abbrev pub exsub : ℕ
exsub = 13

abbrev pub octave : ℕ
octave = 14

abbrev pub level : ℕ
level = 15

abbrev pub ibr : ℕ
ibr = 16

abbrev pub vlr : ℕ
vlr = 17

abbrev pub re : ℕ
re = 18

abbrev pub rbc : ℕ
rbc = 19

abbrev pub rcc : ℕ
rcc = 20

abbrev pub polarity : ℕ
polarity = 21

-- the first of the two spare words
abbrev pub spare : ℕ
spare = 22
