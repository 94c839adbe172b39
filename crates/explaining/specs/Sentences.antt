-- The sentences: a text with a line for each refusal, by its number. Each says what was wrong, and what a designer can
-- do. The line of the number 0, which no refusal has, is empty.
use Rattle.std.specs.Prelude.{List, ◌++◌, ℕ}
use Rattle.spelling.specs.Bytes.{bytes}
use Rattle.explaining.specs.Lines.{line_at}

abbrev pub sentences : List ℕ
sentences =
    bytes "\n"
    ++ (bytes "the library, record or list has not the shape asked for; look at its length, count and version\n"
    ++ (bytes "this is no name; give one of 1 to 16 visible characters, none of them a space\n"
    ++ (bytes "a name stands twice; give one of the two cards another\n"
    ++ (bytes "no card has this name; look at its spelling, or take the library or load the card that has it\n"
    ++ (bytes "a buffer that was lent is too short; lend a longer one\n"
    ++ (bytes "a number of the card is infinite, or is none; have the card made anew\n"
    ++ (bytes "the card's LEVEL is not 504; take a card that was made for that level\n"
    ++ (bytes "EXSUB is neither 0 nor 1, the polarity neither 1 nor -1, or a spare word is not 0; correct the card\n"
    ++ (bytes "the octave is not a whole number of nanovolts from 10,000,000 to 50,000,000; correct the card\n"
    ++ (bytes "a value worked from the card, its V_Lr or a node's total would be out of reach; correct the number\n"
    ++ (bytes "no place is free, of 16 for cards and 64 for transistors; withdraw a card or lift a transistor\n"
    ++ (bytes "there is no such card or transistor; look at the numbers that loading and placing answered\n"
    ++ (bytes "a node is not one of 0 to 31, is missing, or goes beyond 2,500,000 microvolts; correct the number\n"
    ++ (bytes "C4 is not where C1 is, or C3 not where C4 is, with no resistor between; place the two on one node\n"
    ++ (bytes "a T would pass 8 amperes, or branch 8 its range; lower its drive or share the load\n"
    ++ (bytes "a transistor stands on this card; lift it first\n"
    ++ (bytes "all 65,535 numbers have been given; begin a fresh board\n"
    ++ (bytes "an injection term would pass 2^20; lower its drive, or look at the knee current\n"
    ++ (bytes "I_CSs is below 0, as older libraries had it; mend the library, or give I_CSs its value\n"
    ++ (bytes "a key of the model line is none, or stands twice; look at its spelling, or leave one out\n"
    ++ (bytes "a number is not written as in model lines, or cannot be; use up to 15 digits, a power of -22 to 22\n"
    ++ (bytes "the model line does not give its octave; add octave= and a whole number of nanovolts\n"
    ++ (bytes "this is no model line; write .model, a name, npn or pnp, and KEY=NUMBER words\n")))))))))))))))))))))))

unfoldable pub sentence_of : ℕ → List ℕ
sentence_of n = line_at n sentences

-- from where to where each branch goes, by roles: a text with a line for each, by its number
abbrev pub branch_ends : List ℕ
branch_ends =
    bytes "\n"
    ++ (bytes ", C2 to E1\n"
    ++ (bytes ", B2 to E1\n"
    ++ (bytes ", B1 to E1\n"
    ++ (bytes ", B2 to E1\n"
    ++ (bytes ", B1 to C4\n"
    ++ (bytes ", B1 to S\n"
    ++ (bytes ", S to C1\n"
    ++ (bytes ", B1 to C4\n"
    ++ (bytes ", E to E1\n"
    ++ (bytes ", B to B1\n"
    ++ (bytes ", C to C3\n"
    ++ (bytes ", C3 to C4\n"
    ++ (bytes ", C4 to C1\n")))))))))))))

unfoldable pub ends_of : ℕ → List ℕ
ends_of branch = line_at branch branch_ends
