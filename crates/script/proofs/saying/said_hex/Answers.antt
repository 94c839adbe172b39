-- Three words, of which the last spells bytes or does not; or fewer or more.
use Rattle.script.proofs.Sayings.{said_other, said_bytes, said_bad}
use Rattle.script.proofs.saying.said_hex.Goals as goal

pub returns-then-words-ne3 : goal.returns-then-words-ne3
returns-then-words-ne3 c = said_other _ _ c.if-words-ne3.true c.said.ensures

pub returns-in-Some : goal.returns-in-Some
returns-in-Some c =
    said_bytes _ _ c.if-words-ne3.false c.word.ensures c.requires
    c.hex_bytes.ensures c.in-Some.is c.said-in-Some.ensures

pub returns-in-None : goal.returns-in-None
returns-in-None c =
    said_bad _ _ c.if-words-ne3.false c.word.ensures c.requires
    c.hex_bytes.ensures c.in-None.is c.said-in-None.ensures
