-- Each line as its definition has it.
use Rattle.std.proofs.Common.{refl, ap, ap₂}
use Rattle.page.proofs.Pages.{as_bytes, write_nothing}
use Rattle.quoting.specs.Quotes.{error_line}
use Rattle.shelving.specs.Shelf.{card_place, card_clipped, card_model}
use Rattle.shelving.specs.Apart.{apart_said, apart_shelf}
use Rattle.shelving.proofs.obey_apart.Goals as goal

pub returns-in-Nothing : goal.returns-in-Nothing
unfolding apart_said apart_shelf
returns-in-Nothing c = rw c.in-Nothing.is (write_nothing, refl)

pub returns-in-TooLong : goal.returns-in-TooLong
unfolding apart_said apart_shelf
returns-in-TooLong c = rw c.in-TooLong.is (c.answer_line.ensures, refl)

pub returns-in-Error : goal.returns-in-Error
unfolding apart_said apart_shelf
returns-in-Error c = rw c.in-Error.is (as_bytes (ap error_line c.word.ensures) c.error_line.ensures, refl)

pub returns-in-Find : goal.returns-in-Find
unfolding apart_said apart_shelf
returns-in-Find c =
    rw c.in-Find.is (as_bytes (ap₂ card_place c.word-name.ensures c.held.ensures) c.find.ensures, refl)

pub returns-in-Clip : goal.returns-in-Clip
unfolding apart_said apart_shelf
returns-in-Clip c =
    rw c.in-Clip.is (as_bytes (ap₂ card_clipped c.word-name.ensures c.held-in-Clip.ensures) c.clip.ensures, refl)

pub returns-in-Mend : goal.returns-in-Mend
unfolding apart_said apart_shelf
returns-in-Mend c = rw c.in-Mend.is c.mend.ensures

pub returns-in-Model : goal.returns-in-Model
unfolding apart_said apart_shelf
returns-in-Model c =
    rw c.in-Model.is (as_bytes (ap₂ card_model c.word-name.ensures c.held-in-Model.ensures) c.model.ensures, refl)
