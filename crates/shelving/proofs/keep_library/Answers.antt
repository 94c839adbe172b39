-- A library is kept and counted, and what is none leaves the shelf as it was.
use Rattle.shelving.proofs.Shelves.{from_start, library_taken, library_refused}
use Rattle.shelving.proofs.keep_library.Goals as goal

pub returns-in-Ok : goal.returns-in-Ok
returns-in-Ok c =
    let s = c.args in
    library_taken (from_start s.«read».now s.n c.part-bytes.ensures) c.judge.ensures
    c.in-Ok.is s.held.now c.keep.ensures c.answer_line.ensures

pub returns-in-Err : goal.returns-in-Err
returns-in-Err c =
    let s = c.args in
    library_refused (from_start s.«read».now s.n c.part-bytes.ensures) c.judge.ensures c.in-Err.is
    c.put_refused.ensures
