-- A record that is taken has its line, and a refusal its own.
use Rattle.page.proofs.Pages.{as_bytes}
use Rattle.shelving.proofs.Lines.{clipping_taken, clipping_refused}
use Rattle.shelving.proofs.clip_record.Goals as goal

pub returns-in-Ok : goal.returns-in-Ok
returns-in-Ok c = as_bytes (clipping_taken c.clip.ensures c.in-Ok.is c.is_wide.ensures) c.put_clipping.ensures

pub returns-in-Err : goal.returns-in-Err
returns-in-Err c = as_bytes (clipping_refused c.clip.ensures c.in-Err.is) c.put_refused.ensures
