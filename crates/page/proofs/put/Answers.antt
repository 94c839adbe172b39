-- As much as there is room for, and nothing in a full buffer.
use Rattle.std.proofs.Common.{rules}
use Rattle.page.specs.Page.{page}
use Rattle.page.proofs.Pages.{put_at_once, on_full}
use Rattle.page.proofs.put.Goals as goal

pub returns-then-out-at : goal.returns-then-out-at
returns-then-out-at c = record { on_page = λ n. on_full (page c.args.out.now c.args.at) c.args.s.now (search rules) }

pub returns : goal.returns
returns c = record {
  on_page = λ n.
      put_at_once (page c.args.out.now c.args.at) c.args.s.now (search rules) (search rules)
      c.copy_from_slice.ensures.after;
}
