-- `put` works the roles' amounts from nothing, and hands them out.
use mathlib.Core.Path.{sym, subst}
use mathlib.Core.Bool.{false}
use Rattle.ends.specs.OfTerms.Rows.{rows_for, roles}
use Rattle.totals.specs.inner.Sums.{Wired}
use Rattle.totals.proofs.Roles.{wired_froms, wired_tos, room_nothing, amounts_within, amounts_out}
use Rattle.totals.proofs.put.Goals as goal

pub branches-requires : goal.branches-requires
branches-requires c = (
  subst (Wired roles) (sym c.from_roles-from.ensures) (wired_froms (rows_for false)),
  subst (Wired roles) (sym c.to_roles-to.ensures) (wired_tos (rows_for false)),
  room_nothing,
  c.requires.within,
)

pub hand_out-requires : goal.hand_out-requires
hand_out-requires c =
    (c.requires.wired, c.requires.room, amounts_within _ _ _ _ c.branches.ensures c.requires.within)

pub returns : goal.returns
returns c =
    amounts_out _ _ _ _ (rw (c.from_roles-from.ensures, c.to_roles-to.ensures) at c.branches.ensures) _
    c.hand_out.ensures
