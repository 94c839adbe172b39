-- `work` works a card of the deck at the voltages of the transistor's roles.
use mathlib.Core.Path.{◌≡◌, sym, subst, ◌∙◌}
use mathlib.Core.List.{List}
use Prim.Native.Nat.{ℕ}
use lib.ListN.{length, length-map}
use Rattle.volts.specs.Volts.{AllNear}
use Rattle.totals.specs.OfTerms.inner.Ready.{IsReady}
use Rattle.totals.specs.OfTerms.Rows.{roles}
use Rattle.flows.proofs.Currents.{roles_near, works, outcome_works}
use Rattle.flows.proofs.work.Goals as goal

pub role_volts-v-requires : goal.role_volts-v-requires
role_volts-v-requires c = (record { wired = c.requires.able.wired }, c.requires.able.long)

pub ready_at-r-requires : goal.ready_at-r-requires
ready_at-r-requires c = c.requires.able.there

pub work_out-requires : goal.work_out-requires
work_out-requires c =
    let p = c.requires in
    let e = sym c.role_volts-v.ensures in
    record {
      table_is = p.table_is;
      ready = subst IsReady (sym c.ready_at-r.ensures) p.able.ready;
      long = subst (λ (v : List ℕ). length v ≡ roles) e (length-map c.args.on.now _ ∙ p.able.long);
      near = subst AllNear e (roles_near _ p.volts_are c.args.on.now);
    }

pub returns : goal.returns
returns c =
    let p = c.requires in
    outcome_works _ _ _
    (works _ p.volts_are c.args.on.now p.able.wired c.work_out.ensures c.ready_at-r.ensures c.role_volts-v.ensures)
