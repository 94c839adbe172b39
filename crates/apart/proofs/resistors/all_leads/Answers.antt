-- `apart::resistors::all_leads` meets its contract: nothing without a value, else each resistor's two numbers.
use mathlib.Core.Path.{◌≡◌, sym, ◌∙◌}
use Prim.Native.Nat.{ℕ, ◌+◌, ◌<◌}
use native.Mathlib.Omega.{arith}
use lib.Dec.{lit<}
use mathlib.Core.List.{List}
use borrow.Author.Rules.{rules}
use borrow.Author.Tests.{eqb-true}
use Rattle.float.specs.declared.Split.{Split}
use Rattle.float.specs.Split.{IsSplit}
use Rattle.terms.specs.OfCard.WorkedCard.{WorkedCard}
use Rattle.terms.specs.Rows.{roles}
use Rattle.terms.specs.inner.Terms.{Lead, Wired}
use Rattle.terms.proofs.Readied.{splits}
use Rattle.terms.proofs.Series.{idle_through}
use Rattle.apart.proofs.resistors.all_leads.Goals as goal

asks : {c : WorkedCard} {v : List ℕ} {g : Split} → Wired c v → IsSplit g → {p q : ℕ} → p < roles → q < roles
    → Lead g v p q
asks w s h k = record { split = s; long = w.long; near = w.near; from = h; to = k }

pub returns-then-none_of : goal.returns-then-none_of
returns-then-none_of c =
    let a = c.args.c in
    let e : a.ge.a + a.gbc.a + a.gcc.a + a.gblx.a + a.gbli.a ≡ 0 = eqb-true _ 0
    (sym c.none_of.ensures ∙ c.if-none_of.true) in
    let e9 : a.ge.a ≡ 0 = omega arith in
    let e10 : a.gbc.a ≡ 0 = omega arith in
    let e11 : a.gcc.a ≡ 0 = omega arith in
    let e12 : a.gblx.a ≡ 0 = omega arith in
    let e13 : a.gbli.a ≡ 0 = omega arith in
    record {
      ninth = (idle_through a.ge e9 _, idle_through a.ge e9 _);
      tenth = (idle_through a.gbc e10 _, idle_through a.gbc e10 _);
      eleventh = (idle_through a.gcc e11 _, idle_through a.gcc e11 _);
      twelfth = (idle_through a.gblx e12 _, idle_through a.gblx e12 _);
      thirteenth = (idle_through a.gbli e13 _, idle_through a.gbli e13 _);
    }

pub returns : goal.returns
returns c =
    let a = c.lead.ensures in
    let b = c.lead-2.ensures in
    let d = c.lead-3.ensures in
    let x = c.lead-4.ensures in
    let i = c.lead-5.ensures in
    record {
      ninth = (a.plus, a.minus);
      tenth = (b.plus, b.minus);
      eleventh = (d.plus, d.minus);
      twelfth = (x.plus, x.minus);
      thirteenth = (i.plus, i.minus);
    }

pub lead-requires : goal.lead-requires
lead-requires c = let w = c.requires in asks w (splits w.worked).ge (lit< tt) (lit< tt)

pub lead-requires-2 : goal.lead-requires-2
lead-requires-2 c = let w = c.requires in asks w (splits w.worked).gbc (lit< tt) (lit< tt)

pub lead-requires-3 : goal.lead-requires-3
lead-requires-3 c = let w = c.requires in asks w (splits w.worked).gcc (lit< tt) (lit< tt)

pub lead-requires-4 : goal.lead-requires-4
lead-requires-4 c = let w = c.requires in asks w (splits w.worked).gblx (lit< tt) (lit< tt)

pub lead-requires-5 : goal.lead-requires-5
lead-requires-5 c = let w = c.requires in asks w (splits w.worked).gbli (lit< tt) (lit< tt)
