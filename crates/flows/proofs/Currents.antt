-- A transistor's currents and what they do to the totals: its roles' voltages, and its branches.
use mathlib.Core.Path.{◌≡◌, refl, ap, ◌∙◌}
use mathlib.Core.Bool.{false}
use mathlib.Core.List.{List, [], ◌∷◌, map}
use Prim.Native.Nat.{ℕ, zero, suc, ◌≤◌, ◌<◌, zero-le}
use lib.ListN.{get_or, length}
use lib.IntN.{ℤ, pos, nat_abs, ◌+ℤ◌}
use Rattle.volts.specs.Volts.{given_back, span, AllNear}
use Rattle.card.specs.declared.WorkedCard.{WorkedCard}
use Rattle.totals.specs.OfTerms.Ready.{Ready}
use Rattle.totals.specs.OfTerms.Rows.{rows_for, branches}
use Rattle.dealing.specs.OfRows.Outcome.{Outcome, tick_limit}
use Rattle.totals.specs.OfPolarity.Polarity.{outcome_of}
use Rattle.totals.proofs.OfPolarity.Laws.{ticks_long, ticks_small}
use Rattle.totals.specs.OfTerms.Ends.{from_roles, to_roles}
use Rattle.totals.specs.Gives.{nodes_most}
use Rattle.totals.specs.Flow.{roles_at, over_at, ticks_at, ticks_give, flow}
use Rattle.totals.specs.inner.Sums.{More, Within, roles_give}
use Rattle.totals.specs.inner.Sizes.{flow_most}
use Rattle.totals.proofs.Lists.{get_d_map}
use Rattle.totals.proofs.Roles.{roles_are_rows}
use Rattle.totals.proofs.Amounts.{small_rows}
use Rattle.flows.specs.inner.Workable.{roles_of, Volts, Works}

-- ---- the voltages of the roles

module _ (volts : List ℕ) (v : Volts volts) where
  pub roles_given_back : (nodes : List ℕ) → ((k : ℕ) → get_or nodes k 0 < nodes_most) →
      map given_back (roles_of volts nodes) ≡ roles_at (map given_back volts) nodes
  roles_given_back [] h = refl
  roles_given_back (n ∷ nodes) h =
      rw (get_d_map given_back volts n 0 (pos 0) (rw v.long (h 0)), roles_given_back nodes (λ k. h (suc k)))

  near_each : (nodes : List ℕ) (k : ℕ) → get_or (roles_of volts nodes) k 0 ≤ span
  near_each [] k = zero-le
  near_each (n ∷ nodes) zero = v.near.each n
  near_each (n ∷ nodes) (suc k) = near_each nodes k

  pub roles_near : (nodes : List ℕ) → AllNear (roles_of volts nodes)
  roles_near nodes = record { each = near_each nodes }

  -- a card made ready, worked at the kept voltages of the roles
  pub works : {o : Outcome} {r made : Ready} {v : List ℕ} (nodes : List ℕ) →
      ((k : ℕ) → get_or nodes k 0 < nodes_most) → o ≡ outcome_of r.card (map given_back v) → r ≡ made →
      v ≡ roles_of volts nodes → o ≡ outcome_of made.card (roles_at (map given_back volts) nodes)
  works nodes h e m q = rw (← (roles_given_back nodes h), ← m, ← q) e

-- ---- what its branches do to the totals

module _ (c : WorkedCard) (nodes : List ℕ) (volts : List ℤ) where
  pub outcome_works : {o : Outcome} → o ≡ outcome_of c (roles_at volts nodes) → Works c nodes volts o
  unfolding over_at ticks_at
  outcome_works e = record { over = rw e; ticks = rw e }

  pub ticks_within : Within tick_limit (ticks_at c nodes volts)
  unfolding ticks_at
  ticks_within = record { within = ticks_small c (roles_at volts nodes) }

  pub ticks_count : length (ticks_at c nodes volts) ≡ branches
  unfolding ticks_at
  ticks_count = ticks_long c (roles_at volts nodes)

module _ (nodes : List ℕ) (ticks : List ℤ) where
  pub gives_ticks : length ticks ≡ branches → {l l' : List ℤ} →
      More nodes_most l l' (roles_give nodes from_roles to_roles ticks) → More nodes_most l l' (ticks_give nodes ticks)
  unfolding ticks_give
  gives_ticks long {l} m =
      record {
        long = m.long;
        at =
            λ n h. m.at n h
            ∙ ap (λ (z : ℤ). get_or l n (pos 0) +ℤ z) (roles_are_rows (rows_for false) nodes ticks n long);
      }

  pub ticks_small_give : Within tick_limit ticks → (n : ℕ) → nat_abs (ticks_give nodes ticks n) ≤ flow_most
  unfolding ticks_give
  ticks_small_give w n = small_rows (rows_for false) nodes ticks n tick_limit w.within

pub small_flow : (c : WorkedCard) (nodes : List ℕ) (volts : List ℤ) (n : ℕ) → nat_abs (flow c nodes volts n) ≤ flow_most
unfolding flow
small_flow c nodes volts n = ticks_small_give nodes (ticks_at c nodes volts) (ticks_within c nodes volts) n
