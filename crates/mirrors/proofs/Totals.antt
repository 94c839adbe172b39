-- A whole board of the other polarity at negated voltages has negated totals.
use mathlib.Core.Path.{◌≡◌, refl, sym, ap, ap₂, ◌∙◌}
use mathlib.Core.Bool.{true}
use mathlib.Core.List.{List, [], ◌∷◌, map}
use Prim.Native.Nat.{ℕ, ◌<◌}
use lib.Dec.{eqb}
use lib.ListN.{get_or}
use lib.IntN.{ℤ, pos, neg_ℤ, ◌+ℤ◌, ◌-ℤ◌, neg_ℤ-+ℤ}
use Rattle.card.specs.declared.WorkedCard.{WorkedCard}
use Rattle.terms.specs.Rows.{Row, role_index, rows_for}
use Rattle.rows.specs.Outcome.{Outcome, told_ticks}
use Rattle.polarity.specs.Polarity.{outcome_of}
use Rattle.polarity.proofs.Turned.{turned_less}
use Rattle.totals.specs.Gives.{nodes_most, at_node, rows_give}
use Rattle.totals.specs.Flow.{roles_at, flow, sum_over}
use Rattle.totals.proofs.Integers.{turned}
use Rattle.model.specs.Board.{Board}
use Rattle.model.specs.Model.{volts_of, Reached}
use Rattle.days.specs.Fitted.{Fitted, fitted_in}
use Rattle.days.proofs.Perms.{perm_sum}
use Rattle.days.proofs.Totals.{totals_fitted}
use Rattle.mirrors.specs.Sister.{sister_of, sister_fitted, Mirrored}
use Rattle.polarity.proofs.Laws.{negated_at, told_turned}
use Rattle.mirrors.proofs.Currents.{pnp_mirrors}

roles_negated : (volts : List ℤ) (nodes : List ℕ) → roles_at (map neg_ℤ volts) nodes ≡ map neg_ℤ (roles_at volts nodes)
roles_negated volts [] = refl
roles_negated volts (n ∷ nodes) = ap₂ ◌∷◌ (negated_at volts n) (roles_negated volts nodes)

-- branches whose ticks are negated give every node the opposite
gives_negated : (rows : List Row) (nodes : List ℕ) (ticks : List ℤ) (n : ℕ) →
    rows_give rows nodes (map neg_ℤ ticks) n ≡ neg_ℤ (rows_give rows nodes ticks n)
unfolding rows_give
gives_negated [] nodes ticks n = refl
gives_negated (r ∷ rows) nodes [] n = refl
gives_negated (r ∷ rows) nodes (x ∷ xs) n =
    let from = get_or nodes (role_index r.from) 0 in
    let to = get_or nodes (role_index r.to) 0 in
    ap₂ (λ (a b : ℤ). a +ℤ b)
    (ap₂ (λ (a b : ℤ). a -ℤ b) (turned (eqb from n) x) (turned (eqb to n) x)
    ∙ turned_less true (at_node from n x) (at_node to n x))
    (gives_negated rows nodes xs n)
    ∙ sym (neg_ℤ-+ℤ (at_node from n x -ℤ at_node to n x) (rows_give rows nodes xs n))

flow_mirrors : (c : WorkedCard) (nodes : List ℕ) (volts : List ℤ) (n : ℕ) →
    flow (sister_of c) nodes (map neg_ℤ volts) n ≡ neg_ℤ (flow c nodes volts n)
unfolding flow
flow_mirrors c nodes volts n =
    ap (λ (o : Outcome). rows_give (rows_for c.exsub) nodes (told_ticks o) n)
    (ap (outcome_of (sister_of c)) (roles_negated volts nodes) ∙ pnp_mirrors c (roles_at volts nodes))
    ∙ ap (λ (l : List ℤ). rows_give (rows_for c.exsub) nodes l n)
    (told_turned true (outcome_of c (roles_at volts nodes)))
    ∙ gives_negated (rows_for c.exsub) nodes (told_ticks (outcome_of c (roles_at volts nodes))) n

sum_mirrors : (volts : List ℤ) (n : ℕ) (l : List Fitted) →
    sum_over (λ (f : Fitted). flow f.worked f.nodes (map neg_ℤ volts) n) (map sister_fitted l)
    ≡ neg_ℤ (sum_over (λ (f : Fitted). flow f.worked f.nodes volts n) l)
unfolding sum_over
sum_mirrors volts n [] = refl
sum_mirrors volts n (f ∷ l) =
    ap₂ (λ (a b : ℤ). a +ℤ b) (flow_mirrors f.worked f.nodes volts n) (sum_mirrors volts n l)
    ∙ sym (neg_ℤ-+ℤ (flow f.worked f.nodes volts n) _)

-- each stored total of a board's mirror is the opposite of the board's own
pub board_mirrors : {b c : Board} → Reached b → Reached c → Mirrored b c → (n : ℕ) → n < nodes_most →
    get_or c.totals n (pos 0) ≡ neg_ℤ (get_or b.totals n (pos 0))
board_mirrors {b} {c} r s m n h =
    totals_fitted s n h
    ∙ perm_sum (λ (f : Fitted). flow f.worked f.nodes (volts_of c) n) m.standing
    ∙ ap
    (λ (v : List ℤ). sum_over (λ (f : Fitted). flow f.worked f.nodes v n) (map sister_fitted (fitted_in b)))
    m.volts
    ∙ sum_mirrors (volts_of b) n (fitted_in b)
    ∙ ap neg_ℤ (sym (totals_fitted r n h))
