-- Lists of numbers with something more at each place, and the branches given in two steps: to the roles, and from
-- each role to its node.
use Rattle.std.specs.Prelude.{◌≡◌, List, ℕ, zero, suc, ◌≤◌, ◌<◌, get_or, length, ℤ, pos, nat_abs, ◌+ℤ◌, ◌-ℤ◌}
use Rattle.std.proofs.Common.{sym, ◌∙◌, ext_get_or}
use Rattle.ends.specs.OfScaling.Scaled.{tick_limit}
use Rattle.ends.specs.OfTerms.Rows.{roles, branches}
use Rattle.totals.specs.Gives.{nodes_most, at_node}
use Rattle.totals.specs.inner.Sizes.{room_most}

-- l is the list l₀ of m numbers with f n more at each n
pub record More (m : ℕ) (l₀ l : List ℤ) (f : ℕ → ℤ) : Type 0 where
  pub long : length l ≡ m
  pub at : (n : ℕ) → n < m → get_or l n (pos 0) ≡ get_or l₀ n (pos 0) +ℤ f n

-- no number of the list is above k in size
pub record Within (k : ℕ) (l : List ℤ) : Type 0 where
  pub within : (i : ℕ) → nat_abs (get_or l i (pos 0)) ≤ k

-- m numbers, none above k in size
pub record Room (m k : ℕ) (l : List ℤ) : Type 0 where
  pub long : length l ≡ m
  pub within : (n : ℕ) → nat_abs (get_or l n (pos 0)) ≤ k

-- every number is one of m nodes, or of m roles
pub record Wired (m : ℕ) (l : List ℕ) : Type 0 where
  pub wired : (k : ℕ) → get_or l k 0 < m

-- totals, nodes and ticks such that the totals can be given the ticks, or have them taken
pub record Givable (l : List ℤ) (nodes : List ℕ) (ticks : List ℤ) : Type 0 where
  pub wired : Wired nodes_most nodes
  pub room : Room nodes_most room_most l
  pub within : Within tick_limit ticks

-- what a branch of x ticks gives to role or node n
abbrev pub ends : ℕ → ℕ → ℤ → ℕ → ℤ
ends from to x n = at_node from n x -ℤ at_node to n x

-- and the first k of the branches between these ends
unfoldable pub ends_give : List ℕ → List ℕ → List ℤ → ℕ → ℕ → ℤ
ends_give froms tos ticks zero n = pos 0
ends_give froms tos ticks (suc k) n =
    ends_give froms tos ticks k n +ℤ ends (get_or froms k 0) (get_or tos k 0) (get_or ticks k (pos 0)) n

-- what node n gets where the first k roles hand f to their nodes
unfoldable pub spread : List ℕ → (ℕ → ℤ) → ℕ → ℕ → ℤ
spread nodes f zero n = pos 0
spread nodes f (suc k) n = spread nodes f k n +ℤ at_node (get_or nodes k 0) n (f k)

-- what the branches between these roles give to node n
abbrev pub roles_give : List ℕ → List ℕ → List ℕ → List ℤ → ℕ → ℤ
roles_give nodes froms tos ticks n = spread nodes (ends_give froms tos ticks branches) roles n

-- one list alone has what a promise of more says
pub unique_more : {m : ℕ} {l₀ l l' : List ℤ} {f : ℕ → ℤ} → More m l₀ l f → More m l₀ l' f → l ≡ l'
unique_more {m} {l₀} {l} {l'} {f} p q =
    ext_get_or (pos 0) l l' (p.long ∙ sym q.long)
    (λ i h. let k : i < m = rw p.long at h in p.at i k ∙ sym (q.at i k))
