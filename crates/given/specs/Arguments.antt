-- What a caller's numbers say, whatever keeps the desk: an issue number, a node, and what was looked for by one.
use Rattle.std.specs.Prelude.{Bool, true, false, cond, ◌&&◌, ◌||◌, not, List, [], ◌∷◌, ℕ, eqb, leb, ltb, get_or, ℤ, pos, negsuc, nat_abs}
use Rattle.std.specs.Int.Signed.{le_z, lt_z}
use Rattle.refusal.specs.declared.Refusal.TheVariants.{Unknown}
use Rattle.refusal.specs.Order.{Verdict, no, yes}
use Rattle.totals.specs.OfCard.WorkedCard.{WorkedCard}
use Rattle.totals.specs.OfTerms.Rows.{Role, C1, C3, C4, role_index}
use Rattle.totals.specs.Gives.{nodes_most}

-- the last issue number
abbrev pub issues_most : ℕ
issues_most = 65535

-- all numbers are given
abbrev pub used_up : ℕ → Bool
used_up next = ltb issues_most next

-- what was looked for, if it is there
pub data Found (A : Type 0) : Type 0 where
  none : Found A
  some : A → Found A

-- a caller's number as an issue number; 0, which is never given, stands for every number out of range
abbrev pub issue_of : ℤ → ℕ
issue_of (pos n) = cond (leb n issues_most) n 0
issue_of (negsuc n) = 0

-- a node number that is not on the board
abbrev pub off_node : ℤ → Bool
off_node n = lt_z n (pos 0) || le_z (pos nodes_most) n

abbrev pub some_node_off : List ℤ → Bool
some_node_off [] = false
some_node_off (n ∷ ns) = off_node n || some_node_off ns

-- one role stands on another node than a second
abbrev pub apart : Role → Role → List ℤ → Bool
apart p q nodes = not (eqb (nat_abs (get_or nodes (role_index p) (pos 0))) (nat_abs (get_or nodes (role_index q) (pos 0))))

-- which roles a card holds together: C4 and C1 where R_Cbli is 0, C3 and C4 where R_Cblx is
pub record Ties : Type 0 where
  pub joined : Bool
  pub close : Bool

abbrev pub ties_of : WorkedCard → Ties
ties_of c = record { joined = c.rcbli_zero; close = c.rcblx_zero }

-- two roles that a card holds together are apart
abbrev pub torn : Ties → List ℤ → Bool
torn t nodes = (t.joined && apart C4 C1 nodes) || (t.close && apart C3 C4 nodes)

-- whether what was found has all eleven roles; where nothing was, no node is looked at
abbrev pub wide_by : {A : Type 0} → (A → Bool) → Found A → Bool
wide_by wide none = true
wide_by wide (some a) = wide a

-- what an issue number names, or 12
abbrev pub known : {A : Type 0} → Found A → Verdict A
known none = no Unknown
known (some a) = yes a
