-- What the board's methods promise, call by call: the clauses of their own contracts, as the prover hands them to a
-- caller. And a day of such calls.
use Rattle.std.specs.Prelude.{◌≡◌, List, [], ◌∷◌, ℕ, length, take, ℤ}
use contract.Lifetimes.{Lfts}
use denote.Triple.Clauses.{AtExit}
use borrow.Fn.Kinds.{ParamKind, ResultKind, Dens, ended_of}
use Rattle.terms.specs.Rows.{roles}
use Rattle.lending.specs.Rest.{State}
use Rattle.board.specs.declared.Answered.{Answered}
use Rattle.board.specs.Promise.{state_in}
use Rattle.model.specs.declared.Answer.{Answer}
use Rattle.model.specs.declared.Answer.TheVariants.{Issue, Done, Node, Currents, Listed, Summed, Refused}
use Rattle.model.specs.Desk.{Call, load, place, move, move_one, lift, withdraw, look_up, node, currents, who, sum_up}
use Rattle.board.proofs.Board.fresh.Kinds as fresh-kinds
use Rattle.board.proofs.Board.fresh.Reads as fresh-reads
use Rattle.board.proofs.Board.load.Kinds as load-kinds
use Rattle.board.proofs.Board.load.Reads as load-reads
use Rattle.board.proofs.Board.place.Kinds as place-kinds
use Rattle.board.proofs.Board.place.Reads as place-reads
use Rattle.board.proofs.Board.move_all.Kinds as move-all-kinds
use Rattle.board.proofs.Board.move_all.Reads as move-all-reads
use Rattle.board.proofs.Board.move_to.Kinds as move-to-kinds
use Rattle.board.proofs.Board.move_to.Reads as move-to-reads
use Rattle.board.proofs.Board.lift.Kinds as lift-kinds
use Rattle.board.proofs.Board.lift.Reads as lift-reads
use Rattle.board.proofs.Board.withdraw.Kinds as withdraw-kinds
use Rattle.board.proofs.Board.withdraw.Reads as withdraw-reads
use Rattle.board.proofs.Board.look_up.Kinds as look-up-kinds
use Rattle.board.proofs.Board.look_up.Reads as look-up-reads
use Rattle.board.proofs.Board.read_node.Kinds as read-node-kinds
use Rattle.board.proofs.Board.read_node.Reads as read-node-reads
use Rattle.board.proofs.Board.read_currents.Kinds as read-currents-kinds
use Rattle.board.proofs.Board.read_currents.Reads as read-currents-reads
use Rattle.board.proofs.Board.list_node.Kinds as list-node-kinds
use Rattle.board.proofs.Board.list_node.Reads as list-node-reads
use Rattle.board.proofs.Board.sum_up.Kinds as sum-up-kinds
use Rattle.board.proofs.Board.sum_up.Reads as sum-up-reads

-- what a method's arguments are when it returns
abbrev Left : {n : ℕ} → Lfts n → List (ParamKind n) → ResultKind n → Type 0
Left {n} κs ps r = AtExit (ended_of n ps r) κs

-- r is what the method for a fresh board may give over two slices, and what it leaves in them
pub data PromisedFresh : List ℤ → List ℤ → Answered → List ℤ → List ℤ → Type 0 where
  by_fresh : (κs : Lfts 2) (a : Dens κs fresh-kinds.ps) {r : Answered} (e : Left κs fresh-kinds.ps fresh-kinds.r) →
      fresh-reads.Learnt κs a r e → PromisedFresh a.0.now a.1.0.now r e.0.now e.1.0.now

-- what an answer tells of a buffer that was lent: so many numbers at its start
abbrev pub told_in : Answer → List ℕ → List ℕ
told_in (Listed n) buffer = take n buffer
told_in (Issue n) buffer = []
told_in Done buffer = []
told_in (Node v t) buffer = []
told_in Currents buffer = []
told_in (Summed t c s) buffer = []
told_in (Refused f) buffer = []

-- r is what the method of a call may answer on a board beside two slices; then come what stands in the slices and the
-- list that it tells in a lent buffer. a is what the method is given, the board first, and then the slices where it
-- takes them
pub data Promised : State → Call → Answered → List ℤ → List ℤ → List ℕ → Type 0 where
  by_load : {volts totals : List ℤ} (κs : Lfts 2) (a : Dens κs load-kinds.ps) {r : Answered}
      (e : Left κs load-kinds.ps load-kinds.r) → load-reads.Learnt κs a r e →
      Promised (state_in a.0 volts totals) (load a.1.0.now a.1.1.0.now) r volts totals []
  by_place : (κs : Lfts 2) (a : Dens κs place-kinds.ps) {r : Answered} (e : Left κs place-kinds.ps place-kinds.r)
      (sized : length a.1.1.1.1.0 ≡ roles) → place-reads.Learnt κs a r e →
      Promised (state_in a.0 a.1.0.now a.1.1.0.now) (place a.1.1.1.0 a.1.1.1.1.0 sized) r
      a.1.0.now e.1.1.0.now []
  by_move_all : (κs : Lfts 3) (a : Dens κs move-all-kinds.ps) {r : Answered}
      (e : Left κs move-all-kinds.ps move-all-kinds.r) → move-all-reads.Learnt κs a r e →
      Promised (state_in a.0 a.1.0.now a.1.1.0.now) (move a.1.1.1.0.now) r e.1.0.now
      e.1.1.0.now []
  by_move_to : (κs : Lfts 2) (a : Dens κs move-to-kinds.ps) {r : Answered}
      (e : Left κs move-to-kinds.ps move-to-kinds.r) → move-to-reads.Learnt κs a r e →
      Promised (state_in a.0 a.1.0.now a.1.1.0.now) (move_one a.1.1.1.0 a.1.1.1.1.0) r
      e.1.0.now e.1.1.0.now []
  by_lift : (κs : Lfts 2) (a : Dens κs lift-kinds.ps) {r : Answered} (e : Left κs lift-kinds.ps lift-kinds.r) →
      lift-reads.Learnt κs a r e →
      Promised (state_in a.0 a.1.0.now a.1.1.0.now) (lift a.1.1.1.0) r a.1.0.now
      e.1.1.0.now
      []
  by_withdraw : {volts totals : List ℤ} (κs : Lfts 0) (a : Dens κs withdraw-kinds.ps) {r : Answered}
      (e : Left κs withdraw-kinds.ps withdraw-kinds.r) → withdraw-reads.Learnt κs a r e →
      Promised (state_in a.0 volts totals) (withdraw a.1.0) r volts totals []
  by_look_up : {volts totals : List ℤ} (κs : Lfts 1) (a : Dens κs look-up-kinds.ps) {r : Answered}
      (e : Left κs look-up-kinds.ps look-up-kinds.r) → look-up-reads.Learnt κs a r e →
      Promised (state_in a.0 volts totals) (look_up a.1.0.now) r volts totals []
  by_read_node : (κs : Lfts 2) (a : Dens κs read-node-kinds.ps) {r : Answered}
      (e : Left κs read-node-kinds.ps read-node-kinds.r) → read-node-reads.Learnt κs a r e →
      Promised (state_in a.0 a.1.0.now a.1.1.0.now) (node a.1.1.1.0) r a.1.0.now
      a.1.1.0.now []
  by_read_currents : {volts totals : List ℤ} (κs : Lfts 0) (a : Dens κs read-currents-kinds.ps) {r : Answered}
      (e : Left κs read-currents-kinds.ps read-currents-kinds.r) → read-currents-reads.Learnt κs a r e →
      Promised (state_in a.0 volts totals) (currents a.1.0) r volts totals []
  by_list_node : {volts totals : List ℤ} (κs : Lfts 1) (a : Dens κs list-node-kinds.ps) {r : Answered}
      (e : Left κs list-node-kinds.ps list-node-kinds.r) → list-node-reads.Learnt κs a r e →
      Promised (state_in a.0 volts totals) (who a.1.0 (length a.1.1.0.now)) r volts totals
      (told_in r.answer e.1.1.0.now)
  by_sum_up : {volts totals : List ℤ} (κs : Lfts 0) (a : Dens κs sum-up-kinds.ps) {r : Answered}
      (e : Left κs sum-up-kinds.ps sum-up-kinds.r) → sum-up-reads.Learnt κs a r e →
      Promised (state_in a.0 volts totals) (sum_up a.1.0) r volts totals []

-- a day of calls, the last one first in the list: a fresh call that was taken, and then each call made on the board
-- that the one before it handed back, over the slices as it left them
pub data Day : List Call → State → Type 0 where
  begun : {volts totals v t : List ℤ} {r : Answered} → PromisedFresh volts totals r v t → r.answer ≡ Done →
      Day [] (state_in r.board v t)
  then : {calls : List Call} {s : State} {c : Call} {r : Answered} {v t : List ℤ} {list : List ℕ} → Day calls s →
      Promised s c r v t list → Day (c ∷ calls) (state_in r.board v t)
