-- A history that is done again record by record: what machine and which moves are there behind each
-- record. The loops that walk over histories rest on it.
use Rattle.std.proofs.Common.{◌≡◌, ℕ, ◌+◌, ◌<◌, ◌≤◌, List, [], ◌∷◌, ◌++◌, length, take, drop, get_or, append_assoc, append-nil, length-take-le, sym, subst, ◌∙◌, ap, Option, Some, None}
use Rattle.std.proofs.lemmas.List.{at_drop_all, take_more, drop_more}
use Rattle.block_order.specs.declared.program.ControlProgram.{ControlProgram}
use Rattle.nc_number.specs.declared.path.Path.{Path}
use Rattle.run_records.specs.Entries.{Entry}
use Rattle.path_state.specs.View.{PathView}
use Rattle.two_path.specs.declared.turn.Turn.{Turn}
use Rattle.two_path.specs.Machine.{MachineView, opening}
use Rattle.two_path.specs.Turns.{Tapes}
use Rattle.two_path.specs.Histories.{HistoriesAreRuns, IsLegal, IsNext, behind_entry, fold}
use Rattle.two_path.specs.Joined.{AreAtTheirWaits}
use Rattle.two_path.specs.Again.{turn_of_entry}
use Rattle.two_path.proofs.Folds.{fold_push}
use Rattle.nc_outside.specs.declared.lined_move.LinedMove.{LinedMove}
use Rattle.two_path.specs.Made.{PathTurn, moves_made_by, moves_in, turns_from}

-- the turn of a record, with whose it was
abbrev pub turn_at : Tapes → MachineView → Entry → PathTurn
turn_at tapes m e = record { path = e.path; turn = turn_of_entry tapes e m }

-- the records from one on are that record and those behind it
pub records_from : (entries : List Entry) (i : ℕ) (e : Entry) → i < length entries → e ≡ get_or entries i e
    → drop i entries ≡ e ∷ drop (i + 1) entries
records_from entries i e within is = drop_more entries i e within ∙ ap (λ x. x ∷ drop (i + 1) entries) (sym is)

-- the records up to and with one are those before it, and it
pub records_to : (entries : List Entry) (i : ℕ) (e : Entry) → i < length entries → e ≡ get_or entries i e
    → take (i + 1) entries ≡ take i entries ++ e ∷ []
records_to entries i e within is = take_more entries i e within ∙ ap (λ x. take i entries ++ x ∷ []) (sym is)

-- the moves so far, those of one record and those of the records behind it are all moves, if the
-- moves so far and those of the records from it on are
moves_go_on : (tapes : Tapes) (path : Path) (m : MachineView) (made all : List LinedMove) (left rest : List Entry) (e : Entry)
    → left ≡ e ∷ rest → made ++ moves_in path (turns_from tapes m left) ≡ all
    → (made ++ moves_made_by path (turn_at tapes m e)) ++ moves_in path (turns_from tapes (behind_entry tapes e m) rest) ≡ all
unfolding moves_in turns_from
moves_go_on tapes path m made all left rest e is so_far =
    append_assoc made (moves_made_by path (turn_at tapes m e)) (moves_in path (turns_from tapes (behind_entry tapes e m) rest))
    ∙ (ap (λ es. made ++ moves_in path (turns_from tapes m es)) (sym is) ∙ so_far)

-- behind the last record there is no move
pub moves_at_end : (tapes : Tapes) (path : Path) (m : MachineView) (made all : List LinedMove) (entries : List Entry) (i : ℕ)
    → length entries ≤ i → made ++ moves_in path (turns_from tapes m (drop i entries)) ≡ all → made ≡ all
unfolding moves_in turns_from
moves_at_end tapes path m made all entries i le so_far =
    sym (append-nil made)
    ∙ (ap (λ (ms : List LinedMove). made ++ ms) (sym (at_drop_all (λ es. moves_in path (turns_from tapes m es)) entries i le)) ∙ so_far)

-- of a legal history that is left, the next record is legal, and so are those behind it
pub next_is_legal : (tapes : Tapes) (m : MachineView) (left rest : List Entry) (e : Entry) → left ≡ e ∷ rest
    → IsLegal tapes m left → IsNext tapes m e × IsLegal tapes (behind_entry tapes e m) rest
next_is_legal tapes m left rest e is legal = subst (IsLegal tapes m) is legal

-- if the machine is the fold of the records so far, behind one more it is the fold of those and it
pub fold_more : (tapes : Tapes) (start m : MachineView) (front more : List Entry) (e : Entry) → more ≡ front ++ e ∷ []
    → m ≡ fold tapes start front → behind_entry tapes e m ≡ fold tapes start more
fold_more tapes start m front more e is so_far =
    ap (behind_entry tapes e) so_far ∙ sym (fold_push tapes start front e) ∙ ap (fold tapes start) (sym is)

-- the machine behind the first so many records of a legal history counts so many
pub counted : (tapes : Tapes) (start m : MachineView) (entries : List Entry) (i : ℕ) → HistoriesAreRuns tapes start
    → IsLegal tapes start entries → i ≤ length entries → m ≡ fold tapes start (take i entries) → m.count ≡ i
counted tapes start m entries i law legal within so_far =
    ap (λ (x : MachineView). x.count) so_far
    ∙ (law.counts (take i entries) (law.prefix i entries legal)).count ∙ length-take-le i entries within

-- before the first record no path waits
pub none_waits : (left right : List ControlProgram) (first second : PathView) → AreAtTheirWaits left right (opening first second)
none_waits left right first second = record {
  first = λ code waits. absurd (let e : ◌≡◌ {A = Option ℕ} None (Some code) = waits in cc);
  second = λ code waits. absurd (let e : ◌≡◌ {A = Option ℕ} None (Some code) = waits in cc);
}

-- if a record was done again and its moves were added to those so far, these and the moves of the
-- records that are left are all moves
pub moves_on : (tapes : Tapes) (path : Path) (m after : MachineView) (made more all : List LinedMove) (left rest : List Entry) (e : Entry) (turn : Turn)
    → left ≡ e ∷ rest → after ≡ behind_entry tapes e m → turn ≡ turn_of_entry tapes e m
    → more ≡ made ++ moves_made_by path (record { path = e.path; turn = turn })
    → made ++ moves_in path (turns_from tapes m left) ≡ all → more ++ moves_in path (turns_from tapes after rest) ≡ all
moves_on tapes path m after made more all left rest e turn is is_after is_turn is_more so_far =
    rw (is_more, is_turn, is_after) (moves_go_on tapes path m made all left rest e is so_far)
