-- Turns in the order of a caller, one by one.
-- For the proof of `give_turns` (src/ordering.rt).
use Rattle.std.proofs.Common.{◌≡◌, ℕ, ◌<◌, ◌≤◌, Bool, true, false, List, [], ◌∷◌, ◌++◌, refl, sym, ◌∙◌, ap, append_assoc, append-nil, arith}
use Rattle.std.specs.Prelude.{if◌then◌else◌, nat_le}
use Rattle.nc_number.specs.declared.path.Path.{Path}
use Rattle.two_path.specs.Machine.{MachineView}
use Rattle.two_path.specs.Turns.{Tapes, turn_of}
use Rattle.two_path.specs.Histories.{run, turns_of}
use Rattle.lathe_calls.specs.declared.event.Event.{Event}
use Rattle.lathe_calls.specs.Events.{events_of_turn}
use Rattle.lathe_calls.specs.Order.{events_from, turns_given}

-- no turn is given once there are as many records as there may be
pub given_full : (tapes : Tapes) (most : ℕ) (m : MachineView) (order : List Path) → most ≤ m.count → turns_given tapes most m order ≡ []
given_full tapes most m [] full = refl
given_full tapes most m (path ∷ order) full =
    let is_full : nat_le most m.count ≡ true = grind arith in
    ap (λ (b : Bool). if b then [] else path ∷ turns_given tapes most (turn_of tapes path m).machine order) is_full

-- if there are fewer records than there may be, the next turn of the order is given
given_more : (tapes : Tapes) (most : ℕ) (m : MachineView) (path : Path) (order : List Path) → m.count < most
    → turns_given tapes most m (path ∷ order) ≡ path ∷ turns_given tapes most (turn_of tapes path m).machine order
given_more tapes most m path order few =
    let has_room : nat_le most m.count ≡ false = grind arith in
    ap (λ (b : Bool). if b then [] else path ∷ turns_given tapes most (turn_of tapes path m).machine order) has_room

-- after one turn more, the events so far and those of the further turns are all
pub events_go_on : (tapes : Tapes) (most : ℕ) (m after : MachineView) (path : Path) (order rest : List Path) (done more all : List Event)
    → order ≡ path ∷ rest → m.count < most → after ≡ (turn_of tapes path m).machine
    → more ≡ done ++ events_of_turn tapes path m
    → done ++ events_from tapes m (turns_given tapes most m order) ≡ all
    → more ++ events_from tapes after (turns_given tapes most after rest) ≡ all
events_go_on tapes most m after path order rest done more all is few is_after is_more so_far =
    let next = (turn_of tapes path m).machine in
    let own = events_of_turn tapes path m in
    ap (λ (es : List Event). es ++ events_from tapes after (turns_given tapes most after rest)) is_more
    ∙ ap (λ (x : MachineView). (done ++ own) ++ events_from tapes x (turns_given tapes most x rest)) is_after
    ∙ append_assoc done own (events_from tapes next (turns_given tapes most next rest))
    ∙ ap (λ (ps : List Path). done ++ events_from tapes m ps) (sym (given_more tapes most m path rest few))
    ∙ ap (λ (ps : List Path). done ++ events_from tapes m (turns_given tapes most m ps)) (sym is)
    ∙ so_far

-- the machine after one turn and the further turns is that after all
pub run_goes_on : (tapes : Tapes) (most : ℕ) (m after to : MachineView) (path : Path) (order rest : List Path)
    → order ≡ path ∷ rest → m.count < most → after ≡ (turn_of tapes path m).machine
    → run tapes m (turns_of (turns_given tapes most m order)) ≡ to → run tapes after (turns_of (turns_given tapes most after rest)) ≡ to
run_goes_on tapes most m after to path order rest is few is_after so_far =
    let next = (turn_of tapes path m).machine in
    ap (λ (x : MachineView). run tapes x (turns_of (turns_given tapes most x rest))) is_after
    ∙ ap (λ (ps : List Path). run tapes m (turns_of ps)) (sym (given_more tapes most m path rest few))
    ∙ ap (λ (ps : List Path). run tapes m (turns_of (turns_given tapes most m ps))) (sym is)
    ∙ so_far

-- if no turn is given any more, the events so far are all
pub events_at_end : (tapes : Tapes) (most : ℕ) (m : MachineView) (order : List Path) (done all : List Event) → turns_given tapes most m order ≡ []
    → done ++ events_from tapes m (turns_given tapes most m order) ≡ all → done ≡ all
events_at_end tapes most m order done all none so_far =
    sym (append-nil done) ∙ ap (λ (ps : List Path). done ++ events_from tapes m ps) (sym none) ∙ so_far

-- if no turn is given any more, the machine is that after all
pub run_at_end : (tapes : Tapes) (most : ℕ) (m to : MachineView) (order : List Path) → turns_given tapes most m order ≡ []
    → run tapes m (turns_of (turns_given tapes most m order)) ≡ to → m ≡ to
run_at_end tapes most m to order none so_far = ap (λ (ps : List Path). run tapes m (turns_of ps)) (sym none) ∙ so_far
