-- A record that is legal behind the machine is done again, and never refused: for `done_again`
-- (src/walk.rt).
use Rattle.std.proofs.Common.{Result, Ok, Err, IsOk, OnErr, refl}
use Rattle.run_records.specs.Entries.{Entry}
use Rattle.two_path.specs.declared.turn.Turn.{Turn}
use Rattle.two_path.specs.Machine.{MachineView}
use Rattle.two_path.specs.Turns.{Tapes}
use Rattle.two_path.specs.Histories.{IsNext}
use Rattle.two_path.specs.Again.{IsRefused}

-- a call that refuses only illegal records doesn't refuse a legal one
pub is_done : {E : Type 0} (result : Result Turn E) (tapes : Tapes) (entry : Entry) (before after : MachineView)
    → OnErr result (IsRefused tapes entry before after) → IsNext tapes before entry → IsOk result
is_done (Ok turn) tapes entry before after refused legal = refl
is_done (Err fault) tapes entry before after refused legal = absurd (refused.illegal legal)
