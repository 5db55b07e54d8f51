-- What a block with a canned cycle does: `cycle_pass` (src/pass.rt) answers it.
use Rattle.std.specs.Prelude.{if◌then◌else◌, [], Option, Some, None, Result, Ok}
use Rattle.code_tables.specs.declared.kind.CodeKind.{CodeKind}
use Rattle.code_tables.specs.declared.kind.CodeKind.TheVariants.{CycleTurn, CycleThread, CycleFace}
use Rattle.nc_number.specs.Results.{◌>>=◌}
use Rattle.nc_number.specs.declared.point.Point.{Point}
use Rattle.motion_track.specs.declared.block.BlockMotion.{BlockMotion}
use Rattle.motion_track.specs.declared.fault.MotionFault.{MotionFault}
use Rattle.motion_track.specs.Block.{names_axis}
use Rattle.turn_cycles.specs.declared.rectangle.CycleKind.{CycleKind}
use Rattle.turn_cycles.specs.declared.rectangle.CycleKind.TheVariants.{G90, G92, G94}
use Rattle.turn_cycles.specs.declared.pass.CyclePass.{CyclePass}
use Rattle.turn_cycles.specs.Cycles.{cycle_of}
use Rattle.turn_cycles.specs.End.{cycle_end_of}

-- the cycle of a code, if it has one
abbrev pub cycle_kind_of : CodeKind → Option CycleKind
cycle_kind_of CycleTurn = Some G90
cycle_kind_of CycleThread = Some G92
cycle_kind_of CycleFace = Some G94
cycle_kind_of _ = None

-- a cycle to where the words and the kept end lead, whose end is then kept; else alarm 41 of the
-- end, then 44 of the feed
abbrev pub pass_to_end : CycleKind → Option Point → BlockMotion → Result CyclePass MotionFault
pass_to_end kind kept block = do
  end ← cycle_end_of block.start kept block.shift block.x block.z
  moves ← cycle_of kind block.start end block.feed block.per_rev
  Ok (record { moves = moves; kept = Some end })

-- a block with a cycle moves if it names an axis; else it has no move, and the kept end stays
abbrev pub pass_of : CycleKind → Option Point → BlockMotion → Result CyclePass MotionFault
pass_of kind kept block =
    if names_axis block then pass_to_end kind kept block else Ok (record { moves = []; kept = kept })
