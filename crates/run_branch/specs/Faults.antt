-- Which faults of a file of gates a branch may meet, and what it answers for them. For this crate
-- alone.
use Rattle.std.specs.Prelude.{◌≡◌}
use Rattle.gate_file.specs.declared.fault.GateFault.{GateFault}
use Rattle.gate_file.specs.declared.fault.GateFault.TheVariants.{DiskFault, NoRun, RunThere as GateThere, Cut, NoMemory as GateMemory}
use Rattle.run_branch.specs.declared.fault.BranchFault.{BranchFault}
use Rattle.run_branch.specs.declared.fault.BranchFault.TheVariants.{RunThere, NewDisk, NoMemory}

-- the fault is one that the beginning of a file of gates may answer
abbrev pub IsOfBeginning : GateFault → Type 0
IsOfBeginning DiskFault = Unit {0}
IsOfBeginning NoRun = ⊥
IsOfBeginning GateThere = Unit {0}
IsOfBeginning (Cut at) = ⊥
IsOfBeginning GateMemory = Unit {0}

-- what a branch answers for a fault of the beginning of its file
abbrev pub IsFaultOf : GateFault → BranchFault → Type 0
IsFaultOf DiskFault fault = fault ≡ NewDisk
IsFaultOf NoRun fault = ⊥
IsFaultOf GateThere fault = fault ≡ RunThere
IsFaultOf (Cut at) fault = ⊥
IsFaultOf GateMemory fault = fault ≡ NoMemory
