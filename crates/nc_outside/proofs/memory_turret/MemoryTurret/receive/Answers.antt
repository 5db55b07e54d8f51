-- What a turret in memory keeps leaves the count of faults (src/memory_turret.rt).
use Rattle.std.proofs.Common.{◌≡◌, true, false, subst, sym}
use Rattle.nc_outside.specs.Faults.{CountsFault}
use Rattle.nc_outside.specs.Kept.{KeptMoves, turret_of}
use Rattle.nc_outside.proofs.memory_turret.MemoryTurret.receive.Goals as goal

pub returns-in-Placed-clause-fault : goal.returns-in-Placed-clause-fault
returns-in-Placed-clause-fault c =
    let P : KeptMoves → Type 0 = λ now. CountsFault (turret_of c.args.self.now).faults (turret_of now).faults (false ≡ true) in
    subst P (sym c.self.view_is) c.if-refuses.ensures.fault

pub returns-in-Moved-clause-fault : goal.returns-in-Moved-clause-fault
returns-in-Moved-clause-fault c =
    let P : KeptMoves → Type 0 = λ now. CountsFault (turret_of c.args.self.now).faults (turret_of now).faults (false ≡ true) in
    subst P (sym c.self.view_is) c.if-refuses.ensures.fault

pub returns-in-Rested-clause-fault : goal.returns-in-Rested-clause-fault
returns-in-Rested-clause-fault c =
    let P : KeptMoves → Type 0 = λ now. CountsFault (turret_of c.args.self.now).faults (turret_of now).faults (false ≡ true) in
    subst P (sym c.self.view_is) c.if-refuses.ensures.fault
