-- The codes of the programs so far, and those that the rest adds, are the codes of the tape (loop
-- of src/trusting.rt).
use Rattle.std.proofs.Common.{◌≡◌, drop}
use Rattle.open_order.specs.Basis.{basis, trust_view}
use Rattle.open_order.specs.Trusted.{with_programs}
use Rattle.open_order.proofs.trusting.add_programs.Given as goal

abbrev pub invariant-loop-program : goal.invariant-loop-program
invariant-loop-program l =
    with_programs (basis l.reading) (trust_view l.fn.trust) l.reading.tape.now
    ≡ with_programs (basis l.reading) (trust_view l.trust) (drop l.program-index l.reading.tape.now)
