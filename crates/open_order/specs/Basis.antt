-- How contracts read two structs of the code: what a tape is read over (src/reading.rt), and what
-- is taken on trust (src/trusting.rt).
use Rattle.open_order.specs.declared.reading.Reading.{Reading}
use Rattle.open_order.specs.declared.trusting.Trust.{Trust}
use Rattle.open_order.specs.Reading.{Basis}
use Rattle.open_order.specs.Trusted.{TrustView}

-- what the code reads a block over, as the record of Reading
abbrev pub basis : Reading → Basis
basis reading = record { premises = reading.premises; tape = reading.tape.now }

-- what the code keeps as taken on trust, as the record of Trusted
abbrev pub trust_view : Trust → TrustView
trust_view trust =
    record { geometry = trust.geometry.keys; auxiliary = trust.auxiliary.keys; programs = trust.programs.keys; switches = trust.switches.items }
