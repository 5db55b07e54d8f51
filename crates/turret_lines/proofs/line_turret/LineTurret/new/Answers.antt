-- A new turret that writes lines got nothing, and its sink has no byte (src/line_turret.rt).
use Rattle.std.proofs.Common.{◌≡◌}
use Rattle.std.specs.Option.{ForSome}
use Rattle.turret_lines.specs.Stream.{stream_of}
use Rattle.turret_lines.proofs.Growing.{no_part, nothing_stands, nothing_told}
use Rattle.turret_lines.proofs.line_turret.LineTurret.new.Goals as goal

pub invariant_of-result : goal.invariant_of-result
invariant_of-result g c =
    let written = (g.K.Sink.state c.args.sink).written in
    let told : ForSome written (λ b. b ≡ stream_of c.nothing.result.got) = nothing_told written c.nothing.result.got c.nothing.ensures c.requires.fresh in
    record { stands = nothing_stands c.nothing.result.got c.nothing.ensures; whole = λ _. told; parted = no_part written c.nothing.result.got told }
