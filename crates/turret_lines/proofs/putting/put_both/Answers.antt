-- After an error a part of both pieces may be there (src/putting.rt).
use Rattle.std.proofs.Common.{◌≡◌, ◌++◌, List, ℕ, take, sym, subst}
use Rattle.std.specs.Io.KnownBytes.{Appends}
use Rattle.turret_lines.proofs.Growing.{part_of_first, part_of_second, puts_both}
use Rattle.turret_lines.proofs.putting.put_both.Goals as goal

pub returns-in-Err-clause-err : goal.returns-in-Err-clause-err
returns-in-Err-clause-err g c =
    let old = (g.K.Sink.state c.args.sink.now).written in
    let new = (g.K.Sink.state c.put_piece.new.sink).written in
    let cut = c.in-Err.ensures.err in
    let part = part_of_first cut.0 c.args.first.now c.args.second.now in
    (part.0, subst (λ (l : List ℕ). Appends old new l) (sym part.1) cut.1)

pub returns-in-Err-put_piece-clause-err : goal.returns-in-Err-put_piece-clause-err
returns-in-Err-put_piece-clause-err g c =
    let old = (g.K.Sink.state c.args.sink.now).written in
    let mid = (g.K.Sink.state c.put_piece.new.sink).written in
    let new = (g.K.Sink.state c.put_piece-2.new.sink).written in
    let cut = c.in-Err-put_piece.ensures.err in
    let part = part_of_second cut.0 c.args.first.now c.args.second.now in
    (part.0, subst (λ (l : List ℕ). Appends old new l) (sym part.1) (puts_both old mid new c.args.first.now (take cut.0 c.args.second.now) c.put_piece.ensures.tells c.in_default.ensures.ok cut.1))
