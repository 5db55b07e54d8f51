-- `write_races` puts how many races there are and a line for each; after a fault of the sink, a
-- prefix of that (src/writing.rt).
use Rattle.std.proofs.Common.{List, ◌++◌, length, Err, subst}
use Rattle.nc_verify.specs.Printed.{IsPut}
use Rattle.nc_verify.proofs.Put.{put_then, put_stops}
use Rattle.race_report.specs.declared.race.Race.{Race}
use Rattle.race_report.specs.Texts.{head_text, list_text, races_text}
use Rattle.race_report.proofs.writing.write_races.Goals as goal

pub returns-in-Ok : goal.returns-in-Ok
unfolding list_text
returns-in-Ok g c =
    subst (λ (rs : List Race). IsPut (g.K.Sink.state c.args.sink.now) (g.K.Sink.state c.put_races.new.sink)
    (head_text (length rs) ++ races_text rs) c.put_races.result) c.as_slice-races.ensures
    (put_then _ _ _ _ _ _ c.in-Ok.ensures c.put_races.ensures)

pub returns-in-Err : goal.returns-in-Err
unfolding list_text
returns-in-Err g c =
    subst (λ (rs : List Race). IsPut (g.K.Sink.state c.args.sink.now) (g.K.Sink.state c.put_head.new.sink)
    (head_text (length rs) ++ races_text rs) (Err c.in-Err.fault)) c.as_slice-races.ensures
    (put_stops _ _ _ _ _ c.in-Err.ensures)
