-- For the proof of `run_seats` (src/pair.rt): each thread did the job that it was told, so each path
-- came to its end, and the passes that come back are those of the table.
use Rattle.std.proofs.Common.{[], ◌∷◌, ◌++◌, ap, sym, ◌∙◌, subst, refl}
use Rattle.drive_line.specs.Driving.{Serves}
use Rattle.nc_number.specs.declared.path.Path.TheVariants.{One, Two}
use Rattle.path_worker.specs.Work.{told_at_end}
use Rattle.seat_table.specs.Turning.{Tellings}
use Rattle.lane_pair.specs.Jobs.{Worked, Drove}
use Rattle.lane_pair.proofs.JobsDone.{worked_at, drove_at, stops_by, told_work}
use Rattle.lane_pair.proofs.pair.run_seats.Goals as goal

pub finish-one_sent-requires : goal.finish-one_sent-requires
finish-one_sent-requires g c = (_, told_work _ _ _ c.tell.ensures c.args.crew.idle.0)

pub finish-one_taken-requires : goal.finish-one_taken-requires
finish-one_taken-requires g c = (_, told_work _ _ _ c.tell-2.ensures c.args.crew.idle.1)

pub finish-two_taken-requires : goal.finish-two_taken-requires
finish-two_taken-requires g c = (_, told_work _ _ _ c.tell-3.ensures c.args.crew.idle.2)

pub end_path-one-requires : goal.end_path-one-requires
end_path-one-requires g c =
    let w : Worked _ _ _ _ _ _ = c.finish-one_sent.ensures _ (told_work _ _ _ c.tell.ensures c.args.crew.idle.0) in
    let d : Drove _ _ _ _ _ _ _ = c.finish-one_taken.ensures _ (told_work _ _ _ c.tell-2.ensures c.args.crew.idle.1) in
    record { line = w.line_is ∙ (c.args.crew.lines.0.0 ∙ sym d.line_is); ended = d.ended }

pub end_path-two-requires : goal.end_path-two-requires
end_path-two-requires g c =
    let d : Drove _ _ _ _ _ _ _ = c.finish-two_taken.ensures _ (told_work _ _ _ c.tell-3.ensures c.args.crew.idle.2) in
    record { line = c.work_path-two_sent.ensures.line_is ∙ (c.args.crew.lines.1.0 ∙ sym d.line_is); ended = d.ended }

pub into_table-requires : goal.into_table-requires
into_table-requires g c = (c.args.seated.table, c.with-bench.ensures)

pub close-table-requires : goal.close-table-requires
close-table-requires g c =
    let t = c.args.seated.table in
    let passes = c.requires.passes in
    let halters = c.requires.halters in
    let is = sym (c.into_table.ensures t c.with-bench.ensures) in
    let one = c.end_path-one.ensures t One _ _
    (worked_at _ t One _ _ _ _ _ (ap (λ p. p.table) passes.0) refl (c.finish-one_sent.ensures _ (told_work _ _ _ c.tell.ensures c.args.crew.idle.0)))
    (drove_at _ t One _ _ _ _ _ _ (ap (λ p. p.table) halters.0) (sym c.args.crew.lines.0.0) (c.finish-one_taken.ensures _ (told_work _ _ _ c.tell-2.ensures c.args.crew.idle.1))) in
    let two = c.end_path-two.ensures t Two _ _
    (worked_at _ t Two _ _ _ _ _ (ap (λ p. p.table) passes.1) refl c.work_path-two_sent.ensures)
    (drove_at _ t Two _ _ _ _ _ _ (ap (λ p. p.table) halters.1) (sym c.args.crew.lines.1.0) (c.finish-two_taken.ensures _ (told_work _ _ _ c.tell-3.ensures c.args.crew.idle.2))) in
    record {
      table = (one.table_is ∙ is, two.table_is ∙ is, one.halter_table ∙ is, two.halter_table ∙ is);
      paths = (one.path_is, two.path_is, one.halter_path, two.halter_path);
    }

pub returns : goal.returns
returns g c =
    let t = c.args.seated.table in
    let state = g.T.Turret.state in
    let passes = c.requires.passes in
    let halters = c.requires.halters in
    let closed = c.close-table.ensures in
    let one = c.end_path-one.ensures t One _ _
    (worked_at _ t One _ _ _ _ _ (ap (λ p. p.table) passes.0) refl (c.finish-one_sent.ensures _ (told_work _ _ _ c.tell.ensures c.args.crew.idle.0)))
    (drove_at _ t One _ _ _ _ _ _ (ap (λ p. p.table) halters.0) (sym c.args.crew.lines.0.0) (c.finish-one_taken.ensures _ (told_work _ _ _ c.tell-2.ensures c.args.crew.idle.1))) in
    let two = c.end_path-two.ensures t Two _ _
    (worked_at _ t Two _ _ _ _ _ (ap (λ p. p.table) passes.1) refl c.work_path-two_sent.ensures)
    (drove_at _ t Two _ _ _ _ _ _ (ap (λ p. p.table) halters.1) (sym c.args.crew.lines.1.0) (c.finish-two_taken.ensures _ (told_work _ _ _ c.tell-3.ensures c.args.crew.idle.2))) in
    record {
      one = subst (λ (l : Tellings). Serves (l ++ told_at_end c.end_path-one.result.why) (state c.args.turrets.one) c.end_path-one.result.driven) (sym closed.first) one.serves;
      two = subst (λ (l : Tellings). Serves (l ++ told_at_end c.end_path-two.result.why) (state c.args.turrets.two) c.end_path-two.result.driven) (sym closed.second) two.serves;
      halted = (
        λ failed. stops_by g.C.Turns.told g.C.Turns.reason c.close-table.result _ closed.halts.0 (one.halted failed),
        λ failed. stops_by g.C.Turns.told g.C.Turns.reason c.close-table.result _ closed.halts.1 (two.halted failed),
      );
    }
