-- The records of the edits may follow those of the run, and the disk that is given back has what
-- making them promises (`make_edits`, src/making.rt).
use Rattle.std.proofs.Common.{List, sym, ap, subst, ◌∙◌}
use Rattle.edit_texts.specs.declared.edit_list.PathEdit.{PathEdit}
use Rattle.two_path.specs.Machine.{MachineView}
use Rattle.run_edits.specs.Made.{MakesEdits, records_of}
use Rattle.run_edits.proofs.Followed.{followed}
use Rattle.run_edits.proofs.making.make_edits.Goals as goal

pub returns-clause-history : goal.returns-clause-history
returns-clause-history g c =
    let run = c.args.run in
    followed run.verified run.entries.items c.args.edits.now c.requires.run.behind.history
    (sym (ap (λ (m : MachineView). m.alarm) c.requires.run.behind.folds) ∙ c.requires.calm) c.requires.room

pub returns-clause-made : goal.returns-clause-made
returns-clause-made g c =
    let state = g.D.Disk.state in
    let run = c.args.run in
    let made = c.make_all-result.ensures run.header run.entries.items c.requires.run.holds in
    subst (λ (d : g.row.D.Denot). MakesEdits state run.header run.entries.items (records_of c.args.edits.now) run.journal.file.disk d c.make_all-result.result)
    (sym c.into_disk.ensures)
    (subst
    (λ (l : List PathEdit). MakesEdits state run.header run.entries.items (records_of l) run.journal.file.disk c.make_all-result.new.journal.file.disk c.make_all-result.result)
    c.as_slice.ensures.edits made)
