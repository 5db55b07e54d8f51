-- For the proof of `top` (src/control.rt): what a call did and told, and that a cause that holds
-- gives its status.
use Rattle.std.specs.Prelude.{codes}
use Rattle.lathe_calls.specs.Statuses as exit
use Rattle.lathe_top.proofs.Agreed.{ends_failed, ends_or, ends_told}
use Rattle.lathe_top.proofs.DueOnce.{due_once, usage_once}
use Rattle.lathe_top.proofs.FaultsFirst.{disk_first, second_first, turret_first}
use Rattle.lathe_top.proofs.control.top.Goals as goal

pub returns-clause-done : goal.returns-clause-done
returns-clause-done g c = c.respond-ended.ensures

pub returns-clause-due : goal.returns-clause-due
returns-clause-due g c =
    let state = g.D.Disk.state in
    let second = g.E.Disk.state in
    let disks = g.met.D.Disk g.world.𝓛 g.world.𝓜 g.world.𝓡 ((λ s x. x), (λ x. x), (λ x. x), λ x. x) in
    let result = c.respond-ended.result.0.status in record {
      usage = λ none. ends_told exit.usage (codes "usage\n") result (λ answer due. usage_once state second _ answer none due) c.respond-ended.ensures;
      sink = λ rose. ends_failed result rose c.respond-ended.ensures;
      disk = λ rose. ends_or exit.disk_fault result (disk_first state second _ rose) c.respond-ended.ensures;
      second_disk = λ rose. ends_or exit.disk_fault result (second_first state second _ rose) c.respond-ended.ensures;
      turret = λ calm path rose. ends_or exit.turret_fault result (turret_first state second _ calm path rose) c.respond-ended.ensures;
      served = λ serves due_status due_text due.
          ends_told due_status due_text result
          (λ answer other. due_once state second c.accepted_texts_are_not_refused.ensures c.texts_have_one_refusal.ensures
          c.an_image_stands_for_one_run.ensures c.a_journal_stands_for_one_thing.ensures c.a_machine_hangs_on_its_texts.ensures
          c.one_run_in_turn.ensures c.accepted_pairs_are_not_refused.ensures c.pairs_have_one_refusal.ensures _
          (disks.coherent c.respond-ended.result.0.lathe.disk) serves answer _ other due)
          c.respond-ended.ensures;
    }
