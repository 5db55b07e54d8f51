-- An image stands for one thing, where the pair and its machine count too: no run, or an entry that
-- is cut short at one offset, or for one cause at one offset no run either, or one header and one
-- history (the law `an_image_stands_for_one_run`, src/laws.rt).
use Rattle.nc_restart.proofs.OneRun.{one_run}
use Rattle.nc_restart.proofs.laws.an_image_stands_for_one_run.Goals as goal

pub returns : goal.returns
returns c =
    one_run
    (record {
      apart = c.accepted_texts_are_not_refused.ensures;
      one = c.a_journal_stands_for_one_thing.ensures;
      bodies = c.a_file_stands_for_one_thing.ensures.bodies;
    })
