-- Each line has the cut of its block (`a_written_taper_is_that_of_its_words`, src/law.rt).
use Rattle.taper_form.proofs.WrittenTapers.{taper_lines}
use Rattle.taper_form.proofs.law.a_written_taper_is_that_of_its_words.Goals as goal

pub returns : goal.returns
returns c = taper_lines
