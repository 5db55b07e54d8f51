-- What the code keeps of a run, as clauses see it.
-- For this crate alone: the contracts of src/telling.rt, src/going.rt and src/beginning.rt.
use Rattle.lathe_calls.specs.Reported.{report_of}
use Rattle.lathe_top.specs.declared.telling.Telling.{Telling}
use Rattle.lathe_top.specs.declared.telling.Telling.TheVariants.{Report, Summary}
use Rattle.lathe_top.specs.Made.{made_text}
use Rattle.lathe_top.specs.Ran.{TextOf}

-- the text that is told of a run, by what was asked for
abbrev pub text_by : Telling → TextOf
text_by Report = report_of
text_by (Summary number) = made_text number
