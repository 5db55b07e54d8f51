-- For the proof of the law in src/laws.rt: what a command answers of its files is due to their
-- texts, if the shelf did not fail (OfFiles).
use Rattle.lathe_looks.specs.Named.{files_of}
use Rattle.lathe_looks.proofs.OfFiles.{due_to_texts}
use Rattle.lathe_looks.proofs.laws.the_program_answers_what_the_library_answers.Goals as goal

pub returns : goal.returns
returns c = λ files old new left right settings texts question answer told calm are due.
    due_to_texts files old new (files_of left right settings) texts question told calm are answer due
