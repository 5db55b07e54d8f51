-- The command that `read_words` answers is the listed one, and `Usage` says that there is none
-- (src/reading.rt).
use Rattle.std.proofs.Common.{◌≡◌, ◌∙◌, ap, map}
use Rattle.std.specs.Prelude.{string_bytes}
use Rattle.command_words.specs.Listed.{listed_command}
use Rattle.clap_reading.specs.ClapReading.{command_of_line}
use Rattle.clap_reading.proofs.FromMatches.{answer_ok, answer_usage, words_are_texts}
use Rattle.clap_reading.proofs.reading.read_words.Goals as goal

pub returns-clause-command : goal.returns-clause-command
returns-clause-command c =
    let same : command_of_line (map (λ s. s.now) c.as_slice.result.now) ≡ listed_command (map string_bytes c.args.words.now)
    = ap command_of_line (ap (map (λ s. s.now)) c.as_slice.ensures.value ∙ c.in_ok-line.ensures)
    ∙ c.law_of_clap.ensures (map string_bytes c.args.words.now) (words_are_texts c.args.words.now) in
    answer_ok _ _ c.command_of_line.result same c.command_of_line.ensures

pub returns-clause-usage : goal.returns-clause-usage
returns-clause-usage c =
    let same : command_of_line (map (λ s. s.now) c.as_slice.result.now) ≡ listed_command (map string_bytes c.args.words.now)
    = ap command_of_line (ap (map (λ s. s.now)) c.as_slice.ensures.value ∙ c.in_ok-line.ensures)
    ∙ c.law_of_clap.ensures (map string_bytes c.args.words.now) (words_are_texts c.args.words.now) in
    answer_usage _ _ c.command_of_line.result same c.command_of_line.ensures
