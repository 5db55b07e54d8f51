-- A text gives the edits of its lines, or is refused for its first bad line (src/laws.rt).
use Rattle.edit_texts.proofs.EachLine.{are_given, is_given, are_refused, is_refused}
use Rattle.edit_texts.proofs.laws.a_text_gives_the_edits_of_its_lines.Goals as goal

pub returns : goal.returns
returns c = record {
  edits = λ text edits. (is_given text edits, are_given text edits);
  bad = λ text line. (is_refused text line, are_refused text line);
}
