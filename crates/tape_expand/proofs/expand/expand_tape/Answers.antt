-- What `expand_tape` (src/expand.rt) answers: the text with its cycles written out, or its refusal;
-- and the moves of the blocks written out stay out of the contours.
use Rattle.std.proofs.Common.{Ok, ap, sym, ◌∙◌}
use Rattle.std.specs.List.{flat_map}
use Rattle.nc_text.specs.Lines.{lines_of}
use Rattle.tape_expand.specs.Expansion.{parts_in, expanded_lines}
use Rattle.tape_expand.specs.Replaced.{edits_of}
use Rattle.line_edits.specs.Splice.{edited_lines}
use Rattle.tape_expand.proofs.Answered.{nothing_written, clear_parts}
use Rattle.tape_expand.proofs.expand.expand_tape.Goals as goal

pub returns-in-Err-clause-exact : goal.returns-in-Err-clause-exact
returns-in-Err-clause-exact c = nothing_written c.args.text.now (parts_in c.args.text.now) c.in-Err.fault c.in-Err.ensures.exact

pub returns-clause-exact : goal.returns-clause-exact
returns-clause-exact c =
    ap (expanded_lines c.args.text.now) c.in-Ok.ensures.exact
    ∙ ap Ok (sym (c.in_ok-bytes.ensures ∙ ap (λ l. edited_lines 1 (flat_map edits_of l) (lines_of c.args.text.now)) c.deref.ensures.value))

pub returns-clause-clear : goal.returns-clause-clear
returns-clause-clear c = clear_parts (parts_in c.args.text.now) _ c.in-Ok.ensures.exact c.a_sound_part_is_clear.ensures c.in-Ok.ensures.sound
