-- `read_edits` answers the edits of the text, or its first line that is not allowed, unless memory
-- runs out (src/reading.rt).
use Rattle.std.proofs.Common.{rules, ◌≡◌, ◌+◌, [], None, ap, sym, ◌∙◌}
use Rattle.std.proofs.lemmas.Bool.{eqb-true}
use Rattle.std.proofs.lemmas.List.{nil_from_length}
use Rattle.std.specs.Str.Lines.{lines}
use Rattle.edit_texts.specs.Edits.{edits_from, edits_of, or_refused, with_said}
use Rattle.edit_texts.specs.Lines.{line_says}
use Rattle.edit_texts.proofs.reading.read_edits.Goals as goal

pub returns-then-not-branch : goal.returns-then-not-branch
unfolding edits_of
returns-then-not-branch c =
    let edits = c.loop-rest.edits in
    let front = c.cut_line.result.0.now in
    let after = lines c.cut_line.result.1.now in
    let number = c.loop-rest.line + 1 in
    let none : with_said edits (line_says front) ≡ None = c.in_ok-take_line.ensures ∙ search rules in
    record {
      exact = sym c.loop-rest.invariant.gives ∙ ap (λ l. edits_from l number edits) c.cut_line.ensures.lines
          ∙ ap (λ w. or_refused number w (edits_from after (number + 1))) none;
    }

pub returns : goal.returns
unfolding edits_of
returns c =
    let rest : c.loop-rest.rest.now ≡ [] = nil_from_length _ (eqb-true _ _ (sym c.loop-rest-test.ensures)) in
    record {
      exact = sym c.loop-rest.invariant.gives ∙ ap (λ text. edits_from (lines text) (c.loop-rest.line + 1) c.loop-rest.edits) rest;
    }
