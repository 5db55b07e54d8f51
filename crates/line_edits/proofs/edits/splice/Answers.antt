-- One byte more is written, dropped or replaced; at the end the text with its edits is whole
-- (`splice`, src/edits.rt).
use Rattle.std.proofs.Common.{◌≡◌, ◌+◌, ◌==◌, ◌++◌, drop, true, false, get_or, refl, sym, ap, ◌∙◌, arith}
use Rattle.std.proofs.lemmas.List.{drop_all}
use Rattle.std.proofs.lemmas.Bool.Decides.{nat_tests}
use Rattle.line_edits.specs.Splice.{spliced_text}
use Rattle.line_edits.proofs.Splicing.{at_end, at_line_end, at_dropped, at_kept, behind_is_near}
use Rattle.line_edits.proofs.edits.splice.Goals as goal

pub loop-b-preserved-then-b-eq10 : goal.loop-b-preserved-then-b-eq10
loop-b-preserved-then-b-eq10 c =
    let end : (get_or c.args.text.now c.loop-b.b-index 0 == 10) ≡ true = grind (arith, nat_tests) in
    record {
      rest = ap (λ l. c.push_first.new.out.items ++ spliced_text (c.loop-b.line + 1) l (drop (c.loop-b.b-index + 1) c.args.text.now)) c.behind_first-rest.ensures
          ∙ at_line_end c.loop-b.out.items c.push_first.new.out.items _ c.loop-b.line c.loop-b.rest.now c.args.text.now c.loop-b.b-index _ refl c.loop-b-test.true c.loop-b.invariant.rest (sym c.is_due.ensures ∙ c.if-is_due.true) end c.in_ok-push_first.ensures.ok;
      lines = omega (arith, c.loop-b.invariant.lines);
    }

pub loop-b-preserved-then-is_due : goal.loop-b-preserved-then-is_due
loop-b-preserved-then-is_due c =
    let end : (get_or c.args.text.now c.loop-b.b-index 0 == 10) ≡ false = grind (arith, nat_tests) in
    record {
      rest = at_dropped c.loop-b.out.items _ c.loop-b.line c.loop-b.rest.now c.args.text.now c.loop-b.b-index _ refl c.loop-b-test.true c.loop-b.invariant.rest (sym c.is_due.ensures ∙ c.if-is_due.true) end;
      lines = omega (arith, c.loop-b.invariant.lines);
    }

pub loop-b-preserved : goal.loop-b-preserved
loop-b-preserved c =
    record {
      rest = ap (λ n. c.push_byte.new.out.items ++ spliced_text n c.loop-b.rest.now (drop (c.loop-b.b-index + 1) c.args.text.now)) c.line_behind-line.ensures
          ∙ at_kept c.loop-b.out.items c.push_byte.new.out.items _ c.loop-b.line c.loop-b.rest.now c.args.text.now c.loop-b.b-index _ refl c.loop-b-test.true c.loop-b.invariant.rest (sym c.is_due.ensures ∙ c.if-is_due.false) c.in_ok-push_byte.ensures.ok;
      lines = omega (arith, c.loop-b.invariant.lines, c.line_behind-line.ensures, behind_is_near c.loop-b.line (get_or c.args.text.now c.loop-b.b-index 0));
    }

pub returns : goal.returns
returns c = at_end c.loop-b.out.items _ c.loop-b.line c.loop-b.rest.now _ (drop_all c.loop-b.b-index c.args.text.now c.loop-b-test.false) c.loop-b.invariant.rest
