-- One program more has its tables, and at the end all have them. For the contract of `tape_tables`
-- (src/tables.rt).
use Rattle.std.proofs.Common.{length, ◌+◌, refl, sym, ap, ◌∙◌, arith, subst}
use Rattle.std.proofs.lemmas.List.{length_push}
use Rattle.std.proofs.lemmas.Option.{slice_get_read, slice_get_within}
use Rattle.block_order.proofs.Lines.{blocks-few}
use Rattle.block_order.proofs.Located.{clear-fits}
use Rattle.block_order.proofs.MoreTables.{EachTables, each-more}
use Rattle.block_order.proofs.tables.tape_tables.Goals as goal

pub loop-program-init : goal.loop-program-init
loop-program-init c = record {
  long = ap length c.new-programs.ensures.items;
  each = λ i p l at. absurd (omega arith);
}

pub program_tables-requires-clause-few : goal.program_tables-requires-clause-few
program_tables-requires-clause-few c =
    let tape = c.args.tape.now in
    let at = slice_get_read tape (length tape) _ c.program-item.result refl c.loop-program-test.true c.program-item.is in
    omega (arith, blocks-few tape c.loop-program.program-index c.program-item.result at, c.requires.listed.few)

pub program_tables-requires-clause-fit : goal.program_tables-requires-clause-fit
program_tables-requires-clause-fit c =
    let tape = c.args.tape.now in
    let at = slice_get_read tape (length tape) _ c.program-item.result refl c.loop-program-test.true c.program-item.is in
    clear-fits tape c.loop-program.program-index c.program-item.result c.requires.fits at

pub loop-program-preserved : goal.loop-program-preserved
loop-program-preserved c =
    let tape = c.args.tape.now in
    let i = c.loop-program.program-index in
    let p = c.program-item.result in
    let known = c.loop-program.invariant in
    let at = slice_get_read tape (length tape) i p refl c.loop-program-test.true c.program-item.is in
    record {
      long = ap length c.in_ok-push.ensures.items ∙ length_push c.loop-program.programs.items _ ∙ ap (λ n. n + 1) known.long;
      each = subst (EachTables tape (i + 1)) (sym c.in_ok-push.ensures.items)
          (each-more tape i c.loop-program.programs.items p _ known.long at c.in_ok-program_tables.ensures known.each);
    }

pub returns : goal.returns
returns c =
    let tape = c.args.tape.now in
    let known = c.loop-program.invariant in
    record {
      long = omega (arith, known.long);
      each = λ i p at. known.each i p (omega (arith, slice_get_within tape i p at)) at;
    }
