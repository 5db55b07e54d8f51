-- One program more is looked at, and the line so far is the least; after the last it is the tape's.
-- For the contract of `stray_line` (src/waiting.rt).
use Rattle.std.proofs.Common.{◌≡◌, Some, length, sym, subst, ap, ◌∙◌, arith}
use Rattle.std.proofs.lemmas.Option.{get_or_from_slice_get}
use Rattle.block_order.specs.declared.tables.ProgramTables.{ProgramTables}
use Rattle.wait_order.specs.TapeFaults.{IsStrayLineBelow}
use Rattle.block_order.specs.TapeTable.{IsProgramTables}
use Rattle.wait_order.specs.Waiting.{IsLeast}
use Rattle.wait_order.proofs.Counted.{least_program, least_tape}
use Rattle.block_order.proofs.Programs.{stands}
use Rattle.wait_order.proofs.waiting.stray_line.Goals as goal

pub counted_line-requires-clause-tables : goal.counted_line-requires-clause-tables
counted_line-requires-clause-tables c =
    let tape = c.args.programs.now in
    let i = c.loop-at.at in
    let p = c.index-programs-at.result in
    let at = stands tape i p (omega arith) ∙ ap (λ x. Some x) (sym c.index-programs-at.is) in
    let made = c.requires.tables.each i p at in
    let own_is : c.index-tables-at.result ≡ made.0 =
    c.index-tables-at.is ∙ get_or_from_slice_get c.args.tables.now i made.0 c.index-tables-at.result made.1 in
    subst (λ (t : ProgramTables). IsProgramTables p.blocks t) (sym own_is) made.2

pub counted_line-requires-clause-own : goal.counted_line-requires-clause-own
counted_line-requires-clause-own c =
    let tape = c.args.programs.now in
    let i = c.loop-at.at in
    let p = c.index-programs-at.result in
    c.requires.own i p (stands tape i p (omega arith) ∙ ap (λ x. Some x) (sym c.index-programs-at.is))

pub loop-at-preserved : goal.loop-at-preserved
loop-at-preserved c =
    let tape = c.args.programs.now in
    let i = c.loop-at.at in
    let p = c.index-programs-at.result in
    rw c.lesser-first.ensures
    (least_program tape i p c.loop-at.first c.in_ok-line.line
    (stands tape i p (omega arith) ∙ ap (λ x. Some x) (sym c.index-programs-at.is)) c.loop-at.invariant c.in_ok-line.ensures)

pub returns : goal.returns
returns c =
    let tape = c.args.programs.now in
    let all : c.loop-at.at ≡ length tape = omega arith in
    least_tape tape c.loop-at.first
    (subst (λ n. IsLeast (IsStrayLineBelow tape n) c.loop-at.first) all c.loop-at.invariant)
