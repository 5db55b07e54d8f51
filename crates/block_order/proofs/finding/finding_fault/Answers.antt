-- The first program with a fault has the first fault of its stage; if none has one, the stage is
-- clear. For the contract of `finding_fault` (src/finding.rt).
use Rattle.std.proofs.Common.{◌≡◌, length, refl, sym, ap, ◌∙◌, arith, subst}
use Rattle.std.proofs.lemmas.Option.{slice_get_read, get_or_from_slice_get}
use Rattle.block_order.specs.declared.tables.ProgramTables.{ProgramTables}
use Rattle.block_order.specs.Found.{IsProgramFault}
use Rattle.block_order.specs.TapeTable.{IsProgramTables}
use Rattle.block_order.proofs.Findable.{main-is, found-first, finds-all, finds-more}
use Rattle.block_order.proofs.finding.finding_fault.Goals as goal

pub returns-in-Some : goal.returns-in-Some
returns-in-Some c =
    let tape = c.args.tape.now in
    let i = c.loop-at.at in
    let p = c.index-tape-at.result in
    let at = slice_get_read tape (length tape) i p refl c.loop-at-test.true c.index-tape-at.is in
    let made = c.requires.made.each i p at in
    let own_is : c.index-tables-at.result ≡ made.0 =
    c.index-tables-at.is ∙ get_or_from_slice_get c.args.tables.now i made.0 c.index-tables-at.result made.1 in
    let own : IsProgramTables p.blocks c.index-tables-at.result =
    subst (λ (t : ProgramTables). IsProgramTables p.blocks t) (sym own_is) made.2 in
    let main = ap (λ x. x.number) (sym c.index-tape-0.is) ∙ main-is tape c.index-tape-0.result c.requires.listed.some c.index-tape-0.is in
    let told = c.program_fault.ensures tape c.requires.known own main in
    found-first tape i p c.in-Some.field-0.line c.in-Some.field-0.cause c.requires.listed c.requires.fits at
    c.loop-at.invariant (subst (IsProgramFault tape p) c.in-Some.is told)

pub loop-at-preserved : goal.loop-at-preserved
loop-at-preserved c =
    let tape = c.args.tape.now in
    let i = c.loop-at.at in
    let p = c.index-tape-at.result in
    let at = slice_get_read tape (length tape) i p refl c.loop-at-test.true c.index-tape-at.is in
    let made = c.requires.made.each i p at in
    let own_is : c.index-tables-at.result ≡ made.0 =
    c.index-tables-at.is ∙ get_or_from_slice_get c.args.tables.now i made.0 c.index-tables-at.result made.1 in
    let own : IsProgramTables p.blocks c.index-tables-at.result =
    subst (λ (t : ProgramTables). IsProgramTables p.blocks t) (sym own_is) made.2 in
    let main = ap (λ x. x.number) (sym c.index-tape-0.is) ∙ main-is tape c.index-tape-0.result c.requires.listed.some c.index-tape-0.is in
    let told = c.program_fault.ensures tape c.requires.known own main in
    finds-more tape i p at (subst (IsProgramFault tape p) c.in_default.is told) c.loop-at.invariant

pub returns : goal.returns
returns c = finds-all c.args.tape.now c.loop-at.at (omega arith) c.loop-at.invariant
