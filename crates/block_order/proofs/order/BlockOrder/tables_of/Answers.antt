-- The tables at a number's place are those of its program; without a place it has no blocks. For
-- the contract of `tables_of` (src/order.rt).
use Rattle.std.proofs.Common.{rules, ◌≡◌, [], length, Some, sym, subst, ◌∙◌, arith}
use Rattle.std.specs.Vec.{vec_len}
use Rattle.std.proofs.lemmas.Option.{get_or_from_slice_get}
use Rattle.block_order.specs.declared.tables.ProgramTables.{ProgramTables}
use Rattle.block_order.specs.Order.{blocks}
use Rattle.block_order.specs.ProgramPlaces.{place_of}
use Rattle.block_order.specs.TapeTable.{IsProgramTables}
use Rattle.block_order.proofs.Aimed.{tables_there, tables_within}
use Rattle.block_order.proofs.Programs.{no_blocks_there}
use Rattle.block_order.proofs.order.BlockOrder.tables_of.Goals as goal

pub index-requires : goal.index-requires
index-requires c =
    let tape = c.self.inside.programs.items in
    let at : Some c.in-Some.place ≡ place_of tape c.args.program =
    sym c.in-Some.is ∙ (c.place_of.ensures ∙ c.self.invariant.loud_are.places c.args.program) in
    let within = tables_within tape c.self.inside.tables.items c.args.program c.in-Some.place c.self.invariant.tables_are at in
    let counted : vec_len c.self.inside.tables ≡ length c.self.inside.tables.items = search rules in
    omega (arith, within, counted)

pub returns-in-Some-clause-some : goal.returns-in-Some-clause-some
returns-in-Some-clause-some c =
    let tape = c.self.inside.programs.items in
    let at : Some c.in-Some.place ≡ place_of tape c.args.program =
    sym c.in-Some.is ∙ (c.place_of.ensures ∙ c.self.invariant.loud_are.places c.args.program) in
    let found = tables_there tape c.self.inside.tables.items c.args.program c.in-Some.place c.self.invariant.tables_are at in
    let is : c.index.result.now ≡ found.0 =
    c.index.ensures ∙ get_or_from_slice_get c.self.inside.tables.items c.in-Some.place found.0 c.index.result.now found.1 in
    let here : IsProgramTables (blocks tape c.args.program) c.index.result.now =
    subst (λ (t : ProgramTables). IsProgramTables (blocks tape c.args.program) t) (sym is) found.2 in
    subst (λ tape. IsProgramTables (blocks tape c.args.program) c.index.result.now) c.self.view_is here

pub returns-in-None-clause-none : goal.returns-in-None-clause-none
returns-in-None-clause-none c =
    let tape = c.self.inside.programs.items in
    let at = sym c.in-None.is ∙ (c.place_of.ensures ∙ c.self.invariant.loud_are.places c.args.program) in
    let none = sym (no_blocks_there tape c.args.program at) in
    λ _. subst (λ tape. blocks tape c.args.program ≡ []) c.self.view_is none
