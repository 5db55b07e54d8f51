-- A call fails exactly if its O number has no place on the tape. For the contract of `call_fault`
-- (src/finding.rt).
use Rattle.std.proofs.Common.{cond, None, Some, sym, ap, ◌∙◌}
use Rattle.std.specs.Option.{is_some}
use Rattle.nc_number.specs.declared.cause.Cause.TheVariants.{NoProgram}
use Rattle.block_order.proofs.Findable.{some-program}
use Rattle.block_order.proofs.Programs.{no_program_there}
use Rattle.block_order.proofs.finding.call_fault.Goals as goal

pub returns-in-Some : goal.returns-in-Some
returns-in-Some c = λ tape t.
    sym (ap (λ v. cond v None (Some NoProgram))
    (some-program tape c.args.called _ (sym (c.place_of.ensures ∙ t c.args.called) ∙ c.in-Some.is)))

pub returns-in-None : goal.returns-in-None
returns-in-None c = λ tape t.
    sym (ap (λ o. cond (is_some o) None (Some NoProgram))
    (no_program_there tape c.args.called (sym c.in-None.is ∙ (c.place_of.ensures ∙ t c.args.called))))
