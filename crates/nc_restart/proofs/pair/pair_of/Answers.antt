-- If the judgement refuses the three texts of the header, the refusal is one of that header
-- (`pair_of`, src/pair.rt).
use Rattle.std.proofs.Common.{◌≡◌, subst}
use Rattle.nc_verify.specs.Verdict.{Texts, IsRefusalOf}
use Rattle.nc_restart.specs.Pair.{texts_of}
use Rattle.nc_restart.specs.Meaning.{refused}
use Rattle.nc_restart.proofs.pair.pair_of.Goals as goal

pub returns-in-Err-Fault-clause-refused : goal.returns-in-Err-Fault-clause-refused
returns-in-Err-Fault-clause-refused c = λ entries begins.
    let told = rw c.in-Err-Fault.field-0-is at c.in-Err-Fault.ensures.refused in
    let texts : record { left = c.as_slice-left.result.now; right = c.as_slice-right.result.now; settings = c.as_slice.result.now }
    ≡ texts_of c.args.header.now =
    λ i. record { left = c.as_slice-left.ensures i; right = c.as_slice-right.ensures i; settings = c.as_slice.ensures i } in
    refused c.in-Err-Fault.field-0-0 (subst (λ (t : Texts). IsRefusalOf t c.in-Err-Fault.field-0-0) texts told)
