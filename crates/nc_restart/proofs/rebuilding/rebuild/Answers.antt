-- Texts that are refused, or the first record out of place, told at its offset, are why there is no
-- run (`rebuild`, src/rebuilding.rt).
use Rattle.std.proofs.Common.{ℕ, List, get_or, sym, subst}
use Rattle.nc_restart.specs.Meaning.{IsBadReading, out_of_place}
use Rattle.nc_restart.proofs.rebuilding.rebuild.Goals as goal

pub returns-in-Err-clause-refused : goal.returns-in-Err-clause-refused
returns-in-Err-clause-refused c = c.in-Err.ensures.refused c.args.entries.now.items c.args.offsets.now

pub returns-in-Err-replay-clause-refused : goal.returns-in-Err-replay-clause-refused
returns-in-Err-replay-clause-refused c =
    let header = c.args.header.now in
    let pair = c.in-Ok.pair in
    let index = c.in-Err-replay.field-0.index in
    let cause = c.in-Err-replay.field-0.cause in
    subst (λ (begins : List ℕ). IsBadReading header c.args.entries.now.items c.args.offsets.now (get_or begins index 0) cause) (sym c.as_slice.ensures)
    (out_of_place pair index cause c.in-Ok.ensures.accepted c.in-Err-replay.ensures.bad)
