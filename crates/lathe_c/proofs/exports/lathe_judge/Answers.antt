-- For the proof of `lathe_judge` (src/exports.rt): the verdict is that of the three texts.
use Rattle.std.proofs.Common.{subst}
use Rattle.nc_verify.specs.Verdict.{Texts}
use Rattle.lathe_calls.specs.Weighed.{IsWeighed}
use Rattle.lathe_c.proofs.exports.lathe_judge.Goals as goal

pub returns : goal.returns
returns c = subst (λ (t : Texts). IsWeighed t c.weigh-it.result) c.of-texts.ensures c.weigh-it.ensures
