-- `with_switch` sets one bit more, and the mask still has only switches 1 to 9 (src/settings.rt).
use Rattle.std.proofs.Common.{bit_or, arith, ap, sym, subst}
use Rattle.std.proofs.lemmas.Nat.{one_shl}
use Rattle.cell_settings.specs.Settings.{IsSwitches}
use Rattle.cell_settings.proofs.Switches.{switches_more}
use Rattle.cell_settings.proofs.settings.with_switch.Goals as goal

pub returns-clause-value : goal.returns-clause-value
returns-clause-value c = ap (bit_or c.args.mask) (one_shl c.args.switch 16 (omega arith))

pub returns-clause-kept : goal.returns-clause-kept
returns-clause-kept c =
    subst (λ bit. IsSwitches (bit_or c.args.mask bit)) (sym (one_shl c.args.switch 16 (omega arith))) (switches_more c.args.mask c.args.switch c.requires.mask c.requires.least c.requires.greatest)
