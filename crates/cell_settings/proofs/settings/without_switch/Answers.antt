-- `without_switch` leaves one bit out, and the mask still has only switches 1 to 9
-- (src/settings.rt).
use Rattle.std.proofs.Common.{bit_and, ◌-◌, ◌≤◌, arith, ap, sym, subst}
use Rattle.std.proofs.Math.Pow.{pow_mono}
use Rattle.std.proofs.lemmas.Nat.{one_shl}
use Rattle.cell_settings.specs.Settings.{IsSwitches}
use Rattle.cell_settings.proofs.Switches.{switches_less}
use Rattle.cell_settings.proofs.settings.without_switch.Goals as goal

pub returns-clause-value : goal.returns-clause-value
returns-clause-value c = ap (λ bit. bit_and c.args.mask (1023 - bit)) (one_shl c.args.switch 16 (omega arith))

pub returns-clause-kept : goal.returns-clause-kept
returns-clause-kept c = switches_less c.args.mask _ c.requires.mask

pub overflow_sub-result : goal.overflow_sub-result
overflow_sub-result c =
    subst (λ bit. bit ≤ 1023) (sym (one_shl c.args.switch 16 (omega arith))) (omega (arith, pow_mono {j = 9} c.requires.greatest))
