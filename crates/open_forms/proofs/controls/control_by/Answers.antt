-- If a block is not refused, the P and the L of its macro call, and the L of its call of a
-- subprogram, are at most 9,999, as `number_or` requires of what it makes 16 bits. For the contract
-- of `control_by` (src/controls.rt).
use Rattle.std.proofs.Common.{refl}
use Rattle.open_forms.proofs.LastWithin.{macro_at_most, repeats_at_most}
use Rattle.open_forms.proofs.controls.control_by.Goals as goal

pub number_or-requires : goal.number_or-requires
number_or-requires c =
    macro_at_most c.args.dialect c.args.words.now c.args.role 80 c.requires.accepted c.requires.role c.in-MacroCall.is refl

pub number_or-requires-in-MacroCall : goal.number_or-requires-in-MacroCall
number_or-requires-in-MacroCall c =
    macro_at_most c.args.dialect c.args.words.now c.args.role 76 c.requires.accepted c.requires.role c.in-MacroCall.is refl

pub number_or-requires-in-Some : goal.number_or-requires-in-Some
number_or-requires-in-Some c =
    repeats_at_most c.args.dialect c.args.words.now c.args.role c.requires.accepted c.requires.role c.in-Subprogram.is

pub number_or-requires-in-None : goal.number_or-requires-in-None
number_or-requires-in-None c =
    repeats_at_most c.args.dialect c.args.words.now c.args.role c.requires.accepted c.requires.role c.in-Subprogram.is
