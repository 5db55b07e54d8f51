-- If a block is not refused, the P and the L of its macro call, and the L of its call of a
-- subprogram, are at most 9,999, as `number_or` requires of what it makes 16 bits. For the contract
-- of `control` (src/controls.rt).
use Rattle.std.proofs.Common.{refl}
use Rattle.block_words.specs.declared.purpose.Purpose.TheVariants.{MacroCall, Subprogram}
use Rattle.block_forms.proofs.Accepted.{number_at_most}
use Rattle.block_forms.proofs.words.FlowWords.control.Goals as goal

pub number_or-requires : goal.number_or-requires
number_or-requires c =
    rw c.as_slice-words.ensures
    (number_at_most c.args.self.now.dialect c.args.self.now.words c.args.self.now.purpose MacroCall 80 1 9999 c.requires c.args.self.now.purpose_is c.in-MacroCall.is refl)

pub number_or-requires-in-MacroCall : goal.number_or-requires-in-MacroCall
number_or-requires-in-MacroCall c =
    rw c.as_slice-words.ensures
    (number_at_most c.args.self.now.dialect c.args.self.now.words c.args.self.now.purpose MacroCall 76 1 9999 c.requires c.args.self.now.purpose_is c.in-MacroCall.is refl)

pub number_or-requires-in-Some : goal.number_or-requires-in-Some
number_or-requires-in-Some c =
    rw c.as_slice-words.ensures
    (number_at_most c.args.self.now.dialect c.args.self.now.words c.args.self.now.purpose Subprogram 76 1 9999 c.requires c.args.self.now.purpose_is c.in-Subprogram.is refl)

pub number_or-requires-in-None : goal.number_or-requires-in-None
number_or-requires-in-None c =
    rw c.as_slice-words.ensures
    (number_at_most c.args.self.now.dialect c.args.self.now.words c.args.self.now.purpose Subprogram 76 1 9999 c.requires c.args.self.now.purpose_is c.in-Subprogram.is refl)
