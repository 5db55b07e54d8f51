-- `command_with` refuses five words and more (src/making.rt).
use Rattle.std.proofs.Common.{◌≡◌, length, map, arith}
use Rattle.std.proofs.lemmas.List.{length-map}
use Rattle.command_words.proofs.Lengths.{too_many}
use Rattle.command_words.proofs.making.command_with.Goals as goal

pub returns-in_default : goal.returns-in_default
returns-in_default c =
    let counted : length (map (λ s. s.now) c.args.words.now) ≡ length c.args.words.now = length-map c.args.words.now (λ s. s.now) in
    too_many c.args.task (map (λ s. s.now) c.args.words.now) c.args.limits c.args.files (omega (arith, counted))
