-- How many words a command has at most. For the proof of `command_with` (src/making.rt).
use Rattle.std.proofs.Common.{◌≡◌, ◌<◌, List, [], ◌∷◌, length, None, refl, arith}
use Rattle.command_words.specs.Listed.{command_with}
use Rattle.command_words.specs.Table.{Text}
use Rattle.command_words.specs.declared.command.TurretFiles.{TurretFiles}
use Rattle.command_words.specs.declared.making.Limits.{Limits}
use Rattle.command_words.specs.declared.table.Task.{Task}

-- Five words and more give no command.
pub too_many : (what : Task) (words : List Text) (limits : Limits) (files : TurretFiles) → 4 < length words → command_with what words limits files ≡ None
too_many what [] limits files many = absurd (omega (arith, many))
too_many what (a ∷ []) limits files many = absurd (omega (arith, many))
too_many what (a ∷ b ∷ []) limits files many = absurd (omega (arith, many))
too_many what (a ∷ b ∷ c ∷ []) limits files many = absurd (omega (arith, many))
too_many what (a ∷ b ∷ c ∷ d ∷ []) limits files many = absurd (omega (arith, many))
too_many what (a ∷ b ∷ c ∷ d ∷ e ∷ words) limits files many = refl
