-- What is said of a command and the journal is what its kind does with it. A new command needs its
-- line here.
-- For the proof of `a_command_uses_the_journal_as_its_kind_does` (src/locking.rt).
use Rattle.std.proofs.Common.{◌≡◌, Option, Some, None, refl}
use Rattle.command_words.specs.declared.command.Command.{Command}
use Rattle.command_words.specs.declared.command.Command.TheVariants as command
use Rattle.command_words.specs.Listed.{journal_of}
use Rattle.lathe_top.specs.Kinds.{kind_of, journal_for}

-- a command uses the journal as its kind does
pub used_so : (asked : Option Command) → journal_of asked ≡ journal_for (kind_of asked)
used_so None = refl
used_so (Some (command.Verify left right settings)) = refl
used_so (Some (command.Waits left right settings outside)) = refl
used_so (Some (command.Races left right settings)) = refl
used_so (Some (command.Trace left right settings limit)) = refl
used_so (Some (command.Run left right settings limit turrets)) = refl
used_so (Some (command.Resume limit turrets)) = refl
used_so (Some (command.Edit name)) = refl
used_so (Some command.Moves) = refl
used_so (Some command.State) = refl
used_so (Some (command.Zones zones)) = refl
used_so (Some (command.ZonesOf zones left right settings)) = refl
used_so (Some (command.Branch meetings)) = refl
used_so (Some (command.Make number turrets)) = refl
used_so (Some (command.Expand tape)) = refl
used_so (Some (command.Plain tape settings)) = refl
