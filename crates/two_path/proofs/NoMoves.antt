-- A turn without a move reaches nowhere: for `edit_again` (src/machine.rt) and `idle`
-- (src/turning.rt), whose contracts bound the moves of each turn.
use Rattle.std.proofs.Common.{[]}
use Rattle.std.proofs.lemmas.List.Elements.{All-nil}
use Rattle.motion_track.specs.declared.targets.TheConstants.{LONGEST}
use Rattle.motion_track.specs.Within.{IsMoveWithin, AreMovesWithin}

-- no move of an empty list is too long
pub none_within : AreMovesWithin LONGEST []
none_within = All-nil (IsMoveWithin LONGEST)
