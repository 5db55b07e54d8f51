-- The pieces so far are those of the lines so far (loop of `seen_pieces`, src/frames.rt).
use Rattle.std.proofs.Common.{◌≡◌, take, All}
use Rattle.nc_number.specs.declared.limits.TheConstants.{LONGEST_SAID}
use Rattle.arc_contour.specs.Bounds.{IsPieceWithin}
use Rattle.rough_words.specs.Frames.{seen_pieces}
use Rattle.rough_words.proofs.frames.seen_pieces.Given as goal

abbrev pub invariant-loop-line : goal.invariant-loop-line
invariant-loop-line l = record {
  pieces : l.pieces.items ≡ seen_pieces l.frame (take l.line-index l.lines);
  near : All (IsPieceWithin LONGEST_SAID) l.pieces.items;
}
