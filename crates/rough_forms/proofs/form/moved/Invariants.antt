-- The pieces so far are those of the contour so far with their allowances (loop of `moved`,
-- src/form.rt).
use Rattle.std.proofs.Common.{◌≡◌, take, All}
use Rattle.arc_contour.specs.Contour.{moved_pieces}
use Rattle.arc_contour.specs.Bounds.{IsPieceWithin}
use Rattle.rough_forms.proofs.form.moved.Given as goal

abbrev pub invariant-loop-piece : goal.invariant-loop-piece
invariant-loop-piece l = record {
  pieces : l.out.items ≡ moved_pieces l.across l.along (take l.piece-index l.pieces);
  near : All (IsPieceWithin 200000000000) l.out.items;
}
