-- The blocks so far cut the pieces of the contour so far (loop of `push_pieces`, src/form.rt).
use Rattle.std.proofs.Common.{◌≡◌, ◌++◌, map, take}
use Rattle.rough_forms.specs.Frames.{told}
use Rattle.rough_forms.specs.Roughing.{piece_move}
use Rattle.rough_forms.proofs.form.push_pieces.Given as goal

abbrev pub invariant-loop-piece : goal.invariant-loop-piece
invariant-loop-piece l = l.blocks.items ≡ l.fn.blocks.items ++ map (told l.frame) (map piece_move (take l.piece-index l.pieces))
