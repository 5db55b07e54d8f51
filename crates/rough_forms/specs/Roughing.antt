-- The passes of G71, or of G72, and the moves that they and G70 stand for, as they are seen. Lengths
-- are in 0.001 mm; that across the passes is a diameter where they run along the axis.
use Rattle.std.specs.Prelude.{◌≡◌, ℕ, zero, suc, ◌+◌, ◌*◌, ◌≤◌, Bool, true, false, ◌&&◌, List, [], ◌∷◌, ◌++◌, map, ℤ, pos, ◌+ℤ◌, ◌-ℤ◌, ◌≤ℤ◌, int_lt, Option, Some, None, if◌then◌else◌}
use Rattle.std.specs.List.{flat_map}
use Rattle.std.specs.Int.{int_min}
use Rattle.nc_number.specs.declared.point.Point.{Point}
use Rattle.arc_contour.specs.declared.piece.Piece.{Piece}
use Rattle.arc_contour.specs.declared.piece.Piece.TheVariants.{Line, Arc}
use Rattle.arc_contour.specs.declared.edge.Edge.{Edge}
use Rattle.arc_contour.specs.declared.edge.Bound.TheVariants.{Outer, Inner}
use Rattle.arc_contour.specs.declared.way.Way.{Way}
use Rattle.arc_contour.specs.declared.way.Way.TheVariants.{Along, Across}
use Rattle.arc_contour.specs.Contour.{Descends, last_of, moved_point, moved_pieces, to_of}
use Rattle.arc_contour.specs.Edges.{edges_of}
use Rattle.arc_contour.specs.Ends.{end_at}
use Rattle.plain_block.specs.declared.block.PlainBlock.{PlainBlock}
use Rattle.rough_forms.specs.declared.entry.Entry.{Entry}
use Rattle.rough_forms.specs.declared.entry.Entry.TheVariants as entry
use Rattle.rough_forms.specs.declared.frame.Frame.{Frame}
use Rattle.rough_forms.specs.declared.seen.Leg.{Leg}
use Rattle.rough_forms.specs.declared.seen.Leg.TheVariants.{Rapid, Cut, Round}
use Rattle.rough_forms.specs.declared.seen.SeenMove.{SeenMove}
use Rattle.rough_forms.specs.Frames.{told}

-- what a form says: how it is seen, and so its start, the depth of a cut, the retreat, the allowances
-- and the contour
pub record Rough : Type 0 where
  -- how the contour of the tape is seen
  pub frame : Frame
  -- where the cycle starts and ends
  pub start : Point
  -- the depth of a cut: along the axis a radius
  pub depth : ℕ
  -- how far a pass draws back off its cut, both ways
  pub retreat : ℕ
  -- the finishing allowance across the passes, a diameter where they run along the axis
  pub across : ℕ
  -- the finishing allowance along the passes
  pub along : ℕ
  -- how the contour is entered
  pub enters : Entry
  -- the first point of the contour
  pub first : Point
  -- the pieces after it
  pub pieces : List Piece

-- how far a radius value reaches in the lengths across the passes
abbrev pub across_of : Way → ℕ → ℕ
across_of Along length = 2 * length
across_of Across length = length

-- how far a radius value reaches in the lengths along the passes
abbrev pub along_of : Way → ℕ → ℕ
along_of Along length = length
along_of Across length = 2 * length

-- the first point of the contour with its allowances
abbrev pub first_moved : Rough → Point
first_moved r = moved_point r.across r.along r.first

-- the pieces after the first point, with their allowances
abbrev pub pieces_moved : Rough → List Piece
pieces_moved r = moved_pieces r.across r.along r.pieces

-- the outer edges of the contour with its allowances
abbrev pub outer_moved : Rough → List Edge
outer_moved r = edges_of r.frame.way Outer (first_moved r) (pieces_moved r)

-- the inner edges of the contour with its allowances
abbrev pub inner_moved : Rough → List Edge
inner_moved r = edges_of r.frame.way Inner (first_moved r) (pieces_moved r)

-- the inner edges of the contour
abbrev pub inner_edges : Rough → List Edge
inner_edges r = edges_of r.frame.way Inner r.first r.pieces

-- what makes a form one that may be written out: its passes and its contour then never cut too deep
pub record IsForm (r : Rough) : Type 0 where
  -- along the contour X does not fall and Z does not rise
  pub descends : Descends r.first r.pieces
  -- the start's X is at least that of the contour's end and the allowance
  pub high : ((last_of r.first r.pieces).x +ℤ pos r.across) ≤ℤ r.start.x

-- the X of pass k, from 1: each pass is a depth lower
abbrev pub x_of_pass : Rough → ℕ → ℤ
x_of_pass r k = r.start.x -ℤ pos (across_of r.frame.way r.depth * k)

-- the end of a pass that comes to a contour here, which begins there: if it comes to it where it begins,
-- the pass ends a count before
abbrev pub end_before : ℤ → ℤ → ℤ
end_before here begins = if int_lt here begins then here else (begins +ℤ pos 1)

-- pass k as the point at its end: its X, and the Z at which the contour comes to it
abbrev pub pass_of : Rough → ℕ → Point
pass_of r k = record {
  x = x_of_pass r k;
  z = end_before (end_at (x_of_pass r k) (first_moved r) (outer_moved r)) (first_moved r).z;
}

-- whether a pass is made: it lies above the contour's first point, and leads down from the start
abbrev pub is_made : Rough → Point → Bool
is_made r pass = int_lt (first_moved r).x pass.x && int_lt pass.z r.start.z

-- pass k, if it is made
abbrev pub made_at : Rough → ℕ → Option Point
made_at r k = if is_made r (pass_of r k) then Some (pass_of r k) else None

-- the passes from k on, at most so many, up to the first that is not made
unfoldable pub passes_from : Rough → ℕ → ℕ → List Point
passes_from r k zero = []
passes_from r k (suc most) =
    if is_made r (pass_of r k) then pass_of r k ∷ passes_from r (k + 1) most else []

-- a move across alone, in X
abbrev pub across_to : Leg → Point → SeenMove
across_to leg p = record { leg = leg; x = Some p.x; z = None }

-- a move along alone, in Z
abbrev pub along_to : Leg → Point → SeenMove
along_to leg p = record { leg = leg; x = None; z = Some p.z }

-- a move both ways
abbrev pub both_to : Leg → Point → SeenMove
both_to leg p = record { leg = leg; x = Some p.x; z = Some p.z }

-- how a piece is cut
abbrev pub leg_of : Piece → Leg
leg_of (Line to) = Cut
leg_of (Arc clockwise to i k) = Round clockwise i k

-- the move of a piece
abbrev pub piece_move : Piece → SeenMove
piece_move piece = both_to (leg_of piece) (to_of piece)

-- how the contour is entered
abbrev pub entry_leg : Entry → Leg
entry_leg entry.Rapid = Rapid
entry_leg entry.Cut = Cut

-- where the tool goes off a pass: back by the retreat in both axes, but along no farther than the
-- start
abbrev pub off_pass : Rough → Point → Point
off_pass r pass = record {
  x = pass.x +ℤ pos (across_of r.frame.way r.retreat);
  z = int_min (pass.z +ℤ pos (along_of r.frame.way r.retreat)) r.start.z;
}

-- the four moves of a pass: in, along, off, and back
abbrev pub pass_moves : Rough → Point → List SeenMove
pass_moves r pass =
    across_to Rapid pass
    ∷ along_to Cut pass
    ∷ both_to Rapid (off_pass r pass)
    ∷ along_to Rapid r.start
    ∷ []

-- the moves of a contour: from the start to the first point, along the contour, off, and back to the
-- start
abbrev pub contour_moves : Entry → Point → Point → List Piece → List SeenMove
contour_moves enters start p pieces =
    along_to Rapid p
    ∷ across_to (entry_leg enters) p
    ∷ (map piece_move pieces ++ across_to Cut start ∷ along_to Rapid start ∷ [])

-- the moves of the passes, at most so many
abbrev pub passes_moves : Rough → ℕ → List SeenMove
passes_moves r most = flat_map (pass_moves r) (passes_from r 1 most)

-- the moves of G71: the passes, and then the contour with its allowances
abbrev pub rough_moves : Rough → ℕ → List SeenMove
rough_moves r most = passes_moves r most ++ contour_moves r.enters r.start (first_moved r) (pieces_moved r)

-- the moves of G70 from a start
abbrev pub finish_moves : Rough → Point → List SeenMove
finish_moves r start = contour_moves r.enters start r.first r.pieces

-- the blocks of a pass
abbrev pub pass_blocks : Rough → Point → List PlainBlock
pass_blocks r pass = map (told r.frame) (pass_moves r pass)

-- the blocks of the passes, at most so many
abbrev pub passes_blocks : Rough → ℕ → List PlainBlock
passes_blocks r most = map (told r.frame) (passes_moves r most)

-- the blocks of G71, or of G72
abbrev pub rough_blocks : Rough → ℕ → List PlainBlock
rough_blocks r most = map (told r.frame) (rough_moves r most)

-- the blocks of G70 from a start
abbrev pub finish_blocks : Rough → Point → List PlainBlock
finish_blocks r start = map (told r.frame) (finish_moves r start)

-- a start from which G70 enters no contour: its X is at least that of the contour's end
abbrev pub IsFinishStart : Rough → Point → Type 0
IsFinishStart r start = (last_of r.first r.pieces).x ≤ℤ start.x
