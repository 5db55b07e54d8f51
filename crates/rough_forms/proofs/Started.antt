-- A piece whose lengths a literal can write ends within twice that; and the blocks of passes, one list
-- after the other.
use Rattle.std.proofs.Common.{◌≡◌, List, [], ◌∷◌, ◌++◌, map, ℕ, refl, ap, sym, ◌∙◌, arith}
use Rattle.std.specs.List.{flat_map}
use Rattle.std.proofs.lemmas.List.{map-append}
use Rattle.std.proofs.lemmas.List.Concat.{flat_map-cons}
use Rattle.nc_number.specs.declared.point.Point.{Point}
use Rattle.arc_contour.specs.declared.piece.Piece.{Piece}
use Rattle.arc_contour.specs.declared.piece.Piece.TheVariants.{Line, Arc}
use Rattle.arc_contour.specs.Bounds.{IsPieceWithin}
use Rattle.plain_block.specs.declared.block.PlainBlock.{PlainBlock}
use Rattle.rough_forms.specs.Frames.{told}
use Rattle.rough_forms.specs.Roughing.{Rough, first_moved, pieces_moved, passes_from, pass_moves, passes_moves, contour_moves, pass_blocks, rough_blocks}

-- a piece that ends within 100 km ends within twice that
pub piece_wider : (piece : Piece) → IsPieceWithin 100000000000 piece → IsPieceWithin 200000000000 piece
unfolding IsPieceWithin
piece_wider (Line to) is = (omega (arith, is), omega (arith, is))
piece_wider (Arc clockwise to i k) is = ((omega (arith, is), omega (arith, is)), is.1, is.2)

-- the blocks of passes are those of their moves
pub passes_told : (r : Rough) (passes : List Point) → flat_map (pass_blocks r) passes ≡ map (told r.frame) (flat_map (pass_moves r) passes)
passes_told r [] = refl
passes_told r (pass ∷ passes) =
    flat_map-cons (pass_blocks r) pass passes ∙ ap (λ l. pass_blocks r pass ++ l) (passes_told r passes)
    ∙ sym (map-append (told r.frame) (pass_moves r pass) (flat_map (pass_moves r) passes))
    ∙ ap (map (told r.frame)) (sym (flat_map-cons (pass_moves r) pass passes))

-- the blocks of G71, from those of the passes and of the contour
pub rough_told : (r : Rough) (most : ℕ) (none behind all : List PlainBlock) (passes : List Point) (first : Point) (pieces : List Piece) → none ≡ [] → passes ≡ passes_from r 1 most → first ≡ first_moved r → pieces ≡ pieces_moved r
    → behind ≡ none ++ flat_map (pass_blocks r) passes → all ≡ behind ++ map (told r.frame) (contour_moves r.enters r.start first pieces) → all ≡ rough_blocks r most
rough_told r most none behind all passes first pieces is_none is_passes is_first is_pieces is_behind is_all =
    let those : behind ≡ map (told r.frame) (passes_moves r most) =
    is_behind ∙ ap (λ l. l ++ flat_map (pass_blocks r) passes) is_none ∙ ap (flat_map (pass_blocks r)) is_passes ∙ passes_told r (passes_from r 1 most) in
    is_all ∙ ap (λ l. l ++ map (told r.frame) (contour_moves r.enters r.start first pieces)) those
    ∙ ap (λ p. map (told r.frame) (passes_moves r most) ++ map (told r.frame) (contour_moves r.enters r.start p pieces)) is_first
    ∙ ap (λ l. map (told r.frame) (passes_moves r most) ++ map (told r.frame) (contour_moves r.enters r.start (first_moved r) l)) is_pieces
    ∙ sym (map-append (told r.frame) (passes_moves r most) (contour_moves r.enters r.start (first_moved r) (pieces_moved r)))
