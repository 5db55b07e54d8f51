-- The blocks of a contour: lines with G01 or without, and the points they lead to, in 0.001 mm.
-- src/contour.rt reads them; Head and Forms cite them. 71, 88 and 90 are the letters G, X and Z.
use Rattle.std.specs.Prelude.{ℕ, ◌==◌, List, [], ◌∷◌, ◌++◌, length, drop, Option, Some, None, ℤ, pos, if◌then◌else◌}
use Rattle.nc_number.specs.Options.{◌>>=◌, is_some_of}
use Rattle.line_text.specs.declared.body.Word.{Word}
use Rattle.nc_text.specs.declared.tape.Block.{Block}
use Rattle.line_text.specs.declared.body.Body.{Body}
use Rattle.line_text.specs.declared.body.Body.TheVariants.{Words, Statement}
use Rattle.nc_number.specs.declared.point.Point.{Point}
use Rattle.cycle_form.specs.Words.{literal_at, length_at, is_code}

-- The words of a block, or none of a statement.
abbrev pub words_of : Body → Option (List Word)
words_of (Words words) = Some words
words_of (Statement text) = None

-- The words after the G01 that a line may begin with.
unfoldable pub behind_line : List Word → List Word
behind_line words = if is_code (pos 1) (literal_at words 0 71) then drop 1 words else words

-- The point that X, Z, or both in either order lead to. An axis that is not named stays where it
-- was; there is none if the words are none or others.
unfoldable pub target_of : Point → List Word → Option Point
target_of from words =
    if length words == 1 then one_axis (length_at words 0 88) (length_at words 0 90)
    else (if length words == 2 then two_axes (length_at words 0 88) (length_at words 1 90) (length_at words 1 88) (length_at words 0 90) else None)
  where
    one_axis : Option ℤ → Option ℤ → Option Point
    one_axis (Some x) z = Some (record from { x = x })
    one_axis None (Some z) = Some (record from { z = z })
    one_axis None None = None

    two_axes : Option ℤ → Option ℤ → Option ℤ → Option ℤ → Option Point
    two_axes (Some x) (Some z) late early = Some (record { x = x; z = z })
    two_axes x z (Some late) (Some early) = Some (record { x = late; z = early })
    two_axes x z late early = None

-- Where a block of the contour leads from this point; none if it is a statement, names no axis, or
-- has other words.
unfoldable pub contour_point : Point → Body → Option Point
contour_point from body = do
  words ← words_of body
  target_of from (behind_line words)

-- The points read so far and those of these blocks, up to the first block with the number `last`;
-- none if one of them leads nowhere, or no block has it.
unfoldable pub points_behind : List Point → Point → ℕ → List Block → Option (List Point)
points_behind done from last [] = None
points_behind done from last (block ∷ blocks) = do
  to ← contour_point from block.body
  if is_some_of last block.sequence then Some (done ++ to ∷ []) else points_behind (done ++ to ∷ []) to last blocks
