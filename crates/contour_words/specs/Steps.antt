-- What a block of a contour behind its first one says: a line, an arc, or no move. src/step.rt reads
-- it. 71 is the letter G, 73 I, 75 K, 82 R, 85 U, 87 W, 88 X, 90 Z.
use Rattle.std.specs.Prelude.{ℕ, Bool, ◌&&◌, ◌||◌, List, [], ◌∷◌, codes, Option, Some, None, IfSome, Result, Ok, Err, ℤ, pos, nat_lt, unsigned_abs, if◌then◌else◌}
use Rattle.std.specs.Ordering.{int_eq}
use Rattle.nc_number.specs.declared.limits.TheConstants.{LONGEST_SAID}
use Rattle.nc_number.specs.declared.point.Point.{Point}
use Rattle.nc_number.specs.Results.{◌>>=◌}
use Rattle.line_text.specs.declared.body.Word.{Word}
use Rattle.arc_contour.specs.declared.piece.Piece.{Piece}
use Rattle.arc_contour.specs.declared.piece.Piece.TheVariants as piece
use Rattle.arc_contour.specs.Bounds.{IsWritten, IsPieceWithin}
use Rattle.plain_form.specs.declared.cause.PlainCause.{PlainCause}
use Rattle.plain_form.specs.declared.cause.PlainCause.TheVariants as cause
use Rattle.plain_form.specs.declared.cause.PlainFault.{PlainFault}
use Rattle.cycle_words.specs.Numbers.{is_said, length_or, length_said, place_said}
use Rattle.cycle_words.specs.Scenes.{says_ends}
use Rattle.contour_words.specs.declared.motion.Motion.{Motion}
use Rattle.contour_words.specs.declared.motion.Motion.TheVariants.{Rapid, Line, Round}
use Rattle.contour_words.specs.declared.radius.Centre.{Centre}
use Rattle.contour_words.specs.declared.step.Step.{Step}
use Rattle.contour_words.specs.Causes.{fault, refuse, words_cause}
use Rattle.contour_words.specs.Motions.{motion_by}
use Rattle.contour_words.specs.Radius.{radius_centre}
use Rattle.contour_words.specs.Tempos.{tempo_of}

-- the letters that a block of a contour may have
abbrev pub letters_of : Motion → List ℕ
letters_of Rapid = codes "GXZUWFS"
letters_of Line = codes "GXZUWFS"
letters_of (Round clockwise) = codes "GXZUWIKRFS"

-- the codes that it may have, in millionths
abbrev pub codes_of : List ℤ
codes_of = pos 0 ∷ pos 1000000 ∷ pos 2000000 ∷ pos 3000000 ∷ []

-- the point of these lengths, if a literal can write them
abbrev pub point_by : ℕ → ℤ → ℤ → Result Point PlainFault
point_by line x z =
    if nat_lt 100000000000 (unsigned_abs x)
    then Err (fault line (cause.Range 88))
    else if nat_lt 100000000000 (unsigned_abs z)
    then Err (fault line (cause.Range 90))
    else Ok (record { x = x; z = z })

-- where a block leads from a point
abbrev pub point_to : ℕ → List Word → Point → Result Point PlainFault
point_to line words from = point_by line (place_said 88 85 from.x words) (place_said 90 87 from.z words)

-- two points are one
abbrev pub is_same : Point → Point → Bool
is_same p q = int_eq p.x q.x && int_eq p.z q.z

-- the centre that I, K or both name
abbrev pub offsets_said : List Word → Option Centre
offsets_said words =
    if is_said 73 words || is_said 75 words
    then Some (record { i = length_or 73 (pos 0) words; k = length_or 75 (pos 0) words })
    else None

-- the centre by a radius, or else by I and K
abbrev pub centre_by : Option ℤ → List Word → Point → Point → Bool → Option Centre
centre_by (Some r) words from to clockwise = radius_centre from to clockwise r
centre_by None words from to clockwise = offsets_said words

-- the centre of an arc; a whole circle has none here
abbrev pub centre_said : List Word → Point → Point → Bool → Option Centre
centre_said words from to clockwise =
    if is_same from to then None else centre_by (length_said 82 words) words from to clockwise

-- an arc to a point round a centre, if there is one
abbrev pub arc_round : ℕ → Point → Bool → Option Centre → Result Piece PlainFault
arc_round line to clockwise (Some centre) = Ok (piece.Arc clockwise to centre.i centre.k)
arc_round line to clockwise None = Err (fault line cause.Arc)

-- the arc of a block
abbrev pub round_to : ℕ → List Word → Point → Point → Bool → Result Piece PlainFault
round_to line words from to clockwise = arc_round line to clockwise (centre_said words from to clockwise)

-- that a block behind the first moves at rapid traverse, or that no code says how it moves
abbrev pub rapid_cause : List Word → PlainCause
rapid_cause words = if is_said 71 words then cause.Unexpected 71 else cause.Missing 71

-- the piece of a block that moves from a point to another
abbrev pub moving_to : ℕ → List Word → Motion → Point → Point → Result Piece PlainFault
moving_to line words Rapid from to = Err (fault line (rapid_cause words))
moving_to line words Line from to = Ok (piece.Line to)
moving_to line words (Round clockwise) from to = round_to line words from to clockwise

-- the words name a place, or a centre
abbrev pub moves : List Word → Bool
moves words = says_ends words || is_said 73 words || is_said 75 words || is_said 82 words

-- a piece that there is
abbrev pub some_piece : Result Piece PlainFault → Result (Option Piece) PlainFault
some_piece (Ok own) = Ok (Some own)
some_piece (Err refusal) = Err refusal

-- the piece of a block, if it moves
abbrev pub piece_to : ℕ → List Word → Motion → Point → Point → Result (Option Piece) PlainFault
piece_to line words motion from to =
    if moves words then some_piece (moving_to line words motion from to) else Ok None

-- what a block of a contour behind its first one says
unfoldable pub step_of : ℕ → List Word → Motion → Point → Result Step PlainFault
step_of line words before from = do
  none ← refuse line (words_cause (letters_of (motion_by words before)) codes_of words)
  to ← point_to line words from
  own ← piece_to line words (motion_by words before) from to
  Ok (record { piece = own; tempo = tempo_of words; motion = motion_by words before; to = to })

-- the lengths of a step are such that a literal can write them
pub record IsNearStep (step : Step) : Type 0 where
  -- those of its piece
  pub piece : IfSome step.piece (IsPieceWithin LONGEST_SAID)
  -- where it leads
  pub to : IsWritten step.to
