-- The forms of G71 and G70 in the blocks of a program: which blocks are one, and the part of the
-- tape that it is. src/form.rt and src/finish.rt compute it; Walk takes it for a whole tape. The
-- first four blocks: Head.
use Rattle.std.specs.Prelude.{ℕ, ◌+◌, Bool, true, not, ◌&&◌, ◌==◌, nat_le, List, [], ◌∷◌, length, map, take, drop, Option, Some, None, slice_get, pos, ◌+ℤ◌, int_le, if◌then◌else◌}
use Rattle.std.specs.List.{list_all}
use Rattle.rough_cycle.specs.declared.form.TheConstants.{TRIED}
use Rattle.cycle_form.specs.declared.form.TheConstants.{MOST_PASSES}
use Rattle.nc_number.specs.Options.{◌>>=◌}
use Rattle.nc_number.specs.declared.point.Point.{Point}
use Rattle.line_text.specs.declared.body.Word.{Word}
use Rattle.nc_text.specs.declared.tape.Block.{Block}
use Rattle.rough_cycle.specs.Contour.{last_of}
use Rattle.rough_cycle.specs.Roughing.{Rough, passes_from}
use Rattle.cycle_form.specs.declared.head.Head.{Head}
use Rattle.cycle_form.specs.declared.part.PartKind.TheVariants.{Roughing, Finishing}
use Rattle.cycle_form.specs.declared.finish.FinishCall.{FinishCall}
use Rattle.cycle_form.specs.Marks.{is_plain}
use Rattle.cycle_form.specs.Words.{literal_at, is_code, start_of}
use Rattle.cycle_form.specs.Contour.{points_behind}
use Rattle.cycle_form.specs.Head.{plain_words, number_at, feed_at, head_at}
use Rattle.cycle_form.specs.Parts.{PartView, is_called}

-- The form of a head and of the points after the contour's first.
abbrev pub rough_by : Head → List Point → Rough
rough_by head points = record {
  start = head.start;
  depth = head.cut.depth;
  retreat = head.cut.retreat;
  across = head.call.across;
  along = head.call.along;
  first = head.first;
  points = points;
}

-- Whether from p to q X does not fall, Z does not rise, and the two points differ.
abbrev pub goes_down : Point → Point → Bool
goes_down p q = (int_le p.x q.x && int_le q.z p.z) && not (int_le q.x p.x && int_le p.z q.z)

-- Whether each point of the contour goes down from the one before it.
abbrev pub descends : Point → List Point → Bool
descends p [] = true
descends p (q ∷ points) = goes_down p q && descends q points

-- Whether the last X of a contour with its allowance in X (`across`) is at most the start's.
abbrev pub is_below_start : Point → ℕ → Point → Bool
is_below_start last across start = int_le (last.x +ℤ pos across) start.x

-- Whether the contour descends, and its last X with the allowance is at most the start's.
abbrev pub is_form : Rough → Bool
is_form r = descends r.first r.points && is_below_start (last_of r.first r.points) r.across r.start

-- Whether there are at most 1,000 passes. Passes are counted up to 1,001, which is `TRIED` of
-- rough_cycle; 1,000 is `MOST_PASSES` (src/form.rt).
abbrev pub is_short : Rough → Bool
is_short r = nat_le (length (passes_from r 1 TRIED)) MOST_PASSES

-- The blocks of a form after its start: G71, G71, the contour's first block, and one for each point
-- after that.
abbrev pub blocks_of_form : List Point → List Block → List Block
blocks_of_form points rest = take (length points + 3) rest

-- The part of the tape that these blocks, G71 with its contour, are.
abbrev pub roughing_part : Head → List Point → List Block → PartView
roughing_part head points blocks = record {
  kind = Roughing;
  rough = rough_by head points;
  first = head.call.first;
  last = head.call.last;
  feed = head.call.feed;
  lines = map (λ block. block.line) blocks;
}

-- The part of a form that starts in the block `a`, if its contour is one, it has at most 1,000
-- passes, and no line of it has a skip sign or a comment (`marks`).
abbrev pub form_of : List Bool → Block → Head → List Point → List Block → Option PartView
form_of marks a head points blocks =
    if (is_form (rough_by head points) && is_short (rough_by head points)) && (is_plain marks a && list_all (is_plain marks) blocks)
    then Some (roughing_part head points blocks)
    else None

-- The form that begins with the block `a`: after it come G71, G71, the contour's first block, and
-- the others up to the last.
unfoldable pub form_at : List Bool → Block → List Block → Option PartView
form_at marks a rest = do
  head ← head_at a rest
  points ← points_behind [] head.first head.call.last (drop 3 rest)
  form_of marks a head points (blocks_of_form points rest)

-- The call of G70 P<first> Q<last> F<feed>, in this order and with no other word. 80, 81 and 70 are
-- the letters P, Q and F; 71 is G.
unfoldable pub finish_call_of : List Word → Option FinishCall
finish_call_of words =
    if length words == 4 && is_code (pos 70) (literal_at words 0 71) then (do
      first ← number_at words 1 80
      last ← number_at words 2 81
      feed ← feed_at words 3 70
      Some (record { first = first; last = last; feed = feed })) else None

-- The place i if this part is a G71 along the contour between these sequence numbers, else the
-- place found before.
abbrev pub later : ℕ → ℕ → PartView → ℕ → Option ℕ → Option ℕ
later first last part i found = if is_called first last part then Some i else found

-- The place of the last of these parts, counted from i, that is a form with these numbers.
abbrev pub latest_from : ℕ → ℕ → Option ℕ → ℕ → List PartView → Option ℕ
latest_from first last found i [] = found
latest_from first last found i (part ∷ parts) = latest_from first last (later first last part i found) (i + 1) parts

-- The last of these parts that is a form with these numbers.
unfoldable pub latest : ℕ → ℕ → List PartView → Option PartView
latest first last parts = do
  place ← latest_from first last None 0 parts
  slice_get parts place

-- Whether the start lies above and before the contour: its X is at least the last point's, its Z at
-- least the first's.
abbrev pub is_finish_start : Rough → Point → Bool
is_finish_start r start = int_le (last_of r.first r.points).x start.x && int_le r.first.z start.z

-- The part of the tape that a G70 on this line is, along the contour of this form, from this start.
abbrev pub finishing_part : PartView → FinishCall → Point → ℕ → PartView
finishing_part form call start line = record {
  kind = Finishing start;
  rough = form.rough;
  first = call.first;
  last = call.last;
  feed = call.feed;
  lines = line ∷ [];
}

-- The part of a G70 along this form, if its start lies above and before the contour.
abbrev pub finish_by : PartView → FinishCall → Point → ℕ → Option PartView
finish_by form call start line = if is_finish_start form.rough start then Some (finishing_part form call start line) else None

-- The start that a block without a sequence number says: G00 X Z.
unfoldable pub start_in : Block → Option Point
start_in block = do
  words ← plain_words block
  start_of words

-- The call of a block without a sequence number that is a G70.
unfoldable pub finish_call_in : Block → Option FinishCall
finish_call_in block = do
  words ← plain_words block
  finish_call_of words

-- The part of the G70 in the block `b`, from the start in the block `a` before it, along the
-- contour of the latest form of these parts with its numbers; neither block's line may have a skip
-- sign or a comment (`marks`).
unfoldable pub finish_at : List Bool → Block → Block → List PartView → Option PartView
finish_at marks a b done = do
  start ← start_in a
  call ← finish_call_in b
  form ← latest call.first call.last done
  if is_plain marks a && is_plain marks b then finish_by form call start b.line else None
