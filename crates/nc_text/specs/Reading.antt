-- A reader of a tape stands for the bytes that it was given, whatever pieces they came in.
-- `HasRead` is what the contracts of src/reader.rt and src/feed.rt keep, `LeadsTo` what those of
-- src/step.rt add. No other crate cites these words, but they stand in the contract of `Reader`.
use Rattle.std.specs.Prelude.{◌≡◌, ℕ, ◌+◌, Bool, true, false, not, ◌&&◌, ◌==◌, List, [], ◌∷◌, ◌++◌, length, take, min, Option, Some, None, Result, Ok, Err, if◌then◌else◌}
use Rattle.nc_number.specs.declared.fault.Failing.{Failing}
use Rattle.nc_number.specs.declared.fault.Failing.TheVariants.{Fault, NoMemory}
use Rattle.nc_number.specs.declared.limits.TheConstants.{LONGEST_TAPE}
use Rattle.nc_text.specs.declared.fault.TextFault.{TextFault}
use Rattle.nc_text.specs.declared.stage.Stage.{Stage}
use Rattle.nc_text.specs.declared.stage.Stage.TheVariants as stages
use Rattle.nc_text.specs.Lines.{Line, IsOneLine, lines_of, is_percent}
use Rattle.line_text.specs.Said.{line_says}
use Rattle.nc_text.specs.Tape.{Before, Answer, after_outer, after_percent, after_said, tape_begun, goes_on, in_leader, in_body, in_rest, tape_of}

-- what a reader keeps: where it stands, the present line (begun and not ended) and what was read
-- before it
pub record State : Type 0 where
  -- bit n is skip switch n
  pub skips : ℕ
  -- where in the tape it stands: before, between or after the two `%` lines, or at a refusal
  pub stage : Stage
  -- of the present line only what is needed (`kept_of`)
  pub kept : List ℕ
  -- how many bytes the present line has, counted up to one more than a tape may have
  pub len : ℕ
  -- what was read before the present line
  pub before : Before

-- whether a reader stands between the two `%` lines, in the programs
abbrev pub is_body : Stage → Bool
is_body stages.Leader = false
is_body stages.Body = true
is_body stages.Rest = false
is_body (stages.Refused fault) = false

-- the refusal of the text, if a reader at this stage has refused it
abbrev pub refusal_of : Stage → Option TextFault
refusal_of stages.Leader = None
refusal_of stages.Body = None
refusal_of stages.Rest = None
refusal_of (stages.Refused fault) = Some fault

-- what is kept of a line at this stage: all of a line of the programs, of any other the first byte
abbrev pub kept_of : Stage → List ℕ → List ℕ
kept_of stage bytes = if is_body stage && not (is_percent bytes) then bytes else take 1 bytes

-- what is kept of these bytes, if this is kept of the bytes of the same line before them
abbrev pub more_kept : Stage → List ℕ → List ℕ → List ℕ
more_kept stage [] bytes = kept_of stage bytes
more_kept stage (b ∷ kept) bytes = if is_body stage && not (b == 37) then bytes else []

-- a length as it is counted: at most one more than the bytes that a tape may have
abbrev pub counted_length : ℕ → ℕ
counted_length len = min len (LONGEST_TAPE + 1)

-- the line that is being read has these bytes, of which this is kept, and is counted so long
pub record IsOpenLine (stage : Stage) (kept : List ℕ) (len : ℕ) (bytes : List ℕ) : Type 0 where
  -- none of the bytes is a line feed
  pub one_line : IsOneLine bytes
  -- of the bytes just what is needed is kept
  pub kept_is : kept ≡ kept_of stage bytes
  -- the bytes are counted up to one more than a tape may have
  pub len_is : len ≡ counted_length (length bytes)

-- the answer of a text of which this was read up to this stage, and of which these lines are left
abbrev pub answer_from : ℕ → Stage → List Line → Before → Answer
answer_from skips stages.Leader lines before = in_leader skips lines before
answer_from skips stages.Body lines before = in_body skips lines before
answer_from skips stages.Rest lines before = in_rest lines before
answer_from skips (stages.Refused fault) lines before = Err fault

-- the answer of a text of which this was read up to this stage, and of which a line of this length,
-- of which this is kept, and then these lines are left; the flag says whether a line feed ends that
-- line
abbrev pub line_continued : ℕ → Stage → List ℕ → ℕ → Bool → List Line → Before → Answer
line_continued skips stages.Leader kept len ended lines before =
    if is_percent kept then goes_on before (after_percent before len ended)
    (λ after. in_body skips lines (tape_begun after))
    else goes_on before (after_outer before len ended) (in_leader skips lines)
line_continued skips stages.Body kept len ended lines before =
    if is_percent kept then goes_on before (after_percent before len ended) (in_rest lines)
    else goes_on before (after_said before len ended (line_says skips kept ended)) (in_body skips lines)
line_continued skips stages.Rest kept len ended lines before = goes_on before (after_outer before len ended) (in_rest lines)
line_continued skips (stages.Refused fault) kept len ended lines before = Err fault

-- A front of a text leads from one stage, with what was read before, to a later one: whatever
-- follows, the answer for that front and what follows is the later stage's answer for what follows
-- alone. The rest of the text is left.
abbrev pub LeadsTo : ℕ → Stage → Before → List ℕ → Stage → Before → List ℕ → Type 0
LeadsTo skips stage before text later-stage later rest =
    (front : List ℕ) × (text ≡ front ++ rest)
    × ((more : List ℕ) → answer_from skips stage (lines_of (front ++ more)) before ≡ answer_from skips later-stage (lines_of more) later)

-- The bytes end with the present line so far. Whatever follows the bytes before that line, the
-- answer of the whole text is the state's answer for what follows.
pub record IsAt (state : State) (bytes : List ℕ) (line : List ℕ) : Type 0 where
  -- the present line so far, as the state keeps it
  pub is_line : IsOpenLine state.stage state.kept state.len line
  -- the bytes before the present line
  pub front : List ℕ
  -- these and the present line are all bytes
  pub bytes_are : bytes ≡ front ++ line
  -- the state has all that the bytes before the present line say
  pub whole : (more : List ℕ) → tape_of state.skips (front ++ more) ≡ answer_from state.skips state.stage (lines_of more) state.before

-- a reader with these switches was given these bytes: bit n is switch n
abbrev pub HasRead : State → ℕ → List ℕ → Type 0
HasRead state skips bytes = (state.skips ≡ skips) × ((line : List ℕ) × IsAt state bytes line)

-- the reader has refused the text
abbrev pub HasRefused : State → TextFault → Type 0
HasRefused state fault = state.stage ≡ stages.Refused fault

-- whatever follows these bytes, the text has this refusal
abbrev pub IsRefused : ℕ → List ℕ → TextFault → Type 0
IsRefused skips bytes fault = (more : List ℕ) → tape_of skips (bytes ++ more) ≡ Err fault

-- if a call failed by a refusal, it is one of these; out of memory is taken as it is
abbrev pub FaultIs : Failing TextFault → (TextFault → Type 0) → Type 0
FaultIs (Fault fault) P = P fault
FaultIs NoMemory P = Unit {0}

-- if a call answers a refusal, it is one of these
abbrev pub IfRefused : {A : Type 0} → Result A (Failing TextFault) → (TextFault → Type 0) → Type 0
IfRefused (Ok x) P = Unit {0}
IfRefused (Err error) P = FaultIs error P
