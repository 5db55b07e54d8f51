-- The tape of a text, and the one fault of a text that is no tape, without any reader: `IsTape` and
-- `IsFault`, of which the law `the_reader_reads_the_relation` (src/law.rt) speaks. No other crate
-- cites them.
use Rattle.std.specs.Prelude.{◌≡◌, ℕ, ◌+◌, ◌<◌, ◌⊎◌, true, false, List, [], ◌∷◌, ◌++◌, length}
use Rattle.nc_text.specs.declared.fault.TextFault.{TextFault}
use Rattle.line_text.specs.declared.refusal.Refusal.{Refusal}
use Rattle.line_text.specs.declared.refusal.Refusal.TheVariants.{NoProgramNumber, NoEnd}
use Rattle.nc_text.specs.declared.tape.Program.{Program}
use Rattle.line_text.specs.Refusals.{refusal_number}
use Rattle.nc_text.specs.Lines.{Line}
use Rattle.tape_relation.specs.Parts.{AreLines, before_percent, body_of, is_closed, opening_line}
use Rattle.tape_relation.specs.Conditions.{SayNothing, IsLeast, NoneHolds}
use Rattle.tape_relation.specs.Programs.{ArePrograms}

-- the refusal as the fault of a text: its number, told of this line
abbrev pub fault_at : Refusal → ℕ → TextFault
fault_at refusal line = record { number = refusal_number refusal; line = line }

-- The least line at which a condition holds, and there the least number. The lines stand behind the
-- front.
pub record IsFirstFault (skips : ℕ) (front lines : List Line) (fault : TextFault) : Type 0 where
  -- the lines before the line of the fault
  pub before : List Line
  -- the line of the fault
  pub line : Line
  -- the lines after the line of the fault
  pub behind : List Line
  -- the refusal of the least number that holds at that line
  pub refusal : Refusal
  -- the lines are these parts, one after the other
  pub lines_are : lines ≡ before ++ line ∷ behind
  -- the refusal holds at the line, and none of a lesser number does
  pub least : IsLeast skips (front ++ before) line refusal
  -- no refusal's condition holds at a line before it
  pub none_before : NoneHolds skips front before
  -- the fault has its number and its line
  pub fault_is : fault ≡ fault_at refusal (length (front ++ before) + 1)

-- the tape has no block and no O number: told of its first line that begins with `%`, or of line 1
-- if none does
abbrev pub LacksProgram : ℕ → List Line → TextFault → Type 0
LacksProgram skips lines fault = SayNothing skips (body_of lines)
    × (fault ≡ fault_at NoProgramNumber (opening_line lines))

-- the tape has a block or an O number, and no second line begins with `%`: told of the last line
abbrev pub LacksEnd : ℕ → List Line → TextFault → Type 0
LacksEnd skips lines fault = (SayNothing skips (body_of lines) → ⊥) × (is_closed lines ≡ false)
    × (fault ≡ fault_at NoEnd (length lines))

-- the fault of a text; that it lacks a program or its end counts only where nothing else is wrong
abbrev pub IsFaultOf : ℕ → List Line → TextFault → Type 0
IsFaultOf skips lines fault = IsFirstFault skips [] lines fault
    ⊎ (NoneHolds skips [] lines × (LacksProgram skips lines fault ⊎ LacksEnd skips lines fault))

-- no condition holds, the closing line is there, and the body is lines that say nothing and then
-- the programs
pub record IsTapeOf (skips : ℕ) (lines : List Line) (tape : List Program) : Type 0 where
  -- no refusal's condition holds at any line
  pub none_holds : NoneHolds skips [] lines
  -- a second line begins with `%`
  pub closed : is_closed lines ≡ true
  -- there is at least one program
  pub some : 0 < length tape
  -- the lines of the body before the first O number, which say nothing
  pub quiet : List Line
  -- the lines of the body from the first O number on
  pub others : List Line
  -- the body is these two parts
  pub body_is : body_of lines ≡ quiet ++ others
  -- the first part says neither a block nor an O number
  pub quiet_is : SayNothing skips quiet
  -- the lines from the first O number on are the programs
  pub programs : ArePrograms skips (length (before_percent lines) + 1 + length quiet) others tape

-- the text is this tape
abbrev pub IsTape : ℕ → List ℕ → List Program → Type 0
IsTape skips text tape = (lines : List Line) × AreLines text lines × IsTapeOf skips lines tape

-- the text is no tape, and this is its fault
abbrev pub IsFault : ℕ → List ℕ → TextFault → Type 0
IsFault skips text fault = (lines : List Line) × AreLines text lines × IsFaultOf skips lines fault
