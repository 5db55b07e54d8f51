-- A text of a tape as it is read for its waits alone: what the reader of tapes refuses and no wait
-- depends on is taken out or replaced by blanks. Each line keeps its number. src/opening.rt answers
-- `opened_text`.
use Rattle.std.specs.Prelude.{ℕ, Bool, true, false, not, ◌&&◌, ◌||◌, ◌==◌, List, [], ◌∷◌, ◌++◌, Option, Some, None, if◌then◌else◌}
use Rattle.std.specs.Char.{is_ascii_digit, to_ascii_uppercase}
use Rattle.std.specs.Option.{option_to_list}
use Rattle.open_text.specs.declared.manner.Calls.{Calls}
use Rattle.open_text.specs.declared.manner.Calls.TheVariants.{Never, Any}
use Rattle.open_text.specs.declared.manner.Jumps.{Jumps}
use Rattle.open_text.specs.declared.manner.Jumps.TheVariants.{Written, Computed}
use Rattle.open_text.specs.declared.manner.Manner.{Manner}
use Rattle.open_text.specs.declared.place.Place.{Place}
use Rattle.open_text.specs.declared.place.Place.TheVariants.{Text, BehindO, Note, NoteBehindO}
use Rattle.open_text.specs.declared.spot.Spot.{Spot}
use Rattle.open_text.specs.declared.spot.Spot.TheVariants.{Start, Head, HeadNote, Passed, Sign, Kept, KeptNote, Extra, Number, LongNumber, Words, WordNote, LostNumber, Letter, Index, Statement, Output, NameNumber, NameFirst, Name, LongName}
use Rattle.open_text.specs.declared.spot.Step.{Step}
use Rattle.open_text.specs.Bytes.{is_gap, is_punch, is_switch, is_number_part, is_n, takes_index, is_feed_ahead, is_other_ahead, switch_ahead, is_on, is_number_ahead, is_long_ahead, is_index_ahead, is_call, opens_name, is_name_ahead, is_output, is_statement}

-- the byte stays, but for a comma (44), which becomes a blank (32)
abbrev pub shown : ℕ → Spot → Step
shown b spot = record { byte = Some (if b == 44 then 32 else b); spot = spot }

-- a blank stands for the byte
abbrev pub blanked : Spot → Step
blanked spot = record { byte = Some 32; spot = spot }

-- nothing stands for the byte
abbrev pub dropped : Spot → Step
dropped spot = record { byte = None; spot = spot }

-- A byte among words, and those behind it. A line feed (10) ends the line, and 40 opens a comment. A
-- sequence number behind another word is no target of a jump, and blanks stand for it.
abbrev pub word_step : ℕ → List ℕ → Step
word_step b bs =
    if b == 10 then shown b Start
    else if b == 40 then shown b WordNote
    else if is_n b && is_number_ahead bs then blanked LostNumber
    else if takes_index b then shown b Letter
    else shown b Words

-- a byte in a sequence number for which blanks stand, or the one behind it
abbrev pub lost_step : ℕ → List ℕ → Step
lost_step b bs = if is_gap b || is_number_part b then blanked LostNumber else word_step b bs

-- a byte behind a letter whose words may have an index: blanks stand for the index of `S1=2500`
abbrev pub letter_step : ℕ → List ℕ → Step
letter_step b bs = if is_ascii_digit b && is_index_ahead bs then blanked Index else word_step b bs

-- a byte behind the first digit of an index; 61 is `=`
abbrev pub index_step : ℕ → List ℕ → Step
index_step b bs =
    if is_ascii_digit b then blanked Index
    else if b == 61 then blanked Words
    else word_step b bs

-- a byte of a statement, which stays as it is
abbrev pub statement_step : ℕ → Step
statement_step b = if b == 10 then shown b Start else shown b Statement

-- a byte of a block that writes something out
abbrev pub output_step : ℕ → Step
output_step b = if b == 10 then shown b Start else blanked Output

-- a byte in a comment, behind which the line goes on as before it; a line feed ends the comment too
abbrev pub note_step : Spot → Spot → ℕ → Step
note_step inside behind b =
    if b == 10 then shown b Start
    else if b == 41 then shown b behind
    else shown b inside

-- the first byte of a block behind its sequence number
abbrev pub block_step : ℕ → List ℕ → Step
block_step b bs =
    if is_output (b ∷ bs) then blanked Output
    else if is_statement (b ∷ bs) then shown b Statement
    else word_step b bs

-- whether all jumps of the text write their targets out
abbrev pub are_written : Jumps → Bool
are_written Written = true
are_written Computed = false

-- blanks stand for a sequence number of six to eight digits, if no jump of the text is computed: then
-- none leads to it
abbrev pub is_unread : Manner → List ℕ → Bool
is_unread manner bs = are_written manner.jumps && is_long_ahead bs

-- this byte stands for the byte
abbrev pub replaced : ℕ → Spot → Step
replaced by spot = record { byte = Some by; spot = spot }

-- whether the text calls no program
abbrev pub calls_none : Calls → Bool
calls_none Never = true
calls_none Any = false

-- The first byte of a block, behind its skip signs. If the text calls no program, the name of a
-- program reads as O1 (79 is O), and so does an O number of five to eight digits.
abbrev pub front_step : Manner → ℕ → List ℕ → Step
front_step manner b bs =
    if is_n b then (if is_unread manner bs then blanked LongNumber else shown b Number)
    else if calls_none manner.calls && (b == 79 && is_name_ahead bs) then shown b NameNumber
    else if calls_none manner.calls && opens_name b bs then replaced 79 NameFirst
    else block_step b bs

-- the byte behind an O, for which 1 (49) stands: it opens a name (60), or is the first of a number
abbrev pub name_number_step : ℕ → Step
name_number_step b = if b == 60 then replaced 49 Name else replaced 49 LongName

-- a byte of a name, which is closed on the line by 62
abbrev pub name_step : ℕ → Step
name_step b =
    if b == 10 then shown b Start
    else if b == 62 then blanked Words
    else blanked Name

-- a byte of an O number that is not read, or the one behind it
abbrev pub long_name_step : ℕ → List ℕ → Step
long_name_step b bs = if is_gap b || is_ascii_digit b then blanked LongName else word_step b bs

-- A skip sign (47) before which no other counts. Of several in a row the first one counts whose
-- switch is on, or else the last one; blanks stand for the others.
abbrev pub sign_step : Manner → List ℕ → Step
sign_step manner bs =
    if is_other_ahead bs && not (is_on manner.skips (switch_ahead bs)) then blanked Passed else shown 47 Sign

-- a byte at the head of a line, before a skip sign that counts
abbrev pub head_step : Manner → ℕ → List ℕ → Step
head_step manner b bs =
    if b == 10 then shown b Start
    else if b == 40 then shown b HeadNote
    else if is_gap b then shown b Head
    else if b == 47 then sign_step manner bs
    else front_step manner b bs

-- a byte at the start of a line, where what a control punches before a line is taken out; a carriage
-- return directly before a line feed stays
abbrev pub start_step : Manner → ℕ → List ℕ → Step
start_step manner b bs = if is_punch b && not (is_feed_ahead bs) then dropped Start else head_step manner b bs

-- a byte behind a skip sign that does not count
abbrev pub passed_step : Manner → ℕ → List ℕ → Step
passed_step manner b bs =
    if is_gap b then shown b Passed
    else if is_switch b then blanked Head
    else head_step manner b bs

-- a byte at the head of a line, behind the skip sign that counts
abbrev pub kept_step : Manner → ℕ → List ℕ → Step
kept_step manner b bs =
    if b == 10 then shown b Start
    else if b == 40 then shown b KeptNote
    else if is_gap b then shown b Kept
    else if b == 47 then blanked Extra
    else front_step manner b bs

-- a byte directly behind the skip sign that counts
abbrev pub switch_step : Manner → ℕ → List ℕ → Step
switch_step manner b bs =
    if is_gap b then shown b Sign
    else if is_switch b then shown b Kept
    else kept_step manner b bs

-- a byte behind a further skip sign
abbrev pub extra_step : Manner → ℕ → List ℕ → Step
extra_step manner b bs =
    if is_gap b then shown b Extra
    else if is_switch b then blanked Kept
    else kept_step manner b bs

-- a byte of a sequence number at the head of a block, or the one behind it
abbrev pub number_step : ℕ → List ℕ → Step
number_step b bs = if is_gap b || is_number_part b then shown b Number else block_step b bs

-- a byte of a sequence number that is not read, or the one behind it
abbrev pub long_step : ℕ → List ℕ → Step
long_step b bs = if is_gap b || is_ascii_digit b then blanked LongNumber else block_step b bs

-- what stands for a byte, and where the next one stands, by where the byte stands and what is behind
-- it
abbrev pub step : Manner → Spot → ℕ → List ℕ → Step
step manner Start b bs = start_step manner b bs
step manner Head b bs = head_step manner b bs
step manner HeadNote b bs = note_step HeadNote Head b
step manner Passed b bs = passed_step manner b bs
step manner Sign b bs = switch_step manner b bs
step manner Kept b bs = kept_step manner b bs
step manner KeptNote b bs = note_step KeptNote Kept b
step manner Extra b bs = extra_step manner b bs
step manner Number b bs = number_step b bs
step manner LongNumber b bs = long_step b bs
step manner Words b bs = word_step b bs
step manner WordNote b bs = note_step WordNote Words b
step manner LostNumber b bs = lost_step b bs
step manner Letter b bs = letter_step b bs
step manner Index b bs = index_step b bs
step manner Statement b bs = statement_step b
step manner Output b bs = output_step b
step manner NameNumber b bs = name_number_step b
step manner NameFirst b bs = replaced 49 Name
step manner Name b bs = name_step b
step manner LongName b bs = long_name_step b bs

-- the bytes that stand for a text, whose first byte stands at this spot
abbrev pub opened_from : Manner → Spot → List ℕ → List ℕ
opened_from manner spot [] = []
opened_from manner spot (b ∷ bs) =
    option_to_list (step manner spot b bs).byte ++ opened_from manner (step manner spot b bs).spot bs

-- where the byte behind b stands, if b stands outside comments (40 opens one, 79 is O)
abbrev pub text_behind : ℕ → Place
text_behind b =
    if b == 40 then Note
    else if to_ascii_uppercase b == 79 then BehindO
    else Text

-- where the byte behind b stands, by where b stands; a comment ends at 41 or at a line feed
abbrev pub place_behind : Place → ℕ → Place
place_behind Text b = text_behind b
place_behind BehindO b =
    if b == 40 then NoteBehindO
    else if is_gap b then BehindO
    else text_behind b
place_behind Note b = if b == 41 || b == 10 then Text else Note
place_behind NoteBehindO b = if b == 41 || b == 10 then BehindO else NoteBehindO

-- whether the byte is # (35) or [ (91) behind an O, as in a GOTO whose target is computed
abbrev pub is_computed : Place → ℕ → Bool
is_computed Text b = false
is_computed BehindO b = b == 35 || b == 91
is_computed Note b = false
is_computed NoteBehindO b = false

-- whether one of these bytes, outside comments, is # or [ behind an O, but for gaps and comments: so
-- each GOTO is written whose target is computed
abbrev pub has_computed : Place → List ℕ → Bool
has_computed place [] = false
has_computed place (b ∷ bs) = is_computed place b || has_computed (place_behind place b) bs

-- how the jumps of a text name their targets
abbrev pub jumps_of : List ℕ → Jumps
jumps_of text = if has_computed Text text then Computed else Written

-- whether a byte outside comments begins a call
abbrev pub calls_there : Place → ℕ → List ℕ → Bool
calls_there Text b bs = is_call b bs
calls_there BehindO b bs = is_call b bs
calls_there Note b bs = false
calls_there NoteBehindO b bs = false

-- whether one of these bytes, outside comments, begins a call
abbrev pub has_call : Place → List ℕ → Bool
has_call place [] = false
has_call place (b ∷ bs) = calls_there place b bs || has_call (place_behind place b) bs

-- whether a text calls programs
abbrev pub calls_of : List ℕ → Calls
calls_of text = if has_call Text text then Any else Never

-- the text as it is read for its waits alone; bit n of skips is switch n
abbrev pub opened_text : ℕ → List ℕ → List ℕ
opened_text skips text = opened_from (record { skips = skips; jumps = jumps_of text; calls = calls_of text }) Start text
