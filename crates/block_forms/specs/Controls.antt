-- What a block that reads does to the order of blocks.
use Rattle.std.specs.Prelude.{ℕ, ◌/◌, ◌%◌, nat_le, Bool, true, ◌&&◌, ◌||◌, List, Option, Some, None, codes, if◌then◌else◌}
use Rattle.nc_number.specs.declared.limits.TheConstants.{LAST_SEQUENCE}
use Rattle.block_order.specs.declared.control.Control.{Control}
use Rattle.block_order.specs.declared.control.Control.TheVariants as control
use Rattle.macro_expr.specs.Tree.{Aim, ToNumber, ToNumberOf, Sentence, Assign, Goto, IfGoto, IfThen, WhileDo, DoOnly, EndLoop}
use Rattle.block_words.specs.declared.word.FlowWord.{FlowWord}
use Rattle.block_words.specs.declared.dialect.Dialect.{Dialect}
use Rattle.block_words.specs.declared.purpose.Purpose.{Purpose}
use Rattle.block_words.specs.declared.purpose.Purpose.TheVariants.{MacroCall, Subprogram, Return, Wait, Dwell, Setting, Other}
use Rattle.block_words.specs.Words.{last_whole}
use Rattle.block_words.specs.Codes.{natural_number, m_codes, has_code, is_waiting, first_waiting, purpose_of}

-- The number that the last word of these letters says, if it is written out, whole and not below 0.
abbrev pub number_of : List ℕ → List FlowWord → Option ℕ
number_of letters words = natural_number (last_whole letters words)

-- The number that is said, or the given one if there is none.
abbrev pub or_number : ℕ → Option ℕ → ℕ
or_number n None = n
or_number n (Some own) = own

-- The repeats of a call: L, or once.
abbrev pub repeats_of : List FlowWord → ℕ
repeats_of words = or_number 1 (number_of (codes "L") words)

-- The call that a P says: of more than four digits it has the repeats before the program's four
-- digits, else they are given apart.
abbrev pub call_of_p : ℕ → ℕ → Control
call_of_p p repeats = if nat_le 10000 p then control.Call (p % 10000) (p / 10000) else control.Call p repeats

-- M99: back to a sequence number, or without one to the call.
abbrev pub back_to : Option ℕ → Control
back_to None = control.Back
back_to (Some n) = control.BackTo n

-- A wait of this code. Without a code it is the next block, but each block that waits has one.
abbrev pub wait_at : Option ℕ → Control
wait_at None = control.Next
wait_at (Some code) = control.Wait code

-- The end of the path, if the block has M02 or M30; else the next block.
abbrev pub end_or_next : List FlowWord → Control
end_or_next words = if has_code 2 words || has_code 30 words then control.End else control.Next

-- What a block of this purpose does to the order of blocks.
abbrev pub control_by : Purpose → Dialect → List FlowWord → Control
control_by MacroCall dialect words = control.Call (or_number 0 (number_of (codes "P") words)) (repeats_of words)
control_by Subprogram dialect words = call_of_p (or_number 0 (number_of (codes "P") words)) (repeats_of words)
control_by Return dialect words = back_to (number_of (codes "P") words)
control_by Wait dialect words = wait_at (first_waiting dialect (m_codes words))
control_by Dwell dialect words = end_or_next words
control_by Setting dialect words = end_or_next words
control_by Other dialect words = end_or_next words

-- The control of a block of words that is not refused.
abbrev pub control_of_words : Dialect → List FlowWord → Control
control_of_words dialect words = control_by (purpose_of dialect words) dialect words

-- The sequence number of a jump that is written out, or none of a computed one.
abbrev pub number_of_aim : Aim → Option ℕ
number_of_aim (ToNumber n) = Some n
number_of_aim (ToNumberOf tree) = None

-- What a statement does to the order of blocks.
abbrev pub control_of_sentence : Sentence → Control
control_of_sentence (Assign name tree) = control.Next
control_of_sentence (Goto aim) = control.Goto (number_of_aim aim)
control_of_sentence (IfGoto test aim) = control.Goto (number_of_aim aim)
control_of_sentence (IfThen test name tree) = control.Next
control_of_sentence (WhileDo test name) = control.While name
control_of_sentence (DoOnly name) = control.Do name
control_of_sentence (EndLoop name) = control.EndLoop name

-- The sequence number of a jump is up to 99,999; a computed one is known in the run alone.
abbrev pub is_sequence : Option ℕ → Bool
is_sequence None = true
is_sequence (Some n) = nat_le n LAST_SEQUENCE

-- A control that a block may have: loops are 1, 2 and 3; sequence numbers end at 99,999; a call is
-- of program 0 to 9,999, of which 0 is on no tape, and repeats 1 to 9,999 times.
abbrev pub is_allowed : Control → Bool
is_allowed control.Next = true
is_allowed (control.Goto target) = is_sequence target
is_allowed (control.While name) = nat_le 1 name && nat_le name 3
is_allowed (control.Do name) = nat_le 1 name && nat_le name 3
is_allowed (control.EndLoop name) = nat_le 1 name && nat_le name 3
is_allowed (control.Wait code) = true
is_allowed control.End = true
is_allowed (control.Call program repeats) = nat_le program 9999 && (nat_le 1 repeats && nat_le repeats 9999)
is_allowed control.Back = true
is_allowed (control.BackTo n) = nat_le n LAST_SEQUENCE

-- If the control is a wait, its code is one of the waiting codes.
abbrev pub waits_by_a_code : Dialect → Control → Bool
waits_by_a_code dialect (control.Wait code) = is_waiting dialect code
waits_by_a_code dialect _ = true
