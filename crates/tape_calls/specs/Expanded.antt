-- What is due to a tape whose roughing cycles are to be written out: the status and the text. How
-- they are written out is in tape_expand.
use Rattle.std.specs.Prelude.{◌≡◌, ℕ, List, ◌++◌, codes, Option, Ok, Err}
use Rattle.nc_number.specs.declared.cause.Cause.{Cause}
use Rattle.text_pieces.specs.Pieces.{name_text, text_with_number}
use Rattle.nc_verify.specs.Printed.{IsCauseOf}
use Rattle.tape_expand.specs.declared.fault.ExpandFault.{ExpandFault}
use Rattle.tape_expand.specs.Expansion.{expansion_of, parts_in, AreClearParts}
use Rattle.tape_expand.specs.Faults.{expand_line, expand_number}
use Rattle.lathe_calls.specs.Answers.{Answer, tells, nothing}
use Rattle.lathe_calls.specs.Statuses as exit

-- A refusal as a line of output, as `refused 93 BadCycle line 5`.
unfoldable pub refusal_text : Option Cause → ExpandFault → List ℕ
refusal_text cause fault =
    ((text_with_number (codes "refused ") (expand_number fault) ++ name_text cause) ++ text_with_number (codes " line ") (expand_line fault)) ++ codes "\n"

-- This text is the line of the refusal, with the name of the cause that has its number.
abbrev pub IsRefusalText : ExpandFault → List ℕ → Type 0
IsRefusalText fault text = (cause : Option Cause) × IsCauseOf (expand_number fault) cause × (text ≡ refusal_text cause fault)

-- Status 0 and the tape with its roughing cycles written out, where no move of a cycle's blocks
-- lies inside its contour; status 1 and the line of the refusal; or no text, if memory ran out.
pub data IsExpanded (text : List ℕ) : Answer → Type 0 where
  -- the text with its cycles written out
  expanded : {bytes : List ℕ} → expansion_of text ≡ Ok bytes → AreClearParts (parts_in text) → IsExpanded text (tells exit.done bytes)
  -- the tape is refused
  refused : {fault : ExpandFault} {line : List ℕ} → expansion_of text ≡ Err fault → IsRefusalText fault line
      → IsExpanded text (tells exit.refused line)
  -- memory ran out
  unexpanded : IsExpanded text nothing

-- The answer is status 1 and the line of this refusal.
abbrev pub IsTapeRefusing : ExpandFault → Answer → Type 0
IsTapeRefusing fault answer = (text : List ℕ) × IsRefusalText fault text × (answer ≡ tells exit.refused text)
