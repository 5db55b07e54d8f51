-- What is due to a tape that is to be written out in the language that the control runs: the status
-- and the text. How it is written out is in tape_plain.
use Rattle.std.specs.Prelude.{◌≡◌, ℕ, List, [], ◌∷◌, ◌++◌, codes, Option, Some, None, Ok, Err}
use Rattle.nc_number.specs.declared.cause.Cause.{Cause}
use Rattle.text_pieces.specs.Pieces.{name_text, text_with_number}
use Rattle.nc_verify.specs.Printed.{IsCauseOf}
use Rattle.plain_form.specs.Causes.{cause_name, cause_letter}
use Rattle.plain_form.specs.declared.cause.PlainCause.{PlainCause}
use Rattle.tape_plain.specs.declared.fault.PlainTapeFault.{PlainTapeFault}
use Rattle.tape_plain.specs.declared.fault.PlainTapeFault.TheVariants.{BadSetting, Unreadable, NotPlain, TooLarge}
use Rattle.tape_plain.specs.Faults.{plain_line, plain_number}
use Rattle.tape_plain.specs.Plain.{plain_text}
use Rattle.lathe_calls.specs.Answers.{Answer, tells, nothing}
use Rattle.lathe_calls.specs.Statuses as exit
use Rattle.tape_calls.specs.Texts.{TapeView}

-- the letter of a word at fault, with a blank before it; 32 is the blank
abbrev pub letter_text : Option ℕ → List ℕ
letter_text None = []
letter_text (Some letter) = 32 ∷ letter ∷ []

-- why a block is not written out, by its name and the letter of the word at fault
abbrev pub named_text : PlainCause → List ℕ
named_text cause = (codes " " ++ cause_name cause) ++ letter_text (cause_letter cause)

-- why a block is not written out, if that is why the tape is refused
abbrev pub cause_text : PlainTapeFault → List ℕ
cause_text (NotPlain fault) = named_text fault.cause
cause_text other = []

-- A refusal as a line of output, as `refused 96 NotPlain line 5 Missing P`.
unfoldable pub plain_refusal_text : Option Cause → PlainTapeFault → List ℕ
plain_refusal_text cause fault =
    text_with_number (codes "refused ") (plain_number fault)
    ++ (name_text cause ++ (text_with_number (codes " line ") (plain_line fault) ++ (cause_text fault ++ codes "\n")))

-- This text is the line of the refusal, with the name of the cause that has its number.
abbrev pub IsPlainRefusalText : PlainTapeFault → List ℕ → Type 0
IsPlainRefusalText fault text = (cause : Option Cause) × IsCauseOf (plain_number fault) cause × (text ≡ plain_refusal_text cause fault)

-- Status 0 and the tape in the language that the control runs; status 1 and the line of the refusal;
-- or no text, if memory ran out.
pub data IsPlained (texts : TapeView) : Answer → Type 0 where
  -- the text of the tape, written out
  plained : {bytes : List ℕ} → plain_text texts.settings texts.tape ≡ Ok bytes → IsPlained texts (tells exit.done bytes)
  -- the settings or the tape are refused
  not_plained : {fault : PlainTapeFault} {line : List ℕ} → plain_text texts.settings texts.tape ≡ Err fault
      → IsPlainRefusalText fault line → IsPlained texts (tells exit.refused line)
  -- memory ran out
  unplained : IsPlained texts nothing

-- The answer is status 1 and the line of this refusal.
abbrev pub IsPlainRefusing : PlainTapeFault → Answer → Type 0
IsPlainRefusing fault answer = (text : List ℕ) × IsPlainRefusalText fault text × (answer ≡ tells exit.refused text)
