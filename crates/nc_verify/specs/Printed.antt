-- The line of a verdict as it is printed (src/writing.rt); and what it means that a text is put
-- into a sink, whole or up to a fault.
use Rattle.std.specs.Prelude.{◌≡◌, ◌≢◌, ℕ, ◌+◌, ◌/◌, ◌%◌, ◌^◌, ◌==◌, List, [], ◌++◌, take, Option, Some, None, Result, OnOk, OnErr, IsErrOf, codes, if◌then◌else◌}
use Rattle.nc_number.specs.declared.cause.Cause.{Cause}
use Rattle.nc_number.specs.declared.cause.Cause.TheVariants.{BadSetting, TooManyLabels, WaitMismatch}
use Rattle.nc_number.specs.Causes.{cause_number}
use Rattle.text_pieces.specs.Pieces.{name_text, text_with_number, place_text}
use Rattle.nc_outside.specs.declared.sink.PutFault.{PutFault}
use Rattle.nc_outside.specs.declared.sink.PutFault.TheVariants.{Failed}
use Rattle.nc_outside.specs.Faults.{CountsFault}
use Rattle.nc_outside.specs.Written.{SinkState, TellsOn, Writes}
use Rattle.nc_verify.specs.declared.refusal.Refusal.{Refusal}

-- this cause has this number; `None` says that no cause has it
abbrev pub IsCauseOf : ℕ → Option Cause → Type 0
IsCauseOf number None = (cause : Cause) → cause_number cause ≢ number
IsCauseOf number (Some cause) = cause_number cause ≡ number

-- of labels that differ, the line of path 2's label, and how many labels before are equal
unfoldable pub other_text : Refusal → List ℕ
other_text refusal = place_text 2 refusal.other ++ text_with_number (codes " after ") refusal.after

-- where the labels of the paths differ: the line of each, and how many labels before are equal
unfoldable pub mismatch_text : Refusal → List ℕ
mismatch_text refusal = place_text 1 refusal.line ++ other_text refusal

-- where a refusal of this cause is: a line of the settings, a path, two lines, or a path and a line
abbrev pub about_text : Option Cause → Refusal → List ℕ
about_text (Some BadSetting) refusal = text_with_number (codes " line ") refusal.line
about_text (Some TooManyLabels) refusal = text_with_number (codes " path ") refusal.path
about_text (Some WaitMismatch) refusal = mismatch_text refusal
about_text other refusal = place_text refusal.path refusal.line

-- a block-skip switch after a blank, if it is on: bit n is switch n
abbrev pub switch_text : ℕ → ℕ → List ℕ
switch_text switches n = if (switches / 2 ^ n) % 2 == 1 then text_with_number (codes " ") n else []

-- three switches, from n on
unfoldable pub switches_text : ℕ → ℕ → List ℕ
switches_text switches n = switch_text switches n ++ (switch_text switches (n + 1) ++ switch_text switches (n + 2))

-- the position of the nine switches at which a pair is refused: ` skip 1 3 on`; nothing if none is
-- on
unfoldable pub position_text : ℕ → List ℕ
position_text switches =
    if switches == 0 then []
    else codes " skip" ++ (switches_text switches 1 ++ (switches_text switches 4 ++ (switches_text switches 7 ++ codes " on")))

-- a refusal of this cause as a line: `refused 65 BranchAtWait path 1 line 3`
unfoldable pub refused_text : Option Cause → Refusal → List ℕ
refused_text cause refusal =
    text_with_number (codes "refused ") refusal.number ++ name_text cause ++ about_text cause refusal ++ position_text refusal.switches ++ codes "\n"

-- the line of a verdict, which is none or one refusal, is this text
abbrev pub IsVerdictText : Option Refusal → List ℕ → Type 0
IsVerdictText None text = text ≡ codes "accepted\n"
IsVerdictText (Some refusal) text =
    (cause : Option Cause) × IsCauseOf refusal.number cause × (text ≡ refused_text cause refusal)

-- The text was put behind what the sink held, or the sink failed behind a part of it, or memory ran
-- out.
pub record IsPut (old new : SinkState) (text : List ℕ) (result : Result (Unit {0}) PutFault) : Type 0 where
  -- after an Ok the whole text was added
  pub ok : OnOk result (Writes old new text)
  -- after an error a prefix of the text was added
  pub err : OnErr result ((n : ℕ) × Writes old new (take n text))
  -- the sink makes known what it holds afterwards exactly if it did so before
  pub tells : TellsOn old new
  -- the sink's count of faults rose exactly if it failed
  pub fault : CountsFault old.faults new.faults (IsErrOf result Failed)
