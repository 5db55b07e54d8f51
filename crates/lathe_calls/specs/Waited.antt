-- The meetings that are due to three texts read for their waits alone (`waits`). Due cites it.
use Rattle.std.specs.Prelude.{ℕ, List, Option, Some}
use Rattle.label_list.specs.declared.labelled.Labelled.{Labelled}
use Rattle.nc_verify.specs.declared.refusal.Refusal.{Refusal}
use Rattle.nc_verify.specs.Verdict.{Texts}
use Rattle.nc_verify.specs.Printed.{IsVerdictText}
use Rattle.open_order.specs.declared.outside.Outside.{Outside}
use Rattle.wait_verify.specs.Asked.{Asked}
use Rattle.wait_verify.specs.Printed.{waits_text}
use Rattle.open_order.specs.Trusted.{TrustView}
use Rattle.wait_verify.specs.Verdict.{Judged, IsTold, IsRefusalOf}
use Rattle.lathe_calls.specs.Answers.{Answer, tells, nothing}
use Rattle.lathe_calls.specs.Statuses as exit

-- the question that is asked of the texts: they, which programs are outside, and at first no free
-- block-skip switch on
abbrev pub asked_of : Option Outside → Texts → Asked
asked_of outside texts = record { texts = texts; outside = outside; position = 0 }

-- status 0 and the meetings of a pair that is accepted for its waits; status 1 and the line of a
-- refusal; nothing if memory runs out
pub data AreWaits (outside : Option Outside) (texts : Texts) : Answer → Type 0 where
  -- the pair is accepted for its waits
  told : {judged : Judged} {left right : List Labelled} {trust : TrustView} → IsTold (asked_of outside texts) judged left right trust
      → AreWaits outside texts (tells exit.done (waits_text left right trust))
  -- the pair is refused
  refused : {refusal : Refusal} {text : List ℕ} → IsRefusalOf (asked_of outside texts) refusal → IsVerdictText (Some refusal) text
      → AreWaits outside texts (tells exit.refused text)
  -- memory ran out
  unjudged : AreWaits outside texts nothing
