-- What `zones` does over the text of its file alone: it asks the journal.
-- What a zone is, and how it is printed, is in zone_cell and lathe_looks.
-- What `top` promises is said in it; no other crate takes it.
use Rattle.std.specs.Prelude.{◌≡◌, ℕ, List, Ok, Err}
use Rattle.zone_cell.specs.declared.plan.Plan.{Plan}
use Rattle.zone_cell.specs.Plans.{plan_of}
use Rattle.lathe_calls.specs.Answers.{Answer, tells, nothing}
use Rattle.lathe_calls.specs.Statuses as exit
use Rattle.lathe_looks.specs.Shown.{IsShown}
use Rattle.lathe_looks.specs.Zoned.{IsPlanned}
use Rattle.zone_calls.specs.Zoned.{bad_zone_text}
use Rattle.lathe_top.specs.Kept.{RestsWhole}
use Rattle.lathe_top.specs.Lathe.{LatheState, AreAtRest}

-- What `zones` answers over the text of its file. Either status 1 and the first line that is not
-- allowed, or nothing if memory runs out, and then the disk was not called. Or what is due to the
-- run on the disk by what the text asks for. No turret is called.
pub data IsZoned (old new : LatheState) (text : List ℕ) : Answer → Type 0 where
  -- a line of the text is no entry of zones
  bad_zones : {line : ℕ} → plan_of text ≡ Err line → RestsWhole old new → IsZoned old new text (tells exit.refused (bad_zone_text line))
  -- memory ran out while the text was read
  unread_zones : RestsWhole old new → IsZoned old new text nothing
  -- what is due to the run on the disk by what the text asks for
  zoned : {plan : Plan} {answer : Answer} → plan_of text ≡ Ok plan → IsShown (IsPlanned plan) old.disk new.disk answer
      → AreAtRest old new → IsZoned old new text answer
