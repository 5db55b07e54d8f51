-- Lines that lead to positions do so with one more that does. For `push_said` (src/run.rt).
use Rattle.std.proofs.Common.{◌++◌, [], List, All, Option, Some, None}
use Rattle.std.proofs.lemmas.List.Elements.{All-nil, All-cons, All-append}
use Rattle.nose_words.specs.declared.said.NoseLine.{NoseLine}
use Rattle.nose_words.specs.Said.{LeadsToPosition, LeadThere}
use Rattle.nose_words.specs.Run.{lines_of_said}

-- what a block says leads there
said_leads : (line : Option NoseLine) → LeadThere line → All LeadsToPosition (lines_of_said line)
said_leads None there = All-nil LeadsToPosition
said_leads (Some line) there = All-cons LeadsToPosition line [] there (All-nil LeadsToPosition)

pub lead_on : (lines : List NoseLine) (line : Option NoseLine) → All LeadsToPosition lines → LeadThere line
    → All LeadsToPosition (lines ++ lines_of_said line)
lead_on lines line before there =
    All-append LeadsToPosition lines (lines_of_said line) before (said_leads line there)
