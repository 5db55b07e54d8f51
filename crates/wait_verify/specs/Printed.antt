-- The text that `waits` prints of an accepted pair: how often the paths meet, a line for each
-- meeting and for the end, the switches that change them, and what was taken on trust.
-- src/printing.rt makes it.
use Rattle.std.specs.Prelude.{ℕ, ◌-◌, nat_le, pos, List, [], ◌∷◌, ◌++◌, length, Option, Some, None, codes, decimal, if◌then◌else◌}
use Rattle.nc_number.specs.declared.limits.TheConstants.{LARGEST_MICRO}
use Rattle.nc_number.specs.Printed.{value_text}
use Rattle.block_order.specs.declared.label.Label.{Label}
use Rattle.block_order.specs.declared.label.Label.TheVariants.{Wait, End, Again, Off}
use Rattle.label_list.specs.declared.labelled.Labelled.{Labelled}
use Rattle.text_pieces.specs.Pieces.{text_with_number}
use Rattle.open_order.specs.declared.hanging.Hanging.{Hanging}
use Rattle.open_order.specs.Trusted.{TrustView, is_nothing}

-- A label as it is printed: a wait by its M code, or how the path ends.
abbrev pub label_text : Label → List ℕ
label_text (Wait code) = text_with_number (codes "M") code
label_text End = codes "end"
label_text Again = codes "again"
label_text Off = codes "off"

-- The line of a label that both paths come to: `M100 path 1 line 3 path 2 line 5`.
unfoldable pub meeting_text : Labelled → Labelled → List ℕ
meeting_text one two =
    label_text one.label ++ text_with_number (codes " path 1 line ") one.line ++ text_with_number (codes " path 2 line ") two.line ++ codes "\n"

-- A line for each label of both lists, as far as both go.
abbrev pub meetings_text : List Labelled → List Labelled → List ℕ
meetings_text [] right = []
meetings_text (one ∷ left) [] = []
meetings_text (one ∷ left) (two ∷ right) = meeting_text one two ++ meetings_text left right

-- A G code after a blank, from its value in 0.000001. A value above 99999999.999999, which no code
-- has, prints nothing.
abbrev pub geometry_text : ℕ → List ℕ
geometry_text micro = if nat_le micro LARGEST_MICRO then codes " G" ++ value_text (pos micro) else []

-- These G codes, each after a blank.
abbrev pub geometries_text : List ℕ → List ℕ
geometries_text [] = []
geometries_text (micro ∷ rest) = geometry_text micro ++ geometries_text rest

-- These numbers, each after the bytes `before`.
abbrev pub numbers_text : List ℕ → List ℕ → List ℕ
numbers_text before [] = []
numbers_text before (number ∷ rest) = before ++ decimal number ++ numbers_text before rest

-- The G codes, M codes and programs that were taken on trust, each after a blank.
abbrev pub codes_text : TrustView → List ℕ
codes_text trust =
    geometries_text trust.geometry ++ numbers_text (codes " M") trust.auxiliary ++ numbers_text (codes " O") trust.programs

-- The line `goes on ..` of what was taken on trust; no line if nothing was.
abbrev pub trust_text : TrustView → List ℕ
trust_text trust = if is_nothing trust then [] else codes "goes on" ++ codes_text trust ++ codes "\n"

-- The line `waits 4`: how often the paths meet. Each label but the last is a wait.
abbrev pub head_text : List Labelled → List ℕ
head_text left = text_with_number (codes "waits ") (length left - 1) ++ codes "\n"

-- The line of a tape after these bytes, if there is one.
abbrev pub line_text : List ℕ → Option ℕ → List ℕ
line_text before None = []
line_text before (Some line) = text_with_number before line

-- The line of a block-skip switch that changes waits or ends: `skip 1 path 1 line 27 path 2 line
-- 20`.
unfoldable pub hanging_text : Hanging → List ℕ
hanging_text hanging =
    text_with_number (codes "skip ") hanging.switch ++ line_text (codes " path 1 line ") hanging.one
    ++ line_text (codes " path 2 line ") hanging.two ++ codes "\n"

-- A line for each of these switches.
abbrev pub hangings_text : List Hanging → List ℕ
hangings_text [] = []
hangings_text (hanging ∷ rest) = hanging_text hanging ++ hangings_text rest

-- The text of an accepted pair.
unfoldable pub waits_text : List Labelled → List Labelled → TrustView → List ℕ
waits_text left right trust =
    head_text left ++ meetings_text left right ++ hangings_text trust.switches ++ trust_text trust
