-- The text of a list of zones, line by line (src/lines.rt writes them).
use Rattle.std.specs.Prelude.{ℕ, ◌+◌, ◌==◌, Bool, not, List, [], ◌∷◌, ◌++◌, length, codes, decimal, if◌then◌else◌}
use Rattle.std.specs.List.{count_by}
use Rattle.nc_number.specs.declared.point.Point.{Point}
use Rattle.nc_number.specs.Printed.{length_text}
use Rattle.zone_area.specs.declared.area.Area.{Area}
use Rattle.zone_cell.specs.declared.cell.Zone.{Zone}

-- the edges along X of an area with these corners
unfoldable pub across_text : Point → Point → List ℕ
across_text low high = codes " X" ++ length_text low.x ++ codes " X" ++ length_text high.x

-- the edges along Z of an area with these corners
unfoldable pub along_text : Point → Point → List ℕ
along_text low high = codes " Z" ++ length_text low.z ++ codes " Z" ++ length_text high.z

-- the edges of an area: those along X, and then those along Z
unfoldable pub area_text : Area → List ℕ
area_text area = across_text area.low area.high ++ along_text area.low area.high

-- how the line of a zone ends: its areas are clear, or they are not
abbrev pub state_text : Bool → List ℕ
state_text clear = if clear then codes " clear\n" else codes " hit\n"

-- the line of a zone of this number
unfoldable pub zone_text : ℕ → Zone → List ℕ
zone_text number zone = decimal number ++ area_text zone.areas.one ++ area_text zone.areas.two ++ state_text zone.clear

-- the lines of zones, the first of which has this number
unfoldable pub zone_texts : ℕ → List Zone → List ℕ
zone_texts number [] = []
zone_texts number (zone ∷ zones) = zone_text number zone ++ zone_texts (number + 1) zones

-- the line before the zones: how many there are
unfoldable pub head_text : ℕ → List ℕ
head_text count = codes "zones " ++ decimal count ++ codes "\n"

-- the line after the zones: whether all are clear, or how many are not
unfoldable pub end_text : ℕ → List ℕ
end_text hits = if hits == 0 then codes "end clear\n" else (codes "end hit " ++ decimal hits ++ codes "\n")

-- how many zones are not clear
abbrev pub hits_of : List Zone → ℕ
hits_of zones = count_by (λ zone. not zone.clear) zones

-- the text of a list of zones
unfoldable pub list_text : List Zone → List ℕ
list_text zones = head_text (length zones) ++ (zone_texts 0 zones ++ end_text (hits_of zones))
