-- The block-skip switches on which the waits or the end of a path depend: the lists of labels at all
-- positions, compared. src/hangings.rt answers these.
use Rattle.std.specs.Prelude.{ℕ, zero, suc, ◌^◌, Bool, ◌||◌, ◌==◌, List, [], ◌∷◌, ◌++◌, Option, Some, None, is_some, bit_or, if◌then◌else◌}
use Rattle.nc_number.specs.declared.path.Path.{Path}
use Rattle.nc_number.specs.declared.path.Path.TheVariants.{One, Two}
use Rattle.label_list.specs.declared.labelled.Labelled.{Labelled}
use Rattle.open_order.specs.declared.hanging.Hanging.{Hanging}
use Rattle.wait_verify.specs.declared.standing.Standing.{Standing}

-- the labels of a path at a position
abbrev pub labels_of : Path → Standing → List Labelled
labels_of One standing = standing.one
labels_of Two standing = standing.two

-- the line of the first label of which another list of the path has none at that place, or one of
-- another line
abbrev pub first_change : List Labelled → List Labelled → Option ℕ
first_change [] [] = None
first_change [] (other ∷ others) = Some other.line
first_change (own ∷ rest) [] = Some own.line
first_change (own ∷ rest) (other ∷ others) = if own.line == other.line then first_change rest others else Some own.line

-- the first line, or else the other one
abbrev pub or_later : Option ℕ → Option ℕ → Option ℕ
or_later (Some line) later = Some line
or_later None later = later

-- the first change of a path's list from a position to the one with these switches, if that is
-- among these
abbrev pub change_from : Path → Standing → ℕ → List Standing → Option ℕ
change_from path own switches [] = None
change_from path own switches (other ∷ rest) =
    if other.switches == switches then first_change (labels_of path own) (labels_of path other)
    else change_from path own switches rest

-- the first change of a path's list that a switch makes, from one of these positions to the same
-- with the switch, among all
abbrev pub change_in : Path → ℕ → List Standing → List Standing → Option ℕ
change_in path switch all [] = None
change_in path switch all (own ∷ rest) =
    or_later (change_from path own (bit_or own.switches (2 ^ switch)) all) (change_in path switch all rest)

-- what a switch changes at these positions
abbrev pub hanging_of : List Standing → ℕ → Hanging
hanging_of all switch = record { switch = switch; one = change_in One switch all all; two = change_in Two switch all all }

-- whether the switch changes the list of a path
abbrev pub hangs : Hanging → Bool
hangs hanging = is_some hanging.one || is_some hanging.two

-- the switches from 1 to a number that change a list
abbrev pub hangings_to : ℕ → List Standing → List Hanging
hangings_to zero all = []
hangings_to (suc n) all = hangings_to n all ++ (if hangs (hanging_of all (suc n)) then hanging_of all (suc n) ∷ [] else [])
