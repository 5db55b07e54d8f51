-- Looking up a code in a table, and of the codes of a block the one that counts: what the functions
-- of src/table.rt and src/row.rt answer.
use Rattle.std.specs.Prelude.{ℕ, Bool, true, false, ◌&&◌, ◌||◌, not, ◌==◌, nat_le, List, [], ◌∷◌, Option, Some, None, unwrap_or, find, filter}
use Rattle.std.specs.List.{list_any, list_all, filter_map}
use Rattle.std.specs.Option.{option_map, option_map_or}
use Rattle.code_tables.specs.declared.row.Row.{Row}
use Rattle.code_tables.specs.declared.group.TheConstants.{WORK_GROUP, FIRST_WORK_CODE, LAST_WORK_CODE}

-- whether each code has one row alone: no later row has it again
abbrev pub codes_stand_once : List Row → Bool
codes_stand_once [] = true
codes_stand_once (row ∷ rows) = not (list_any (λ later. later.code == row.code) rows) && codes_stand_once rows

-- the row of a code, if the table has one
abbrev pub row_of : List Row → ℕ → Option Row
row_of rows code = find (λ row. row.code == code) rows

-- whether the code has a row, and that is of the group
abbrev pub is_of_group : List Row → ℕ → ℕ → Bool
is_of_group rows group code = option_map_or (λ row. row.group == group) (row_of rows code) false

-- the last item of a list, and none of an empty one
abbrev pub last_of : {X : Type 0} → List X → Option X
last_of [] = None
last_of (x ∷ xs) = Some (unwrap_or (last_of xs) x)

-- of these rows, the last one of the group
abbrev pub last_of_group : List Row → ℕ → Option Row
last_of_group rows group = last_of (filter (λ row. row.group == group) rows)

-- the rows of a block's codes, in the block's order; a code that the table lacks has none
abbrev pub rows_of : List Row → List ℕ → List Row
rows_of rows codes = filter_map (row_of rows) codes

-- of the codes of a block, the last one whose row is of the group
abbrev pub last_code_of_group : List Row → List ℕ → ℕ → Option ℕ
last_code_of_group rows codes group = option_map (λ row. row.code) (last_of_group (rows_of rows codes) group)

-- whether the code is one of G54 to G59
abbrev pub is_work_code : ℕ → Bool
is_work_code code = nat_le FIRST_WORK_CODE code && nat_le code LAST_WORK_CODE

-- whether each row of the work group is of a code that names a work offset
abbrev pub names_work_offsets : List Row → Bool
names_work_offsets rows = list_all (λ row. not (row.group == WORK_GROUP) || is_work_code row.code) rows
