-- The text of a machine, the answer to `state`: of each path where it stands and what it holds,
-- then what both share.
use Rattle.std.specs.Prelude.{◌≡◌, ℕ, ◌+◌, ◌-◌, ◌≤◌, ◌<◌, ◌==◌, Bool, ◌&&◌, if◌then◌else◌, List, [], ◌∷◌, ◌++◌, length, Option, Some, None, unsigned_abs, codes, decimal}
use Rattle.std.specs.List.{flat_map}
use Rattle.nc_number.specs.declared.point.TheConstants.{TOOL_OFFSETS}
use Rattle.nc_number.specs.Path.{is_same}
use Rattle.nc_number.specs.declared.path.Path.{Path}
use Rattle.nc_number.specs.declared.path.Path.TheVariants.{One, Two}
use Rattle.nc_number.specs.declared.point.Point.{Point}
use Rattle.nc_number.specs.declared.value.Var.{Var}
use Rattle.nc_number.specs.declared.value.Var.TheVariants.{Vacant, Is}
use Rattle.nc_number.specs.Printed.{value_text, last_digits}
use Rattle.nc_number.specs.Both.{of_path}
use Rattle.nc_moves.specs.declared.alarm.Alarm.{Alarm}
use Rattle.code_tables.specs.declared.group.TheConstants.{MOTION_GROUP, SPINDLE_GROUP, ABSOLUTE_GROUP, FEED_GROUP, UNIT_GROUP, NOSE_GROUP, WORK_GROUP}
use Rattle.common_vars.specs.Common.{value_of}
use Rattle.common_vars.specs.Writes.{value_after}
use Rattle.local_levels.specs.Stack.{local}
use Rattle.modal_state.specs.Modal.{ModalView, code_of}
use Rattle.offset_store.specs.Table.{offset_at}
use Rattle.run_records.specs.Entries.{Entry}
use Rattle.cell_settings.specs.declared.settings.Settings.{Settings}
use Rattle.path_state.specs.View.{Fixed, PathView}
use Rattle.path_state.specs.Looks.{is_shared}
use Rattle.two_path.specs.Machine.{Part, MachineView, without_reads}
use Rattle.two_path.specs.Turns.{Blocks, Tapes}
use Rattle.two_path.specs.Histories.{fold, IsLegal}
use Rattle.move_list.specs.declared.condition.Condition.{Condition}
use Rattle.move_list.specs.declared.listing.Listing.{Listing}
use Rattle.move_list.specs.declared.listing.Listing.TheVariants.{Work, Geometry, Wear, Locals, OwnHundreds, OwnUpper, SharedHundreds, SharedUpper}
use Rattle.text_pieces.specs.Pieces.{code_text, path_name, point_text}
use Rattle.move_list.specs.Pieces.{each_from}
use Rattle.move_list.specs.EndText.{records_text}

-- the machine `m` is the fold of a legal history from the machine `start` on, but for what
-- unfinished blocks have read
pub record IsMachineOf (tapes : Tapes) (start m : MachineView) : Type 0 where
  -- the records of that history
  pub entries : List Entry
  -- the records are those of turns and edits from the start on
  pub legal : IsLegal tapes start entries
  -- doing them again gives the machine
  pub folds : fold tapes start entries ≡ without_reads m

-- a path shares as many variables as the settings say
pub record SharesAs (settings : Settings) (fixed : Fixed) : Type 0 where
  -- as many from #100 on
  pub hundreds : fixed.shared100 ≡ settings.shared100
  -- as many from #500 on
  pub upper : fixed.shared500 ≡ settings.shared500

-- how a path stands that has not ended, without an alarm: it waits at this code, or is ready for
-- its block
abbrev pub condition_at_wait : Option ℕ → Condition
condition_at_wait None = Condition.Ready
condition_at_wait (Some code) = Condition.Waiting code

-- how a path stands: after an alarm it raised it, has ended or was stopped; without one it has
-- ended, waits or is ready
abbrev pub condition_of : Path → Option Alarm → Part → Condition
condition_of path (Some alarm) part =
    if is_same alarm.path path then Condition.Alarm
    else if part.finished then Condition.Finished else Condition.Stopped
condition_of path None part = if part.finished then Condition.Finished else condition_at_wait part.waiting

-- the word for how a path stands, and for a wait its code
unfoldable pub condition_text : Condition → List ℕ
condition_text Condition.Ready = codes "ready"
condition_text (Condition.Waiting code) = codes "waiting " ++ code_text code
condition_text Condition.Finished = codes "finished"
condition_text Condition.Alarm = codes "alarm"
condition_text Condition.Stopped = codes "stopped"

-- what F or S set last: vacant, or its value
unfoldable pub var_text : Var → List ℕ
var_text Vacant = codes "vacant"
var_text (Is value) = value_text value

-- a code in force; nothing for a group that the system lacks
unfoldable pub in_force_text : Option ℕ → List ℕ
in_force_text None = []
in_force_text (Some code) = codes " G" ++ code_text code

-- the code in force of a modal group
abbrev pub group_text : ModalView → ℕ → List ℕ
group_text modal group = in_force_text (code_of modal group)

-- the codes in force of all modal groups; system A has none of absolute and incremental words
unfoldable pub groups_text : ModalView → List ℕ
groups_text modal =
    group_text modal MOTION_GROUP ++ group_text modal SPINDLE_GROUP ++ group_text modal ABSOLUTE_GROUP
    ++ group_text modal FEED_GROUP ++ group_text modal UNIT_GROUP ++ group_text modal NOSE_GROUP
    ++ group_text modal WORK_GROUP

-- the line of the codes in force
unfoldable pub modal_text : ModalView → List ℕ
modal_text modal = codes "modal" ++ groups_text modal ++ codes "\n"

-- what F, S and T set last
unfoldable pub words_text : ModalView → List ℕ
words_text modal =
    codes "feed " ++ var_text modal.feed ++ codes " speed " ++ var_text modal.speed
    ++ codes " tool T" ++ last_digits 4 modal.tool ++ codes "\n"

-- the line of where a path stands on its tape, and how it stands
unfoldable pub place_text : Path → ℕ → Condition → List ℕ
place_text path line condition =
    path_name path ++ codes " line " ++ decimal line
    ++ codes " " ++ condition_text condition ++ codes "\n"

-- the line of where the path's turret stands, in machine coordinates
unfoldable pub position_text : Point → List ℕ
position_text at = codes "at" ++ point_text at ++ codes "\n"

-- the line of how many calls are open
unfoldable pub depth_text : ℕ → List ℕ
depth_text depth = codes "depth " ++ decimal depth ++ codes "\n"

-- the lines that each path always has: where it stands, where its turret stands, what is in force,
-- and how many calls are open
unfoldable pub standing_text : Path → ℕ → Condition → PathView → List ℕ
standing_text path line condition p =
    place_text path line condition ++ position_text p.position ++ modal_text p.modal ++ words_text p.modal
    ++ depth_text (length p.place - 1)

-- the offset is 0 in both axes
abbrev pub is_zero : Point → Bool
is_zero at = (unsigned_abs at.x == 0) && (unsigned_abs at.z == 0)

-- the line of an offset, or nothing if it is 0 in both axes
unfoldable pub offset_line : List ℕ → ℕ → Point → List ℕ
offset_line name n at = if is_zero at then [] else name ++ decimal n ++ point_text at ++ codes "\n"

-- the line of a variable, or nothing if it is vacant
unfoldable pub variable_line : List ℕ → ℕ → Var → List ℕ
variable_line name v Vacant = []
variable_line name v (Is value) = name ++ decimal v ++ codes " " ++ value_text value ++ codes "\n"

-- the line of a common variable of the path's own, or nothing if it is vacant or shared
abbrev pub own_line : PathView → ℕ → List ℕ
own_line p v = if is_shared p.fixed v then [] else variable_line (codes "own #") v (value_of v p.own)

-- the line of a variable that both paths share, or nothing if it is vacant or not shared
abbrev pub shared_line : MachineView → ℕ → List ℕ
shared_line m v =
    if is_shared m.paths.one.path.fixed v then variable_line (codes "shared #") v (value_after m.count v m.writes) else []

-- the line of a number of a listing, of a path or of what both share; nothing if its offset is 0 in
-- both axes, its variable is vacant, or the number is shared in the listing of a path's own, or not
-- shared in that of both
abbrev pub line_of : MachineView → PathView → Listing → ℕ → List ℕ
line_of m p Work n = offset_line (codes "work ") n (offset_at p.offsets.work n)
line_of m p Geometry n = offset_line (codes "geometry ") n (offset_at p.offsets.geometry n)
line_of m p Wear n = offset_line (codes "wear ") n (offset_at p.offsets.wear n)
line_of m p Locals n = variable_line (codes "local #") n (local n p.levels)
line_of m p OwnHundreds n = own_line p n
line_of m p OwnUpper n = own_line p n
line_of m p SharedHundreds n = shared_line m n
line_of m p SharedUpper n = shared_line m n

-- the first number of a listing: of a work offset, a tool offset or a variable
abbrev pub first_of : Listing → ℕ
first_of Work = 0
first_of Geometry = 1
first_of Wear = 1
first_of Locals = 1
first_of OwnHundreds = 100
first_of OwnUpper = 500
first_of SharedHundreds = 100
first_of SharedUpper = 500

-- How many numbers a listing has: the external work offset and G54 to G59, the tool offsets, #1 to
-- #33 (`LOCALS` of local_levels), or the 100 variables from #100 or the 500
-- from #500 on, as common_vars has them.
abbrev pub count_of : Listing → ℕ
count_of Work = 7
count_of Geometry = TOOL_OFFSETS
count_of Wear = TOOL_OFFSETS
count_of Locals = 33
count_of OwnHundreds = 100
count_of OwnUpper = 500
count_of SharedHundreds = 100
count_of SharedUpper = 500

-- the number is one of the listing
abbrev pub IsListed : Listing → ℕ → Type 0
IsListed listing n = (first_of listing ≤ n) × (n < first_of listing + count_of listing)

-- the lines of a listing
abbrev pub listing_text : MachineView → PathView → Listing → List ℕ
listing_text m p listing = each_from (line_of m p listing) (first_of listing) (count_of listing)

-- the lines of several listings, in order
unfoldable pub listings_text : MachineView → PathView → List Listing → List ℕ
listings_text m p listings = flat_map (listing_text m p) listings

-- the listings of each path, in order
abbrev pub path_listings : List Listing
path_listings = Work ∷ Geometry ∷ Wear ∷ Locals ∷ OwnHundreds ∷ OwnUpper ∷ []

-- the listings of what both paths share, in order
abbrev pub shared_listings : List Listing
shared_listings = SharedHundreds ∷ SharedUpper ∷ []

-- the lines that a path of the machine always has
abbrev pub standing_of : Blocks → Path → MachineView → List ℕ
standing_of blocks path m =
    let part = of_path m.paths path in
    standing_text path (blocks.line part.path.place) (condition_of path m.alarm part) part.path

-- the lines of a path: its standing, and what its listings have
unfoldable pub path_lines : Blocks → Path → MachineView → List ℕ
path_lines blocks path m = standing_of blocks path m ++ listings_text m (of_path m.paths path).path path_listings

-- the lines of what both paths share, and of how many records there are
unfoldable pub shared_lines : MachineView → List ℕ
shared_lines m = listings_text m m.paths.one.path shared_listings ++ records_text m.count

-- the text of a machine: path 1, path 2, what both share
unfoldable pub state_text : Tapes → MachineView → List ℕ
state_text tapes m = path_lines tapes.one One m ++ (path_lines tapes.two Two m ++ shared_lines m)
