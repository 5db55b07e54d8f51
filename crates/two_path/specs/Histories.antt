-- Runs and histories: any list of events, its records, and which lists of records are legal. On the
-- legal lists, and their fold, rest the journal and each restart from it.
use Rattle.std.specs.Prelude.{◌≡◌, ℕ, ◌+◌, ◌≤◌, ◌⊎◌, Bool, true, false, ◌||◌, List, [], ◌∷◌, ◌++◌, length, take, map, Option, Some, None, is_some, if◌then◌else◌}
use Rattle.nc_number.specs.declared.path.Path.{Path}
use Rattle.nc_number.specs.declared.path.Path.TheVariants.{One, Two}
use Rattle.nc_number.specs.Path.{is_same}
use Rattle.nc_number.specs.declared.value.Var.{Var}
use Rattle.nc_number.specs.declared.value.Var.TheVariants.{Vacant}
use Rattle.nc_number.specs.Both.{of_path}
use Rattle.common_vars.specs.declared.links.Write.{Write}
use Rattle.common_vars.specs.Writes.{value_after}
use Rattle.run_records.specs.Entries.{Entry, edit_of}
use Rattle.run_records.specs.declared.edit.Edit.{Edit}
use Rattle.run_records.specs.declared.entry.EntryKind.{EntryKind}
use Rattle.run_records.specs.declared.entry.EntryKind.TheVariants.{Did, Arrived, Met, Ended, Alarmed, Edited}
use Rattle.path_state.specs.View.{PathView}
use Rattle.path_state.specs.Effect.{Effect, Need}
use Rattle.two_path.specs.Machine.{Part, MachineView, own_first, without_reads}
use Rattle.two_path.specs.Turns.{Blocks, Tapes, own_turn, turn_of, kind_of, entry_of}
use Rattle.two_path.specs.Edits.{behind_edit, behind_edit_of, edit_entry, unless_alarm}

-- an event of the machine
pub data Event : Type 0 where
  -- a turn of a path
  TurnOf : (path : Path) → Event
  -- an operator's edit of a path
  EditOf : (path : Path) (edit : Edit) → Event

-- the turns of these paths, in order
abbrev pub turns_of : List Path → List Event
turns_of paths = map TurnOf paths

-- the machine behind an event; an edit does nothing to a machine that an alarm has stopped
abbrev pub behind_event : Tapes → Event → MachineView → MachineView
behind_event tapes (TurnOf path) m = (turn_of tapes path m).machine
behind_event tapes (EditOf path edit) m = unless_alarm m.alarm m (behind_edit_of path edit m)

-- a list of this record, or an empty one
abbrev pub list_of : Option Entry → List Entry
list_of None = []
list_of (Some entry) = entry ∷ []

-- the records of an event: one, or none
abbrev pub records_of : Tapes → Event → MachineView → List Entry
records_of tapes (TurnOf path) m = list_of (entry_of tapes path m)
records_of tapes (EditOf path edit) m = unless_alarm m.alarm [] (edit_entry path edit ∷ [])

-- the machine behind any list of events
abbrev pub run : Tapes → MachineView → List Event → MachineView
run tapes m [] = m
run tapes m (e ∷ events) = run tapes (behind_event tapes e m) events

-- all records of these events
abbrev pub history : Tapes → MachineView → List Event → List Entry
history tapes m [] = []
history tapes m (e ∷ events) = records_of tapes e m ++ history tapes (behind_event tapes e m) events

-- the value after so many records of the variable that the effect needs, or vacant if it needs none
abbrev pub value_asked : Effect → ℕ → List Write → Var
value_asked (Need variable) stamp writes = value_after stamp variable writes
value_asked other stamp writes = Vacant

-- the values with one more: that of the variable that the block asks for when it has these, after
-- so many records
abbrev pub and_next : Blocks → PathView → List Write → ℕ → List Var → List Var
and_next blocks path writes stamp values = values ++ value_asked (blocks.effect path values) stamp writes ∷ []

-- the values that the block has when it reads at these stamps, behind those that it has already
abbrev pub values_from : Blocks → PathView → List Write → List Var → List ℕ → List Var
values_from blocks path writes values [] = values
values_from blocks path writes values (stamp ∷ stamps) =
    values_from blocks path writes (and_next blocks path writes stamp values) stamps

-- the values that the block has when it has read at just these stamps
abbrev pub values_at : Blocks → PathView → List Write → List ℕ → List Var
values_at blocks path writes stamps = values_from blocks path writes [] stamps

-- the block asks for a variable at each of these stamps, when it has the values before
abbrev pub AsksFrom : Blocks → PathView → List Write → List Var → List ℕ → Type 0
AsksFrom blocks path writes values [] = Unit {0}
AsksFrom blocks path writes values (stamp ∷ stamps) =
    ((variable : ℕ) × (blocks.effect path values ≡ Need variable))
    × AsksFrom blocks path writes (and_next blocks path writes stamp values) stamps

-- the stamps do not fall, none is below the lowest, and none is above the highest
abbrev pub AreInOrder : ℕ → ℕ → List ℕ → Type 0
AreInOrder lowest highest [] = Unit {0}
AreInOrder lowest highest (stamp ∷ stamps) = (lowest ≤ stamp) × (stamp ≤ highest) × AreInOrder stamp highest stamps

-- With these stamps the first path's block may have read up to now: none is from before the path
-- came to the block or from before an edit, and none is later than the last record.
pub record MayRead (blocks : Blocks) (m : MachineView) (stamps : List ℕ) : Type 0 where
  -- they do not fall, from when the path came to its block up to the last record
  pub order : AreInOrder m.paths.one.since m.count stamps
  -- the block asks for a variable at each of them
  pub asks : AsksFrom blocks m.paths.one.path m.writes [] stamps

-- the machine in which the first path's block has read just these values, at these stamps
abbrev pub with_values : List Var → List ℕ → MachineView → MachineView
with_values values stamps m = record m { paths = record m.paths { one = record m.paths.one { values = values; stamps = stamps } } }

-- the machine in which the first path's block has read what these stamps stand for
abbrev pub with_reads : Blocks → List ℕ → MachineView → MachineView
with_reads blocks stamps m = with_values (values_at blocks m.paths.one.path m.writes stamps) stamps m

-- A step of the first path, of this kind and with these stamps, is legal behind the machine: its
-- block may have read so, and its turn with exactly these reads makes a record of this kind.
pub record IsStep (blocks : Blocks) (path : Path) (m : MachineView) (kind : EntryKind) (stamps : List ℕ) : Type 0 where
  pub reads : MayRead blocks m stamps
  pub is : kind_of (own_turn blocks path (with_reads blocks stamps m)).turn ≡ Some kind

-- the machine behind a step of the first path with these stamps
abbrev pub behind_step : Blocks → Path → List ℕ → MachineView → MachineView
behind_step blocks path stamps m = without_reads (own_turn blocks path (with_reads blocks stamps m)).machine

-- the machine behind a record of the first path, which is an edit, or a step with these stamps
abbrev pub behind_own : Blocks → Path → Option Edit → List ℕ → MachineView → MachineView
behind_own blocks path (Some edit) stamps m = behind_edit edit m
behind_own blocks path None stamps m = behind_step blocks path stamps m

-- the machine behind a record of either path, a step or an edit
abbrev pub behind_entry : Tapes → Entry → MachineView → MachineView
behind_entry tapes entry m =
    own_first entry.path (behind_own (of_path tapes entry.path) entry.path (edit_of entry.kind) entry.stamps (own_first entry.path m))

-- the record is an edit, and no alarm has stopped the machine: then it is legal
pub record IsEdit (m : MachineView) (entry : Entry) : Type 0 where
  pub edit : Edit
  pub is : entry ≡ edit_entry entry.path edit
  pub calm : m.alarm ≡ None

-- the record is legal behind the machine: it is a step that the machine can make with just the
-- record's reads, or an edit while no alarm has stopped the machine
abbrev pub IsNext : Tapes → MachineView → Entry → Type 0
IsNext tapes m entry =
    IsStep (of_path tapes entry.path) entry.path (own_first entry.path m) entry.kind entry.stamps ⊎ IsEdit m entry

-- the machine behind a history, each of whose records is done again
abbrev pub fold : Tapes → MachineView → List Entry → MachineView
fold tapes m [] = m
fold tapes m (e ∷ entries) = fold tapes (behind_entry tapes e m) entries

-- the history is legal from this machine on: each record is legal behind those before it
abbrev pub IsLegal : Tapes → MachineView → List Entry → Type 0
IsLegal tapes m [] = Unit {0}
IsLegal tapes m (e ∷ entries) = IsNext tapes m e × IsLegal tapes (behind_entry tapes e m) entries

-- the path waits or has ended
abbrev pub is_idle : Part → Bool
is_idle part = part.finished || is_some part.waiting

-- What the first path's block has read is lawful: it may have read with these stamps, each value is
-- that of its stamp, a path that waits or has ended has no reads, and the path came to its block by
-- a record that was made.
pub record IsLawful (blocks : Blocks) (m : MachineView) : Type 0 where
  -- it may have read with these stamps
  pub may : MayRead blocks m m.paths.one.stamps
  -- its values are those that the stamps stand for
  pub values : m.paths.one.values ≡ values_at blocks m.paths.one.path m.writes m.paths.one.stamps
  -- a path that waits or has ended has no reads
  pub none : is_idle m.paths.one ≡ true → m.paths.one.stamps ≡ []
  -- the path came to its block by a record that exists
  pub came : m.paths.one.since ≤ m.count

-- what both paths' blocks have read is lawful
pub record AreLawful (tapes : Tapes) (m : MachineView) : Type 0 where
  pub first : IsLawful tapes.one m
  pub second : IsLawful tapes.two (own_first Two m)

-- the records of these events are a legal history, whose fold is the machine but for lawful reads
pub record IsHistory (tapes : Tapes) (m : MachineView) (events : List Event) : Type 0 where
  pub legal : IsLegal tapes (without_reads m) (history tapes m events)
  pub folds : fold tapes (without_reads m) (history tapes m events) ≡ without_reads (run tapes m events)
  pub lawful : AreLawful tapes (run tapes m events)

-- some events make these records, and lead to this machine
pub record IsReached (tapes : Tapes) (m : MachineView) (entries : List Entry) (to : MachineView) : Type 0 where
  pub events : List Event
  pub records : history tapes m events ≡ entries
  pub reaches : run tapes m events ≡ to

-- some events make these records, and lead to this machine but for block reads
pub record IsRun (tapes : Tapes) (m : MachineView) (entries : List Entry) (to : MachineView) : Type 0 where
  pub events : List Event
  pub records : history tapes m events ≡ entries
  pub reaches : without_reads (run tapes m events) ≡ to

-- whether a record of this path and kind brings the path `to` to its next block, or lets its block
-- read anew
abbrev pub is_coming : Path → EntryKind → Path → Bool
is_coming path Did to = is_same path to
is_coming path Arrived to = false
is_coming path Met to = true
is_coming path Ended to = false
is_coming path Alarmed to = false
is_coming path (Edited edit) to = true

-- how many records there were just after the one by which the path came to its block or its reads
-- began anew, counted on from here
abbrev pub came_from : ℕ → ℕ → Path → List Entry → ℕ
came_from since count path [] = since
came_from since count path (e ∷ entries) =
    came_from (if is_coming e.path e.kind path then count + 1 else since) (count + 1) path entries

-- What the fold of a history counts: its records, from which of them on each path's block may have
-- read, and what each variable held after each number of records.
pub record Counts (tapes : Tapes) (m : MachineView) (entries : List Entry) : Type 0 where
  pub count : (fold tapes m entries).count ≡ length entries
  pub first : (fold tapes m entries).paths.one.since ≡ came_from 0 0 One entries
  pub second : (fold tapes m entries).paths.two.since ≡ came_from 0 0 Two entries
  pub values : (before after : List Entry) (variable : ℕ) → before ++ after ≡ entries
      → value_after (length before) variable (fold tapes m entries).writes
      ≡ value_after (fold tapes m before).count variable (fold tapes m before).writes

-- Each run's records are a legal history, and each legal history is the records of some run. Its
-- fold is the machine but for block reads, and each machine with this fold, without an alarm and
-- with lawful reads, is reached. A legal history counts its records (`Counts`), and each prefix of
-- it is legal.
pub record HistoriesAreRuns (tapes : Tapes) (m : MachineView) : Type 0 where
  pub run : (events : List Event) → IsHistory tapes m events
  pub history : (entries : List Entry) → IsLegal tapes m entries → IsRun tapes m entries (fold tapes m entries)
  pub lawful : (entries : List Entry) (to : MachineView) → IsLegal tapes m entries
      → fold tapes m entries ≡ without_reads to → to.alarm ≡ None → AreLawful tapes to → IsReached tapes m entries to
  pub counts : (entries : List Entry) → IsLegal tapes m entries → Counts tapes m entries
  pub prefix : (n : ℕ) (entries : List Entry) → IsLegal tapes m entries → IsLegal tapes m (take n entries)

-- the machine is the fold of a legal history, with lawful block reads
pub record IsKept (tapes : Tapes) (m : MachineView) (entries : List Entry) (now : MachineView) : Type 0 where
  pub legal : IsLegal tapes m entries
  pub folds : fold tapes m entries ≡ without_reads now
  pub lawful : AreLawful tapes now

-- from the opening on, a machine beside its history stays the fold of it, with each event more and
-- with each record that is done again
pub record Keeps (tapes : Tapes) (m : MachineView) : Type 0 where
  pub opening : IsKept tapes m [] m
  pub event : (entries : List Entry) (now : MachineView) (e : Event) → IsKept tapes m entries now
      → IsKept tapes m (entries ++ records_of tapes e now) (behind_event tapes e now)
  pub entry : (entries : List Entry) (now : MachineView) (e : Entry) → IsKept tapes m entries now
      → IsNext tapes (without_reads now) e → IsKept tapes m (entries ++ e ∷ []) (behind_entry tapes e (without_reads now))

-- an event of the machine, or a restart
pub data Episode : Type 0 where
  -- a turn or an edit
  Happens : (event : Event) → Episode
  -- a restart, which finds so many of the first records
  Restarts : (kept : ℕ) → Episode

-- a machine and all records so far
pub record Recorded : Type 0 where
  pub machine : MachineView
  pub history : List Entry

-- A restart makes the machine anew of the records that it finds, and what blocks had read is lost.
abbrev pub behind_episode : Tapes → MachineView → Episode → Recorded → Recorded
behind_episode tapes m (Happens e) now = record {
  machine = behind_event tapes e now.machine;
  history = now.history ++ records_of tapes e now.machine;
}
behind_episode tapes m (Restarts kept) now = record {
  machine = fold tapes m (take kept now.history);
  history = take kept now.history;
}

-- the machine and all records after these events and restarts
abbrev pub behind_episodes : Tapes → MachineView → List Episode → Recorded → Recorded
behind_episodes tapes m [] now = now
behind_episodes tapes m (e ∷ episodes) now = behind_episodes tapes m episodes (behind_episode tapes m e now)

-- over any events and restarts the records are one legal history, and the machine is its fold with
-- lawful reads
abbrev pub IsKeptOverRestarts : Tapes → MachineView → Type 0
IsKeptOverRestarts tapes m = (episodes : List Episode)
    → IsKept tapes m (behind_episodes tapes m episodes (record { machine = m; history = [] })).history
    (behind_episodes tapes m episodes (record { machine = m; history = [] })).machine
