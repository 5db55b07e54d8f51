-- The kinds of commands: what each may do to the disk and to the turrets, and which files it names.
-- A new command needs its line in `kind_of`, and in `named_by` if it names files.
-- What `top` promises is said in it; no other crate takes it.
use Rattle.std.specs.Prelude.{ℕ, Bool, true, false, Option, Some, None, List, []}
use Rattle.command_words.specs.declared.command.Command.{Command}
use Rattle.command_words.specs.declared.command.Command.TheVariants as command
use Rattle.command_words.specs.declared.journal.Journal.{Journal}
use Rattle.command_words.specs.declared.journal.Journal.TheVariants as journal
use Rattle.lathe_looks.specs.Named.{Named, edits_named, files_of, tape_named, tape_with_settings, zones_before, zones_named}
use Rattle.lathe_top.specs.Made.{made_limit}

-- What a command may do to the disk and to the turrets.
pub data Kind : Type 0 where
  -- it calls neither a disk nor a turret
  rests : Kind
  -- it looks for a run on the disk
  looks : Kind
  -- it looks for a run, and branches it on the second disk
  branches : Kind
  -- it looks for a run, and makes edits in it
  edits : Kind
  -- it begins a journal and runs, for so many records at most
  begins : (limit : ℕ) → Kind
  -- it looks for a run and goes on with it, for so many records more
  goes_on : (limit : ℕ) → Kind

-- the kind of a command; words that are no command do nothing
abbrev pub kind_of : Option Command → Kind
kind_of None = rests
kind_of (Some (command.Verify left right settings)) = rests
kind_of (Some (command.Waits left right settings outside)) = rests
kind_of (Some (command.Races left right settings)) = rests
kind_of (Some (command.Trace left right settings limit)) = rests
kind_of (Some (command.Run left right settings limit turrets)) = begins limit
kind_of (Some (command.Resume limit turrets)) = goes_on limit
kind_of (Some (command.Edit name)) = edits
kind_of (Some command.Moves) = looks
kind_of (Some command.State) = looks
kind_of (Some (command.Zones zones)) = looks
kind_of (Some (command.ZonesOf zones left right settings)) = rests
kind_of (Some (command.Branch meetings)) = branches
kind_of (Some (command.Make number turrets)) = begins made_limit
kind_of (Some (command.Expand tape)) = rests
kind_of (Some (command.Plain tape settings)) = rests

-- the files that a command names, in the order in which they are fetched
abbrev pub named_by : Option Command → List Named
named_by (Some (command.Verify left right settings)) = files_of left right settings
named_by (Some (command.Waits left right settings outside)) = files_of left right settings
named_by (Some (command.Races left right settings)) = files_of left right settings
named_by (Some (command.Trace left right settings limit)) = files_of left right settings
named_by (Some (command.Run left right settings limit turrets)) = files_of left right settings
named_by (Some (command.Expand tape)) = tape_named tape
named_by (Some (command.Plain tape settings)) = tape_with_settings tape settings
named_by (Some (command.Zones zones)) = zones_named zones
named_by (Some (command.ZonesOf zones left right settings)) = zones_before zones (files_of left right settings)
named_by (Some (command.Edit name)) = edits_named name
named_by other = []

-- Whether a command of a kind makes a run. Those that do run both paths in threads, and wait for
-- them.
abbrev pub makes_run : Kind → Bool
makes_run rests = false
makes_run looks = false
makes_run branches = false
makes_run edits = false
makes_run (begins limit) = true
makes_run (goes_on limit) = true

-- What a command of a kind does with the journal of a run, for whoever locks its file. The second
-- disk of a branch is not meant.
abbrev pub journal_for : Kind → Journal
journal_for rests = journal.None
journal_for looks = journal.Look
journal_for branches = journal.Look
journal_for edits = journal.Write
journal_for (begins limit) = journal.Write
journal_for (goes_on limit) = journal.Write
