-- What an image of a journal stands for: one of four things.
use Rattle.std.specs.Prelude.{ℕ, List}
use Rattle.gate_file.specs.Chain.{IsNoRun, IsCutAt}
use Rattle.run_records.specs.declared.bad_record.BadRecord.{BadRecord}
use Rattle.run_records.specs.Entries.{Entry}
use Rattle.run_records.specs.declared.header.Header.{Header}
use Rattle.run_journal.specs.Stands.{Stands}
use Rattle.run_journal.specs.Bad.{IsBadAt}

-- what an image may stand for; a run has a header and records
pub data Meaning : Type 0 where
  -- no run
  no_run : Meaning
  -- the open gate at this offset has no whole body
  cut_at : ℕ → Meaning
  -- its bodies are no run, for this cause at this offset
  bad_at : ℕ → BadRecord → Meaning
  -- a run: its header and its records
  a_run : Header → List Entry → Meaning

-- the image stands for this
abbrev pub StandsFor : Meaning → List ℕ → Type 0
StandsFor no_run image = IsNoRun image
StandsFor (cut_at offset) image = IsCutAt offset image
StandsFor (bad_at offset cause) image = IsBadAt offset cause image
StandsFor (a_run header entries) image = Stands header entries image
