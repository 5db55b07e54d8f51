-- A branch is opened as what it is: the law `a_branch_opens_as_its_records` (src/laws.rt).
use Rattle.std.proofs.Common.{◌≡◌, inl, inr, ℕ, List, take, Ok, Err, refl, Result}
use Rattle.disk_model.specs.Device.{DiskState, Reads}
use Rattle.run_records.specs.declared.header.Header.{Header}
use Rattle.run_records.specs.Entries.{Entry}
use Rattle.run_journal.specs.declared.fault.JournalFault.{JournalFault}
use Rattle.run_journal.specs.declared.fault.JournalFault.TheVariants.{DiskFault, NoRun, Cut, BadRecord, NoMemory}
use Rattle.run_journal.specs.Filled.{newest}
use Rattle.run_journal.specs.Meaning.{Meaning, no_run, cut_at, bad_at, a_run, StandsFor}
use Rattle.run_journal.specs.Opening.{FindsRun, Found}
use Rattle.run_branch.specs.Branches.{IsBranch}
use Rattle.run_branch.specs.Openings.{OpensAsBranch}

-- an image stands for one thing, and this one for the branch
module _ (one : (image : List ℕ) (a b : Meaning) → StandsFor a image → StandsFor b image → a ≡ b) (header : Header) (entries : List Entry) (n : ℕ)
    (bytes : List ℕ) (is : IsBranch header entries n bytes) where
  -- what it stands for: the run up to its n-th meeting
  abbrev whole : Meaning
  whole = a_run (newest header) (take is.0 entries)

  -- an opening finds the branch, or the disk fails, or memory runs out
  pub opened : (old new : DiskState) (result : Result Found JournalFault) → Reads old bytes → FindsRun old new result
      → OpensAsBranch header entries n result
  opened old new (Ok found) reads finds =
      let there = finds.found in
      let spells = there.1.file bytes reads in
      let same : a_run found.header found.entries ≡ whole = one bytes _ whole (there.0, there.1.run, spells.0) is.2 in
      record { k = is.0; point = is.1; header_is = cc; entries_are = cc }
  opened old new (Err DiskFault) reads finds = inl refl
  opened old new (Err NoMemory) reads finds = inr refl
  opened old new (Err NoRun) reads finds =
      let same : no_run ≡ whole = one bytes _ whole (finds.refused.1 bytes reads) is.2 in absurd cc
  opened old new (Err (Cut at)) reads finds =
      let same : cut_at at ≡ whole = one bytes _ whole (finds.refused.1 bytes reads) is.2 in absurd cc
  opened old new (Err (BadRecord offset cause)) reads finds =
      let same : bad_at offset cause ≡ whole = one bytes _ whole (finds.refused.1 bytes reads) is.2 in absurd cc
