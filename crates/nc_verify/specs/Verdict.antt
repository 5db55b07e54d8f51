-- Which three texts are accepted, and the one refusal of all others: what `verdict`
-- (src/verifying.rt) promises, and what `verify` tells.
use Rattle.std.specs.Prelude.{◌≡◌, ℕ, ◌<◌, ◌≤◌, List, length, Ok, Err, slice_index}
use Rattle.nc_number.specs.declared.path.Path.{Path}
use Rattle.nc_number.specs.declared.path.Path.TheVariants.{One, Two}
use Rattle.nc_number.specs.Path.{index_of}
use Rattle.nc_number.specs.declared.limits.TheConstants.{MOST_LABELS}
use Rattle.nc_text.specs.declared.fault.TextFault.{TextFault}
use Rattle.nc_text.specs.declared.tape.Program.{Program}
use Rattle.nc_text.specs.Tape.{tape_of}
use Rattle.cell_settings.specs.Cell.{Cell, settings_of}
use Rattle.block_words.specs.declared.dialect.Dialect.{Dialect}
use Rattle.block_order.specs.declared.program.ControlProgram.{ControlProgram}
use Rattle.tape_flow.specs.Controls.{controls}
use Rattle.tape_flow.specs.Exact.{IsAccepted, IsRefused}
use Rattle.tape_flow.specs.Forms.{ProgramForm}
use Rattle.label_list.specs.declared.fault.PairFault.{PairFault}
use Rattle.label_list.specs.Accepted.{IsAcceptedPair}
use Rattle.label_list.specs.Faults.{IsMismatch}
use Rattle.label_list.specs.Lists.{path_labels}
use Rattle.nc_verify.specs.declared.refusal.Refusal.{Refusal}
use Rattle.nc_verify.specs.Refusals.{at_setting, at_line, too_long, mismatch}

-- the three texts of a verdict, as bytes
pub record Texts : Type 0 where
  -- the tape of path 1
  pub left : List ℕ
  -- the tape of path 2
  pub right : List ℕ
  -- the settings of the cell
  pub settings : List ℕ

-- the block-skip switches of a path that are on, a bit for each
abbrev pub skips_of : Path → Cell → ℕ
skips_of path cell = slice_index cell.skips (index_of path)

-- how the settings say that tapes are read: the wait codes, how P names paths, the code system
abbrev pub dialect_in : Cell → Dialect
dialect_in cell = record { low = cell.wait_low; high = cell.wait_high; bits = cell.bits; system = cell.system }

-- the text of a path's tape reads, and these are its programs, in which nothing is wrong
pub record IsFlowOf (cell : Cell) (path : Path) (text : List ℕ) (programs : List ProgramForm) : Type 0 where
  -- the tape of the text
  pub tape : List Program
  -- the text reads as this tape
  pub reads : tape_of (skips_of path cell) text ≡ Ok tape
  -- no block is refused, their order is sound, and this is what they say
  pub accepted : IsAccepted (dialect_in cell) tape programs

-- the refusal of a path's tape: of its reading, or else of its flow
pub data IsTapeRefusal (cell : Cell) (path : Path) (text : List ℕ) (refusal : Refusal) : Type 0 where
  -- the text doesn't read: its first fault
  reading : (fault : TextFault) → tape_of (skips_of path cell) text ≡ Err fault → refusal ≡ at_line path fault.line fault.number
      → IsTapeRefusal cell path text refusal
  -- the text reads, and a block or the order of blocks is wrong
  flow : (tape : List Program) (line number : ℕ) → tape_of (skips_of path cell) text ≡ Ok tape
      → IsRefused (dialect_in cell) tape line number → refusal ≡ at_line path line number → IsTapeRefusal cell path text refusal

-- the settings are refused at their first line that is not allowed
pub record AreRefusedSettings (text : List ℕ) (refusal : Refusal) : Type 0 where
  -- the first line that is not allowed
  pub line : ℕ
  pub refused : settings_of text ≡ Err line
  pub is : refusal ≡ at_setting line

-- the refusal is that this path has too many labels, and it has
pub record IsTooLong (path : Path) (tape : List ControlProgram) (refusal : Refusal) : Type 0 where
  pub long : MOST_LABELS < length (path_labels tape)
  pub is : refusal ≡ too_long path

-- the refusal of two flows that are no accepted pair: path 1 has too many labels, or path 2 has, or
-- the labels differ
pub data IsPairRefusal (left right : List ControlProgram) (refusal : Refusal) : Type 0 where
  -- path 1 has too many labels
  one : IsTooLong One left refusal → IsPairRefusal left right refusal
  -- path 1 has few enough, and path 2 has too many
  two : length (path_labels left) ≤ MOST_LABELS → IsTooLong Two right refusal → IsPairRefusal left right refusal
  -- both have few enough, and the lists differ
  differ : length (path_labels left) ≤ MOST_LABELS → length (path_labels right) ≤ MOST_LABELS
      → (fault : PairFault) → IsMismatch (path_labels left) (path_labels right) fault → refusal ≡ mismatch fault
      → IsPairRefusal left right refusal

-- the settings are allowed, and both tapes have flows
pub record AreFlows (texts : Texts) (cell : Cell) (left right : List ProgramForm) : Type 0 where
  pub settings_are : settings_of texts.settings ≡ Ok cell
  pub left_is : IsFlowOf cell One texts.left left
  pub right_is : IsFlowOf cell Two texts.right right

-- Three texts are accepted: the settings are allowed, both tapes have flows, and the flows are an
-- accepted pair.
pub record AreAccepted (texts : Texts) (cell : Cell) (left right : List ProgramForm) : Type 0 where
  pub flows : AreFlows texts cell left right
  pub pair : IsAcceptedPair (controls left) (controls right)

-- The refusal of three texts: of the settings; else of path 1's tape; else of path 2's; else of the
-- two flows as a pair.
pub data IsRefusalOf (texts : Texts) (refusal : Refusal) : Type 0 where
  -- the settings are refused
  settings : AreRefusedSettings texts.settings refusal → IsRefusalOf texts refusal
  -- the settings are allowed, and the tape of path 1 is refused
  left : (cell : Cell) → settings_of texts.settings ≡ Ok cell → IsTapeRefusal cell One texts.left refusal
      → IsRefusalOf texts refusal
  -- the tape of path 1 has a flow, and that of path 2 is refused
  right : (cell : Cell) (programs : List ProgramForm) → settings_of texts.settings ≡ Ok cell
      → IsFlowOf cell One texts.left programs → IsTapeRefusal cell Two texts.right refusal → IsRefusalOf texts refusal
  -- both tapes have flows, which are no accepted pair
  pair : (cell : Cell) (one two : List ProgramForm) → AreFlows texts cell one two
      → IsPairRefusal (controls one) (controls two) refusal → IsRefusalOf texts refusal
