-- Which pairs wait for each other in one order, whatever the variables hold and at each position of
-- the block-skip switches, and the one refusal of all others: what `verdict` (src/verifying.rt)
-- promises.
use Rattle.std.specs.Prelude.{◌≡◌, ℕ, ◌<◌, ◌≤◌, true, List, [], ◌∷◌, Ok, Err}
use Rattle.nc_number.specs.declared.path.Path.{Path}
use Rattle.nc_number.specs.declared.path.Path.TheVariants.{One, Two}
use Rattle.nc_text.specs.declared.fault.TextFault.{TextFault}
use Rattle.nc_text.specs.declared.tape.Program.{Program}
use Rattle.nc_text.specs.Tape.{tape_of}
use Rattle.cell_settings.specs.Cell.{Cell, settings_of}
use Rattle.block_order.specs.declared.program.ControlProgram.{ControlProgram}
use Rattle.label_list.specs.declared.labelled.Labelled.{Labelled}
use Rattle.label_list.specs.Accepted.{IsAcceptedPair}
use Rattle.label_list.specs.Lists.{path_labels}
use Rattle.pair_order.specs.Pairs.{IsNeverStuck}
use Rattle.nc_verify.specs.declared.refusal.Refusal.{Refusal}
use Rattle.nc_verify.specs.Refusals.{at_line, at_position}
use Rattle.nc_verify.specs.Verdict.{skips_of, dialect_in, AreRefusedSettings, IsPairRefusal}
use Rattle.open_order.specs.declared.hanging.Hanging.{Hanging}
use Rattle.open_order.specs.declared.premises.Premises.{Premises}
use Rattle.wait_verify.specs.declared.standing.Standing.{Standing}
use Rattle.open_text.specs.Opened.{opened_text}
use Rattle.wait_verify.specs.Asked.{Asked, at}
use Rattle.wait_verify.specs.Switches.{cell_of, free_switches, is_position, positions_to}
use Rattle.wait_verify.specs.declared.switches.TheConstants.{LAST_POSITION}
use Rattle.wait_verify.specs.Hangings.{hangings_to}
use Rattle.open_order.specs.Exact.{IsOrdered, IsRefused}
use Rattle.open_order.specs.Trusted.{TrustView, no_trust, with_tape}

-- How the tapes are read: the code system and waits of these settings, and the programs that they
-- may lack.
abbrev pub premises_of : Asked → Cell → Premises
premises_of asked cell = record { dialect = dialect_in cell; outside = asked.outside }

-- The text of a tape, opened for the reader of tapes, reads as this tape, whose blocks have this
-- order. `skips` says which block-skip switches are on.
pub record IsOrderOf (premises : Premises) (skips : ℕ) (text : List ℕ) (tape : List Program) (order : List ControlProgram) : Type 0 where
  -- the text reads as this tape
  pub reads : tape_of skips (opened_text skips text) ≡ Ok tape
  -- the blocks of the tape have this order, in which nothing is wrong
  pub ordered : IsOrdered premises tape order

-- The refusal of a path's tape: of its reading, or else of the order of its blocks.
pub data IsTapeRefusal (premises : Premises) (skips : ℕ) (path : Path) (text : List ℕ) (refusal : Refusal) : Type 0 where
  -- A line can't be read.
  reading : (fault : TextFault) → tape_of skips (opened_text skips text) ≡ Err fault → refusal ≡ at_line path fault.line fault.number
      → IsTapeRefusal premises skips path text refusal
  -- The tape reads, but a block, the order of its blocks or a contour of a cycle is refused.
  order : (tape : List Program) (line number : ℕ) → tape_of skips (opened_text skips text) ≡ Ok tape
      → IsRefused premises tape line number → refusal ≡ at_line path line number
      → IsTapeRefusal premises skips path text refusal

-- The text of path 1 has this tape and this order, under the settings of a cell.
abbrev pub IsLeftOrder : Asked → Cell → List Program → List ControlProgram → Type 0
IsLeftOrder asked cell tape own = IsOrderOf (premises_of asked cell) (skips_of One cell) asked.texts.left tape own

-- The text of path 2 has this tape and this order, under the settings of a cell.
abbrev pub IsRightOrder : Asked → Cell → List Program → List ControlProgram → Type 0
IsRightOrder asked cell tape own = IsOrderOf (premises_of asked cell) (skips_of Two cell) asked.texts.right tape own

-- A pair as it is judged: the settings, and for each path its tape and the order of its blocks.
pub record Judged : Type 0 where
  -- the settings of the cell
  pub cell : Cell
  -- the tape of path 1
  pub left_tape : List Program
  -- the tape of path 2
  pub right_tape : List Program
  -- the order of the blocks of path 1
  pub left : List ControlProgram
  -- the order of the blocks of path 2
  pub right : List ControlProgram

-- The settings are allowed, and both tapes have orders at the position of the question.
pub record AreOrders (asked : Asked) (judged : Judged) : Type 0 where
  pub settings_are : cell_of asked ≡ Ok judged.cell
  pub left_is : IsLeftOrder asked judged.cell judged.left_tape judged.left
  pub right_is : IsRightOrder asked judged.cell judged.right_tape judged.right

-- The pair is accepted at the position of the question: the settings are allowed, both tapes have
-- orders, and both paths come to the same labels, at most 65,536, whatever the variables hold.
pub record AreAcceptedAt (asked : Asked) (judged : Judged) : Type 0 where
  pub orders : AreOrders asked judged
  pub pair : IsAcceptedPair judged.left judged.right

-- The refusal of a pair at the position of the question: of the settings; else of path 1's tape; else of path 2's; else of the two
-- orders as a pair.
pub data IsRefusalAt (asked : Asked) (refusal : Refusal) : Type 0 where
  -- The settings are refused.
  settings : AreRefusedSettings asked.texts.settings refusal → IsRefusalAt asked refusal
  -- The settings are allowed, and path 1's tape is refused.
  left : (cell : Cell) → cell_of asked ≡ Ok cell
      → IsTapeRefusal (premises_of asked cell) (skips_of One cell) One asked.texts.left refusal → IsRefusalAt asked refusal
  -- Path 1's tape has an order, and path 2's tape is refused.
  right : (cell : Cell) (tape : List Program) (order : List ControlProgram) → cell_of asked ≡ Ok cell
      → IsLeftOrder asked cell tape order
      → IsTapeRefusal (premises_of asked cell) (skips_of Two cell) Two asked.texts.right refusal → IsRefusalAt asked refusal
  -- Both tapes have orders, and these are no accepted pair.
  pair : (judged : Judged) → AreOrders asked judged → IsPairRefusal judged.left judged.right refusal → IsRefusalAt asked refusal

-- The codes and calls of both tapes that are taken to go on to the next block.
abbrev pub trust_of : Asked → Judged → TrustView
trust_of asked judged =
    with_tape (premises_of asked judged.cell) (with_tape (premises_of asked judged.cell) no_trust judged.left_tape) judged.right_tape

-- What is told of a pair that is accepted at the position of the question: the labels of both paths
-- with their lines, and what was taken on trust.
pub record IsToldAt (asked : Asked) (judged : Judged) (left right : List Labelled) (trust : TrustView) : Type 0 where
  -- the pair is accepted
  pub accepted : AreAcceptedAt asked judged
  -- `left` are the labels of path 1
  pub left_are : left ≡ path_labels judged.left
  -- `right` are the labels of path 2
  pub right_are : right ≡ path_labels judged.right
  -- `trust` is what both tapes take on trust
  pub trust_is : trust ≡ trust_of asked judged

-- the labels of a pair that is accepted at a position of the switches
abbrev pub standing_of : ℕ → Judged → Standing
standing_of position judged =
    record { switches = position; one = path_labels judged.left; two = path_labels judged.right }

-- The labels of a pair that is accepted at a position.
abbrev pub IsStandingAt : Asked → ℕ → Standing → Type 0
IsStandingAt asked position standing =
    (judged : Judged) × AreAcceptedAt (at position asked) judged × (standing ≡ standing_of position judged)

-- The pair is accepted at each of these positions, and these are its labels there.
abbrev pub AreListed : Asked → List ℕ → List Standing → Type 0
AreListed asked [] [] = Unit {0}
AreListed asked [] (standing ∷ standings) = ⊥
AreListed asked (position ∷ positions) [] = ⊥
AreListed asked (position ∷ positions) (standing ∷ standings) =
    IsStandingAt asked position standing × AreListed asked positions standings

-- The pair is accepted, as it is judged at one position.
abbrev pub IsSomeAccepted : Asked → Type 0
IsSomeAccepted asked = (judged : Judged) × AreAcceptedAt asked judged

-- The pair is accepted at each position from 1 to n of these free switches, with these labels.
pub record AreAcceptedTo (asked : Asked) (free n : ℕ) (standings : List Standing) : Type 0 where
  -- it is accepted at each
  pub each : (position : ℕ) → 1 ≤ position → position ≤ n → is_position free position ≡ true → IsSomeAccepted (at position asked)
  -- its labels at them, in rising order
  pub listed : AreListed asked (positions_to n free) standings

-- The pair is accepted: the settings are allowed, and at each position of the free switches it is
-- accepted. `judged` is the pair as it is judged at the first position, at which none of them is
-- on.
pub record AreAccepted (asked : Asked) (judged : Judged) : Type 0 where
  -- the settings of the cell
  pub cell : Cell
  pub settings_are : settings_of asked.texts.settings ≡ Ok cell
  -- it is accepted at the first position
  pub first : AreAcceptedAt (at 0 asked) judged
  -- its labels at the other positions
  pub standings : List Standing
  -- it is accepted at each other position
  pub others : AreAcceptedTo asked (free_switches asked cell) LAST_POSITION standings

-- The refusal of a pair at a position, told with the position.
abbrev pub IsToldRefusal : Asked → ℕ → Refusal → Type 0
IsToldRefusal asked position refusal =
    (own : Refusal) × IsRefusalAt (at position asked) own × (refusal ≡ at_position position own)

-- The refusal of a pair at the first position from 1 on of these free switches at which it is
-- refused.
pub record IsLaterRefusal (asked : Asked) (free : ℕ) (refusal : Refusal) : Type 0 where
  -- the position
  pub position : ℕ
  pub least : 1 ≤ position
  pub greatest : position ≤ LAST_POSITION
  pub is : is_position free position ≡ true
  -- the pair is accepted at each lower position
  pub lower : (other : ℕ) → 1 ≤ other → other < position → is_position free other ≡ true → IsSomeAccepted (at other asked)
  -- the pair is refused so at the position
  pub refused : IsToldRefusal asked position refusal

-- These labels are the given first ones, and those at the positions from 1 to n.
abbrev pub HasOthers : Asked → ℕ → ℕ → Standing → List Standing → Type 0
HasOthers asked free n first standings =
    (others : List Standing) × (standings ≡ first ∷ others) × AreAcceptedTo asked free n others

-- The refusal of a pair: at the first position of the switches at which it is refused.
pub data IsRefusalOf (asked : Asked) (refusal : Refusal) : Type 0 where
  -- The pair is refused with no free switch on, or its settings are refused.
  first : IsRefusalAt (at 0 asked) refusal → IsRefusalOf asked refusal
  -- The pair is accepted with no free switch on, and refused at a later position.
  later : (cell : Cell) (judged : Judged) → settings_of asked.texts.settings ≡ Ok cell → AreAcceptedAt (at 0 asked) judged
      → IsLaterRefusal asked (free_switches asked cell) refusal → IsRefusalOf asked refusal

-- The position is one of the free switches of the question, whose settings are allowed.
pub record IsPositionOf (asked : Asked) (position : ℕ) : Type 0 where
  pub cell : Cell
  pub settings_are : settings_of asked.texts.settings ≡ Ok cell
  pub within : position ≤ LAST_POSITION
  pub is : is_position (free_switches asked cell) position ≡ true

-- The pair is accepted at the position of the question, and in the orders that it has there no path
-- ever waits in vain.
abbrev pub IsNeverStuckAt : Asked → Type 0
IsNeverStuckAt asked = (judged : Judged) × AreAcceptedAt asked judged × IsNeverStuck judged.left judged.right

-- What is taken on trust, with these switches.
abbrev pub with_hangings : TrustView → List Hanging → TrustView
with_hangings trust switches = record trust { switches = switches }

-- What an accepted pair leaves to its reader: the codes and calls that are taken on trust, and the
-- switches that change its waits or ends.
abbrev pub left_to_reader : Asked → Judged → List Standing → TrustView
left_to_reader asked judged standings =
    with_hangings (trust_of asked judged) (hangings_to 9 (standing_of 0 judged ∷ standings))

-- What is told of an accepted pair: the labels of both paths with their lines at the first position,
-- and what is left to the reader.
pub record IsTold (asked : Asked) (judged : Judged) (left right : List Labelled) (trust : TrustView) : Type 0 where
  -- the pair is accepted
  pub accepted : AreAccepted asked judged
  -- `left` are the labels of path 1
  pub left_are : left ≡ path_labels judged.left
  -- `right` are the labels of path 2
  pub right_are : right ≡ path_labels judged.right
  -- `trust` is what both tapes take on trust, and the switches
  pub trust_is : trust ≡ left_to_reader asked judged accepted.standings
