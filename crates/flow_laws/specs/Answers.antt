-- The statements of the laws on answers: that there is just one, and that there is one.
use Rattle.std.specs.Prelude.{◌≡◌, ℕ, List, map}
use Rattle.nc_number.specs.declared.cause.Cause.{Cause}
use Rattle.nc_text.specs.declared.tape.Program.{Program}
use Rattle.nc_number.specs.Rising.{RiseFrom}
use Rattle.block_order.specs.declared.program.ControlProgram.{ControlProgram}
use Rattle.block_order.specs.Faults.{IsFirst, IsSound}
use Rattle.nc_text.specs.Shape.{blocks_in}

-- One of the two holds, said without telling which: it can't be that neither does.
abbrev pub CantBothFail : Type 0 → Type 0 → Type 0
CantBothFail One Other = (One → ⊥) → (Other → ⊥) → ⊥

-- The first fault of a tape is one line and one cause.
abbrev pub HasOneFirst : Type 0
HasOneFirst = (tape : List ControlProgram) (line other_line : ℕ) (cause other : Cause) → IsFirst tape line cause
    → IsFirst tape other_line other → (line ≡ other_line) × (cause ≡ other)

-- No tape is neither sound nor has a first fault.
abbrev pub HasSomeFirst : Type 0
HasSomeFirst = (tape : List ControlProgram) → CantBothFail (IsSound tape) ((line : ℕ) × (cause : Cause) × IsFirst tape line cause)

-- Each block of the tape stands on a later line than the one before it.
abbrev pub HasRisingBlocks : List Program → Type 0
HasRisingBlocks tape = RiseFrom 0 (map (λ block. block.line) (blocks_in tape))
