-- What src/known.rt keeps of the programs of a tape, a piece of each that was made, as contracts
-- see it.
use Rattle.std.specs.Prelude.{ℕ, Option, nat_eq}
use Rattle.indexmap.specs.IndexMap.{get}
use Rattle.loud_calls.specs.declared.known.KnownPrograms.{KnownPrograms}

-- The piece that is kept of the program with this O number, if one is.
abbrev pub piece_known : {P : Type 0} → KnownPrograms P → ℕ → Option P
piece_known known program = get nat_eq known.pieces program
