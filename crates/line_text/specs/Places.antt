-- The places of signs in a line of a tape, counted from 0: small enough for the u32 of `Word`. The
-- contracts of src/sign.rt, src/cut.rt and src/line.rt need it; for this crate alone.
use Rattle.std.specs.Prelude.{◌+◌, ◌^◌, ◌<◌, List, All}
use Rattle.line_text.specs.declared.sign.Sign.{Sign}

-- the place after each sign is below 2 ^ 32
abbrev pub ArePlaced : List Sign → Type 0
ArePlaced signs = All (λ sign. sign.place + 1 < 2 ^ 32) signs
