-- A place (the open programs of a path, the running one first) as src/place.rt keeps it: where a
-- path begins, the callers, and that a block's number has 32 bits.
use Rattle.std.specs.Prelude.{ℕ, suc, ◌^◌, ◌<◌, List, [], ◌∷◌}
use Rattle.block_order.specs.declared.frame.Frame.{Frame}

-- The place where a path begins, if its main program has this O number.
abbrev pub start_of : ℕ → List Frame
start_of main = record { program = main; block = 0; left = 0 } ∷ []

-- The frames below the running one, the caller's first.
abbrev pub callers : List Frame → List Frame
callers [] = []
callers (f ∷ stack) = stack

-- The block behind the frame's one has a number of 32 bits.
abbrev pub HasNext : Frame → Type 0
HasNext f = suc f.block < 2 ^ 32

-- The block behind the running one has a number of 32 bits, so the place may move to it.
abbrev pub MayPass : List Frame → Type 0
MayPass [] = Unit {0}
MayPass (f ∷ stack) = HasNext f
