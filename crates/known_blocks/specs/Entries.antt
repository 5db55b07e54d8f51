-- The blocks that a path may come to otherwise than from the block before them: there nothing is
-- known of what was. src/entries.rt and src/aims.rt compute it.
use Rattle.std.specs.Prelude.{◌≡◌, ℕ, zero, suc, nat_eq, Bool, true, false, ◌==◌, ◌||◌, List, Option, Some, None, slice_get}
use Rattle.std.specs.HashSet.{contains}
use Rattle.std.specs.List.{list_any}
use Rattle.block_order.specs.declared.control.Control.{Control}
use Rattle.block_order.specs.declared.control.Control.TheVariants.{Goto, While, Do, EndLoop, Call, BackTo}
use Rattle.block_order.specs.declared.program.ControlBlock.{ControlBlock}
use Rattle.block_order.specs.declared.program.ControlProgram.{ControlProgram}
use Rattle.block_order.specs.Order.{blocks}
use Rattle.known_blocks.specs.declared.aims.Aims.{Aims}
use Rattle.known_blocks.specs.declared.aims.Aims.TheVariants.{Every, These}

-- a jump of its own program to the sequence number may be meant by this control
abbrev pub aims_at : ℕ → Control → Bool
aims_at n (Goto None) = true
aims_at n (Goto (Some own)) = n == own
aims_at n other = false

-- a return may lead to the sequence number, in whatever program
abbrev pub returns_to : ℕ → Control → Bool
returns_to n (BackTo own) = n == own
returns_to n other = false

-- a jump of these blocks may lead to the number
abbrev pub some_jump : List ControlBlock → ℕ → Bool
some_jump bs n = list_any (λ b. aims_at n b.control) bs

-- a return of these blocks may
abbrev pub some_return : List ControlBlock → ℕ → Bool
some_return bs n = list_any (λ b. returns_to n b.control) bs

-- a return of these programs may
abbrev pub some_return_in : List ControlProgram → ℕ → Bool
some_return_in ps n = list_any (λ p. some_return p.blocks n) ps

-- a path may be led to the sequence number of the program
abbrev pub is_aimed : List ControlProgram → ℕ → ℕ → Bool
is_aimed tape program n = some_jump (blocks tape program) n || some_return_in tape n

-- the same of the sequence number of a block, if it has one
abbrev pub is_jumped_to : List ControlProgram → ℕ → Option ℕ → Bool
is_jumped_to tape program None = false
is_jumped_to tape program (Some n) = is_aimed tape program n

-- a path may come to the block from the end of a loop
abbrev pub is_head : Control → Bool
is_head (While name) = true
is_head (Do name) = true
is_head other = false

-- a path comes behind the block otherwise than from it: behind a loop, or back from a call
abbrev pub is_left_otherwise : Control → Bool
is_left_otherwise (EndLoop name) = true
is_left_otherwise (Call program repeats) = true
is_left_otherwise other = false

-- a path may come to the block, if there is one, from elsewhere
abbrev pub is_entered : List ControlProgram → ℕ → Option ControlBlock → Bool
is_entered tape program None = false
is_entered tape program (Some block) = is_head block.control || is_jumped_to tape program block.sequence

-- a path comes behind the block otherwise than from it, or there is no block
abbrev pub is_left : Option ControlBlock → Bool
is_left None = true
is_left (Some block) = is_left_otherwise block.control

-- a path may come to the block otherwise than from the block before it
abbrev pub is_entry : List ControlProgram → ℕ → ℕ → Bool
is_entry tape program zero = true
is_entry tape program (suc place) =
    is_left (slice_get (blocks tape program) place) || is_entered tape program (slice_get (blocks tape program) (suc place))

-- the number is among those that were noted
abbrev pub is_among : Aims → ℕ → Bool
is_among Every n = true
is_among (These numbers) n = contains nat_eq numbers n

-- the numbers noted are those to which jumps of the program may lead
abbrev pub AreJumpsOf : List ControlProgram → ℕ → Aims → Type 0
AreJumpsOf tape program aims = (n : ℕ) → is_among aims n ≡ some_jump (blocks tape program) n

-- the numbers noted are those to which returns of the tape may lead
abbrev pub AreReturnsOf : List ControlProgram → Aims → Type 0
AreReturnsOf tape aims = (n : ℕ) → is_among aims n ≡ some_return_in tape n
