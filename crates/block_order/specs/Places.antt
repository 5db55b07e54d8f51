-- The places of the blocks of one sequence number, and from where a search comes to each: what
-- src/sequence.rt keeps and answers.
use Rattle.std.specs.Prelude.{◌≡◌, ℕ, suc, ◌<◌, ◌≤◌, ◌⊎◌, nat_eq, List, [], ◌∷◌, Some, slice_get, if◌then◌else◌}
use Rattle.std.specs.Option.{option_map_or}
use Rattle.indexmap.specs.IndexMap.{get}
use Rattle.block_order.specs.declared.program.ControlBlock.{ControlBlock}
use Rattle.block_order.specs.declared.sequence.Finders.{Finders}
use Rattle.block_order.specs.declared.sequence.SequenceIndex.{SequenceIndex}
use Rattle.block_order.specs.Order.{has_sequence}

-- The places of the blocks of number n, among blocks of which the first stands at a place.
abbrev pub places_from : List ControlBlock → ℕ → ℕ → List ℕ
places_from [] place n = []
places_from (b ∷ bs) place n =
    if has_sequence n b.sequence then place ∷ places_from bs (suc place) n else places_from bs (suc place) n

-- The places of the blocks of number n in the program, in their order.
unfoldable pub places_of : List ControlBlock → ℕ → List ℕ
places_of bs n = places_from bs 0 n

-- The index has, for each sequence number, the places of its blocks among these.
unfoldable pub IsIndexOf : List ControlBlock → SequenceIndex → Type 0
IsIndexOf bs index = (n : ℕ) → option_map_or (λ v. v.items) (get nat_eq index.places n) [] ≡ places_of bs n

-- The block at a place has the sequence number n.
abbrev pub IsNumbered : List ControlBlock → ℕ → ℕ → Type 0
IsNumbered bs place n = (block : ControlBlock) × (slice_get bs place ≡ Some block) × (block.sequence ≡ Some n)

-- The finders name this block as one from which the search comes to the place.
abbrev pub IsFinder : Finders → ℕ → Type 0
IsFinder finders block =
    ((finders.low ≤ block) × (block < finders.high)) ⊎ ((low : ℕ) × (finders.around ≡ Some low) × (low ≤ block))
