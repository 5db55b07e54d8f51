-- What a race is: a shared variable whose value may depend on which path comes first, by the texts
-- of both tapes alone. Part n of a path are the blocks that it may run behind n waits.
use Rattle.std.specs.Prelude.{◌≡◌, ℕ, Bool, true}
use Rattle.tape_flow.specs.declared.flow.Flow.{Flow}
use Rattle.part_order.specs.Parts.{IsInPart}
use Rattle.named_vars.specs.Names.{block_names, block_may_write}

-- part n of the path has a block that names the variable
abbrev pub PartNames : Flow → ℕ → ℕ → Type 0
PartNames flow n v =
    (program block : ℕ) × IsInPart flow.order n program block × (block_names flow program block v ≡ true)

-- part n of the path has a block that may write the variable
abbrev pub PartMayWrite : Flow → ℕ → ℕ → Type 0
PartMayWrite flow n v =
    (program block : ℕ) × IsInPart flow.order n program block × (block_may_write flow program block v ≡ true)

-- A race of the variable behind n waits: both paths share it, part n of the writer has a block that
-- may write it, and part n of the other path has a block that names it.
pub record IsRace (shared : ℕ → Bool) (writer other : Flow) (n v : ℕ) : Type 0 where
  pub is_shared : shared v ≡ true
  pub writes : PartMayWrite writer n v
  pub names : PartNames other n v

-- the pair has no race: whichever path writes, and behind however many waits
pub record HasNoRace (shared : ℕ → Bool) (left right : Flow) : Type 0 where
  pub first : (n v : ℕ) → IsRace shared left right n v → ⊥
  pub second : (n v : ℕ) → IsRace shared right left n v → ⊥
