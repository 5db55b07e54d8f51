-- The parts of a tape that are written out, and when one is sound and clear: what contracts see of
-- the type `Part` (src/part.rt).
use Rattle.std.specs.Prelude.{ℕ, Bool, true, false, ◌&&◌, ◌==◌, List, ℤ}
use Rattle.rough_cycle.specs.declared.form.TheConstants.{TRIED}
use Rattle.rough_cycle.specs.declared.block.PlainBlock.{PlainBlock}
use Rattle.rough_cycle.specs.Form.{IsNearForm}
use Rattle.rough_cycle.specs.Moves.{AreClear}
use Rattle.rough_cycle.specs.Roughing.{Rough, IsForm, IsFinishStart, first_moved, points_moved, rough_blocks, finish_blocks}
use Rattle.cycle_form.specs.declared.part.PartKind.{PartKind}
use Rattle.cycle_form.specs.declared.part.PartKind.TheVariants.{Roughing, Finishing}

-- What contracts see of a part: what it does, its form, the sequence numbers of its contour, its
-- feed, and the lines of the tape that it takes the place of.
pub record PartView : Type 0 where
  -- G71 or G70
  pub kind : PartKind
  -- The contour, the cut and the allowances, in 0.001 mm.
  pub rough : Rough
  -- The sequence number of the contour's first block.
  pub first : ℕ
  -- The sequence number of the contour's last block.
  pub last : ℕ
  -- The feed of its cuts, in 0.000001.
  pub feed : ℤ
  -- The lines of the text that it takes the place of, from 1.
  pub lines : List ℕ

-- A finish starts above and before its contour; a roughing starts where its form says.
abbrev pub IsSoundStart : Rough → PartKind → Type 0
IsSoundStart r Roughing = Unit {0}
IsSoundStart r (Finishing start) = IsFinishStart r start

-- A part is sound: its form is one, its lengths can be written, and its start fits. By its type
-- each part of the code is.
pub record IsSoundPart (part : PartView) : Type 0 where
  -- its contour and its cut are a form
  pub form : IsForm part.rough
  -- its lengths are those that literals can write
  pub near : IsNearForm part.rough
  -- a finish starts above and before the contour
  pub start : IsSoundStart part.rough part.kind

-- The plain blocks that a form stands for, by what the part does. At most 1,001 passes are made
-- (`TRIED` of rough_cycle).
abbrev pub blocks_by : Rough → PartKind → List PlainBlock
blocks_by r Roughing = rough_blocks r TRIED
blocks_by r (Finishing start) = finish_blocks r start

-- The plain blocks that a part stands for.
abbrev pub part_blocks : PartView → List PlainBlock
part_blocks part = blocks_by part.rough part.kind

-- No whole point on a move of these blocks lies inside the contour: of G71 the one with its
-- allowances, of G70 the one itself.
abbrev pub AreClearOf : Rough → PartKind → List PlainBlock → Type 0
AreClearOf r Roughing blocks = AreClear (first_moved r) (points_moved r) r.start blocks
AreClearOf r (Finishing start) blocks = AreClear r.first r.points start blocks

-- No whole point on a move of the blocks of this part lies inside its contour, of a G71 the one
-- with its allowances.
abbrev pub IsClearPart : PartView → Type 0
IsClearPart part = AreClearOf part.rough part.kind (part_blocks part)

-- Whether the part is a G71.
abbrev pub is_roughing : PartKind → Bool
is_roughing Roughing = true
is_roughing (Finishing start) = false

-- Whether the part is a G71 along the contour between these sequence numbers.
abbrev pub is_called : ℕ → ℕ → PartView → Bool
is_called first last part = is_roughing part.kind && part.first == first && part.last == last
