-- The blocks of a cut are its four moves: the law `a_taper_is_cut_as_its_words_say` (src/law.rt).
use Rattle.std.proofs.Common.{◌≡◌, refl, ℤ}
use Rattle.nc_number.specs.declared.point.Point.{Point}
use Rattle.plain_block.specs.declared.course.Course.TheVariants.{Rapid, Cut}
use Rattle.plain_block.specs.Blocks.{across_to, along_to}
use Rattle.taper_form.specs.declared.kind.TaperKind.{TaperKind}
use Rattle.taper_form.specs.declared.kind.TaperKind.TheVariants.{Turning, Facing}
use Rattle.taper_form.specs.declared.cut.TaperCut.{TaperCut}
use Rattle.taper_form.specs.Cuts.{begin_from, moves_from, cut_blocks}
use Rattle.taper_form.specs.Written.{IsRound}

-- of each cycle
round_of : (kind : TaperKind) (start target : Point) (taper : ℤ)
    → IsRound (record { kind = kind; start = start; target = target; taper = taper }) (moves_from kind start (begin_from kind start target taper) target)
round_of Turning start target taper = record {
  first = across_to Rapid (begin_from Turning start target taper).x;
  third = across_to Cut start.x;
  fourth = along_to Rapid start.z;
  four = refl;
  begins = refl;
  back = refl;
}
round_of Facing start target taper = record {
  first = along_to Rapid (begin_from Facing start target taper).z;
  third = along_to Cut start.z;
  fourth = across_to Rapid start.x;
  four = refl;
  begins = refl;
  back = refl;
}

-- of any cut
pub cut_round : (cut : TaperCut) → IsRound cut (cut_blocks cut)
cut_round cut = round_of cut.kind cut.start cut.target cut.taper
