-- The pieces of a form lie near enough (`finish_blocks`, src/form.rt).
use Rattle.std.proofs.Common.{All, subst, sym}
use Rattle.arc_contour.specs.Bounds.{IsPieceWithin}
use Rattle.rough_forms.proofs.Started.{piece_wider}
use Rattle.rough_forms.proofs.form.ContourForm.finish_blocks.Goals as goal

pub push_contour-requires-clause-pieces : goal.push_contour-requires-clause-pieces
push_contour-requires-clause-pieces c =
    subst (λ l. All (IsPieceWithin 200000000000) l) (sym c.deref.ensures.value) (λ k d within. piece_wider _ (c.requires.near.pieces k d within))
