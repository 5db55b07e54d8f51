-- The pieces of a form lie near enough (`starts_well`, src/check.rt).
use Rattle.std.proofs.Common.{All, subst, sym}
use Rattle.arc_contour.specs.Bounds.{IsPieceWithin}
use Rattle.rough_forms.proofs.Started.{piece_wider}
use Rattle.rough_forms.proofs.form.ContourForm.starts_well.Goals as goal

pub last_of-last-requires-clause-pieces : goal.last_of-last-requires-clause-pieces
last_of-last-requires-clause-pieces c =
    subst (λ l. All (IsPieceWithin 200000000000) l) (sym c.deref.ensures.value) (λ k d within. piece_wider _ (c.requires.pieces k d within))
