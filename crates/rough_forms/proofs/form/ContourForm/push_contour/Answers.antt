-- The blocks to the contour, along it, off, and back (`push_contour`, src/form.rt).
use Rattle.std.proofs.Common.{◌∙◌, refl, map, [], ◌∷◌}
use Rattle.std.proofs.lemmas.List.{map-append}
use Rattle.rough_forms.specs.Frames.{told}
use Rattle.rough_forms.specs.Roughing.{piece_move, entry_leg, across_to, along_to}
use Rattle.rough_forms.specs.declared.seen.Leg.TheVariants.{Rapid, Cut}
use Rattle.rough_forms.proofs.Pushed.{lines_pushed}
use Rattle.rough_forms.proofs.form.ContourForm.push_contour.Goals as goal

pub returns : goal.returns
returns c = record {
  ok = lines_pushed c.args.blocks.now.items c.push_along.new.blocks.items c.push_across.new.blocks.items c.push_pieces.new.blocks.items c.push_across-2.new.blocks.items c.push_along-2.new.blocks.items
      (told c.args.self.now.frame (along_to Rapid c.args.first.now)) (told c.args.self.now.frame (across_to (entry_leg c.args.self.now.enters) c.args.first.now))
      (told c.args.self.now.frame (across_to Cut c.args.start.now)) (told c.args.self.now.frame (along_to Rapid c.args.start.now))
      (map (told c.args.self.now.frame) (map piece_move c.args.pieces.now))
      c.in_ok-push_along.ensures.ok
      (c.in_ok-push_across.ensures.ok ∙ rw c.leg.ensures.leg refl)
      c.in_ok-push_pieces.ensures.ok
      c.in_ok-push_across-2.ensures.ok
      c.in_ok-push_along-2.ensures.ok
      ∙ rw (map-append (told c.args.self.now.frame) (map piece_move c.args.pieces.now) (across_to Cut c.args.start.now ∷ along_to Rapid c.args.start.now ∷ [])) refl;
}
