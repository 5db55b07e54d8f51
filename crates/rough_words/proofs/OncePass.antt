-- The lines of one pass more, for the loop of `push_passes` (src/pattern.rt).
use Rattle.std.proofs.Common.{◌≡◌, ◌∙◌, ℕ, suc, ◌+◌, List, ◌++◌, ap, append_assoc, sym, arith, Option, ℤ}
use Rattle.nc_number.specs.declared.point.Point.{Point}
use Rattle.nc_text.specs.declared.tape.Block.{Block}
use Rattle.rough_forms.specs.declared.frame.Frame.{Frame}
use Rattle.contour_words.specs.declared.contour.Contour.{Contour}
use Rattle.rough_words.specs.declared.pattern.Offsets.{Offsets}
use Rattle.rough_words.specs.Patterns.{pass_lines, passes_lines}

-- one pass more
pub once_more : (offsets : Offsets) (frame : Frame) (start : Point) (contour : Contour) (feed : Option ℤ) (n : ℕ)
    → passes_lines offsets frame start contour feed (n + 1) ≡ passes_lines offsets frame start contour feed n ++ pass_lines offsets frame start contour feed n
once_more offsets frame start contour feed n =
    let next : n + 1 ≡ suc n = omega arith in ap (λ k. passes_lines offsets frame start contour feed k) next

-- the lines of pass n, put after those before it
pub one_put : (offsets : Offsets) (frame : Frame) (start : Point) (contour : Contour) (feed : Option ℤ) (n : ℕ) (base old new : List Block)
    → old ≡ base ++ passes_lines offsets frame start contour feed n → new ≡ old ++ pass_lines offsets frame start contour feed n
    → new ≡ base ++ passes_lines offsets frame start contour feed (n + 1)
one_put offsets frame start contour feed n base old new so_far put =
    put ∙ ap (λ lines. lines ++ pass_lines offsets frame start contour feed n) so_far
    ∙ append_assoc base (passes_lines offsets frame start contour feed n) (pass_lines offsets frame start contour feed n)
    ∙ ap (λ lines. base ++ lines) (sym (once_more offsets frame start contour feed n))
