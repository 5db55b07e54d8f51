-- A pass is left by the retreat, but no farther than the start's Z (`off`, src/form.rt).
use Rattle.std.proofs.Common.{◌≡◌, pos, ◌+ℤ◌, ◌∙◌, refl, arith, to_z, of_z, w64}
use Rattle.std.specs.Int.{int_min}
use Rattle.std.proofs.lemmas.Int.{ints, to_z-of_z, fits_signed_from_abs}
use Rattle.nc_number.proofs.Points.{same_point}
use Rattle.rough_forms.specs.Roughing.{off_pass, across_of, along_of}
use Rattle.rough_forms.specs.Form.{rough_of}
use Rattle.rough_forms.proofs.form.ContourForm.off.Goals as goal

pub returns-clause-off : goal.returns-clause-off
returns-clause-off c =
    let retreat = c.requires.near.retreat in
    let start = c.requires.near.start in
    let pass = c.requires.pass in
    let way = c.args.self.now.frame.way in
    let deep : c.across_of.result ≡ across_of way c.args.self.now.retreat = c.across_of.ensures.across in
    let deep_near = c.across_of.ensures.near in
    let long : c.along_of.result ≡ along_of way c.args.self.now.retreat = c.along_of.ensures.along in
    let long_near = c.along_of.ensures.near in
    let back : to_z w64 (of_z w64 (to_z w64 (of_z w64 c.args.pass.now.z) +ℤ to_z w64 c.along_of.result)) ≡ (c.args.pass.now.z +ℤ pos (along_of way c.args.self.now.retreat)) = omega (arith, ints) in
    let at_start : to_z w64 (of_z w64 c.args.self.now.start.z) ≡ c.args.self.now.start.z = omega (arith, ints) in
    let is : c.lesser.result ≡ int_min (c.args.pass.now.z +ℤ pos (along_of way c.args.self.now.retreat)) c.args.self.now.start.z = c.lesser.ensures.lesser ∙ rw (back, at_start) refl in
    let near = c.lesser.ensures.near in
    let stored = to_z-of_z w64 c.lesser.result (fits_signed_from_abs w64 c.lesser.result (omega (arith, near))) in
    same_point _ (off_pass (rough_of c.args.self.now) c.args.pass.now) (omega (arith, ints)) (stored ∙ is)
