-- What passes the tests of a form is a sound part (`form_of`, src/form.rt).
use Rattle.std.proofs.Common.{◌≡◌, true, rules}
use Rattle.rough_cycle.specs.Form.{rough_of}
use Rattle.cycle_form.specs.Forms.{is_form}
use Rattle.cycle_form.proofs.Forms.{form}
use Rattle.cycle_form.proofs.form.form_of.Goals as goal

pub of-requires : goal.of-requires
of-requires c =
    let passes : is_form (rough_of c.rough_by-rough.result) ≡ true = search rules in
    record {
      form = form (rough_of c.rough_by-rough.result) c.rough_by-rough.ensures.deep c.rough_by-rough.ensures.at_start passes;
      near = c.rough_by-rough.ensures.near;
      start = tt;
    }
