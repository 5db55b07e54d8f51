-- Each worked block comes to what it should, by computing (src/worked.rt).
use Rattle.std.proofs.Common.{refl}
use Rattle.common_vars.specs.Variables.{variable_of}
use Rattle.path_state.proofs.worked.worked_blocks_come_to_these.Goals as goal

pub returns : goal.returns
unfolding variable_of
returns c = record {
  cycle = refl;
  vacant = refl;
  range = refl;
  third = refl;
  nameless = refl;
  zero_divisor = refl;
  read_first = refl;
  differs = refl;
  called = refl;
  argument = refl;
  programmed = refl;
  rest = refl;
  home = refl;
  arc = refl;
  off_the_circle = refl;
  no_feed = refl;
  no_arc = refl;
  speed = refl;
  repeats = refl;
  returns = refl;
  ends = refl;
  incremental = refl;
  cycle_in_b = refl;
  in_machine = refl;
  in_machine_alone = refl;
  absolute_in_b = refl;
  absolute_in_a = refl;
  protected_in_b = refl;
  nameless_in_a = refl;
}
