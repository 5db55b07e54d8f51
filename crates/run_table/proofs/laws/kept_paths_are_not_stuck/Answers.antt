-- A machine that is the fold of a legal history of an accepted pair is not stuck (src/laws.rt).
use Rattle.std.proofs.Common.{refl, subst}
use Rattle.nc_number.specs.declared.path.Path.TheVariants.{One, Two}
use Rattle.path_state.specs.Opening.{opening_path}
use Rattle.two_path.specs.Machine.{MachineView}
use Rattle.two_path.specs.Stuck.{IsStuck, IsPair}
use Rattle.run_table.proofs.laws.kept_paths_are_not_stuck.Goals as goal

pub returns : goal.returns
returns c = λ verified entries machine kept.
    let pair : IsPair verified.left verified.right = record {
      left_controlled = c.control_goes_as_the_flow_orders.ensures.control verified.left;
      right_controlled = c.control_goes_as_the_flow_orders.ensures.control verified.right;
      accepted = record {
        left_unforked = verified.accepted.left_unforked;
        right_unforked = verified.accepted.right_unforked;
        equal = verified.accepted.same;
      };
    } in
    let free = c.no_legal_history_is_stuck.ensures verified.left verified.right pair
    (opening_path verified.left verified.settings One) (opening_path verified.right verified.settings Two)
    (record { one = refl; two = refl }) entries kept.legal in
    subst (λ (x : MachineView). IsStuck x → ⊥) kept.folds free.stuck
