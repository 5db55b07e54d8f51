-- No order of turns over an accepted pair, and no history of it, leads to paths that can't go on.
-- The laws `no_accepted_pair_is_stuck` and `no_history_is_stuck` (src/laws.rt) rest on it.
use Rattle.std.proofs.Common.{List, refl, sym, ap, subst, ◌∙◌}
use Rattle.nc_number.specs.declared.path.Path.TheVariants.{One, Two}
use Rattle.block_order.specs.Labels.{IsUnforked, list}
use Rattle.tape_flow.specs.declared.flow.Flow.{Flow}
use Rattle.run_records.specs.Entries.{Entry}
use Rattle.path_state.specs.Controlled.{IsControlled}
use Rattle.path_state.specs.Opening.{opening_path}
use Rattle.two_path.specs.Histories.{Event, run}
use Rattle.two_path.specs.Stuck.{IsPair, IsFree, IsNeverStuck, IsNeverStuckBehindRecords}
use Rattle.nc_verify.specs.declared.verified.Verified.{Verified}
use Rattle.nc_verify.specs.Verdict.{Texts}
use Rattle.nc_restart.specs.Pair.{IsPairOf, tapes_in, opening_of, machine_behind}
use Rattle.nc_restart.specs.History.{IsHistory}

-- accepted texts give two flows whose lists of labels agree
accepted_pair : (texts : Texts) (pair : Verified) → ((flow : Flow) → IsControlled flow) → IsPairOf texts pair → IsPair pair.left pair.right
accepted_pair texts pair controlled is = record {
  left_controlled = controlled pair.left;
  right_controlled = controlled pair.right;
  accepted = record {
    left_unforked = subst IsUnforked (sym pair.left.agrees) is.pair.left_unforked;
    right_unforked = subst IsUnforked (sym pair.right.agrees) is.pair.right_unforked;
    equal = ap list pair.left.agrees ∙ is.pair.same ∙ sym (ap list pair.right.agrees);
  };
}

-- no history of an accepted pair leads to paths that can't go on
pub never_stuck : ((flow : Flow) → IsControlled flow) → ((left right : Flow) → IsPair left right → IsNeverStuckBehindRecords left right)
    → (texts : Texts) (pair : Verified) (entries : List Entry) → IsPairOf texts pair → IsHistory pair entries
    → IsFree (tapes_in pair) (machine_behind pair entries)
never_stuck controlled free texts pair entries is history =
    free pair.left pair.right (accepted_pair texts pair controlled is) (opening_path pair.left pair.settings One) (opening_path pair.right pair.settings Two)
    (record { one = refl; two = refl }) entries history.legal

-- no order of turns of an accepted pair leads to paths that can't go on, from any starts of them
pub no_order_stuck : ((flow : Flow) → IsControlled flow) → ((left right : Flow) → IsPair left right → IsNeverStuck left right)
    → (texts : Texts) (pair : Verified) → IsPairOf texts pair → IsNeverStuck pair.left pair.right
no_order_stuck controlled free texts pair is = free pair.left pair.right (accepted_pair texts pair controlled is)

-- no order of turns leads there from the machine with which a run of the pair begins
pub no_run_stuck : ((flow : Flow) → IsControlled flow) → ((left right : Flow) → IsPair left right → IsNeverStuck left right)
    → (texts : Texts) (pair : Verified) (events : List Event) → IsPairOf texts pair
    → IsFree (tapes_in pair) (run (tapes_in pair) (opening_of pair) events)
no_run_stuck controlled free texts pair events is =
    no_order_stuck controlled free texts pair is (opening_path pair.left pair.settings One) (opening_path pair.right pair.settings Two)
    (record { one = refl; two = refl }) events
