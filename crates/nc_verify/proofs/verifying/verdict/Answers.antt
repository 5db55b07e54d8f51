-- `verdict`: what the parts answer is the answer of the three texts. The refusal of a tape or of
-- the flows as a pair is theirs, and if there is none they are accepted (src/verifying.rt).
use Rattle.std.proofs.Common.{map, subst}
use Rattle.cell_settings.specs.View.{view}
use Rattle.nc_number.specs.declared.path.Path.TheVariants.{One, Two}
use Rattle.tape_flow.specs.Controls.{controls}
use Rattle.tape_flow.specs.Forms.{program_form}
use Rattle.label_list.specs.Accepted.{IsAcceptedPair}
use Rattle.nc_verify.specs.Verdict.{IsTapeRefusal, IsPairRefusal, IsRefusalOf}
use Rattle.nc_verify.specs.Verdict.IsRefusalOf.{left, right, pair}
use Rattle.nc_verify.proofs.Refused.{by_refusal}
use Rattle.nc_verify.proofs.verifying.verdict.Goals as goal

pub returns-in-Err-flow_of-clause-refused : goal.returns-in-Err-flow_of-clause-refused
returns-in-Err-flow_of-clause-refused c =
    by_refusal (IsTapeRefusal (view c.in-Ok.settings) One c.args.left.now)
    (IsRefusalOf (record { left = c.args.left.now; right = c.args.right.now; settings = c.args.settings.now }))
    c.in-Err-flow_of.error (λ refusal refused. left (view c.in-Ok.settings) c.in-Ok.ensures.settings refused)
    c.in-Err-flow_of.ensures.refused

pub returns-in-Err-flow_of-2-clause-refused : goal.returns-in-Err-flow_of-2-clause-refused
returns-in-Err-flow_of-2-clause-refused c =
    by_refusal (IsTapeRefusal (view c.in-Ok.settings) Two c.args.right.now)
    (IsRefusalOf (record { left = c.args.left.now; right = c.args.right.now; settings = c.args.settings.now }))
    c.in-Err-flow_of-2.error
    (λ refusal refused. right (view c.in-Ok.settings) (map program_form c.in-Ok-flow_of.flow.programs) c.in-Ok.ensures.settings
    c.in-Ok-flow_of.ensures.flow refused)
    c.in-Err-flow_of-2.ensures.refused

pub returns-in-Err-accept-clause-refused : goal.returns-in-Err-accept-clause-refused
returns-in-Err-accept-clause-refused c =
    by_refusal (IsPairRefusal c.in-Ok-flow_of.flow.order c.in-Ok-flow_of-2.flow.order)
    (IsRefusalOf (record { left = c.args.left.now; right = c.args.right.now; settings = c.args.settings.now }))
    c.in-Err-accept.error
    (λ refusal refused. pair (view c.in-Ok.settings) (map program_form c.in-Ok-flow_of.flow.programs)
    (map program_form c.in-Ok-flow_of-2.flow.programs)
    (record {
      settings_are = c.in-Ok.ensures.settings;
      left_is = c.in-Ok-flow_of.ensures.flow;
      right_is = c.in-Ok-flow_of-2.ensures.flow;
    })
    (subst (λ y. IsPairRefusal (controls (map program_form c.in-Ok-flow_of.flow.programs)) y refusal) c.in-Ok-flow_of-2.flow.agrees
    (subst (λ x. IsPairRefusal x c.in-Ok-flow_of-2.flow.order refusal) c.in-Ok-flow_of.flow.agrees refused)))
    c.in-Err-accept.ensures.refused

pub returns-in-Ok-accept-clause-accepted : goal.returns-in-Ok-accept-clause-accepted
returns-in-Ok-accept-clause-accepted c =
    rw (c.of.ensures.settings, c.of.ensures.left, c.of.ensures.right) (record {
      flows = record {
        settings_are = c.in-Ok.ensures.settings;
        left_is = c.in-Ok-flow_of.ensures.flow;
        right_is = c.in-Ok-flow_of-2.ensures.flow;
      };
      pair =
          subst (λ y. IsAcceptedPair (controls (map program_form c.in-Ok-flow_of.flow.programs)) y) c.in-Ok-flow_of-2.flow.agrees
          (subst (λ x. IsAcceptedPair x c.in-Ok-flow_of-2.flow.order) c.in-Ok-flow_of.flow.agrees c.in-Ok-accept.ensures.accepted);
    })
