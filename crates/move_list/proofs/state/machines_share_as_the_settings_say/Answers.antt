-- For the proof of this law (src/state.rt): both paths of a machine of the pair share the variables
-- that the settings say.
use Rattle.move_list.proofs.Fixed.{first_shares, second_shares}
use Rattle.move_list.proofs.state.machines_share_as_the_settings_say.Goals as goal

pub returns-clause-one : goal.returns-clause-one
returns-clause-one c =
    let fixed = c.control_goes_as_the_flow_orders.ensures.fixed in
    first_shares c.args.verified.now.left c.args.verified.now.right c.args.verified.now.settings c.args.machine.now.machine
    (fixed c.args.verified.now.left) (fixed c.args.verified.now.right) c.requires

pub returns-clause-two : goal.returns-clause-two
returns-clause-two c =
    let fixed = c.control_goes_as_the_flow_orders.ensures.fixed in
    second_shares c.args.verified.now.left c.args.verified.now.right c.args.verified.now.settings c.args.machine.now.machine
    (fixed c.args.verified.now.left) (fixed c.args.verified.now.right) c.requires
