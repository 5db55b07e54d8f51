-- The main program alone is reached by no call. For the contract of `main_reached` (src/depth.rt).
use Rattle.std.proofs.Common.{◌≡◌, false, true, length, replicate, slice_set, rules}
use Rattle.wait_order.proofs.Called.{main_flagged}
use Rattle.wait_order.proofs.depth.main_reached.Goals as goal

pub returns : goal.returns
returns c =
    let none : c.in_ok-reached.reached.items ≡ replicate (length c.args.programs.now) false = search rules in
    let count : length (slice_set c.in_ok-reached.reached.items 0 true) ≡ length c.args.programs.now = search rules in
    main_flagged c.args.programs.now c.in_ok-reached.reached.items c.requires.some none count
