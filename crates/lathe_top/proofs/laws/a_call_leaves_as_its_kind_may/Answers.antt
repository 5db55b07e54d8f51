-- For the proof of this law (src/laws.rt): what `top` promises of a call is what the laws over
-- calls ask for.
use Rattle.std.proofs.Common.{sym, subst}
use Rattle.lathe_top.specs.Kept.{Leaves}
use Rattle.lathe_top.specs.Kinds.{kind_of}
use Rattle.lathe_top.specs.Stops.{call_in, lathe_before, lathe_behind}
use Rattle.lathe_top.proofs.DoneLeaves.{done_left}
use Rattle.lathe_top.proofs.laws.a_call_leaves_as_its_kind_may.Goals as goal

pub returns : goal.returns
returns g c = λ call around status asked is.
    let state = g.D.Disk.state in
    subst (λ words. Leaves state (kind_of words) (lathe_before state call) (lathe_behind state call)) (sym asked)
    (done_left state g.E.Disk.state (call_in state around call) status is)
