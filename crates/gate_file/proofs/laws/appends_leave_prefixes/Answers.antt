-- A crash leaves the bodies of the first appends to a file of gates, all acknowledged ones among
-- them (the law `appends_leave_prefixes`, src/laws.rt).
use Rattle.gate_file.proofs.Prefixes.{prefixes}
use Rattle.gate_file.proofs.laws.appends_leave_prefixes.Goals as goal

pub returns : goal.returns
returns g c = λ disk end body first n start acknowledged moments j le image since. prefixes g.D.Disk.state disk end body first n start acknowledged moments j le image since
