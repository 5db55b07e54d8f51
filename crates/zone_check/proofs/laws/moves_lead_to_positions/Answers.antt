-- Behind any records a path stands at the end of the last of its moves that goes somewhere (the law
-- `moves_lead_to_positions`, src/laws.rt).
use Rattle.zone_check.proofs.TurnsLead.{positions_lead}
use Rattle.zone_check.proofs.laws.moves_lead_to_positions.Goals as goal

pub returns : goal.returns
returns c = positions_lead
