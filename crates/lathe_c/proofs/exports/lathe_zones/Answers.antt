-- For the proof of `lathe_zones` (src/exports.rt): the zones are those of the three texts.
use Rattle.lathe_c.proofs.Told.{zones_told}
use Rattle.lathe_c.proofs.exports.lathe_zones.Goals as goal

pub returns : goal.returns
returns c = zones_told c.args.limit c.args.zones.now c.of-texts.ensures c.told.ensures c.answer_zones.ensures
