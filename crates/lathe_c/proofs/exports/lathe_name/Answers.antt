-- For the proof of `lathe_name` (src/exports.rt): the name was handed out.
use Rattle.lathe_c.proofs.exports.lathe_name.Goals as goal

pub returns : goal.returns
returns c = (c.name_bytes.result.now, c.name_bytes.ensures, c.hand_out.ensures.len, c.hand_out.ensures.room)
