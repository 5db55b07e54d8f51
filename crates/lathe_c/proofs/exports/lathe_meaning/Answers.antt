-- For the proof of `lathe_meaning` (src/exports.rt): the sentence was handed out.
use Rattle.lathe_c.proofs.exports.lathe_meaning.Goals as goal

pub returns : goal.returns
returns c = (c.meaning_bytes.result.now, c.hand_out.ensures.len, c.hand_out.ensures.room)
