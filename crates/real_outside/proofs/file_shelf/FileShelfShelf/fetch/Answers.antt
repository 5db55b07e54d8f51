-- For the proof of `fetch` (src/file_shelf.rt): some bytes were appended, of which the shelf makes
-- nothing known.
use Rattle.std.proofs.lemmas.Result.{on_ok_weaker}
use Rattle.real_outside.proofs.file_shelf.FileShelfShelf.fetch.Goals as goal

pub returns-else-eq-clause-ok : goal.returns-else-eq-clause-ok
returns-else-eq-clause-ok g c =
    on_ok_weaker c.read-outcome.result (λ read. (read.0, tt, read.1, read.2)) c.read-outcome.ensures.ok
