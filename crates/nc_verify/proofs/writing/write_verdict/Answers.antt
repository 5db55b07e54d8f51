-- `write_verdict` puts the line of the verdict whole, or a prefix of it up to a fault of the sink
-- (src/writing.rt).
use Rattle.nc_verify.proofs.writing.write_verdict.Goals as goal

pub returns : goal.returns
returns g c = (c.verdict_line.result, c.verdict_line.ensures, c.put_piece.ensures)
