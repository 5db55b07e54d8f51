-- The record of an edit that `take_edit` reads spells the bytes that it was read from, or there is
-- the least cause that it is none (src/reading.rt).
use Rattle.std.proofs.Common.{sym, ◌∙◌}
use Rattle.run_records.proofs.Read.{edit_spells}
use Rattle.run_records.proofs.reading.take_edit.Goals as goal

pub returns-in-Some-clause-bytes : goal.returns-in-Some-clause-bytes
returns-in-Some-clause-bytes c = rw (c.of_edit.ensures) (edit_spells c.args.path c.take_numbers-numbers.result c.in-Some.edit c.args.bytes.now (sym c.edit_with.ensures ∙ c.in-Some.is) c.take_numbers-numbers.ensures.bytes)
