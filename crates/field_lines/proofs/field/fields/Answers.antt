-- The parts of a line that `fields` collects are its fields (src/field.rt).
use Rattle.std.proofs.Common.{eqb, not, length, rules, tests}
use Rattle.std.proofs.lemmas.Iterator.Consumers.{map_from_collect, YieldsList-from_filter}
use Rattle.std.proofs.lemmas.Iterator.Splits.{YieldsList-from_slice_split}
use Rattle.field_lines.proofs.field.fields.Goals as goal

pub returns : goal.returns
returns c =
    map_from_collect _ c.collect.ensures.ran (YieldsList-from_filter _ (λ field. not (eqb (length field) 0)) (YieldsList-from_slice_split _ (λ b. eqb b 32) c.args.line.now (cc) (cc) c.split.ensures.closure (λ x r q k. search (rules, tests))) c.filter.ensures.closure (λ x r q k. search (rules, tests)))
