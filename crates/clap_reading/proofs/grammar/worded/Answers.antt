-- `worded` adds one word more that may be left out at each turn, and what a parse reads of the
-- command is that of the words so far (src/grammar.rt).
use Rattle.std.proofs.Common.{[], arith}
use Rattle.command_words.specs.Table.{row_seen}
use Rattle.clap_reading.specs.Grammar.{with_further_rule, with_names}
use Rattle.clap_reading.proofs.Building.{adds_arg, one_more}
use Rattle.clap_reading.proofs.grammar.worded.Goals as goal

pub loop-id-preserved : goal.loop-id-preserved
loop-id-preserved c =
    one_more with_further_rule (with_names (row_seen c.args.row.now)) (λ id. id.now) c.args.row.now.further.now c.loop-id.id-index (record { ref_ptr = (0, 0); now = [] }) c.in_ok-command-2.command
    (omega arith) (adds_arg _ _ c.loop-id.command c.further.result c.in_ok-command-2.command c.loop-id.invariant c.in_ok-command-2.ensures c.further.ensures.rule c.further.ensures.local)
