-- `subcommand` adds one option more at each turn, and what a parse reads of the command is that of
-- the options so far (src/grammar.rt).
use Rattle.std.proofs.Common.{[], arith}
use Rattle.command_words.specs.Table.{row_seen}
use Rattle.clap_reading.specs.Grammar.{with_option_rule, with_words}
use Rattle.clap_reading.proofs.Building.{adds_arg, one_more}
use Rattle.clap_reading.proofs.grammar.subcommand.Goals as goal

pub loop-id-preserved : goal.loop-id-preserved
loop-id-preserved c =
    one_more with_option_rule (with_words (row_seen c.args.row.now)) (λ id. id.now) c.args.row.now.options.now c.loop-id.id-index (record { ref_ptr = (0, 0); now = [] }) c.in_ok-command-2.command
    (omega arith) (adds_arg _ _ c.loop-id.command c.optional.result c.in_ok-command-2.command c.loop-id.invariant c.in_ok-command-2.ensures c.optional.ensures.rule c.optional.ensures.local)
