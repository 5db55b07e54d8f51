-- `named` adds one word more at each turn, and what a parse reads of the command is that of the
-- words so far (src/grammar.rt).
use Rattle.std.proofs.Common.{[], arith}
use Rattle.clap.specs.Words.{new_app}
use Rattle.clap_reading.specs.Grammar.{with_name_rule}
use Rattle.clap_reading.proofs.Building.{adds_arg, one_more}
use Rattle.clap_reading.proofs.grammar.named.Goals as goal

pub loop-id-preserved : goal.loop-id-preserved
loop-id-preserved c =
    one_more with_name_rule (new_app c.args.row.now.name.now) (λ id. id.now) c.args.row.now.words.now c.loop-id.id-index (record { ref_ptr = (0, 0); now = [] }) c.in_ok-command.command
    (omega arith) (adds_arg _ _ c.loop-id.command c.wanted.result c.in_ok-command.command c.loop-id.invariant c.in_ok-command.ensures c.wanted.ensures.rule c.wanted.ensures.local)
