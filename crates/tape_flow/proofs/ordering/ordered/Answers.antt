-- The blocks of the ordered program are those of the program's form (src/ordering.rt).
use Rattle.std.proofs.Common.{ap, sym}
use Rattle.std.proofs.lemmas.Simd.{map-map}
use Rattle.block_forms.specs.Blocks.{block_form}
use Rattle.tape_flow.specs.Controls.{control_block}
use Rattle.tape_flow.proofs.ordering.ordered.Goals as goal

pub returns : goal.returns
returns c =
    let program = c.args.program.now in
    rw (c.of.ensures, c.in_ok-blocks.ensures, c.as_slice.ensures)
    (ap (λ bs. record { number = program.number; line = program.line; blocks = bs })
    (sym (map-map control_block block_form program.blocks)))
