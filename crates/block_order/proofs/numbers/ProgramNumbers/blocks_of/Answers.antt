-- The blocks at a number's place are those of its program; without a place there are none. For the
-- contract of `blocks_of` (src/numbers.rt).
use Rattle.std.proofs.Common.{◌<◌, ◌≤◌, length, ◌∙◌, arith}
use Rattle.block_order.proofs.Programs.{blocks_there, no_blocks_there, place_within}
use Rattle.block_order.proofs.numbers.ProgramNumbers.blocks_of.Goals as goal

pub returns-in-Some-get : goal.returns-in-Some-get
returns-in-Some-get c =
    let tape = c.args.programs.now in
    c.as_slice.ensures ∙ blocks_there tape c.args.number c.in-Some.place c.in-Some-get.program.now
    (c.in-Some.ensures ∙ c.requires c.args.number) c.in-Some-get.ensures.lookup.3.0 c.in-Some-get.ensures.lookup.1

pub returns-in-None-get : goal.returns-in-None-get
returns-in-None-get c =
    let tape = c.args.programs.now in
    let within : c.in-Some.place < length tape =
    place_within tape c.args.number c.in-Some.place (c.in-Some.ensures ∙ c.requires c.args.number) in
    let past : length tape ≤ c.in-Some.place = c.in-None-get.ensures.lookup.3 in
    absurd (omega arith)

pub returns-in-None : goal.returns-in-None
returns-in-None c = no_blocks_there c.args.programs.now c.args.number (c.in-None.ensures ∙ c.requires c.args.number)
