-- The line of the first block that may pass a wait is the first such line; without such a block
-- there is none. For the contract of `line_of` (src/view.rt).
use Rattle.std.proofs.Common.{◌≤◌, ◌<◌, length, subst, arith}
use Rattle.wait_order.specs.Waiting.{IsLeast, IsStray}
use Rattle.wait_order.proofs.Strayed.{least_line, least_no_line, stray_within, stands_there}
use Rattle.wait_order.proofs.view.ProgramView.line_of.Goals as goal

pub returns-in-Some-get : goal.returns-in-Some-get
returns-in-Some-get c =
    let bs = c.args.self.now.ways.blocks.now in
    let tape = c.args.self.now.programs.now in
    let first = subst (λ o. IsLeast (IsStray tape c.args.self.now.number) o) c.in-Some.is c.requires.first in
    least_line tape c.args.self.now.number c.in-Some.place bs c.in-Some-get.block.now
    c.requires.view.own_blocks c.requires.rising first
    (stands_there bs c.in-Some.place c.in-Some-get.block.now c.in-Some-get.ensures.lookup.3.0 c.in-Some-get.ensures.lookup.1)

pub returns-in-None-get : goal.returns-in-None-get
returns-in-None-get c =
    let bs = c.args.self.now.ways.blocks.now in
    let tape = c.args.self.now.programs.now in
    let first = subst (λ o. IsLeast (IsStray tape c.args.self.now.number) o) c.in-Some.is c.requires.first in
    let within : c.in-Some.place < length bs =
    stray_within tape c.args.self.now.number c.in-Some.place bs c.requires.view.own_blocks first in
    let past : length bs ≤ c.in-Some.place = c.in-None-get.ensures.lookup.3 in
    absurd (omega arith)

pub returns-in-None : goal.returns-in-None
returns-in-None c =
    least_no_line c.args.self.now.programs.now c.args.self.now.number
    (subst (λ o. IsLeast (IsStray c.args.self.now.programs.now c.args.self.now.number) o) c.in-None.is c.requires.first)
