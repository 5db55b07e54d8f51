-- One flag more, of a program with a loud block, flags a loud program. A loud block is a wait, an
-- end, or a call of a loud program, and a loud program has such a block. For the contract of `hear`
-- (src/loud.rt).
use Rattle.std.proofs.Common.{◌≡◌, true, ap, sym, ◌∙◌}
use Rattle.block_order.specs.Loud.{has_loud_block}
use Rattle.block_order.specs.Order.{blocks}
use Rattle.block_order.specs.Heard.{flag_known}
use Rattle.block_order.proofs.HeardFirst.{one_heard}
use Rattle.block_order.proofs.loud.hear.Goals as goal

pub returns-in-Some : goal.returns-in-Some
returns-in-Some c =
    let tape = c.args.programs.now in
    let numbers = c.args.numbers.now in
    let flags = c.args.flags.now in
    let number = c.args.number in
    let noisy : has_loud_block (flag_known numbers flags) (blocks tape number) ≡ true =
    ap (λ bs. has_loud_block (flag_known numbers flags) bs) (sym c.blocks_of.ensures)
    ∙ (sym c.any_is_loud.ensures ∙ c.if-not-any_is_loud.false) in
    record {
      sound = one_heard tape numbers flags number c.in-Some.place c.requires.known c.requires.sound noisy
          (sym (c.requires.known number) ∙ sym c.in-Some.ensures) c.if-place-flags.true;
    }
