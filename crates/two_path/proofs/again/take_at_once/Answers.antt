-- `take_at_once`: the block is taken if its record is of this kind; if it is not, the block changed
-- nothing (src/again.rt).
use Rattle.std.proofs.Common.{◌≡◌, Some, sym, ap, ◌∙◌}
use Rattle.std.specs.Prelude.{slice_get}
use Rattle.two_path.specs.Turns.{blocks_of}
use Rattle.two_path.specs.Again.{kind_of_block, kind_of_effect}
use Rattle.two_path.proofs.Redone.{not_due}
use Rattle.two_path.proofs.Due.{stays}
use Rattle.two_path.proofs.again.take_at_once.Goals as goal

pub returns-then-is_due-clause-taken : goal.returns-then-is_due-clause-taken
returns-then-is_due-clause-taken c = record {
  due = ap (λ e. kind_of_effect e c.args.other.now.waiting) (sym c.advance-answer.ensures.taken.effect)
      ∙ sym (c.kind_due.ensures c.advance-answer.new.moves c.advance-answer.new.self.path) ∙ c.is_due.ensures.due c.if-is_due.true;
  taken = c.advance-answer.ensures.taken;
  are = c.advance-answer.ensures.moves;
}

pub returns-else-is_due-clause-refused : goal.returns-else-is_due-clause-refused
returns-else-is_due-clause-refused c =
    let flow = c.args.flow.now in
    let path = c.args.me.now.path in
    let values = c.args.me.now.values in
    let differs : kind_of_block (blocks_of flow) c.args.me.now c.args.other.now ≡ Some c.args.kind.now → ⊥ = λ is.
    not_due c.is_due.result
    (c.is_due.ensures.other
    (c.kind_due.ensures c.advance-answer.new.moves c.advance-answer.new.self.path
    ∙ ap (λ e. kind_of_effect e c.args.other.now.waiting) c.advance-answer.ensures.taken.effect ∙ is)
    c.requires.step)
    c.if-is_due.false in
    record {
      differs = differs;
      stays = stays flow.order (blocks_of flow) c.args.kind.now (slice_get path.place 1) c.args.me.now c.advance-answer.new.self c.args.other.now
          c.advance-answer.result c.advance-answer.new.moves c.requires.only (c.control_goes_as_the_flow_orders.ensures.control flow path values)
          (λ code. c.waits_and_ends_stop_a_path.ensures.waits flow path code values) (c.waits_and_ends_stop_a_path.ensures.ends flow path values)
          c.advance-answer.ensures.taken differs;
    }
