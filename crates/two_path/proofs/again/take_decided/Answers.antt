-- `take_decided`: the block that was decided is taken if its record is of this kind; else nothing
-- has changed (src/again.rt).
use Rattle.std.proofs.Common.{refl, sym, ap, ◌∙◌}
use Rattle.two_path.specs.Turns.{blocks_of}
use Rattle.two_path.specs.Again.{kind_of_effect}
use Rattle.two_path.proofs.Redone.{not_due}
use Rattle.two_path.proofs.again.take_decided.Goals as goal

pub returns-then-is_due-clause-taken : goal.returns-then-is_due-clause-taken
returns-then-is_due-clause-taken c = record {
  due = ap (λ e. kind_of_effect e c.args.other.now.waiting)
      (sym c.decide-decision.ensures.effect ∙ sym (c.answer.ensures c.args.me.now.path c.decide-decision.new.moves))
      ∙ sym (c.kind_due.ensures c.decide-decision.new.moves _) ∙ c.is_due.ensures.due c.if-is_due.true;
  taken = c.take.ensures (blocks_of c.args.flow.now) c.decide-decision.new.moves
      (record { effect = c.decide-decision.ensures.effect; fit = c.decide-decision.ensures.fit; may = c.decide-decision.ensures.may });
  are = c.decide-decision.ensures.moves;
}

pub returns-else-is_due-clause-refused : goal.returns-else-is_due-clause-refused
returns-else-is_due-clause-refused c = record {
  differs = λ is.
      not_due c.is_due.result
      (c.is_due.ensures.other
      (c.kind_due.ensures c.decide-decision.new.moves _
      ∙ ap (λ e. kind_of_effect e c.args.other.now.waiting)
      (c.answer.ensures c.args.me.now.path c.decide-decision.new.moves ∙ c.decide-decision.ensures.effect) ∙ is)
      c.requires.step)
      c.if-is_due.false;
  stays = refl;
}
