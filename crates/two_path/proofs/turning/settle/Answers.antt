-- `settle`: for each answer of a path that took its block, the turn, the machine and the record are
-- those of the block's turn; and what its calls of `read`, `did` and `came_to_wait` require holds
-- (src/turning.rt).
use Rattle.std.proofs.Common.{Some, None, refl, ap, subst, ◌∙◌}
use Rattle.run_records.specs.declared.entry.EntryKind.TheVariants as kind
use Rattle.path_state.specs.declared.advance.BlockAnswer.{BlockAnswer}
use Rattle.path_state.specs.declared.advance.BlockAnswer.TheVariants as answer
use Rattle.path_state.specs.Effect.{effect_of}
use Rattle.two_path.specs.Machine.{Part}
use Rattle.two_path.specs.Turns.{TurnResult, blocks_of}
use Rattle.two_path.specs.Made.{answer_of}
use Rattle.two_path.specs.Joined.{HasTaken}
use Rattle.two_path.proofs.Replayed.{needs_shared, writes_shared}
use Rattle.two_path.proofs.Settled.{went, stood, same_stamps, entry_of_block, asks_now, waits_now}
use Rattle.two_path.proofs.turning.settle.Goals as goal

pub returns-in-Need-clause-answer : goal.returns-in-Need-clause-answer
returns-in-Need-clause-answer c before moves at taken =
    let blocks = blocks_of c.args.flow.now in
    let now : Part = c.args.me.now in
    let told : BlockAnswer = answer.Need c.in-Need.variable in
    let here : HasTaken blocks before now told moves = subst (λ (a : BlockAnswer). HasTaken blocks before now a moves) c.in-Need.is taken in
    let is = stood blocks c.args.path c.args.line before now c.args.other.now c.args.joint.now told moves at here here.stays in
    c.read.ensures.answer c.args.path c.args.line c.args.other.now ∙ ap (λ (r : TurnResult). answer_of r.turn) is

pub returns-in-Need-clause-machine : goal.returns-in-Need-clause-machine
returns-in-Need-clause-machine c before moves at taken =
    let blocks = blocks_of c.args.flow.now in
    let now : Part = c.args.me.now in
    let told : BlockAnswer = answer.Need c.in-Need.variable in
    let here : HasTaken blocks before now told moves = subst (λ (a : BlockAnswer). HasTaken blocks before now a moves) c.in-Need.is taken in
    let is = stood blocks c.args.path c.args.line before now c.args.other.now c.args.joint.now told moves at here here.stays in
    c.read.ensures.machine c.args.path c.args.line c.args.other.now ∙ ap (λ (r : TurnResult). r.machine) is

pub returns-in-Need-clause-entry : goal.returns-in-Need-clause-entry
returns-in-Need-clause-entry c before moves at taken =
    let blocks = blocks_of c.args.flow.now in
    let now : Part = c.args.me.now in
    let told : BlockAnswer = answer.Need c.in-Need.variable in
    let here : HasTaken blocks before now told moves = subst (λ (a : BlockAnswer). HasTaken blocks before now a moves) c.in-Need.is taken in
    let is = stood blocks c.args.path c.args.line before now c.args.other.now c.args.joint.now told moves at here here.stays in
    entry_of_block c.args.path before now c.read.result.entry (None) _ _ (same_stamps blocks before now told moves here) is refl c.read.ensures.entry

pub returns-in-Done-clause-answer : goal.returns-in-Done-clause-answer
returns-in-Done-clause-answer c before moves at taken =
    let blocks = blocks_of c.args.flow.now in
    let now : Part = c.args.me.now in
    let told : BlockAnswer = answer.Done c.in-Done.write in
    let here : HasTaken blocks before now told moves = subst (λ (a : BlockAnswer). HasTaken blocks before now a moves) c.in-Done.is taken in
    let is = went blocks c.args.path c.args.line before now c.args.other.now c.args.joint.now told moves at here in
    c.did.ensures.answer ∙ ap (λ (r : TurnResult). answer_of r.turn) is

pub returns-in-Done-clause-machine : goal.returns-in-Done-clause-machine
returns-in-Done-clause-machine c before moves at taken =
    let blocks = blocks_of c.args.flow.now in
    let now : Part = c.args.me.now in
    let told : BlockAnswer = answer.Done c.in-Done.write in
    let here : HasTaken blocks before now told moves = subst (λ (a : BlockAnswer). HasTaken blocks before now a moves) c.in-Done.is taken in
    let is = went blocks c.args.path c.args.line before now c.args.other.now c.args.joint.now told moves at here in
    c.did.ensures.machine before.path c.args.line c.args.other.now moves ∙ ap (λ (r : TurnResult). r.machine) is

pub returns-in-Done-clause-entry : goal.returns-in-Done-clause-entry
returns-in-Done-clause-entry c before moves at taken =
    let blocks = blocks_of c.args.flow.now in
    let now : Part = c.args.me.now in
    let told : BlockAnswer = answer.Done c.in-Done.write in
    let here : HasTaken blocks before now told moves = subst (λ (a : BlockAnswer). HasTaken blocks before now a moves) c.in-Done.is taken in
    let is = went blocks c.args.path c.args.line before now c.args.other.now c.args.joint.now told moves at here in
    entry_of_block c.args.path before now c.did.result.entry (Some kind.Did) _ _ (same_stamps blocks before now told moves here) is refl c.did.ensures.entry

pub returns-in-AtWait-clause-answer : goal.returns-in-AtWait-clause-answer
returns-in-AtWait-clause-answer c before moves at taken =
    let blocks = blocks_of c.args.flow.now in
    let now : Part = c.args.me.now in
    let told : BlockAnswer = answer.AtWait c.in-AtWait.code in
    let here : HasTaken blocks before now told moves = subst (λ (a : BlockAnswer). HasTaken blocks before now a moves) c.in-AtWait.is taken in
    let is = stood blocks c.args.path c.args.line before now c.args.other.now c.args.joint.now told moves at here here.stays in
    c.came_to_wait.ensures.answer ∙ ap (λ (r : TurnResult). answer_of r.turn) is

pub returns-in-AtWait-clause-machine : goal.returns-in-AtWait-clause-machine
returns-in-AtWait-clause-machine c before moves at taken =
    let blocks = blocks_of c.args.flow.now in
    let now : Part = c.args.me.now in
    let told : BlockAnswer = answer.AtWait c.in-AtWait.code in
    let here : HasTaken blocks before now told moves = subst (λ (a : BlockAnswer). HasTaken blocks before now a moves) c.in-AtWait.is taken in
    let is = stood blocks c.args.path c.args.line before now c.args.other.now c.args.joint.now told moves at here here.stays in
    c.came_to_wait.ensures.machine ∙ ap (λ (r : TurnResult). r.machine) is

pub returns-in-AtWait-clause-entry : goal.returns-in-AtWait-clause-entry
returns-in-AtWait-clause-entry c before moves at taken =
    let blocks = blocks_of c.args.flow.now in
    let now : Part = c.args.me.now in
    let told : BlockAnswer = answer.AtWait c.in-AtWait.code in
    let here : HasTaken blocks before now told moves = subst (λ (a : BlockAnswer). HasTaken blocks before now a moves) c.in-AtWait.is taken in
    let is = stood blocks c.args.path c.args.line before now c.args.other.now c.args.joint.now told moves at here here.stays in
    entry_of_block c.args.path before now c.came_to_wait.result.entry (_) _ _ (same_stamps blocks before now told moves here) is refl c.came_to_wait.ensures.entry

pub returns-in-AtEnd-clause-answer : goal.returns-in-AtEnd-clause-answer
returns-in-AtEnd-clause-answer c before moves at taken =
    let blocks = blocks_of c.args.flow.now in
    let now : Part = c.args.me.now in
    let told : BlockAnswer = answer.AtEnd in
    let here : HasTaken blocks before now told moves = subst (λ (a : BlockAnswer). HasTaken blocks before now a moves) c.in-AtEnd.is taken in
    let is = went blocks c.args.path c.args.line before now c.args.other.now c.args.joint.now told moves at here in
    c.ended.ensures.answer ∙ ap (λ (r : TurnResult). answer_of r.turn) is

pub returns-in-AtEnd-clause-machine : goal.returns-in-AtEnd-clause-machine
returns-in-AtEnd-clause-machine c before moves at taken =
    let blocks = blocks_of c.args.flow.now in
    let now : Part = c.args.me.now in
    let told : BlockAnswer = answer.AtEnd in
    let here : HasTaken blocks before now told moves = subst (λ (a : BlockAnswer). HasTaken blocks before now a moves) c.in-AtEnd.is taken in
    let is = went blocks c.args.path c.args.line before now c.args.other.now c.args.joint.now told moves at here in
    c.ended.ensures.machine before.path c.args.line c.args.other.now moves ∙ ap (λ (r : TurnResult). r.machine) is

pub returns-in-AtEnd-clause-entry : goal.returns-in-AtEnd-clause-entry
returns-in-AtEnd-clause-entry c before moves at taken =
    let blocks = blocks_of c.args.flow.now in
    let now : Part = c.args.me.now in
    let told : BlockAnswer = answer.AtEnd in
    let here : HasTaken blocks before now told moves = subst (λ (a : BlockAnswer). HasTaken blocks before now a moves) c.in-AtEnd.is taken in
    let is = went blocks c.args.path c.args.line before now c.args.other.now c.args.joint.now told moves at here in
    entry_of_block c.args.path before now c.ended.result.entry (Some kind.Ended) _ _ (same_stamps blocks before now told moves here) is refl c.ended.ensures.entry

pub returns-in-Alarm-clause-answer : goal.returns-in-Alarm-clause-answer
returns-in-Alarm-clause-answer c before moves at taken =
    let blocks = blocks_of c.args.flow.now in
    let now : Part = c.args.me.now in
    let told : BlockAnswer = answer.Alarm c.in-Alarm.cause c.in-Alarm.value in
    let here : HasTaken blocks before now told moves = subst (λ (a : BlockAnswer). HasTaken blocks before now a moves) c.in-Alarm.is taken in
    let is = stood blocks c.args.path c.args.line before now c.args.other.now c.args.joint.now told moves at here here.stays in
    c.alarmed.ensures.answer ∙ ap (λ (r : TurnResult). answer_of r.turn) is

pub returns-in-Alarm-clause-machine : goal.returns-in-Alarm-clause-machine
returns-in-Alarm-clause-machine c before moves at taken =
    let blocks = blocks_of c.args.flow.now in
    let now : Part = c.args.me.now in
    let told : BlockAnswer = answer.Alarm c.in-Alarm.cause c.in-Alarm.value in
    let here : HasTaken blocks before now told moves = subst (λ (a : BlockAnswer). HasTaken blocks before now a moves) c.in-Alarm.is taken in
    let is = stood blocks c.args.path c.args.line before now c.args.other.now c.args.joint.now told moves at here here.stays in
    c.alarmed.ensures.machine c.args.other.now ∙ ap (λ (r : TurnResult). r.machine) is

pub returns-in-Alarm-clause-entry : goal.returns-in-Alarm-clause-entry
returns-in-Alarm-clause-entry c before moves at taken =
    let blocks = blocks_of c.args.flow.now in
    let now : Part = c.args.me.now in
    let told : BlockAnswer = answer.Alarm c.in-Alarm.cause c.in-Alarm.value in
    let here : HasTaken blocks before now told moves = subst (λ (a : BlockAnswer). HasTaken blocks before now a moves) c.in-Alarm.is taken in
    let is = stood blocks c.args.path c.args.line before now c.args.other.now c.args.joint.now told moves at here here.stays in
    entry_of_block c.args.path before now c.alarmed.result.entry (Some kind.Alarmed) _ _ (same_stamps blocks before now told moves here) is refl c.alarmed.ensures.entry

pub read-requires-clause-few : goal.read-requires-clause-few
read-requires-clause-few c =
    let blocks = blocks_of c.args.flow.now in
    let before : Part = c.requires.taken.0 in
    let moves = c.requires.taken.1.0 in
    let shared = c.requires.taken.1.1.0 in
    let here : HasTaken blocks before c.args.me.now (answer.Need c.in-Need.variable) moves =
    subst (λ (a : BlockAnswer). HasTaken blocks before c.args.me.now a moves) c.in-Need.is c.requires.taken.1.1.1 in
    (asks_now blocks before c.args.me.now c.in-Need.variable moves here
    (c.a_block_asks_for_each_variable_once_at_most.ensures.block c.args.flow.now before.path before.values)).1

pub read-requires-clause-shared : goal.read-requires-clause-shared
read-requires-clause-shared c =
    let blocks = blocks_of c.args.flow.now in
    let before : Part = c.requires.taken.0 in
    let moves = c.requires.taken.1.0 in
    let shared = c.requires.taken.1.1.0 in
    let here : HasTaken blocks before c.args.me.now (answer.Need c.in-Need.variable) moves =
    subst (λ (a : BlockAnswer). HasTaken blocks before c.args.me.now a moves) c.in-Need.is c.requires.taken.1.1.1 in
    needs_shared before c.args.joint.now c.in-Need.variable shared
    (asks_now blocks before c.args.me.now c.in-Need.variable moves here
    (c.a_block_asks_for_each_variable_once_at_most.ensures.block c.args.flow.now before.path before.values)).0

pub did-requires-clause-shared : goal.did-requires-clause-shared
did-requires-clause-shared c =
    let blocks = blocks_of c.args.flow.now in
    let before : Part = c.requires.taken.0 in
    let moves = c.requires.taken.1.0 in
    let shared = c.requires.taken.1.1.0 in
    let here : HasTaken blocks before c.args.me.now (answer.Done c.in-Done.write) moves =
    subst (λ (a : BlockAnswer). HasTaken blocks before c.args.me.now a moves) c.in-Done.is c.requires.taken.1.1.1 in
    writes_shared before c.args.joint.now (effect_of c.args.flow.now before.path before.values) c.args.me.now.path
    c.in-Done.write moves shared (c.what_is_written_is_shared.ensures c.args.flow.now before.path before.values) here.effect

pub came_to_wait-requires-clause-here : goal.came_to_wait-requires-clause-here
came_to_wait-requires-clause-here c =
    let blocks = blocks_of c.args.flow.now in
    let before : Part = c.requires.taken.0 in
    let moves = c.requires.taken.1.0 in
    let shared = c.requires.taken.1.1.0 in
    let here : HasTaken blocks before c.args.me.now (answer.AtWait c.in-AtWait.code) moves =
    subst (λ (a : BlockAnswer). HasTaken blocks before c.args.me.now a moves) c.in-AtWait.is c.requires.taken.1.1.1 in
    waits_now c.args.flow.now.order blocks before c.args.me.now c.in-AtWait.code moves here
    (c.control_goes_as_the_flow_orders.ensures.control c.args.flow.now before.path before.values)
