-- One block more is skipped, begins nothing, begins a part, or has a cycle that is refused
-- (`with_program`, src/walk.rt).
use Rattle.std.proofs.Common.{◌≡◌, ◌<◌, ◌≤◌, All, length, refl, subst, sym, arith}
use Rattle.std.proofs.lemmas.List.{drop_all}
use Rattle.std.proofs.lemmas.List.Elements.{All-push}
use Rattle.cycle_form.specs.declared.walk.Found.TheVariants as found
use Rattle.cycle_form.specs.Parts.{IsSoundPart}
use Rattle.cycle_form.specs.Walk.{IsSoundFound}
use Rattle.cycle_form.proofs.Walking.{found_by, at_end, at_skip, at_nothing, at_bad, at_one}
use Rattle.cycle_form.proofs.walk.with_program.Goals as goal

pub loop-i-preserved-then-skip-gt0 : goal.loop-i-preserved-then-skip-gt0
loop-i-preserved-then-skip-gt0 c =
    let before : c.loop-i.i < length c.args.blocks.now = omega arith in
    record {
      rest = at_skip c.args.marks.now c.len-from.result c.loop-i.skip _ c.loop-i.parts.items c.args.blocks.now c.loop-i.i c.index-blocks-i.result _ (record { is = c.index-blocks-i.is; before = before }) (omega arith) refl c.loop-i.invariant.rest;
      sound = c.loop-i.invariant.sound;
    }

pub loop-i-preserved-in-Nothing : goal.loop-i-preserved-in-Nothing
loop-i-preserved-in-Nothing c =
    let before : c.loop-i.i < length c.args.blocks.now = omega arith in
    let none : c.loop-i.skip ≡ 0 = omega arith in
    record {
      rest = at_nothing c.args.marks.now c.len-from.result c.loop-i.skip c.loop-i.parts.items c.args.blocks.now c.loop-i.i c.index-blocks-i.result _ (record { is = c.index-blocks-i.is; before = before }) none
          (found_by c.args.marks.now c.len-from.result c.loop-i.parts.items c.deref.result.now c.behind.result.now c.args.blocks.now _ _ c.loop-i.i c.index-blocks-i.result c.in_ok-found.found found.Nothing
          c.split_at.ensures.front c.split_at.ensures.back c.behind.ensures c.deref.ensures.value c.in_ok-found.ensures.found c.in-Nothing.is) c.loop-i.invariant.rest;
      sound = c.loop-i.invariant.sound;
    }

pub returns-in-Bad-clause-exact : goal.returns-in-Bad-clause-exact
returns-in-Bad-clause-exact c =
    let before : c.loop-i.i < length c.args.blocks.now = omega arith in
    let none : c.loop-i.skip ≡ 0 = omega arith in
    at_bad c.args.marks.now c.len-from.result c.loop-i.skip c.loop-i.parts.items c.args.blocks.now c.loop-i.i c.index-blocks-i.result _ (record { is = c.index-blocks-i.is; before = before }) none
    (found_by c.args.marks.now c.len-from.result c.loop-i.parts.items c.deref.result.now c.behind.result.now c.args.blocks.now _ _ c.loop-i.i c.index-blocks-i.result c.in_ok-found.found found.Bad
    c.split_at.ensures.front c.split_at.ensures.back c.behind.ensures c.deref.ensures.value c.in_ok-found.ensures.found c.in-Bad.is) c.loop-i.invariant.rest

pub loop-i-preserved : goal.loop-i-preserved
loop-i-preserved c =
    let before : c.loop-i.i < length c.args.blocks.now = omega arith in
    let none : c.loop-i.skip ≡ 0 = omega arith in
    let sound : IsSoundPart c.in-One.part = subst IsSoundFound c.in-One.is c.in_ok-found.ensures.sound in
    record {
      rest = at_one c.args.marks.now c.len-from.result c.loop-i.skip c.blocks_left-skip.result c.loop-i.parts.items c.push.new.self.items c.args.blocks.now c.loop-i.i c.index-blocks-i.result c.in-One.part _ (record { is = c.index-blocks-i.is; before = before }) none
          (found_by c.args.marks.now c.len-from.result c.loop-i.parts.items c.deref.result.now c.behind.result.now c.args.blocks.now _ _ c.loop-i.i c.index-blocks-i.result c.in_ok-found.found (found.One c.in-One.part)
          c.split_at.ensures.front c.split_at.ensures.back c.behind.ensures c.deref.ensures.value c.in_ok-found.ensures.found c.in-One.is)
          c.blocks_left-skip.ensures c.in_ok-push.ensures.items c.loop-i.invariant.rest;
      sound = subst (λ l. All IsSoundPart l) (sym c.in_ok-push.ensures.items) (All-push IsSoundPart c.loop-i.parts.items c.in-One.part c.loop-i.invariant.sound sound);
    }

pub returns-clause-exact : goal.returns-clause-exact
returns-clause-exact c =
    let past : length c.args.blocks.now ≤ c.loop-i.i = omega arith in
    at_end c.args.marks.now c.len-from.result c.loop-i.skip _ c.loop-i.parts.items _ _ (drop_all c.loop-i.i c.args.blocks.now past) c.loop-i.invariant.rest
