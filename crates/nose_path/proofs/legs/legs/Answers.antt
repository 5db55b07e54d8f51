-- The legs so far, and those of the places that are left, are all (`legs`, src/legs.rt).
use Rattle.std.proofs.Common.{rules, vec_len, length, ◌≡◌, ◌+◌, ◌++◌, List, [], ◌∷◌, Err, pos, ◌∙◌, ap, subst, sym, arith, drop, slice_index_or, append_assoc}
use Rattle.std.specs.Prelude.{All}
use Rattle.std.proofs.lemmas.List.{at_drop_more, drop_all}
use Rattle.std.proofs.lemmas.List.Elements.{All-push}
use Rattle.plane_ways.specs.declared.place.Place.{Place}
use Rattle.plane_ways.specs.declared.place.Line.{Line}
use Rattle.nose_path.specs.Legs.{legs_from, IsNearLeg}
use Rattle.nose_path.proofs.Joined.{joined, goes_on, stops, ended, not_ended}
use Rattle.nose_path.proofs.legs.legs.Goals as goal

abbrev nowhere : Place
nowhere = record { across = pos 0; along = pos 0 }

pub returns-in_default-leg_before-clause-none : goal.returns-in_default-leg_before-clause-none
returns-in_default-leg_before-clause-none c =
    let l = c.loop-t in
    let points = c.args.points.now in
    let counted : vec_len l.legs ≡ length l.legs.items = search rules in
    sym l.invariant.rest
    ∙ at_drop_more (λ ts. joined l.legs.items (legs_from c.args.nose.now c.args.ends.now l.at l.p l.q ts)) points l.t-index nowhere c.loop-t-test.true
    ∙ stops c.args.nose.now c.args.ends.now l.legs.items l.at l.p l.q (slice_index_or points l.t-index nowhere) (drop (l.t-index + 1) points) (sym c.in_default-leg_before.ensures.step)
    ∙ ap Err (sym counted ∙ sym c.len.ensures)

pub loop-t-preserved : goal.loop-t-preserved
loop-t-preserved c =
    let l = c.loop-t in
    let points = c.args.points.now in
    let step = c.in-Some-leg_before.step in
    record {
      rest = rw c.in_ok-push-2.ensures.items
          (goes_on c.args.nose.now c.args.ends.now l.legs.items l.at l.p l.q (slice_index_or points l.t-index nowhere) (drop (l.t-index + 1) points) step (sym c.in-Some-leg_before.ensures.step)
          ∙ sym (at_drop_more (λ ts. joined l.legs.items (legs_from c.args.nose.now c.args.ends.now l.at l.p l.q ts)) points l.t-index nowhere c.loop-t-test.true)
          ∙ l.invariant.rest);
      at = c.in-Some-leg_before.ensures.near.1;
      p = l.invariant.q;
      q = c.requires.points l.t-index nowhere c.loop-t-test.true;
      near = subst (All IsNearLeg) (sym c.in_ok-push-2.ensures.items) (All-push IsNearLeg l.legs.items step.leg l.invariant.near c.in-Some-leg_before.ensures.near.0);
    }

pub returns-in_default-last_leg-clause-none : goal.returns-in_default-last_leg-clause-none
returns-in_default-last_leg-clause-none c =
    let l = c.loop-t in
    let all : drop l.t-index c.args.points.now ≡ [] = drop_all l.t-index c.args.points.now (omega (arith, c.loop-t-test.false)) in
    let counted : vec_len l.legs ≡ length l.legs.items = search rules in
    sym (rw all at l.invariant.rest)
    ∙ not_ended c.args.nose.now c.args.ends.now l.legs.items l.at l.p l.q (sym c.in_default-last_leg.ensures.step)
    ∙ ap Err (sym counted ∙ sym c.len-in_default-last_leg.ensures)

pub returns-clause-legs : goal.returns-clause-legs
returns-clause-legs c =
    let l = c.loop-t in
    let step = c.in-Some-last_leg.step in
    let off : Line = record { from = step.from; to = c.args.ends.now.end } in
    let all : drop l.t-index c.args.points.now ≡ [] = drop_all l.t-index c.args.points.now (omega (arith, c.loop-t-test.false)) in
    let items : c.push-3.new.self.items ≡ l.legs.items ++ step.leg ∷ off ∷ [] =
    c.in_ok-push-4.ensures.items ∙ ap (λ (xs : List Line). xs ++ off ∷ []) c.in_ok-push-3.ensures.items ∙ append_assoc l.legs.items (step.leg ∷ []) (off ∷ []) in
    rw items (sym (rw all at l.invariant.rest) ∙ ended c.args.nose.now c.args.ends.now l.legs.items l.at l.p l.q step (sym c.in-Some-last_leg.ensures.step))

pub returns-clause-near : goal.returns-clause-near
returns-clause-near c =
    let l = c.loop-t in
    let step = c.in-Some-last_leg.step in
    let near = c.in-Some-last_leg.ensures.near in
    let off : Line = record { from = step.from; to = c.args.ends.now.end } in
    let one : All IsNearLeg c.push-2.new.self.items = subst (All IsNearLeg) (sym c.in_ok-push-3.ensures.items) (All-push IsNearLeg l.legs.items step.leg l.invariant.near near.0) in
    subst (All IsNearLeg) (sym c.in_ok-push-4.ensures.items) (All-push IsNearLeg c.push-2.new.self.items off one (near.1, c.requires.ends.end))
