-- `stand_at_others`: one position more is accepted, or is the first at which the pair is refused
-- (src/verifying.rt).
use Rattle.std.proofs.Common.{◌≡◌, ◌+◌, ◌<◌, true, false, List, [], ◌∷◌, ◌++◌, refl, ap, sym, subst, ◌∙◌, arith}
use Rattle.std.specs.Global.{Vec}
use Rattle.wait_verify.specs.declared.standing.Standing.{Standing}
use Rattle.wait_verify.specs.declared.switches.TheConstants.{LAST_POSITION}
use Rattle.wait_verify.specs.Asked.{Asked, question_of}
use Rattle.wait_verify.specs.Switches.{is_position}
use Rattle.wait_verify.specs.Verdict.{HasOthers}
use Rattle.wait_verify.proofs.Whole.{others_more, others_same, refused_later}
use Rattle.wait_verify.proofs.verifying.stand_at_others.Goals as goal
use Rattle.wait_verify.proofs.verifying.stand_at_others.Goals.{then-is_position+in-Ok+in_ok-push-in-Ok, else-is_position}

pub returns-in-Err-clause-refused : goal.returns-in-Err-clause-refused
returns-in-Err-clause-refused c = λ text read.
    let all : Asked = question_of c.args.left.now c.args.right.now text c.args.outside in
    let within : c.loop-below.below < LAST_POSITION = omega (arith, c.loop-below-test.true) in
    let here : is_position c.args.free (c.loop-below.below + 1) ≡ true = sym c.is_position.ensures ∙ c.if-is_position.true in
    refused_later all c.args.free c.loop-below.below (c.loop-below.below + 1) c.args.first c.loop-below.standings.items c.in-Err.error refl
    within (c.loop-below.invariant text read) here (c.in-Err.ensures.refused text read)

pub loop-below-preserved : goal.loop-below-preserved
loop-below-preserved c = λ text read.
    let all : Asked = question_of c.args.left.now c.args.right.now text c.args.outside in
    let before : HasOthers all c.args.free c.loop-below.below c.args.first c.loop-below.standings.items =
    c.loop-below.invariant text read in
    elim c.if-is_position.branch [
      | then-is_position+in-Ok+in_ok-push-in-Ok w ↦ (
          let here : is_position c.args.free (c.loop-below.below + 1) ≡ true = sym c.is_position.ensures ∙ w.if-is_position.true in
          let more : c.if-is_position.standings.items ≡ c.loop-below.standings.items ++ w.in-Ok.standing ∷ [] =
          ap (λ (v : Vec Standing). v.items) w.standings-is ∙ w.in_ok-push-in-Ok.ensures.items in
          subst (λ (s : List Standing). HasOthers all c.args.free (c.loop-below.below + 1) c.args.first s) (sym more)
          (others_more all c.args.free c.loop-below.below (c.loop-below.below + 1) c.args.first c.loop-below.standings.items w.in-Ok.standing refl
          before here (w.in-Ok.ensures.told text read)))
      | else-is_position w ↦ (
          let here : is_position c.args.free (c.loop-below.below + 1) ≡ false = sym c.is_position.ensures ∙ w.if-is_position.false in
          let same : c.if-is_position.standings.items ≡ c.loop-below.standings.items = ap (λ (v : Vec Standing). v.items) w.standings-is in
          subst (λ (s : List Standing). HasOthers all c.args.free (c.loop-below.below + 1) c.args.first s) (sym same)
          (others_same all c.args.free c.loop-below.below (c.loop-below.below + 1) c.args.first c.loop-below.standings.items refl before here))
    ]
