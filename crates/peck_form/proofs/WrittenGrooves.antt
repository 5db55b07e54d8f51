-- What a groove is written out as are the plain blocks of a groove: the law
-- `a_written_groove_is_safe` (src/law.rt).
use Rattle.std.proofs.Common.{◌≡◌, inl, inr, ℕ, Bool, true, false, List, [], ◌∷◌, Option, Some, None, ℤ, cond, refl, ap, ◌∙◌, subst}
use Rattle.nc_number.specs.declared.point.Point.{Point}
use Rattle.nc_text.specs.declared.tape.Block.{Block}
use Rattle.plain_block.specs.declared.block.PlainBlock.{PlainBlock}
use Rattle.plain_form.specs.declared.answer.FormAnswer.{FormAnswer}
use Rattle.plain_form.specs.declared.answer.FormAnswer.TheVariants.{Refused, Written}
use Rattle.plain_form.specs.declared.answer.WrittenLine.{WrittenLine}
use Rattle.plain_form.specs.declared.cause.PlainCause.{PlainCause}
use Rattle.plain_form.specs.declared.cause.PlainCause.TheVariants as cause
use Rattle.plain_form.specs.declared.scene.Scene.{Scene}
use Rattle.plain_form.specs.Said.{has_code}
use Rattle.peck_cycle.specs.declared.along.Along.{Along}
use Rattle.peck_cycle.specs.declared.along.Along.TheVariants.{Z, X}
use Rattle.peck_cycle.specs.declared.fault.PeckFault.{PeckFault}
use Rattle.peck_cycle.specs.declared.groove.GrooveCycle.{GrooveCycle}
use Rattle.peck_cycle.specs.Axes.{place_along, place_beside}
use Rattle.peck_cycle.specs.Faults.{groove_fault_of}
use Rattle.peck_cycle.specs.Grooves.{groove_blocks}
use Rattle.peck_cycle.proofs.LeadBack.{to_start}
use Rattle.peck_cycle.proofs.SafeMoves.{groove_safe}
use Rattle.cycle_words.specs.Numbers.{value_said}
use Rattle.cycle_words.specs.Scenes.{start_of, words_of, says_ends, refused}
use Rattle.peck_form.specs.Groove.{groove_code, retreat_of, head_cause, body_cause, groove_of, plain_lines, lines_in_place, answer_by, body_from, body_by, body_answer, next_answer, next_by, head_by, groove_answer}
use Rattle.peck_form.specs.Written.{IsGrooveLine, AreGrooveLines}

-- lines that are written are those
listed : {a b : List WrittenLine} → Written a ≡ Written b → a ≡ b
listed is = cc

-- a groove starts where the tool stands
at_level : (along : Along) (retreat : ℕ) (start : Point) (block : Block)
    → place_along (groove_of along retreat start (words_of block.body)).pecks.along start ≡ (groove_of along retreat start (words_of block.body)).pecks.level
at_level Z retreat start block = refl
at_level X retreat start block = refl

at_first : (along : Along) (retreat : ℕ) (start : Point) (block : Block)
    → place_beside (groove_of along retreat start (words_of block.body)).pecks.along start ≡ (groove_of along retreat start (words_of block.body)).from
at_first Z retreat start block = refl
at_first X retreat start block = refl

-- the line of a groove
groove_line : (along : Along) (retreat : ℕ) (body : Block) (scene : Scene) (start : Point) (plain : List PlainBlock) → start_of scene ≡ Some start
    → groove_fault_of (groove_of along retreat start (words_of body.body)) ≡ None → groove_blocks (groove_of along retreat start (words_of body.body)) ≡ Some plain
    → IsGrooveLine scene (record { blocks = plain_lines scene.motion (value_said 70 (words_of body.body)) plain })
groove_line along retreat body scene start plain stands fit made = inr (
  groove_of along retreat start (words_of body.body),
  plain,
  record {
    start = start;
    stands = stands;
    fit = fit;
    made = made;
    safe = groove_safe (groove_of along retreat start (words_of body.body)) start plain fit (at_level along retreat start body) (at_first along retreat start body) made;
    back = to_start (groove_of along retreat start (words_of body.body)) start plain (at_level along retreat start body) (at_first along retreat start body) made;
    feed = value_said 70 (words_of body.body);
    lines = refl;
  },
)

-- the lines of the line with the groove
body_lines : (along : Along) (retreat : ℕ) (body : Block) (two : Bool) (scene : Scene) (lines : List WrittenLine) → body_answer along retreat body two scene ≡ Written lines
    → AreGrooveLines scene lines
body_lines along retreat body two scene lines e = read (body_cause along scene (words_of body.body)) e
  where
    placed : (plain : List PlainBlock) → IsGrooveLine scene (record { blocks = plain_lines scene.motion (value_said 70 (words_of body.body)) plain }) → (both : Bool)
        → Written (lines_in_place both (plain_lines scene.motion (value_said 70 (words_of body.body)) plain)) ≡ Written lines → AreGrooveLines scene lines
    placed plain own true same = subst (AreGrooveLines scene) (listed same) (own, (inl refl, tt))
    placed plain own false same = subst (AreGrooveLines scene) (listed same) (own, tt)

    cut : (start : Point) → start_of scene ≡ Some start → (g : GrooveCycle) → groove_of along retreat start (words_of body.body) ≡ g → (fault : Option PeckFault) → groove_fault_of g ≡ fault
        → (made : Option (List PlainBlock)) → groove_blocks g ≡ made → answer_by g.pecks.along body two scene.motion fault made ≡ Written lines → AreGrooveLines scene lines
    cut start stands g is (Some fault) f made m wrong = absurd (let no_lines : Refused _ ≡ Written lines = wrong in cc)
    cut start stands g is None f None m wrong = absurd (let no_lines : Refused _ ≡ Written lines = wrong in cc)
    cut start stands g is None f (Some plain) m same =
        placed plain (groove_line along retreat body scene start plain stands (ap groove_fault_of is ∙ f) (ap groove_blocks is ∙ m)) two same

    from : (start : Option Point) → start_of scene ≡ start → body_from along retreat body two scene.motion start ≡ Written lines → AreGrooveLines scene lines
    from None is wrong = absurd (let no_lines : Refused _ ≡ Written lines = wrong in cc)
    from (Some start) is same =
        cut start is (groove_of along retreat start (words_of body.body)) refl (groove_fault_of (groove_of along retreat start (words_of body.body))) refl
        (groove_blocks (groove_of along retreat start (words_of body.body))) refl same

    read : (why : Option PlainCause) → body_by along retreat body two scene why ≡ Written lines → AreGrooveLines scene lines
    read (Some why) wrong = absurd (let no_lines : Refused _ ≡ Written lines = wrong in cc)
    read None same = from (start_of scene) refl same

-- of the line with R before it, or alone
pub groove_lines : (along : Along) (retreat : ℕ) (block : Block) (next : Option Block) (scene : Scene) (lines : List WrittenLine) → groove_answer along retreat block next scene ≡ Written lines
    → AreGrooveLines scene lines
groove_lines along retreat block next scene lines e = go (says_ends (words_of block.body)) e
  where
    coded : (second : Block) (b : Bool) → cond b (body_answer along (retreat_of retreat (words_of block.body)) second true scene) (refused block.line cause.NoForm) ≡ Written lines → AreGrooveLines scene lines
    coded second true same = body_lines along (retreat_of retreat (words_of block.body)) second true scene lines same
    coded second false wrong = absurd (let no_lines : Refused _ ≡ Written lines = wrong in cc)

    second : (next : Option Block) → next_by along retreat block next scene ≡ Written lines → AreGrooveLines scene lines
    second None wrong = absurd (let no_lines : Refused _ ≡ Written lines = wrong in cc)
    second (Some other) same = coded other (has_code (groove_code along) (words_of other.body)) same

    head : (why : Option PlainCause) → head_by along retreat block next scene why ≡ Written lines → AreGrooveLines scene lines
    head (Some why) wrong = absurd (let no_lines : Refused _ ≡ Written lines = wrong in cc)
    head None same = second next same

    go : (b : Bool) → cond b (body_answer along retreat block false scene) (head_by along retreat block next scene (head_cause along (words_of block.body))) ≡ Written lines → AreGrooveLines scene lines
    go true same = body_lines along retreat block false scene lines same
    go false same = head (head_cause along (words_of block.body)) same
