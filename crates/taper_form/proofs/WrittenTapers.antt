-- What a run of cuts along tapers is written out as are the cuts of its blocks: the law
-- `a_written_taper_is_that_of_its_words` (src/law.rt).
use Rattle.std.proofs.Common.{◌≡◌, Bool, true, false, List, [], ◌∷◌, ◌++◌, Option, Some, None, ℤ, pos, not, ◌||◌, cond, refl, sym, subst, ◌∙◌, append_assoc, arith}
use Rattle.std.specs.Prelude.{nat_lt, int_le, unsigned_abs}
use Rattle.std.proofs.lemmas.List.{append-nil}
use Rattle.code_tables.specs.declared.system.System.{System}
use Rattle.line_text.specs.declared.body.Word.{Word}
use Rattle.nc_number.specs.declared.limits.TheConstants.{LONGEST_SAID}
use Rattle.nc_number.specs.declared.point.Point.{Point}
use Rattle.nc_number.specs.Position.{is_position, IsPosition}
use Rattle.nc_text.specs.declared.tape.Block.{Block}
use Rattle.plain_form.specs.declared.answer.FormAnswer.{FormAnswer}
use Rattle.plain_form.specs.declared.answer.FormAnswer.TheVariants.{Refused, Written}
use Rattle.plain_form.specs.declared.answer.WrittenLine.{WrittenLine}
use Rattle.plain_form.specs.declared.cause.PlainCause.{PlainCause}
use Rattle.plain_form.specs.declared.cause.PlainCause.TheVariants as cause
use Rattle.cycle_words.specs.Causes.{first_cause}
use Rattle.cycle_words.specs.Lines.{lines_of}
use Rattle.cycle_words.specs.Scenes.{words_of, has_motion}
use Rattle.thread_form.specs.declared.taper.TaperSaid.{TaperSaid}
use Rattle.thread_form.specs.declared.taper.TaperStep.{TaperStep}
use Rattle.thread_form.specs.declared.taper.TaperStep.TheVariants.{Ends, Stops, Cuts}
use Rattle.thread_form.specs.Taper.{said_after, after_step}
use Rattle.taper_form.specs.declared.kind.TaperKind.{TaperKind}
use Rattle.taper_form.specs.declared.cut.TaperCut.{TaperCut}
use Rattle.taper_form.specs.Cuts.{begin_of, cut_blocks, is_crossed, place_fault, line_fault, taper_fault, cut_fault}
use Rattle.taper_form.specs.Runs.{feed_fault, cut_by, cut_step, fed_step, cut_to, ends_step, said_step, words_step, words_cause, block_step, run_from}
use Rattle.taper_form.specs.Written.{IsFit, IsTaperLine, AreTaperLines}

-- a point that passes the test is a position
is_there : (p : Point) → is_position p ≡ true → IsPosition p
is_there p is = grind arith

-- a cut without a fault may be made
fit_is : (cut : TaperCut) → cut_fault cut ≡ None → IsFit cut
fit_is cut e = placed (is_position cut.target) refl e
  where
    kept : (far : Bool) → is_position cut.target ≡ true → (there : Bool) → is_position (begin_of cut) ≡ there → (crossed : Bool) → is_crossed cut (begin_of cut) ≡ crossed
        → cond far (Some (cause.Range 82)) (cond (not there || crossed) (Some (cause.Range 82)) None) ≡ None → IsFit cut
    kept true at there is crossed beside wrong = absurd (let some : Some (cause.Range 82) ≡ None = wrong in cc)
    kept false at false is crossed beside wrong = absurd (let some : Some (cause.Range 82) ≡ None = wrong in cc)
    kept false at true is true beside wrong = absurd (let some : Some (cause.Range 82) ≡ None = wrong in cc)
    kept false at true is false beside same = record { target = is_there cut.target at; begin = is_there (begin_of cut) is; beside = beside }

    farther : (b : Bool) → first_cause (cond b (Some (cause.Range 90)) (Some (cause.Range 88))) (taper_fault cut) ≡ None → IsFit cut
    farther true wrong = absurd (let some : Some (cause.Range 90) ≡ None = wrong in cc)
    farther false wrong = absurd (let some : Some (cause.Range 88) ≡ None = wrong in cc)

    placed : (b : Bool) → is_position cut.target ≡ b
        → first_cause (cond b None (cond (is_position (record { x = cut.target.x; z = pos 0 })) (Some (cause.Range 90)) (Some (cause.Range 88)))) (taper_fault cut) ≡ None → IsFit cut
    placed true at same =
        kept (nat_lt LONGEST_SAID (unsigned_abs cut.taper)) at (is_position (begin_of cut)) refl (is_crossed cut (begin_of cut)) refl same
    placed false at wrong = farther (is_position (record { x = cut.target.x; z = pos 0 })) wrong

-- the line of a block with a cut
cut_line : (kind : TaperKind) (start : Point) (said : TaperSaid) (blocks : List Block) → said_step kind start said ≡ Cuts blocks
    → IsTaperLine kind start said (record { blocks = blocks })
cut_line kind start said blocks e = across said.x refl said.z refl e
  where
    made : (x z feed : ℤ) → said.x ≡ Some x → said.z ≡ Some z → said.lead ≡ Some feed
        → (fault : Option PlainCause) → cut_fault (cut_to kind start x z said.taper) ≡ fault → (wrong : Option PlainCause) → feed_fault feed ≡ wrong
        → cut_by (cut_to kind start x z said.taper) feed (first_cause fault wrong) ≡ Cuts blocks → IsTaperLine kind start said (record { blocks = blocks })
    made x z feed at_x at_z fed (Some why) is other own wrong = absurd (let no_lines : Stops _ ≡ Cuts blocks = wrong in cc)
    made x z feed at_x at_z fed None is (Some why) own wrong = absurd (let no_lines : Stops _ ≡ Cuts blocks = wrong in cc)
    made x z feed at_x at_z fed None is None own same = record {
      x = x;
      z = z;
      feed = feed;
      x_said = at_x;
      z_said = at_z;
      feed_said = fed;
      feeds = own;
      fit = fit_is (cut_to kind start x z said.taper) is;
      lines = let own : blocks ≡ lines_of (Some feed) (cut_blocks (cut_to kind start x z said.taper)) = cc in own;
    }

    fed : (x z : ℤ) → said.x ≡ Some x → said.z ≡ Some z → (feed : Option ℤ) → said.lead ≡ feed
        → fed_step (cut_to kind start x z said.taper) feed ≡ Cuts blocks → IsTaperLine kind start said (record { blocks = blocks })
    fed x z at_x at_z None is wrong = absurd (let no_lines : Stops _ ≡ Cuts blocks = wrong in cc)
    fed x z at_x at_z (Some feed) is same =
        made x z feed at_x at_z is (cut_fault (cut_to kind start x z said.taper)) refl (feed_fault feed) refl same

    across : (x : Option ℤ) → said.x ≡ x → (z : Option ℤ) → said.z ≡ z → ends_step kind start said x z ≡ Cuts blocks
        → IsTaperLine kind start said (record { blocks = blocks })
    across None at_x z at_z wrong = absurd (let no_lines : Stops _ ≡ Cuts blocks = wrong in cc)
    across (Some x) at_x None at_z wrong = absurd (let no_lines : Stops _ ≡ Cuts blocks = wrong in cc)
    across (Some x) at_x (Some z) at_z same = fed x z at_x at_z said.lead refl same

-- the line of a block of the run
step_line : (words : List Word) (kind : TaperKind) (system : System) (start : Point) (said : TaperSaid) (blocks : List Block)
    → block_step words kind system start said ≡ Cuts blocks → IsTaperLine kind start said (record { blocks = blocks })
step_line words kind system start said blocks e = go (has_motion system words) e
  where
    read : (why : Option PlainCause) → words_step kind start said why ≡ Cuts blocks → IsTaperLine kind start said (record { blocks = blocks })
    read (Some why) wrong = absurd (let no_lines : Stops _ ≡ Cuts blocks = wrong in cc)
    read None same = cut_line kind start said blocks same

    go : (b : Bool) → cond b Ends (words_step kind start said (words_cause kind system words)) ≡ Cuts blocks → IsTaperLine kind start said (record { blocks = blocks })
    go true wrong = absurd (let no_lines : Ends ≡ Cuts blocks = wrong in cc)
    go false same = read (words_cause kind system words) same

-- the lines of a run after some, and those are of its blocks
run_lines : (blocks : List Block) (kind : TaperKind) (system : System) (start : Point) (said : TaperSaid) (done written : List WrittenLine)
    → run_from blocks kind system start said done ≡ Written written
    → (more : List WrittenLine) × (written ≡ done ++ more) × AreTaperLines kind start said blocks more
unfolding run_from
run_lines [] kind system start said done written e = ([], let own : done ≡ written = cc in sym own ∙ sym (append-nil done), tt)
run_lines (block ∷ blocks) kind system start said done written e =
    go (block_step (words_of block.body) kind system start (said_after said (words_of block.body) start)) refl e
    (λ lines same. run_lines blocks kind system start (said_after said (words_of block.body) start) lines written same)
  where
    go : (step : TaperStep) → block_step (words_of block.body) kind system start (said_after said (words_of block.body) start) ≡ step
        → after_step block.line done step (λ lines. run_from blocks kind system start (said_after said (words_of block.body) start) lines) ≡ Written written
        → ((lines : List WrittenLine) → run_from blocks kind system start (said_after said (words_of block.body) start) lines ≡ Written written
        → (more : List WrittenLine) × (written ≡ lines ++ more) × AreTaperLines kind start (said_after said (words_of block.body) start) blocks more)
        → (more : List WrittenLine) × (written ≡ done ++ more) × AreTaperLines kind start said (block ∷ blocks) more
    go Ends is same further = ([], let own : done ≡ written = cc in sym own ∙ sym (append-nil done), tt)
    go (Stops why) is wrong further = absurd (let no_lines : Refused _ ≡ Written written = wrong in cc)
    go (Cuts lines) is same further =
        let rest = further (done ++ record { blocks = lines } ∷ []) same in (
          record { blocks = lines } ∷ rest.0,
          rest.1 ∙ append_assoc done (record { blocks = lines } ∷ []) rest.0,
          (step_line (words_of block.body) kind system start (said_after said (words_of block.body) start) lines is, rest.2),
        )

-- of a whole run
pub taper_lines : (blocks : List Block) (kind : TaperKind) (system : System) (start : Point) (said : TaperSaid) (lines : List WrittenLine)
    → run_from blocks kind system start said [] ≡ Written lines → AreTaperLines kind start said blocks lines
taper_lines blocks kind system start said lines e =
    let found = run_lines blocks kind system start said [] lines e in
    subst (AreTaperLines kind start said blocks) (sym found.1) found.2
