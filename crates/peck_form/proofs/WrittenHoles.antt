-- What a run of holes is written out as are the holes of its blocks: the law
-- `written_holes_are_safe` (src/law.rt).
use Rattle.std.proofs.Common.{◌≡◌, ℕ, Bool, true, false, List, [], ◌∷◌, ◌++◌, Option, Some, None, ℤ, cond, refl, sym, subst, ap, ◌∙◌, append_assoc, option_map}
use Rattle.std.proofs.lemmas.List.{append-nil}
use Rattle.code_tables.specs.declared.system.System.{System}
use Rattle.line_text.specs.declared.body.Word.{Word}
use Rattle.nc_number.specs.declared.point.Point.{Point}
use Rattle.nc_text.specs.declared.tape.Block.{Block}
use Rattle.plain_block.specs.declared.block.PlainBlock.{PlainBlock}
use Rattle.plain_block.specs.Places.{after_all}
use Rattle.plain_form.specs.declared.answer.FormAnswer.{FormAnswer}
use Rattle.plain_form.specs.declared.answer.FormAnswer.TheVariants.{NotMine, Refused, Written}
use Rattle.plain_form.specs.declared.answer.WrittenLine.{WrittenLine}
use Rattle.plain_form.specs.declared.cause.PlainCause.{PlainCause}
use Rattle.plain_form.specs.declared.settings.FormSettings.{FormSettings}
use Rattle.peck_cycle.specs.declared.drill.DrillCycle.{DrillCycle}
use Rattle.peck_cycle.specs.declared.fault.PeckFault.{PeckFault}
use Rattle.peck_cycle.specs.Axes.{place_along}
use Rattle.peck_cycle.specs.Drills.{way_in, way_out, place_back, hole_blocks, in_blocks, drill_blocks}
use Rattle.peck_cycle.specs.Faults.{hole_fault_of}
use Rattle.peck_cycle.specs.Pecks.{depth_of, one_cut}
use Rattle.peck_cycle.specs.Safe.{AreSafe}
use Rattle.peck_cycle.specs.Steps.{steps_of}
use Rattle.peck_cycle.proofs.LeadBack.{to_bottom, to_level}
use Rattle.peck_cycle.proofs.SafeMoves.{drill_safe}
use Rattle.cycle_words.specs.Scenes.{words_of}
use Rattle.peck_form.specs.declared.hole.HoleSaid.{HoleSaid}
use Rattle.peck_form.specs.declared.run.HoleStep.{HoleStep}
use Rattle.peck_form.specs.declared.run.HoleStep.TheVariants.{Ends, Stops, Cuts}
use Rattle.peck_form.specs.Holes.{hole_after, hole_to, level_of, bottom_of, has_pecks, pecks_by}
use Rattle.peck_form.specs.Kinds.{along_of, ends_run}
use Rattle.peck_form.specs.Run.{block_lines, cuts_by, fault_step, bottom_step, level_step, beside_step, words_step, words_cause, block_step, after_step, run_from}
use Rattle.peck_form.specs.Turns.{turns_of}
use Rattle.peck_form.specs.Written.{IsHole, IsHoleLine, AreHoleLines}

-- a hole that has a way in has all its blocks
all_blocks : (d : DrillCycle) (inside : List PlainBlock) → in_blocks d ≡ Some inside → drill_blocks d ≡ Some (inside ++ way_out d)
all_blocks d inside made = go (steps_of (depth_of d.pecks) d.pecks.peck) made
  where
    go : (steps : Option (List ℕ)) → option_map (way_in d) steps ≡ Some inside → option_map (hole_blocks d) steps ≡ Some (inside ++ way_out d)
    go None wrong = absurd cc
    go (Some ds) same = let own : way_in d ds ≡ inside = cc in ap (λ bs. Some (bs ++ way_out d)) own

-- its bottom is the one that is named
bottom_kept : (said : HoleSaid) (settings : FormSettings) (level bottom : ℤ) → (hole_to said level bottom settings).pecks.bottom ≡ bottom
bottom_kept said settings level bottom = go (has_pecks said) settings.peck_retreat
  where
    go : (b : Bool) (back : Option ℕ) → (cond b (pecks_by said level bottom settings.peck_clearance back) (one_cut (along_of said.code) level bottom)).bottom ≡ bottom
    go true (Some back) = refl
    go true None = refl
    go false back = refl

-- the hole of what is in force
hole_is : (said : HoleSaid) (settings : FormSettings) (level bottom : ℤ) (inside : List PlainBlock) → level_of said ≡ Some level → bottom_of said.bottom level ≡ Some bottom
    → hole_fault_of (hole_to said level bottom settings) ≡ None → in_blocks (hole_to said level bottom settings) ≡ Some inside
    → IsHole said settings (hole_to said level bottom settings) inside
hole_is said settings level bottom inside named deep fit made = record {
  level = level;
  bottom = bottom;
  level_said = named;
  bottom_said = deep;
  is = refl;
  fit = fit;
  made = made;
  safe = λ start from stands. drill_safe (hole_to said level bottom settings) start from (inside ++ way_out (hole_to said level bottom settings)) fit stands (all_blocks (hole_to said level bottom settings) inside made);
  deep = λ from. to_bottom (hole_to said level bottom settings) from inside fit made ∙ bottom_kept said settings level bottom;
  back = λ from. to_level (hole_to said level bottom settings) from (inside ++ way_out (hole_to said level bottom settings)) (all_blocks (hole_to said level bottom settings) inside made);
}

-- the line of a block with a hole
hole_line : (said : HoleSaid) (settings : FormSettings) (words : List Word) (blocks : List Block) → words_step said settings words None ≡ Cuts blocks
    → IsHoleLine said settings words (record { blocks = blocks })
hole_line said settings words blocks e = placed said.beside refl e
  where
    cut : (beside level bottom : ℤ) → said.beside ≡ Some beside → level_of said ≡ Some level → bottom_of said.bottom level ≡ Some bottom
        → hole_fault_of (hole_to said level bottom settings) ≡ None → (inside : Option (List PlainBlock)) → in_blocks (hole_to said level bottom settings) ≡ inside
        → cuts_by said beside settings inside (way_out (hole_to said level bottom settings)) words ≡ Cuts blocks → IsHoleLine said settings words (record { blocks = blocks })
    cut beside level bottom at named deep fit None made wrong = absurd (let no_lines : Stops _ ≡ Cuts blocks = wrong in cc)
    cut beside level bottom at named deep fit (Some inside) made same = record {
      hole = hole_to said level bottom settings;
      inside = inside;
      is = hole_is said settings level bottom inside named deep fit made;
      beside = beside;
      beside_said = at;
      lines = let own : blocks ≡ block_lines said (turns_of settings) beside inside (way_out (hole_to said level bottom settings)) words = cc in own;
    }

    faulted : (beside level bottom : ℤ) → said.beside ≡ Some beside → level_of said ≡ Some level → bottom_of said.bottom level ≡ Some bottom
        → (fault : Option PeckFault) → hole_fault_of (hole_to said level bottom settings) ≡ fault
        → fault_step said beside settings (hole_to said level bottom settings) words fault ≡ Cuts blocks → IsHoleLine said settings words (record { blocks = blocks })
    faulted beside level bottom at named deep (Some fault) is wrong = absurd (let no_lines : Stops _ ≡ Cuts blocks = wrong in cc)
    faulted beside level bottom at named deep None is same =
        cut beside level bottom at named deep is (in_blocks (hole_to said level bottom settings)) refl same

    bottomed : (beside level : ℤ) → said.beside ≡ Some beside → level_of said ≡ Some level → (bottom : Option ℤ) → bottom_of said.bottom level ≡ bottom
        → bottom_step said beside settings words level bottom ≡ Cuts blocks → IsHoleLine said settings words (record { blocks = blocks })
    bottomed beside level at named None is wrong = absurd (let no_lines : Stops _ ≡ Cuts blocks = wrong in cc)
    bottomed beside level at named (Some bottom) is same =
        faulted beside level bottom at named is (hole_fault_of (hole_to said level bottom settings)) refl same

    levelled : (beside : ℤ) → said.beside ≡ Some beside → (level : Option ℤ) → level_of said ≡ level → level_step said beside settings words level ≡ Cuts blocks
        → IsHoleLine said settings words (record { blocks = blocks })
    levelled beside at None is wrong = absurd (let no_lines : Stops _ ≡ Cuts blocks = wrong in cc)
    levelled beside at (Some level) is same = bottomed beside level at is (bottom_of said.bottom level) refl same

    placed : (beside : Option ℤ) → said.beside ≡ beside → beside_step said settings words beside ≡ Cuts blocks → IsHoleLine said settings words (record { blocks = blocks })
    placed None is wrong = absurd (let no_lines : Stops _ ≡ Cuts blocks = wrong in cc)
    placed (Some beside) is same = levelled beside is (level_of said) refl same

-- the line of a block of the run
step_line : (said : HoleSaid) (system : System) (settings : FormSettings) (words : List Word) (blocks : List Block) → block_step said system settings words ≡ Cuts blocks
    → IsHoleLine said settings words (record { blocks = blocks })
step_line said system settings words blocks e = go (ends_run said.code system words) e
  where
    read : (why : Option PlainCause) → words_step said settings words why ≡ Cuts blocks → IsHoleLine said settings words (record { blocks = blocks })
    read (Some why) wrong = absurd (let no_lines : Stops _ ≡ Cuts blocks = wrong in cc)
    read None same = hole_line said settings words blocks same

    go : (b : Bool) → cond b Ends (words_step said settings words (words_cause said.code system settings words)) ≡ Cuts blocks → IsHoleLine said settings words (record { blocks = blocks })
    go true wrong = absurd (let no_lines : Ends ≡ Cuts blocks = wrong in cc)
    go false same = read (words_cause said.code system settings words) same

-- the lines of a run after some, and those are of its blocks
run_lines : (blocks : List Block) (system : System) (settings : FormSettings) (said : HoleSaid) (done written : List WrittenLine) → run_from blocks system settings said done ≡ Written written
    → (more : List WrittenLine) × (written ≡ done ++ more) × AreHoleLines system settings said blocks more
unfolding run_from
run_lines [] system settings said done written e = ([], let own : done ≡ written = cc in sym own ∙ sym (append-nil done), tt)
run_lines (block ∷ blocks) system settings said done written e =
    go (block_step (hole_after said system (words_of block.body)) system settings (words_of block.body)) refl e
    (λ lines same. run_lines blocks system settings (hole_after said system (words_of block.body)) lines written same)
  where
    go : (step : HoleStep) → block_step (hole_after said system (words_of block.body)) system settings (words_of block.body) ≡ step
        → after_step block.line done step (λ lines. run_from blocks system settings (hole_after said system (words_of block.body)) lines) ≡ Written written
        → ((lines : List WrittenLine) → run_from blocks system settings (hole_after said system (words_of block.body)) lines ≡ Written written
        → (more : List WrittenLine) × (written ≡ lines ++ more) × AreHoleLines system settings (hole_after said system (words_of block.body)) blocks more)
        → (more : List WrittenLine) × (written ≡ done ++ more) × AreHoleLines system settings said (block ∷ blocks) more
    go Ends is same further = ([], let own : done ≡ written = cc in sym own ∙ sym (append-nil done), tt)
    go (Stops why) is wrong further = absurd (let no_lines : Refused _ ≡ Written written = wrong in cc)
    go (Cuts lines) is same further =
        let rest = further (done ++ record { blocks = lines } ∷ []) same in (
          record { blocks = lines } ∷ rest.0,
          rest.1 ∙ append_assoc done (record { blocks = lines } ∷ []) rest.0,
          (step_line (hole_after said system (words_of block.body)) system settings (words_of block.body) lines is, rest.2),
        )

-- of a whole run
pub hole_lines : (blocks : List Block) (system : System) (settings : FormSettings) (said : HoleSaid) (lines : List WrittenLine) → run_from blocks system settings said [] ≡ Written lines
    → AreHoleLines system settings said blocks lines
hole_lines blocks system settings said lines e =
    let found = run_lines blocks system settings said [] lines e in
    subst (AreHoleLines system settings said blocks) (sym found.1) found.2
