-- What the reader asks at a line tells which conditions of the relation hold there: outside the `%`
-- lines, at one of them, and between them. For FirstFault.
use Rattle.std.proofs.Common.{◌≡◌, ℕ, ◌+◌, ◌<◌, ◌≤◌, Bool, true, false, cond, not, ◌&&◌, ◌||◌, ltb, leb, List, [], ◌∷◌, length, filter, Option, Some, None, Ok, Err, refl, sym, ◌∙◌, arith}
use Rattle.std.specs.Option.{is_none}
use Rattle.std.specs.List.{list_any}
use Rattle.std.proofs.lemmas.Bool.{ltb-true, lt-ltb, leb-true, le-leb}
use Rattle.nc_number.proofs.Bools.{both, both_true, not_true}
use Rattle.line_text.specs.declared.refusal.Refusal.{Refusal}
use Rattle.line_text.specs.declared.refusal.Refusal.TheVariants.{TooManyDigits, BadCharacter, NoNumber, OpenComment, NoProgramNumber, NoEnd, LineTooLong, TooManyBlocks, TapeTooLong, WordRange}
use Rattle.line_text.specs.declared.said.Said.{Said}
use Rattle.line_text.specs.declared.said.Said.TheVariants as said
use Rattle.line_text.specs.declared.said.Reading.{Reading}
use Rattle.nc_text.specs.Lines.{Line, size_of}
use Rattle.line_text.specs.Signs.{are_allowed}
use Rattle.line_text.specs.Said.{said_or_refusal, line_says}
use Rattle.nc_text.specs.Tape.{Before, is_past_end, is_block, is_said_in_range, next, with_said, unless_refused, after_said, after_line}
use Rattle.tape_relation.specs.Parts.{size, begins_percent, has_percent, behind_percent, is_closed}
use Rattle.tape_relation.proofs.LineRead.{scan, reading, is_off, says, says_block, says_something}
use Rattle.tape_relation.proofs.Remarks.{bad_read, bad_found, open_read, open_found}
use Rattle.tape_relation.proofs.LongNumbers.{long_read, long_found}
use Rattle.tape_relation.proofs.LineSays.{broken_read, broken_found, block_read, block_found, silent_read, silent_found, blocks_read, blocks_found, range_read, range_found}
use Rattle.tape_relation.specs.Conditions.{Counts, IsInBody, Holds}
use Rattle.tape_relation.proofs.Fronts.{has_more, size_last}
use Rattle.tape_relation.proofs.LeastNumber.{order, first_of, Tells}

-- as many lines and bytes were read as stand before the line, and they are not too many
pub record Stands (front : List Line) (before : Before) : Type 0 where
  -- as many lines were read as stand before
  pub lines_are : before.lines ≡ length front
  -- as many bytes were read as these lines have
  pub bytes_are : before.bytes ≡ size front
  -- these lines have at most 4 MiB
  pub few : size front ≤ 4194304

-- the line behind these stands between the `%` lines, and as many blocks, and a program or none,
-- were read as these lines say
pub record Inside (skips : ℕ) (front : List Line) (before : Before) : Type 0 where
  -- one of the lines before begins with `%`
  pub opened : has_percent front ≡ true
  -- no second one does
  pub not_closed : is_closed front ≡ false
  -- as many blocks were read as the lines of the body say
  pub blocks_are : before.blocks ≡ length (filter (says_block skips) (behind_percent front))
  -- no program is being read exactly if these lines say nothing
  pub none_is : is_none before.current ≡ not (list_any (says_something skips) (behind_percent front))

-- whether the text is longer than 4 MiB with this line
abbrev past : Before → Line → Bool
past before line = is_past_end before (length line.bytes) line.ended

-- if the text is too long with a line, the condition of a tape that is too long holds there
past_holds : (skips : ℕ) (front : List Line) (line : Line) (before : Before) → Stands front before → past before line ≡ true → Holds skips front line TapeTooLong
past_holds skips front line before stands e =
    let more = size_last front line in
    let over : 4194304 < before.bytes + size_of (length line.bytes) line.ended = ltb-true 4194304 (before.bytes + size_of (length line.bytes) line.ended) e in
    let same = stands.bytes_are in
    (stands.few, omega arith)

-- if that condition holds at a line, the text is too long with it
past_told : (skips : ℕ) (front : List Line) (line : Line) (before : Before) → Stands front before → Holds skips front line TapeTooLong → past before line ≡ true
past_told skips front line before stands h =
    let more = size_last front line in
    let same = stands.bytes_are in
    let over = h.1 in
    let here : 4194304 < before.bytes + size_of (length line.bytes) line.ended = omega arith in lt-ltb 4194304 (before.bytes + size_of (length line.bytes) line.ended) here

-- what the reader asks at a line before the first `%` line or behind the second
abbrev pub outer_test : Before → Line → Refusal → Bool
outer_test before line TapeTooLong = past before line
outer_test before line TooManyDigits = false
outer_test before line BadCharacter = false
outer_test before line NoNumber = false
outer_test before line OpenComment = false
outer_test before line NoProgramNumber = false
outer_test before line NoEnd = false
outer_test before line LineTooLong = false
outer_test before line TooManyBlocks = false
outer_test before line WordRange = false

-- what is asked at a line outside the body tells which conditions hold there
pub outer_tells : (skips : ℕ) (front : List Line) (line : Line) (before : Before) → Stands front before → (Counts front line → ⊥) → Tells skips front line (outer_test before line)
outer_tells skips front line before stands out = record { told = told; holds = holds }
  where
    told : (r : Refusal) → Holds skips front line r → outer_test before line r ≡ true
    told TooManyDigits h = absurd (out h.0.0)
    told BadCharacter h = absurd (out h.0.0)
    told NoNumber h = absurd (out h.0.0)
    told OpenComment h = absurd (out h.0.0)
    told NoProgramNumber h = absurd (out h.0.0)
    told NoEnd h = absurd h
    told LineTooLong h = absurd (out h.0)
    told TooManyBlocks h = absurd (out h.0.0)
    told TapeTooLong h = past_told skips front line before stands h
    told WordRange h = absurd (out h.0.0)

    holds : (r : Refusal) → outer_test before line r ≡ true → Holds skips front line r
    holds TooManyDigits e = absurd cc
    holds BadCharacter e = absurd cc
    holds NoNumber e = absurd cc
    holds OpenComment e = absurd cc
    holds NoProgramNumber e = absurd cc
    holds NoEnd e = absurd cc
    holds LineTooLong e = absurd cc
    holds TooManyBlocks e = absurd cc
    holds TapeTooLong e = past_holds skips front line before stands e
    holds WordRange e = absurd cc

-- what the reader asks at one of the two `%` lines
abbrev pub percent_test : Before → Line → Refusal → Bool
percent_test before line TapeTooLong = past before line
percent_test before line LineTooLong = ltb 512 (length line.bytes)
percent_test before line TooManyDigits = false
percent_test before line BadCharacter = false
percent_test before line NoNumber = false
percent_test before line OpenComment = false
percent_test before line NoProgramNumber = false
percent_test before line NoEnd = false
percent_test before line TooManyBlocks = false
percent_test before line WordRange = false

-- a line that begins with `%` is no line of the body
in_body_not : (front : List Line) (line : Line) → begins_percent line ≡ true → IsInBody front line → ⊥
in_body_not front line is h = let bad : true ≡ false = sym is ∙ h.1 in absurd cc

-- what is asked at a `%` line tells which conditions hold there
pub percent_tells : (skips : ℕ) (front : List Line) (line : Line) (before : Before) → Stands front before → Counts front line → begins_percent line ≡ true → Tells skips front line (percent_test before line)
percent_tells skips front line before stands counts is = record { told = told; holds = holds }
  where
    told : (r : Refusal) → Holds skips front line r → percent_test before line r ≡ true
    told TooManyDigits h = absurd (in_body_not front line is h.0)
    told BadCharacter h = absurd (in_body_not front line is h.0)
    told NoNumber h = absurd (in_body_not front line is h.0)
    told OpenComment h = absurd (in_body_not front line is h.0)
    told NoProgramNumber h = absurd (in_body_not front line is h.0)
    told NoEnd h = absurd h
    told LineTooLong h = lt-ltb 512 (length line.bytes) h.1
    told TooManyBlocks h = absurd (in_body_not front line is h.0)
    told TapeTooLong h = past_told skips front line before stands h
    told WordRange h = absurd (in_body_not front line is h.0)

    holds : (r : Refusal) → percent_test before line r ≡ true → Holds skips front line r
    holds TooManyDigits e = absurd cc
    holds BadCharacter e = absurd cc
    holds NoNumber e = absurd cc
    holds OpenComment e = absurd cc
    holds NoProgramNumber e = absurd cc
    holds NoEnd e = absurd cc
    holds LineTooLong e = (counts, ltb-true 512 (length line.bytes) e)
    holds TooManyBlocks e = absurd cc
    holds TapeTooLong e = past_holds skips front line before stands e
    holds WordRange e = absurd cc

-- what the reader asks at a line between the `%` lines, by refusal
abbrev pub body_test : ℕ → Before → Line → Refusal → Bool
body_test skips before line TooManyDigits = (reading line).long && not (is_off skips line)
body_test skips before line BadCharacter = not (are_allowed (scan line).list)
body_test skips before line NoNumber = (reading line).broken
body_test skips before line OpenComment = (scan line).unclosed
body_test skips before line NoProgramNumber = says_block skips line && is_none before.current
body_test skips before line NoEnd = false
body_test skips before line LineTooLong = ltb 512 (length line.bytes)
body_test skips before line TooManyBlocks = says_block skips line && leb 20000 before.blocks
body_test skips before line TapeTooLong = past before line
body_test skips before line WordRange = not (is_said_in_range (says skips line))

-- what is false is not true
not_is : (a : Bool) → a ≡ false → not a ≡ true
not_is a e = rw e refl

-- a line of the body is one that counts: the conditions of a tape's lines are asked there
pub counts_here : (skips : ℕ) (front : List Line) (line : Line) (before : Before) → Inside skips front before → Counts front line
counts_here skips front line before inside = (has_more front (line ∷ []) inside.opened, inside.not_closed)

-- what is asked at a line of the body tells which conditions hold there
pub body_tells : (skips : ℕ) (front : List Line) (line : Line) (before : Before) → Stands front before → Inside skips front before → begins_percent line ≡ false → Tells skips front line (body_test skips before line)
body_tells skips front line before stands inside is = record { told = told; holds = holds }
  where
    here : IsInBody front line
    here = (counts_here skips front line before inside, is)

    told : (r : Refusal) → Holds skips front line r → body_test skips before line r ≡ true
    told TooManyDigits h = let p = long_read skips line h.1 in both_true (reading line).long (not (is_off skips line)) p.0 (not_is (is_off skips line) p.1)
    told BadCharacter h = not_is (are_allowed (scan line).list) (bad_read line h.1)
    told NoNumber h = broken_read line h.1
    told OpenComment h = open_read line h.1
    told NoProgramNumber h = both_true (says_block skips line) (is_none before.current) (block_read skips line h.1) (inside.none_is ∙ not_is (list_any (says_something skips) (behind_percent front)) (silent_read skips (behind_percent front) h.2))
    told NoEnd h = absurd h
    told LineTooLong h = lt-ltb 512 (length line.bytes) h.1
    told TooManyBlocks h =
        let same = inside.blocks_are in
        let many = h.2.2 in
        let count = blocks_read skips (behind_percent front) h.2.0 h.2.1 in
        let full : 20000 ≤ before.blocks = omega arith in both_true (says_block skips line) (leb 20000 before.blocks) (block_read skips line h.1) (le-leb 20000 before.blocks full)
    told TapeTooLong h = past_told skips front line before stands h
    told WordRange h = not_is (is_said_in_range (says skips line)) (range_read skips line h.1)

    holds : (r : Refusal) → body_test skips before line r ≡ true → Holds skips front line r
    holds TooManyDigits e = let p = both (reading line).long (not (is_off skips line)) e in (here, long_found skips line p.0 (not_true (is_off skips line) p.1))
    holds BadCharacter e = (here, bad_found line (not_true (are_allowed (scan line).list) e))
    holds NoNumber e = (here, broken_found line e)
    holds OpenComment e = (here, open_found line e)
    holds NoProgramNumber e = let p = both (says_block skips line) (is_none before.current) e in (here, block_found skips line p.0, silent_found skips (behind_percent front) (not_true (list_any (says_something skips) (behind_percent front)) (sym inside.none_is ∙ p.1)))
    holds NoEnd e = absurd cc
    holds LineTooLong e = (here.0, ltb-true 512 (length line.bytes) e)
    holds TooManyBlocks e =
        let p = both (says_block skips line) (leb 20000 before.blocks) e in
        let same = inside.blocks_are in
        let full : 20000 ≤ before.blocks = leb-true 20000 before.blocks p.1 in (here, block_found skips line p.0, (length (filter (says_block skips) (behind_percent front)), blocks_found skips (behind_percent front), omega arith))
    holds TapeTooLong e = past_holds skips front line before stands e
    holds WordRange e = (here, range_found skips line (not_true (is_said_in_range (says skips line)) e))

-- the reader's tests at a line with this reading, one after another, are a search in the order of
-- the refusals
judged_step : (skipped allowed unclosed : Bool) (read : Reading) (before : Before) (len : ℕ) (ended : Bool) (test : Refusal → Bool) (what : Said) → what ≡ cond (skipped || read.broken) said.Nothing read.said
    → test TooManyDigits ≡ (read.long && not skipped) → test BadCharacter ≡ not allowed → test NoNumber ≡ read.broken → test OpenComment ≡ unclosed
    → test NoProgramNumber ≡ (is_block what && is_none before.current) → test NoEnd ≡ false → test LineTooLong ≡ ltb 512 len → test TooManyBlocks ≡ (is_block what && leb 20000 before.blocks)
    → test TapeTooLong ≡ is_past_end before len ended → test WordRange ≡ not (is_said_in_range what)
    → after_said before len ended (said_or_refusal skipped allowed unclosed read) ≡ unless_refused (first_of test order) (next (with_said before what) len ended)
judged_step skipped allowed unclosed read before len ended test what said-is t5 t10 t11 t12 t13 t14 t15 t16 t17 t64 =
    rw (t5, t10, t11, t12, t13, t14, t15, t16, t17, t64) (go (read.long && not skipped) allowed read.broken unclosed skipped said-is)
  where
    rest : Said → Option Refusal
    rest s =
        cond (is_block s && is_none before.current) (Some NoProgramNumber)
        (cond (ltb 512 len) (Some LineTooLong) (cond (is_block s && leb 20000 before.blocks) (Some TooManyBlocks) (cond (is_past_end before len ended) (Some TapeTooLong) (cond (not (is_said_in_range s)) (Some WordRange) None))))

    go : (long allow broken late off : Bool) → what ≡ cond (off || broken) said.Nothing read.said
        → after_said before len ended (cond long (Err TooManyDigits) (cond (not allow) (Err BadCharacter) (cond broken (Err NoNumber) (cond late (Err OpenComment) (cond off (Ok said.Nothing) (Ok read.said))))))
        ≡ unless_refused (cond long (Some TooManyDigits) (cond (not allow) (Some BadCharacter) (cond broken (Some NoNumber) (cond late (Some OpenComment) (rest what))))) (next (with_said before what) len ended)
    go true allow broken late off e = refl
    go false false broken late off e = refl
    go false true true late off e = refl
    go false true false true off e = refl
    go false true false false true e = rw e refl
    go false true false false false e = rw e refl

-- at a line of the body the reader answers the first refusal in the order, or goes on
pub body_step : (skips : ℕ) (before : Before) (line : Line) → after_line skips before line.bytes line.ended ≡ unless_refused (first_of (body_test skips before line) order) (next (with_said before (says skips line)) (length line.bytes) line.ended)
unfolding line_says
body_step skips before line =
    judged_step (is_off skips line) (are_allowed (scan line).list) (scan line).unclosed (reading line) before (length line.bytes) line.ended (body_test skips before line) (says skips line) refl refl refl refl refl refl refl refl refl refl refl
