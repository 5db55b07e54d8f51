-- Two facts on one line of a tape: a readable block that is skipped says nothing, and a carriage
-- return before a line feed is not read. For Removed and Returns.
use Rattle.std.proofs.Common.{◌≡◌, ℕ, Bool, true, false, cond, List, [], ◌∷◌, ◌++◌, Ok, ap, ◌∙◌}
use Rattle.line_text.specs.declared.said.Said.{Said}
use Rattle.line_text.specs.declared.said.Said.TheVariants as said
use Rattle.line_text.specs.Front.{behind_comments}
use Rattle.line_text.specs.Signs.{are_allowed, scan_of, signs_of, without_last, without_blanks}
use Rattle.line_text.proofs.Judged.{judged_ok}
use Rattle.tape_relation.proofs.Ignored.{last_pushed}
use Rattle.line_text.specs.Said.{judged_signs, is_skipped, read_head, line_says}
use Rattle.tape_relation.specs.Edited.{line_switch}

-- a block whose switch is set says nothing, if its line is readable
pub skipped : (skips : ℕ) (line : List ℕ) (ended : Bool) (says : Said) → is_skipped skips (line_switch line ended) ≡ true → line_says skips line ended ≡ Ok says → says ≡ said.Nothing
unfolding line_says
skipped skips line ended says set e =
    let scan = signs_of line ended in
    let reading = read_head (behind_comments scan.list) in
    let read = judged_ok (is_skipped skips (line_switch line ended)) (are_allowed scan.list) scan.unclosed reading says e in
    read.says_is ∙ ap (λ (t : Bool). cond t said.Nothing reading.said) set

-- a line with a carriage return before its line feed says what the line says without both
pub return_ignored : (skips : ℕ) (line : List ℕ) → line_says skips (line ++ 13 ∷ []) true ≡ line_says skips line false
unfolding line_says signs_of
return_ignored skips line = ap (λ (l : List ℕ). judged_signs skips (scan_of (without_last 59 (without_blanks l)) false 0)) (last_pushed 13 line 13)
