-- A line of a tape that says nothing may be emptied or taken out. For the laws of lines that say
-- nothing, lines of comments, skipped blocks and empty lines (src/edits.rt).
use Rattle.std.proofs.Common.{◌≡◌, ◌==◌, ℕ, suc, ◌-◌, ◌<◌, ◌≤◌, Bool, true, false, cond, List, [], ◌∷◌, ◌++◌, length, take, get_or, Result, Ok, refl, sym, ap, ◌∙◌, length-append, arith}
use Rattle.std.specs.List.{list_all}
use Rattle.std.proofs.lemmas.Bool.{eqb-true, le-ltb}
use Rattle.std.proofs.lemmas.List.Elements.{All-nil}
use Rattle.std.proofs.lemmas.List.Folds.{list_all-map}
use Rattle.line_text.specs.declared.sign.Sign.{Sign}
use Rattle.line_text.specs.declared.refusal.Refusal.{Refusal}
use Rattle.line_text.specs.declared.said.Said.{Said}
use Rattle.line_text.specs.declared.said.Said.TheVariants as said
use Rattle.line_text.specs.Signs.{is_allowed, are_allowed, scan_of, signs_of, without_last, without_return}
use Rattle.line_text.specs.Pieces.{bytes_of}
use Rattle.line_text.specs.Front.{switch_of, behind_comments}
use Rattle.nc_text.specs.Lines.{IsOneLine, lines_of, is_percent}
use Rattle.line_text.specs.Said.{is_skipped, read_head, line_says}
use Rattle.tape_relation.specs.Changed.{lowered_answer}
use Rattle.tape_relation.specs.Alike.{Fits}
use Rattle.tape_relation.specs.Edited.{are_whole, with_line, IsLine, IsLastLine, IsSkipped, HasOnlyComments}
use Rattle.nc_text.specs.Tape.{tape_of}
use Rattle.tape_relation.proofs.Blanks.{only_comments, IsSameText}
use Rattle.tape_relation.proofs.SkippedLines.{skipped}
use Rattle.line_text.proofs.Judged.{judged_ok}
use Rattle.tape_relation.proofs.Packed.{packed, signs_packed}
use Rattle.tape_relation.proofs.LineByLine.{SaysNothing}
use Rattle.tape_relation.proofs.OneLine.{alike_in_place, line_taken_out, last_taken_out}

-- the text begins with `%`, byte 37
abbrev Begins : List ℕ → Type 0
Begins line = (rest : List ℕ) × (line ≡ 37 ∷ rest)

-- These three: a line that begins with `%` keeps it when its end is taken off, and has a sign that
-- is refused.
first_kept : (k : ℕ) (bs : List ℕ) → (37 == k) ≡ false → Begins (without_last k (37 ∷ bs))
first_kept k [] other = ([], ap (λ (t : Bool). cond t [] (37 ∷ [])) other)
first_kept k (b ∷ bs) other = go (get_or (37 ∷ b ∷ bs) (length (37 ∷ b ∷ bs) - 1) 0 == k)
  where
    go : (test : Bool) → Begins (cond test (take (length (37 ∷ b ∷ bs) - 1) (37 ∷ b ∷ bs)) (37 ∷ b ∷ bs))
    go true =
        let n : length (37 ∷ b ∷ bs) - 1 ≡ suc (length bs) = omega arith in
        (take (length bs) (b ∷ bs), ap (λ (k : ℕ). take k (37 ∷ b ∷ bs)) n)
    go false = (b ∷ bs, refl)

return_kept : (bs : List ℕ) (ended : Bool) → Begins (without_return (37 ∷ bs) ended)
return_kept bs true = first_kept 13 bs refl
return_kept bs false = (bs, refl)

percent_bad : (bs : List ℕ) (ended : Bool) → are_allowed (signs_of (37 ∷ bs) ended).list ≡ false
percent_bad bs ended =
    let one = return_kept bs ended in
    let two = first_kept 59 (packed one.0) refl in
    let text : without_last 59 (packed (without_return (37 ∷ bs) ended)) ≡ 37 ∷ two.0 = ap (λ (l : List ℕ). without_last 59 (packed l)) one.1 ∙ two.1 in
    sym (list_all-map is_allowed (λ (sign : Sign). sign.byte) (signs_of (37 ∷ bs) ended).list)
    ∙ ap (list_all is_allowed) (IsSameText.bytes (signs_packed (37 ∷ bs) ended) ∙ ap (λ (l : List ℕ). bytes_of (scan_of l false 0).list) text)

-- a line that begins with `%` can't be read between the `%` lines
percent_refused : (skips : ℕ) (bs : List ℕ) (ended : Bool) (says : Said) → line_says skips (37 ∷ bs) ended ≡ Ok says → ⊥
unfolding line_says
percent_refused skips bs ended says e =
    let scan = signs_of (37 ∷ bs) ended in
    let reading = read_head (behind_comments scan.list) in
    let set = is_skipped skips (switch_of (behind_comments scan.list)) in
    let read = judged_ok set (are_allowed scan.list) scan.unclosed reading says e in
    let bad : true ≡ false = sym read.allowed_is ∙ percent_bad bs ended in
    absurd cc

-- a line that can be read between the `%` lines begins with no `%`
not_percent : (skips : ℕ) (line : List ℕ) (ended : Bool) (says : Said) → line_says skips line ended ≡ Ok says → is_percent line ≡ false
not_percent skips [] ended says e = refl
not_percent skips (b ∷ bs) ended says e = go (b == 37) refl
  where
    go : (test : Bool) → (b == 37) ≡ test → (b == 37) ≡ false
    go true is = absurd (percent_refused skips bs ended says (ap (λ (x : ℕ). line_says skips (x ∷ bs) ended) (sym (eqb-true b 37 is)) ∙ e))
    go false is = is

-- a line of at most 512 bytes that reads as nothing says nothing
nothing : (skips : ℕ) (line : List ℕ) (ended : Bool) → length line ≤ 512 → line_says skips line ended ≡ Ok said.Nothing → SaysNothing skips (record { bytes = line; ended = ended })
nothing skips line ended short says = record { says = says; percent = not_percent skips line ended said.Nothing says; long = le-ltb 512 (length line) short }

-- The next two: the empty line says nothing, and has no line feed in it.
no_line_says_nothing : (skips : ℕ) → line_says skips [] true ≡ Ok said.Nothing
unfolding signs_of
no_line_says_nothing skips = only_comments skips [] true refl refl

no_feed : IsOneLine []
no_feed = All-nil (λ (x : ℕ). (x == 10) ≡ false)

-- a line that says nothing may be emptied
pub emptied : (skips : ℕ) (front line back : List ℕ) → IsLine front line back → line_says skips line true ≡ Ok said.Nothing → tape_of skips (with_line front line back) ≡ tape_of skips (with_line front [] back)
emptied skips front line back is says =
    let here = nothing skips line true is.short says in
    let fits : Fits (with_line front line back) = is.fits in
    let shorter : Fits (with_line front [] back) = omega (arith, length-append front (10 ∷ back), length-append front (line ++ 10 ∷ back), length-append line (10 ∷ back)) in
    alike_in_place skips front line [] back is.whole is.one_line no_feed (record { says = λ other. says ∙ sym (no_line_says_nothing skips); percent = here.percent; long = here.long }) fits shorter

-- a line that says nothing may be taken out, if lines stand before it: the later ones are numbered
-- one less
pub taken_out : (skips : ℕ) (front line back : List ℕ) → IsLine front line back → 0 < length front → line_says skips line true ≡ Ok said.Nothing → tape_of skips (front ++ back) ≡ lowered_answer (length (lines_of front)) (tape_of skips (with_line front line back))
taken_out skips front line back is some says = line_taken_out skips front line back is.whole some is.one_line (nothing skips line true is.short says) is.fits

-- a last line without a line feed that says nothing may be taken out, if lines stand before it
pub last_out : (skips : ℕ) (front line : List ℕ) → IsLastLine front line → 0 < length front → line_says skips line false ≡ Ok said.Nothing → tape_of skips front ≡ lowered_answer (length (lines_of front)) (tape_of skips (front ++ line))
last_out skips front line is some says = last_taken_out skips front line is.whole some is.one_line is.some (nothing skips line false is.short says) is.fits

-- an empty line after others may be taken out: the later lines are numbered one less
pub empty_taken_out : (skips : ℕ) (front back : List ℕ) → are_whole front ≡ true → 0 < length front → Fits (front ++ 10 ∷ back) → tape_of skips (front ++ back) ≡ lowered_answer (length (lines_of front)) (tape_of skips (front ++ 10 ∷ back))
empty_taken_out skips front back whole some fits =
    let short : 0 ≤ 512 = omega arith in
    taken_out skips front [] back (record { whole = whole; one_line = no_feed; short = short; fits = fits }) some (no_line_says_nothing skips)

-- the result of a line that can be read and says this
abbrev readable : Said → Result Said Refusal
readable says = Ok says

-- a skipped block says nothing
pub skipped_says : (skips : ℕ) (line : List ℕ) (ended : Bool) → IsSkipped skips line ended → line_says skips line ended ≡ Ok said.Nothing
skipped_says skips line ended skip = skip.readable ∙ ap readable (skipped skips line ended skip.says skip.switch skip.readable)

-- a line of closed comments says nothing
pub comments_say : (skips : ℕ) (line : List ℕ) (ended : Bool) → HasOnlyComments line ended → line_says skips line ended ≡ Ok said.Nothing
comments_say skips line ended only = only_comments skips line ended only.comments only.closed
