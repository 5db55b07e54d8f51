-- The conditions under which a line of a tape is refused, one for each refusal. Each looks for
-- itself at all lines before the line; none asks for another. Relation takes the least line and
-- number of them; a refusal that nc_text can give needs its line in `Holds`. No other crate cites
-- it. The three limits are copies of nc_number's LONGEST_LINE, LONGEST_TAPE and MOST_BLOCKS.
use Rattle.std.specs.Prelude.{◌≡◌, ℕ, ◌+◌, ◌<◌, ◌≤◌, ◌⊎◌, true, false, List, [], ◌∷◌, ◌++◌, length, All}
use Rattle.line_text.specs.declared.refusal.Refusal.{Refusal}
use Rattle.line_text.specs.declared.refusal.Refusal.TheVariants.{TooManyDigits, BadCharacter, NoNumber, OpenComment, NoProgramNumber, NoEnd, LineTooLong, TooManyBlocks, TapeTooLong, WordRange}
use Rattle.line_text.specs.Refusals.{refusal_number}
use Rattle.nc_text.specs.Lines.{Line}
use Rattle.tape_relation.specs.Parts.{size, begins_percent, has_percent, behind_percent, is_closed}
use Rattle.tape_relation.specs.Characters.{HasBadCharacter, EndsInComment}
use Rattle.tape_relation.specs.LineAlone.{SaysBlock, SaysSomething, HasLongNumber, IsBroken, IsOutOfRange}

-- the most bytes that a line may have, without its line feed
abbrev pub longest_line : ℕ
longest_line = 512

-- the most bytes that a text may have: 4 MiB
abbrev pub longest_tape : ℕ
longest_tape = 4194304

-- the most blocks that all programs of a tape may have together
abbrev pub most_blocks : ℕ
most_blocks = 20000

-- the line behind these is the first that begins with `%`, the second, or stands between them
abbrev pub Counts : List Line → Line → Type 0
Counts front line = (has_percent (front ++ line ∷ []) ≡ true) × (is_closed front ≡ false)

-- the line behind these stands between the two that begin with `%`: it is a line of the programs
abbrev pub IsInBody : List Line → Line → Type 0
IsInBody front line = Counts front line × (begins_percent line ≡ false)

-- none of these lines says a block or an O number
abbrev pub SayNothing : ℕ → List Line → Type 0
SayNothing skips lines = All (λ line. SaysSomething skips line → ⊥) lines

-- exactly so many of these lines say a block
abbrev pub SayBlocks : ℕ → List Line → ℕ → Type 0
SayBlocks skips [] n = n ≡ 0
SayBlocks skips (line ∷ lines) n = (SaysBlock skips line × ((m : ℕ) × (n ≡ m + 1) × SayBlocks skips lines m))
    ⊎ ((SaysBlock skips line → ⊥) × SayBlocks skips lines n)

-- The refusal's condition holds at this line behind these. That a tape has no second `%` line holds
-- at no line; Relation says it (`LacksEnd`), and of a tape without any O number `LacksProgram`.
abbrev pub Holds : ℕ → List Line → Line → Refusal → Type 0
Holds skips front line TooManyDigits = IsInBody front line × HasLongNumber skips line
Holds skips front line BadCharacter = IsInBody front line × HasBadCharacter line
Holds skips front line NoNumber = IsInBody front line × IsBroken line
Holds skips front line OpenComment = IsInBody front line × EndsInComment line
Holds skips front line NoProgramNumber = IsInBody front line × SaysBlock skips line
    × SayNothing skips (behind_percent front)
Holds skips front line NoEnd = ⊥
Holds skips front line LineTooLong = Counts front line × (longest_line < length line.bytes)
Holds skips front line TooManyBlocks = IsInBody front line × SaysBlock skips line
    × ((n : ℕ) × SayBlocks skips (behind_percent front) n × (most_blocks ≤ n))
Holds skips front line TapeTooLong = (size front ≤ longest_tape) × (longest_tape < size (front ++ line ∷ []))
Holds skips front line WordRange = IsInBody front line × IsOutOfRange skips line

-- the refusal's condition holds at this line behind these, and none of a lesser number does
abbrev pub IsLeast : ℕ → List Line → Line → Refusal → Type 0
IsLeast skips front line refusal = Holds skips front line refusal
    × ((other : Refusal) → Holds skips front line other → refusal_number refusal ≤ refusal_number other)

-- no refusal's condition holds at any of `lines`, which stand behind the lines of the front
abbrev pub NoneHolds : ℕ → List Line → List Line → Type 0
NoneHolds skips front lines = (before behind : List Line) (line : Line) (refusal : Refusal)
    → lines ≡ before ++ line ∷ behind → Holds skips (front ++ before) line refusal → ⊥
