-- A line of a tape that no refusal by itself refuses has allowed bytes and whole words. For
-- ShapeOfLine.
use Rattle.std.proofs.Common.{◌≡◌, Bool, true, false, cond, not, ◌&&◌, Result, Ok, Err, refl}
use Rattle.line_text.specs.declared.refusal.Refusal.{Refusal}
use Rattle.line_text.specs.declared.refusal.Refusal.TheVariants.{TooManyDigits, BadCharacter, NoNumber, OpenComment}
use Rattle.line_text.specs.declared.said.Said.{Said}
use Rattle.line_text.specs.declared.said.Said.TheVariants as said
use Rattle.line_text.specs.declared.said.Reading.{Reading}
use Rattle.line_text.specs.Said.{said_or_refusal}

-- the least refusal of a line by itself, or what it says; the flags: too many digits in a block
-- that is not skipped, a bad byte, something where no word can stand or an O not alone, an open
-- comment, a skipped block
abbrev pub least : Bool → Bool → Bool → Bool → Bool → Said → Result Said Refusal
least long bad broken unclosed skipped what =
    cond long (Err TooManyDigits) (cond bad (Err BadCharacter) (cond broken (Err NoNumber) (cond unclosed (Err OpenComment) (cond skipped (Ok said.Nothing) (Ok what)))))

-- a line with allowed bytes and whole words that says `says`; `what` is what its reading says
pub record IsReadable (skipped allowed broken : Bool) (what says : Said) : Type 0 where
  -- each byte outside comments is a character of a tape
  pub allowed_is : allowed ≡ true
  -- each word is whole, and an O stands alone
  pub whole : broken ≡ false
  -- it says nothing if it is skipped, and else what its reading says
  pub says_is : says ≡ cond skipped said.Nothing what

-- a line without a least refusal is readable
least_ok : (long allowed broken unclosed skipped : Bool) (what says : Said) → least long (not allowed) broken unclosed skipped what ≡ Ok says → IsReadable skipped allowed broken what says
least_ok true allowed broken unclosed skipped what says e = absurd cc
least_ok false false broken unclosed skipped what says e = absurd cc
least_ok false true true unclosed skipped what says e = absurd cc
least_ok false true false true skipped what says e = absurd cc
least_ok false true false false true what says e = record { allowed_is = refl; whole = refl; says_is = cc }
least_ok false true false false false what says e = record { allowed_is = refl; whole = refl; says_is = cc }

-- a line that is not refused by itself has allowed bytes and whole words, and says what its reading
-- says, or nothing if it is skipped
pub judged_ok : (skipped allowed unclosed : Bool) (reading : Reading) (says : Said) → said_or_refusal skipped allowed unclosed reading ≡ Ok says → IsReadable skipped allowed reading.broken reading.said says
judged_ok skipped allowed unclosed reading says e = least_ok (reading.long && not skipped) allowed reading.broken unclosed skipped reading.said says e
