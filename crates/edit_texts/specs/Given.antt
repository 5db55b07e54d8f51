-- What the edits of a text are, and what its first bad line is, said without a reader: for the law
-- of src/laws.rt alone. A reader goes by Edits.
use Rattle.std.specs.Prelude.{◌≡◌, ◌⊎◌, ℕ, ◌+◌, ◌≤◌, List, [], ◌∷◌, ◌++◌, length, map, Some, None}
use Rattle.std.specs.Str.Lines.{lines}
use Rattle.edit_texts.specs.declared.edit_list.PathEdit.{PathEdit}
use Rattle.edit_texts.specs.declared.edit_list.TheConstants.{MOST_EDITS}
use Rattle.edit_texts.specs.declared.entry.Entry.{Entry}
use Rattle.edit_texts.specs.declared.entry.Entry.TheVariants as says
use Rattle.edit_texts.specs.Lines.{line_says}

-- the edits among what lines say, in order
abbrev pub edits_in : List Entry → List PathEdit
edits_in [] = []
edits_in (says.Nothing ∷ said) = edits_in said
edits_in (says.Edit edit ∷ said) = edit ∷ edits_in said

-- each line is allowed, these are what they say, and there are no more edits than a text may have
pub record AreAllowed (texts : List (List ℕ)) (said : List Entry) : Type 0 where
  -- what the lines say, one by one
  pub are : map line_says texts ≡ map Some said
  -- there are 64 edits at most
  pub few : length (edits_in said) ≤ MOST_EDITS

-- all lines of the text are allowed, and these are the edits among them
abbrev pub AreEditsOf : List ℕ → List PathEdit → Type 0
AreEditsOf text edits = (said : List Entry) × AreAllowed (lines text) said × (edits ≡ edits_in said)

-- the lines before the one of this number are allowed; that line is not, or it is an edit after 64
-- others
pub record IsFirstBad (text : List ℕ) (number : ℕ) : Type 0 where
  -- the lines before the bad one
  pub before : List (List ℕ)
  -- the bad line
  pub line : List ℕ
  -- the lines after it
  pub after : List (List ℕ)
  -- these are the lines of the text
  pub are : lines text ≡ before ++ line ∷ after
  -- the bad line has this number, counted from 1
  pub number_is : number ≡ length before + 1
  -- what the lines before it say
  pub said : List Entry
  -- they are allowed and say that
  pub allowed : AreAllowed before said
  -- the bad line is not allowed, or it is an edit too many
  pub bad : (line_says line ≡ None)
      ⊎ ((edit : PathEdit) × (line_says line ≡ Some (says.Edit edit)) × (length (edits_in said) ≡ MOST_EDITS))
