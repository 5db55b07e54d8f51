-- What `edit` answers if the text of edits is no good, and which edits a file has. A file that
-- can't be read is in Fetched; what edits do to a run is in run_edits.
use Rattle.std.specs.Prelude.{◌≡◌, ℕ, List, [], ◌∷◌, Ok, Err}
use Rattle.nc_number.specs.declared.cause.Cause.TheVariants.{BadEdit}
use Rattle.text_pieces.specs.Refusals.{refused_line_text}
use Rattle.edit_texts.specs.declared.edit_list.PathEdit.{PathEdit}
use Rattle.edit_texts.specs.Edits.{edits_of}
use Rattle.nc_outside.specs.Files.{ShelfState}
use Rattle.lathe_calls.specs.Answers.{Answer, tells, nothing}
use Rattle.lathe_calls.specs.Statuses as exit
use Rattle.lathe_looks.specs.Fetched.{AreHad}
use Rattle.lathe_looks.specs.Named.{edits_named}

-- The line of output for a text of edits whose line `line` is refused.
abbrev pub bad_edit_text : ℕ → List ℕ
bad_edit_text line = refused_line_text BadEdit line

-- Status 1 and the first line that is not allowed; or no text, if memory ran out.
pub data IsUnedited (text : List ℕ) : Answer → Type 0 where
  -- the first line that is no edit
  bad_edits : {line : ℕ} → edits_of text ≡ Err line → IsUnedited text (tells exit.refused (bad_edit_text line))
  -- memory ran out
  unread_edits : IsUnedited text nothing

-- The shelf has a text of the file, and the edits of that text are these.
pub record AreEditsOf (old new : ShelfState) (name : List ℕ) (edits : List PathEdit) : Type 0 where
  -- the text of the file
  pub text : List ℕ
  -- the shelf has this text, and was asked for the file
  pub had : AreHad old new (edits_named name) (text ∷ [])
  -- the edits of the text are these
  pub are : edits_of text ≡ Ok edits
