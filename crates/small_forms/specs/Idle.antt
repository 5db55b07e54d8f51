-- Words that change nothing here, and G31. src/idle.rt computes it. 71 is the letter G, 77 M, 80 P.
use Rattle.std.specs.Prelude.{ℕ, Bool, false, not, ◌&&◌, ◌||◌, ◌==◌, List, [], ◌∷◌, ◌++◌, pos, codes, if◌then◌else◌}
use Rattle.std.specs.List.{list_any}
use Rattle.code_tables.specs.declared.system.System.{System}
use Rattle.code_tables.specs.declared.system.System.TheVariants.{A, B}
use Rattle.line_text.specs.declared.body.Word.{Word}
use Rattle.plain_form.specs.Made.{made_word}
use Rattle.plain_form.specs.Said.{is_code_word, is_one_of}
use Rattle.small_forms.specs.declared.idle.Taste.{Taste}

-- which words of a block are left out
pub record TasteView : Type 0 where
  -- the system of the G codes
  pub system : System
  -- letters of words that change nothing
  pub idle : List ℕ
  -- P names a spindle
  pub beside : Bool

-- what contracts see of it
abbrev pub taste_of : Taste → TasteView
taste_of taste = record { system = taste.system; idle = taste.idle.now; beside = taste.beside }

-- a word has this letter
abbrev pub has_letter : ℕ → List Word → Bool
has_letter letter words = list_any (λ word. word.letter == letter) words

-- the block has an M code and no G code: then its P names a spindle
abbrev pub names_spindle : List Word → Bool
names_spindle words = has_letter 77 words && not (has_letter 71 words)

-- the word is G98 or G99 of system B, the level to which a drill goes back
abbrev pub is_level : System → Word → Bool
is_level A word = false
is_level B word = is_code_word (pos 98000000) word || is_code_word (pos 99000000) word

-- the word changes nothing here
abbrev pub is_idle : TasteView → Word → Bool
is_idle taste word =
    (is_one_of taste.idle word.letter || is_level taste.system word) || (taste.beside && word.letter == 80)

-- the word is G31, a cut that a signal may end
abbrev pub is_skip_cut : Word → Bool
is_skip_cut word = is_code_word (pos 31000000) word

-- the word is left out or written otherwise
abbrev pub is_other : TasteView → Word → Bool
is_other taste word = is_idle taste word || is_skip_cut word

-- a word is
abbrev pub is_changed : TasteView → List Word → Bool
is_changed taste words = list_any (is_other taste) words

-- the word as it is written: not at all if it changes nothing, G01 for G31
abbrev pub kept_word : TasteView → Word → List Word
kept_word taste word =
    if is_idle taste word then []
    else if is_skip_cut word then made_word 71 (codes "01") ∷ []
    else made_word word.letter word.text ∷ []

-- the words as they are written
abbrev pub kept_words : TasteView → List Word → List Word
kept_words taste [] = []
kept_words taste (word ∷ words) = kept_word taste word ++ kept_words taste words
