-- From what `clap` answers to the listed command, step by step: for the proofs of src/reading.rt.
use Rattle.std.proofs.Common.{◌≡◌, zero, suc, true, false, List, [], ◌∷◌, map, Option, Some, None, Result, Ok, Err, refl, sym, ap, subst, ◌∙◌, arith, inl, inr}
use Rattle.std.specs.Prelude.{IfOk, IsErrOf, string_bytes}
use Rattle.std.specs.List.{All}
use Rattle.std.specs.Str.{IsUtf8}
use Rattle.std.specs.declared.string.String.{String}
use Rattle.std.proofs.lemmas.Str.{IsUtf8-string_bytes}
use Rattle.clap.specs.Kinds.{HasKind, IsAmong, Kinds}
use Rattle.clap.specs.Faults.{fault_of, is_simple_and_free}
use Rattle.clap.specs.Simple.{HasMatchesOf, app_of, is_simple, subcommand_of, subcommand_rows_of}
use Rattle.clap.specs.Values.{kind_of}
use Rattle.clap.specs.Walk.{Row, Text, is_empty}
use Rattle.clap.specs.declared.builder.command.Command.{Command as Parser}
use Rattle.clap.specs.declared.error.Error.{Error}
use Rattle.clap.specs.declared.error.kind.ErrorKind.{ErrorKind}
use Rattle.clap.specs.declared.parser.matches.ArgMatches.{ArgMatches}
use Rattle.command_words.specs.Listed.{OptionTextsView, command_of}
use Rattle.command_words.specs.Making.{Answers}
use Rattle.command_words.specs.Table.{Listing, listings, row_of}
use Rattle.command_words.specs.declared.command.Command.{Command}
use Rattle.command_words.specs.declared.fault.WordsFault.{WordsFault}
use Rattle.command_words.specs.declared.fault.WordsFault.TheVariants.{Usage, NoMemory}
use Rattle.clap_reading.specs.ClapReading.{command_from, command_in, command_met, fault_by, command_of_line, names_of, texts_at}
use Rattle.clap_reading.specs.Grammar.{IsRead, program_app}

-- the command of a row, and of its name (that of the names of its words: reading/names_in and with_further)

-- The names and texts that were found give the command of the row.
pub from_names : (rows : List Row) (row : Listing) (names : List Text) (texts : OptionTextsView) (r : Result Command WordsFault)
    → names_of rows row ≡ Some names → texts_at row rows ≡ texts → Answers (command_of row.task names texts) r → Answers (command_from rows row) r
from_names rows row names texts r e l a = rw e (subst (λ t. Answers (command_of row.task names t) r) (sym l) a)

-- The command of a row is that of its name.
pub in_row : (rows : List Row) (name : Text) (row : Listing) (r : Result Command WordsFault) → row_of name ≡ Some row → Answers (command_from rows row) r
    → Answers (command_in name rows) r
unfolding command_in
in_row rows name row r e a = rw e a

-- A name without a row has no command.
pub in_no_row : (rows : List Row) (name : Text) → row_of name ≡ None → command_in name rows ≡ None
unfolding command_in
in_no_row rows name e = rw e refl

-- the command of a line

-- The program's command is simple for clap, and no argument has a rule on another. This and the next
-- are computed over all rows: a further command needs nothing here.
program_is_free : is_simple_and_free program_app ≡ true
unfolding program_app listings
program_is_free = refl

-- The program's command is simple, as clap's contracts ask.
program_is_simple : is_simple program_app ≡ true
unfolding program_app listings
program_is_simple = refl

-- If `clap` takes the line, its command is that of the subcommand that was met.
pub line_taken : (line : List Text) (program : Parser) (found : ArgMatches) (r : Result Command WordsFault) → IsRead program_app program
    → (is_simple_and_free (app_of program) ≡ true → fault_of (app_of program) line ≡ []) → HasMatchesOf (app_of program) line found
    → Answers (command_met (subcommand_rows_of found)) r → Answers (command_of_line line) r
unfolding command_of_line
line_taken line program found r read free matches a =
    let none : fault_of program_app line ≡ []
    = subst (λ app. fault_of app line ≡ []) read.same (free (subst (λ app. is_simple_and_free app ≡ true) (sym read.same) program_is_free)) in
    let met : subcommand_rows_of found ≡ subcommand_of program_app line
    = subst (λ app. subcommand_rows_of found ≡ subcommand_of app line) read.same (matches (subst (λ app. is_simple app ≡ true) (sym read.same) program_is_simple)).1 in
    rw (none, ← met) a

-- A kind that is among some shows that there are some.
among_some : (kind : ErrorKind) (kinds : Kinds) → IsAmong kind kinds → is_empty kinds ≡ false
among_some kind [] among = absurd among
among_some kind (k ∷ kinds) among = grind arith

-- A fault answers that there is no command.
answers_none : (fault : WordsFault) → Answers {T = Command} None (Err fault)
answers_none Usage = refl
answers_none NoMemory = tt

-- If `clap` refuses the line, it has no command.
no_command : (line : List Text) → is_empty (fault_of program_app line) ≡ false → command_of_line line ≡ None
unfolding command_of_line
no_command line some = rw some refl

-- If `clap` ends with an error, the line has no command, or memory ran out.
pub line_refused : (line : List Text) (program : Parser) (error : Error) (fault : WordsFault) → IsRead program_app program
    → (is_simple_and_free (app_of program) ≡ true → HasKind (fault_of (app_of program) line) error) → fault ≡ fault_by (kind_of error)
    → Answers (command_of_line line) (Err fault)
line_refused line program error fault read free by =
    let fails : HasKind (fault_of program_app line) error
    = subst (λ app. HasKind (fault_of app line) error) read.same (free (subst (λ app. is_simple_and_free app ≡ true) (sym read.same) program_is_free)) in
    elim fails [
      | inl memory ↦
          let short : fault ≡ NoMemory = by ∙ ap fault_by memory in
          subst (λ f. Answers (command_of_line line) (Err f)) (sym short) tt
      | inr among ↦
          let none : command_of_line line ≡ None = no_command line (among_some (kind_of error) (fault_of program_app line) among) in
          subst (λ value. Answers value (Err fault)) (sym none) (answers_none fault)
    ]

-- the command of the words

-- The words are texts in UTF-8, by their type.
pub words_are_texts : {Z : Type 0} → (words : List (String Z)) → All IsUtf8 (map string_bytes words)
words_are_texts [] k d less = absurd (omega arith)
words_are_texts (word ∷ words) zero d less = IsUtf8-string_bytes word
words_are_texts (word ∷ words) (suc k) d less = words_are_texts words k d (omega arith)

-- A command that is answered is the listed one.
pub answer_ok : (value listed : Option Command) (r : Result Command WordsFault) → value ≡ listed → Answers value r → IfOk r (λ command. listed ≡ Some command)
answer_ok value listed (Ok command) e a = sym e ∙ a
answer_ok value listed (Err Usage) e a = tt
answer_ok value listed (Err NoMemory) e a = tt

-- `Usage` is answered only if no command is listed.
pub answer_usage : (value listed : Option Command) (r : Result Command WordsFault) → value ≡ listed → Answers value r → IsErrOf r Usage → listed ≡ None
answer_usage value listed (Ok command) e a f = cc
answer_usage value listed (Err Usage) e a f = sym e ∙ a
answer_usage value listed (Err NoMemory) e a f = cc
