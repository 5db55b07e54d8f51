-- The first file of a list that can't be read: how it follows from one file, that no file with a
-- text is one, and that there is at most one. The proofs of this crate use it.
use Rattle.std.proofs.Common.{◌≡◌, ℕ, zero, suc, ◌≤◌, ◌<◌, Option, Some, None, List, [], ◌∷◌, ◌++◌, length, map, take, IsSomeAnd, Result, Ok, Err, refl, sym, ap, subst, arith, ◌∙◌, append_assoc}
use Rattle.std.specs.Prelude.{IfOk, IfErr, OnOk}
use Rattle.std.proofs.lemmas.List.{append-nil, map-append}
use Rattle.nc_number.specs.declared.fault.Failing.{Failing}
use Rattle.nc_number.specs.declared.fault.Failing.TheVariants.{Fault, NoMemory}
use Rattle.nc_outside.specs.Faults.{Rose}
use Rattle.nc_outside.specs.Files.{Files, ShelfState, HoldsMore, HoldsOn, Lacks, file_named}
use Rattle.block_order.specs.Answers.{IfFault}
use Rattle.nc_verify.specs.Verdict.{Texts}
use Rattle.lathe_calls.specs.Texts.{three_texts}
use Rattle.lathe_calls.specs.declared.pair_texts.TheConstants.{LONGEST_SETTINGS}
use Rattle.lathe_looks.specs.declared.fetching.FileFault.{FileFault}
use Rattle.lathe_looks.specs.declared.files.CommandFile.TheVariants.{Settings, Tape, Zones}
use Rattle.lathe_looks.specs.declared.fetching.Unfetched.{Unfetched}
use Rattle.lathe_calls.specs.Answers.{Answer}
use Rattle.lathe_looks.specs.Named.{Named, files_of, most_bytes, named_file, only_text, pair_texts, settings_named, tape_texts, tape_with_settings, tapes_of, with_zones, zones_and_pair, zones_before}
use Rattle.tape_calls.specs.Texts.{tape_and_settings}
use Rattle.lathe_looks.specs.Fetched.{AreAsked, AreHad, AreReadAs, AreSome, AreTexts, FileCause, failed, absent, too_long, IsNotHad, IsOfFiles, answers, not_had, unread, IsText, IsUnfetched, Reaches, file_of, unfetched_answer}

-- The line of the file that can't be read is due to a command of these files.
pub unfetched_due : {A : Type 0} {read : List (List ℕ) → A} {Rests : Type 0} {IsAnswer : A → Answer → Type 0} (files : List Named)
    (old new : ShelfState) (error : Failing Unfetched) → IsUnfetched old new files error → Rests
    → IsOfFiles read files Rests IsAnswer old new (unfetched_answer error)
unfetched_due files old new (Fault missing) is rests = not_had is rests
unfetched_due files old new NoMemory is rests = unread is rests

-- What a command answers to a value that was read of its files is what it answers of these files.
pub answered : {A : Type 0} {read : List (List ℕ) → A} {files : List Named} {Rests : Type 0} {old new : ShelfState} {value : A}
    (IsAnswer : A → Answer → Type 0) (answer : Answer) → AreReadAs read old new files value → IsAnswer value answer
    → IsOfFiles read files Rests IsAnswer old new answer
answered IsAnswer answer read_as is = answers read_as.texts read_as.had (subst (λ v. IsAnswer v answer) (sym read_as.are) is)

-- To be asked for some files and then for more is to be asked for all of them.
asked_more : (old middle new : Option (List (List ℕ))) (files more : List Named) → AreAsked old middle files → AreAsked middle new more
    → AreAsked old new (files ++ more)
asked_more None middle new files more first then_too =
    subst (λ m. AreAsked m new more) first then_too
asked_more (Some was) middle new files more first then_too =
    let named_all : List Named → List (List ℕ) = map (λ (file : Named). file.name) in
    let next : new ≡ Some ((was ++ named_all files) ++ named_all more) = subst (λ m. AreAsked m new more) first then_too in
    let one : map (λ (file : Named). file.name) (files ++ more) ≡ named_all files ++ named_all more = map-append (λ (file : Named). file.name) files more in
    next ∙ ap Some (append_assoc was (named_all files) (named_all more) ∙ ap (λ l. was ++ l) (sym one))

-- The cause at a later moment is one from an earlier moment on, if the shelf's files stayed and its
-- faults did not sink.
cause_before : (old middle new : ShelfState) (file : Named) (fault : FileFault) → HoldsOn old middle → old.faults ≤ middle.faults
    → FileCause middle new file fault → FileCause old new file fault
cause_before old middle new file fault same later (failed rose) = failed (omega (arith, later, rose))
cause_before old middle new file fault same later (absent lacks) = absent (subst (λ told. Lacks told file.name) same lacks)
cause_before old middle new file fault same later (too_long more) =
    too_long (subst (λ told. HoldsMore told file.name (most_bytes file.file)) same more)

-- A file can't be read for the cause that the error names.
pub caused : (old new : ShelfState) (file : Named) (fault : FileFault) (error : Failing Unfetched) → FileCause old new file fault
    → IfFault error (λ unfetched. (file_of unfetched ≡ file) × (unfetched.fault ≡ fault))
    → IfFault error (λ unfetched. (file_of unfetched ≡ file) × FileCause old new file unfetched.fault)
caused old new file fault (Fault unfetched) cause is = (is.0, subst (λ f. FileCause old new file f) (sym is.1) cause)
caused old new file fault NoMemory cause is = tt

-- If the first file can't be read, or memory ran out at it, that is why the list has no texts.
pub first_not_had : (old new : ShelfState) (one : Named) (files : List Named) (error : Failing Unfetched)
    → AreAsked old.asked new.asked (one ∷ []) → IfFault error (λ missing. (file_of missing ≡ one) × FileCause old new one missing.fault)
    → IsUnfetched old new (one ∷ files) error
first_not_had old new one files (Fault missing) asked is = record {
  before = 0;
  reached = is.0;
  cause = subst (λ f. FileCause old new f missing.fault) (sym is.0) is.1;
  asked = asked;
}
first_not_had old new one files NoMemory asked is = (1, asked)

-- If the first file has a text, and the second can't be read or memory ran out at it, that is why
-- the list of both has no texts.
pub second_not_had : (old middle new : ShelfState) (one two : Named) (text : List ℕ) (error : Failing Unfetched)
    → IsText old.files one text → HoldsOn old middle → old.faults ≤ middle.faults → AreAsked old.asked middle.asked (one ∷ [])
    → AreAsked middle.asked new.asked (two ∷ [])
    → IfFault error (λ missing. (file_of missing ≡ two) × FileCause middle new two missing.fault)
    → IsUnfetched old new (one ∷ two ∷ []) error
second_not_had old middle new one two text (Fault missing) is_text same later first second is = record {
  before = 1;
  reached = ((text, is_text), is.0);
  cause =
      subst (λ f. FileCause old new f missing.fault) (sym is.0) (cause_before old middle new two missing.fault same later is.1);
  asked = asked_more old.asked middle.asked new.asked (one ∷ []) (two ∷ []) first second;
}
second_not_had old middle new one two text NoMemory is_text same later first second is =
    (2, asked_more old.asked middle.asked new.asked (one ∷ []) (two ∷ []) first second)

-- If the first two files have texts, then why the files after them have none is why all of them have
-- none.
pub behind_two : (old middle new : ShelfState) (one two : Named) (a b : List ℕ) (more : List Named) (error : Failing Unfetched)
    → AreHad old middle (one ∷ two ∷ []) (a ∷ b ∷ []) → HoldsOn old middle → old.faults ≤ middle.faults
    → IsUnfetched middle new more error → IsUnfetched old new (one ∷ two ∷ more) error
behind_two old middle new one two a b more (Fault missing) had same later is = record {
  before = suc (suc is.before);
  reached = ((a, had.each.0), ((b, had.each.1.0), subst (λ told. Reaches told (file_of missing) more is.before) same is.reached));
  cause = cause_before old middle new (file_of missing) missing.fault same later is.cause;
  asked = asked_more old.asked middle.asked new.asked (one ∷ two ∷ []) (take (suc is.before) more) had.asked is.asked;
}
behind_two old middle new one two a b more NoMemory had same later is =
    (suc (suc is.0), asked_more old.asked middle.asked new.asked (one ∷ two ∷ []) (take is.0 more) had.asked is.1)

-- If one of the tapes can't be read, or memory ran out at one, that is why the tapes and what comes
-- after them have no texts, and nothing after them was asked for.
pub tapes_not_had : (old new : ShelfState) (one two : Named) (more : List Named) (error : Failing Unfetched) → IsUnfetched old new (one ∷ two ∷ []) error
    → IsUnfetched old new (one ∷ two ∷ more) error
tapes_not_had old new one two more (Fault missing) is = go is.before is.reached is.asked
  where
    go : (n : ℕ) → Reaches old.files (file_of missing) (one ∷ two ∷ []) n → AreAsked old.asked new.asked (take (suc n) (one ∷ two ∷ []))
        → IsNotHad old new (one ∷ two ∷ more) (file_of missing) missing.fault
    go zero reached asked = record { before = 0; reached = reached; cause = is.cause; asked = asked }
    go (suc zero) reached asked = record { before = 1; reached = (reached.0, reached.1); cause = is.cause; asked = asked }
    go (suc (suc n)) reached asked = absurd reached.1.1
tapes_not_had old new one two more NoMemory is = go is.0 is.1
  where
    go : (n : ℕ) → AreAsked old.asked new.asked (take n (one ∷ two ∷ [])) → AreSome old new (one ∷ two ∷ more)
    go zero asked = (0, asked)
    go (suc zero) asked = (1, asked)
    go (suc (suc zero)) asked = (2, asked)
    go (suc (suc (suc n))) asked = (2, asked)

-- One file that has a text is a list of files that have texts.
pub tape_had : (old new : ShelfState) (one : Named) (text : List ℕ) → IsText old.files one text → AreAsked old.asked new.asked (one ∷ [])
    → new.faults ≡ old.faults → AreHad old new (one ∷ []) (text ∷ [])
tape_had old new one text is asked calm = record { each = (is, tt); calm = calm; asked = asked }

-- Two files that have texts are a list that has texts. Between the two calls the shelf had the
-- files `told`, had been asked for `names`, and had failed so often.
pub tapes_had : (old new : ShelfState) (often : ℕ) (told : Option Files) (names : Option (List (List ℕ))) (one two : Named) (a b : List ℕ)
    → IsText old.files one a → told ≡ old.files → AreAsked old.asked names (one ∷ []) → IsText told two b
    → AreAsked names new.asked (two ∷ []) → often ≡ old.faults → new.faults ≡ often → AreHad old new (one ∷ two ∷ []) (a ∷ b ∷ [])
tapes_had old new often told names one two a b first same asked second then_asked calm still = record {
  each = (first, (subst (λ files. IsText files two b) same second, tt));
  calm = still ∙ calm;
  asked = asked_more old.asked names new.asked (one ∷ []) (two ∷ []) asked then_asked;
}

-- Both tapes with their texts, and the settings as they were read, are a pair.
pub pair_had : (old middle new : ShelfState) (l r : List ℕ) (settings : Option (List ℕ)) (a b c : List ℕ)
    → AreHad old middle (tapes_of l r) (a ∷ b ∷ []) → HoldsOn old middle → AreReadAs only_text middle new (settings_named settings) c
    → AreReadAs pair_texts old new (files_of l r settings) (three_texts a b c)
pair_had old middle new l r settings a b c had same read = record {
  texts = a ∷ b ∷ read.texts;
  had = record {
    each = (had.each.0, (had.each.1.0, subst (λ told. AreTexts told (settings_named settings) read.texts) same read.had.each));
    calm = read.had.calm ∙ had.calm;
    asked = asked_more old.asked middle.asked new.asked (tapes_of l r) (settings_named settings) had.asked read.had.asked;
  };
  are = ap (three_texts a b) read.are;
}

-- If a file has a text, then why the files after it have none is why all of them have none.
pub behind_one : (old middle new : ShelfState) (one : Named) (a : List ℕ) (more : List Named) (error : Failing Unfetched)
    → IsText old.files one a → AreAsked old.asked middle.asked (one ∷ []) → HoldsOn old middle → old.faults ≤ middle.faults
    → IsUnfetched middle new more error → IsUnfetched old new (one ∷ more) error
behind_one old middle new one a more (Fault missing) had asked same later is = record {
  before = suc is.before;
  reached = ((a, had), subst (λ told. Reaches told (file_of missing) more is.before) same is.reached);
  cause = cause_before old middle new (file_of missing) missing.fault same later is.cause;
  asked = asked_more old.asked middle.asked new.asked (one ∷ []) (take (suc is.before) more) asked is.asked;
}
behind_one old middle new one a more NoMemory had asked same later is =
    (suc is.0, asked_more old.asked middle.asked new.asked (one ∷ []) (take is.0 more) asked is.1)

-- A file with its text, before files as they were read, is read with them.
pub one_more_had : {A B : Type 0} (read : List (List ℕ) → A) (all : List (List ℕ) → B) (with : A → B) (old middle new : ShelfState) (one : Named)
    (files : List Named) (a : List ℕ) (value : A) → IsText old.files one a → AreAsked old.asked middle.asked (one ∷ [])
    → middle.faults ≡ old.faults → HoldsOn old middle → AreReadAs read middle new files value
    → ((texts : List (List ℕ)) → all (a ∷ texts) ≡ with (read texts)) → AreReadAs all old new (one ∷ files) (with value)
one_more_had read all with old middle new one files a value had asked calm same are_read each = record {
  texts = a ∷ are_read.texts;
  had = record {
    each = (had, subst (λ told. AreTexts told files are_read.texts) same are_read.had.each);
    calm = are_read.had.calm ∙ calm;
    asked = asked_more old.asked middle.asked new.asked (one ∷ []) files asked are_read.had.asked;
  };
  are = each are_read.texts ∙ ap with are_read.are;
}

-- A text of zones, and the texts of a pair as they were read, are a pair with zones.
pub zones_and_pair_had : (old middle new : ShelfState) (name : List ℕ) (files : List Named) (a : List ℕ) (pair : Texts)
    → IsText old.files (named_file Zones name) a → AreAsked old.asked middle.asked (named_file Zones name ∷ []) → middle.faults ≡ old.faults
    → HoldsOn old middle → AreReadAs pair_texts middle new files pair
    → AreReadAs zones_and_pair old new (zones_before name files) (with_zones a pair)
zones_and_pair_had old middle new name files a pair had asked calm same read =
    one_more_had pair_texts zones_and_pair (with_zones a) old middle new (named_file Zones name) files a pair had asked calm same read (λ texts. refl)

-- A tape with its text, and the settings as they were read, are the texts of a tape.
pub tape_and_settings_had : (old middle new : ShelfState) (name : List ℕ) (settings : Option (List ℕ)) (a c : List ℕ)
    → IsText old.files (named_file Tape name) a → AreAsked old.asked middle.asked (named_file Tape name ∷ []) → middle.faults ≡ old.faults
    → HoldsOn old middle → AreReadAs only_text middle new (settings_named settings) c
    → AreReadAs tape_texts old new (tape_with_settings name settings) (record { tape = a; settings = c })
tape_and_settings_had old middle new name settings a c had asked calm same read =
    one_more_had only_text tape_texts (tape_and_settings a) old middle new (named_file Tape name) (settings_named settings) a c had asked calm same read
    (λ texts. refl)

-- Settings whose file was had are read as its text.
pub settings_had : {V E : Type 0} (items : V → List ℕ) (old new : ShelfState) (name : List ℕ) (result : Result V E)
    → AreAsked old.asked new.asked (settings_named (Some name))
    → IfOk result (λ text. IsText old.files (named_file Settings name) (items text)) → OnOk result (new.faults ≡ old.faults)
    → IfOk result (λ text. AreReadAs only_text old new (settings_named (Some name)) (items text))
settings_had items old new name (Ok text) asked is calm =
    record { texts = items text ∷ []; had = record { each = (is, tt); calm = calm; asked = asked }; are = refl }
settings_had items old new name (Err error) asked is calm = tt

-- Settings whose file was had are short.
pub settings_short : {V E : Type 0} (items : V → List ℕ) (told : Option Files) (name : List ℕ) (result : Result V E)
    → IfOk result (λ text. IsText told (named_file Settings name) (items text)) → IfOk result (λ text. length (items text) ≤ LONGEST_SETTINGS)
settings_short items told name (Ok text) is = is.1
settings_short items told name (Err error) is = tt

-- Settings whose file could not be read, or at which memory ran out, are the first file without a
-- text.
pub settings_not_had : {V : Type 0} (old new : ShelfState) (name : List ℕ) (result : Result V (Failing Unfetched))
    → AreAsked old.asked new.asked (settings_named (Some name))
    → IfErr result (λ error. IfFault error (λ missing. (file_of missing ≡ named_file Settings name)
    × FileCause old new (named_file Settings name) missing.fault))
    → IfErr result (IsUnfetched old new (settings_named (Some name)))
settings_not_had old new name (Ok text) asked is = tt
settings_not_had old new name (Err error) asked is = first_not_had old new (named_file Settings name) [] error asked is

-- Settings that are not named are read as empty, and nothing is asked for.
pub settings_unset : (shelf : ShelfState) (text : List ℕ) → text ≡ [] → AreReadAs only_text shelf shelf [] text
settings_unset shelf text none = record { texts = []; had = record { each = tt; calm = refl; asked = asked_none shelf.asked }; are = sym none }
  where
    asked_none : (names : Option (List (List ℕ))) → AreAsked names names []
    asked_none None = refl
    asked_none (Some names) = ap Some (sym (append-nil names))

-- If all files of a list have texts, a file that is reached has one.
reached_text : (told : Option Files) (file : Named) (files : List Named) (n : ℕ) (texts : List (List ℕ)) → Reaches told file files n
    → AreTexts told files texts → (text : List ℕ) × IsText told file text
reached_text told file [] n texts h are = absurd h
reached_text told file (first ∷ files) n [] h are = absurd are
reached_text told file (first ∷ files) zero (text ∷ texts) same are = (text, subst (λ f. IsText told f text) (rw same refl) are.0)
reached_text told file (first ∷ files) (suc n) (text ∷ texts) there are = reached_text told file files n texts there.1 are.1

-- A name with a text is not absent.
not_lacking : (files : Files) (name text : List ℕ) → file_named name files ≡ Some text → file_named name files ≡ None → ⊥
not_lacking files name text is lacks = cc

-- A text that is no longer than `most` is not too long.
not_longer : (files : Files) (name text : List ℕ) (most : ℕ) → file_named name files ≡ Some text → length text ≤ most
    → IsSomeAnd (file_named name files) (λ bytes. most < length bytes) → ⊥
not_longer files name text most is short more =
    let P : Option (List ℕ) → Type 0 = λ v. IsSomeAnd v (λ bytes. most < length bytes) in
    let h : P (Some text) = subst P is more in
    omega (arith, h)

-- A file that has a text can't be unreadable, unless the shelf failed.
text_had : (files : Files) (old new : ShelfState) (file : Named) (fault : FileFault) (text : List ℕ) → old.files ≡ Some files
    → (Rose old.faults new.faults → ⊥) → IsText (Some files) file text → FileCause old new file fault → ⊥
text_had files old new file fault text told calm is (failed rose) = calm rose
text_had files old new file fault text told calm is (absent lacks) =
    not_lacking files file.name text is.0 (subst (λ v. Lacks v file.name) told lacks)
text_had files old new file fault text told calm is (too_long more) =
    not_longer files file.name text (most_bytes file.file) is.0 is.1 (subst (λ v. HoldsMore v file.name (most_bytes file.file)) told more)

-- If all files of a list have texts and the shelf did not fail, none is unreadable.
pub all_had : (files : Files) (old new : ShelfState) (list : List Named) (file : Named) (fault : FileFault) (texts : List (List ℕ))
    → old.files ≡ Some files → (Rose old.faults new.faults → ⊥) → AreTexts old.files list texts → IsNotHad old new list file fault → ⊥
all_had files old new list file fault texts told calm are missing =
    let found = reached_text old.files file list missing.before texts missing.reached are in
    text_had files old new file fault found.0 told calm (subst (λ v. IsText v file found.0) told found.1) missing.cause

-- An absent file is not too long.
lacks_no_more : (files : Files) (name : List ℕ) (most : ℕ) → file_named name files ≡ None
    → IsSomeAnd (file_named name files) (λ bytes. most < length bytes) → ⊥
lacks_no_more files name most lacks more =
    let P : Option (List ℕ) → Type 0 = λ v. IsSomeAnd v (λ bytes. most < length bytes) in
    let none : P None = subst P lacks more in none

-- If the shelf tells its files and did not fail, a file is unreadable for at most one cause.
pub fault_once : (files : Files) (old new : ShelfState) (file : Named) (fault other : FileFault) → old.files ≡ Some files
    → (Rose old.faults new.faults → ⊥) → FileCause old new file fault → FileCause old new file other → fault ≡ other
fault_once files old new file fault other told calm (failed rose) cause = absurd (calm rose)
fault_once files old new file fault other told calm (absent lacks) (failed rose) = absurd (calm rose)
fault_once files old new file fault other told calm (absent lacks) (absent too) = refl
fault_once files old new file fault other told calm (absent lacks) (too_long more) = absurd (lacks_no_more files file.name (most_bytes file.file)
    (subst (λ v. Lacks v file.name) told lacks) (subst (λ v. HoldsMore v file.name (most_bytes file.file)) told more))
fault_once files old new file fault other told calm (too_long more) (failed rose) = absurd (calm rose)
fault_once files old new file fault other told calm (too_long more) (absent lacks) = absurd (lacks_no_more files file.name (most_bytes file.file)
    (subst (λ v. Lacks v file.name) told lacks) (subst (λ v. HoldsMore v file.name (most_bytes file.file)) told more))
fault_once files old new file fault other told calm (too_long more) (too_long too) = refl

-- If the shelf tells its files and did not fail, at most one file is the first that can't be read.
pub missing_once : (files : Files) (old new : ShelfState) (list : List Named) (file other : Named) (fault fault' : FileFault) (n m : ℕ)
    → old.files ≡ Some files → (Rose old.faults new.faults → ⊥) → Reaches old.files file list n → Reaches old.files other list m
    → FileCause old new file fault → FileCause old new other fault' → file ≡ other
missing_once files old new [] file other fault fault' n m told calm a b c d = absurd a
missing_once files old new (first ∷ list) file other fault fault' zero zero told calm a b c d = a ∙ sym b
missing_once files old new (first ∷ list) file other fault fault' zero (suc m) told calm a b c d =
    absurd (text_had files old new file fault b.0.0 told calm
    (subst (λ v. IsText v file b.0.0) told (subst (λ f. IsText old.files f b.0.0) (sym a) b.0.1)) c)
missing_once files old new (first ∷ list) file other fault fault' (suc n) zero told calm a b c d =
    absurd (text_had files old new other fault' a.0.0 told calm
    (subst (λ v. IsText v other a.0.0) told (subst (λ f. IsText old.files f a.0.0) (sym b) a.0.1)) d)
missing_once files old new (first ∷ list) file other fault fault' (suc n) (suc m) told calm a b c d =
    missing_once files old new list file other fault fault' n m told calm a.1 b.1 c d

-- The files of a list have at most one list of texts.
pub texts_once : (files : Files) (list : List Named) (a b : List (List ℕ)) → AreTexts (Some files) list a → AreTexts (Some files) list b → a ≡ b
texts_once files [] [] [] f g = refl
texts_once files [] (x ∷ a) b f g = absurd f
texts_once files [] [] (y ∷ b) f g = absurd g
texts_once files (file ∷ list) [] b f g = absurd f
texts_once files (file ∷ list) (x ∷ a) [] f g = absurd g
texts_once files (file ∷ list) (x ∷ a) (y ∷ b) f g =
    let tails : a ≡ b = texts_once files list a b f.1 g.1 in
    let one = f.0.0 in
    let two = g.0.0 in
    cc
