-- What is written reads, and stays if it is written out again. For the laws of src/laws.rt.
use Rattle.std.proofs.Common.{◌≡◌, ℕ, ◌⊎◌, inl, inr, Bool, true, false, ◌&&◌, cond, List, [], ◌∷◌, ◌++◌, Result, Ok, Err, refl, ap, sym, subst, ◌∙◌}
use Rattle.std.specs.List.{list_all}
use Rattle.nc_number.proofs.Bools.{both}
use Rattle.block_words.specs.declared.dialect.Dialect.{Dialect}
use Rattle.nc_text.specs.declared.fault.TextFault.{TextFault}
use Rattle.nc_text.specs.declared.tape.Block.{Block}
use Rattle.nc_text.specs.declared.tape.Program.{Program}
use Rattle.nc_text.specs.Lines.{lines_of}
use Rattle.nc_text.specs.Tape.{tape_of}
use Rattle.comma_words.specs.Reading.{comma_tape}
use Rattle.line_edits.specs.declared.edits.Edit.{Edit}
use Rattle.line_edits.specs.Splice.{edited_lines}
use Rattle.output_lines.specs.Lines.{without_outputs}
use Rattle.plain_form.specs.declared.cause.PlainFault.{PlainFault}
use Rattle.plain_form.specs.declared.settings.FormSettings.{FormSettings}
use Rattle.plain_blocks.specs.Calm.{kept_blocks, kept_steps}
use Rattle.plain_blocks.specs.Walk.{steps_of}
use Rattle.plain_blocks.specs.declared.step.Step.{Step}
use Rattle.plain_blocks.specs.declared.step.Step.TheVariants.{Kept, Written}
use Rattle.written_blocks.specs.Tapes.{is_read_as}
use Rattle.written_blocks.specs.Told.{told_blocks, written_blocks, told_programs, written_programs}
use Rattle.written_blocks.proofs.Said.{said}
use Rattle.tape_plain.specs.Again.{are_kept, all_kept, checked, if_read, if_stays, is_kept, unlike}
use Rattle.tape_plain.specs.Draft.{grown, size_of, size_then, steps_size}
use Rattle.tape_plain.specs.Plain.{edits_in, if_sized, own_text, plain_by_commas, plain_by_quiet, plain_by_reading, plain_of, plain_quiet, shop_text, steps_found, steps_in, written_text}
use Rattle.tape_plain.specs.Rules.{rules_of}
use Rattle.tape_plain.specs.declared.fault.PlainTapeFault.{PlainTapeFault}
use Rattle.plain_laws.specs.Written.{IsSource, IsShopTape, AreForms, IsWritten}
use Rattle.plain_laws.proofs.KeptTapes.{tape_kept}

-- steps that fit were found
found_is : (r : Result (List (List Step)) PlainFault) (all : List (List Step)) → steps_found r ≡ Ok all → r ≡ Ok all
found_is (Ok own) all e = go (size_of 0 own) e
  where
    go : (size : Result ℕ PlainTapeFault) → if_sized own size ≡ Ok all → ◌≡◌ {A = Result (List (List Step)) PlainFault} (Ok own) (Ok all)
    go (Ok count) e = let same : own ≡ all = cc in ap Ok same
    go (Err fault) e = absurd cc
found_is (Err fault) all e = absurd cc

-- blocks that stay have some count
steps_fit : (count : ℕ) (steps : List Step) → are_kept steps ≡ true → (n : ℕ) × (steps_size count steps ≡ Ok n)
steps_fit count [] kept = (count, refl)
steps_fit count (Kept ∷ steps) kept = steps_fit (grown count 1) steps kept
steps_fit count (Written line ∷ steps) kept = absurd (let bad : false ≡ true = kept in cc)

all_fit : (count : ℕ) (all : List (List Step)) → all_kept all ≡ true → (n : ℕ) × (size_of count all ≡ Ok n)
all_fit count [] kept = (count, refl)
all_fit count (steps ∷ all) kept =
    let p = both (are_kept steps) (all_kept all) kept in
    let one = steps_fit count steps p.0 in
    let rest = all_fit one.0 all p.1 in
    (rest.0, ap (λ r. size_then r (λ more. size_of more all)) one.1 ∙ rest.1)

-- what was written reads, says what became of the tape, and stays
record IsRead (dialect : Dialect) (forms : FormSettings) (tape : List Program) (all : List (List Step)) (out : List ℕ) : Type 0 where
  again : List Program
  reads : tape_of 0 out ≡ Ok again
  says : is_read_as again tape all ≡ true
  steps : List (List Step)
  steps_are : steps_of (rules_of dialect forms out again) again ≡ Ok steps
  kept : all_kept steps ≡ true

-- what is handed over is so
checked_is : (dialect : Dialect) (forms : FormSettings) (tape : List Program) (all : List (List Step)) (edits : List Edit) (text out : List ℕ)
    → checked dialect forms tape all edits text ≡ Ok out → IsRead dialect forms tape all out
checked_is dialect forms tape all edits text out e = go (tape_of 0 text) refl e
  where
    stays : (again : List Program) → tape_of 0 text ≡ Ok again → is_read_as again tape all ≡ true
        → (steps : List (List Step)) → steps_of (rules_of dialect forms text again) again ≡ Ok steps → (b : Bool) → all_kept steps ≡ b
        → ◌≡◌ {A = Result (List ℕ) PlainTapeFault} (cond b (Ok text) (Err (unlike edits))) (Ok out) → IsRead dialect forms tape all out
    stays again reads says steps are true kept e =
        let same : text ≡ out = cc in
        subst (λ t. IsRead dialect forms tape all t) same (record { again = again; reads = reads; says = says; steps = steps; steps_are = are; kept = kept })
    stays again reads says steps are false kept e = absurd cc

    found : (again : List Program) → tape_of 0 text ≡ Ok again → is_read_as again tape all ≡ true
        → (r : Result (List (List Step)) PlainFault) → steps_of (rules_of dialect forms text again) again ≡ r
        → if_stays edits text r ≡ Ok out → IsRead dialect forms tape all out
    found again reads says (Ok steps) are e = stays again reads says steps are (all_kept steps) refl e
    found again reads says (Err fault) are e = absurd cc

    told : (again : List Program) → tape_of 0 text ≡ Ok again → (b : Bool) → is_read_as again tape all ≡ b
        → cond b (if_stays edits text (steps_of (rules_of dialect forms text again) again)) (Err (unlike edits)) ≡ Ok out
        → IsRead dialect forms tape all out
    told again reads true says e = found again reads says (steps_of (rules_of dialect forms text again) again) refl e
    told again reads false says e = absurd cc

    go : (r : Result (List Program) TextFault) → tape_of 0 text ≡ r → if_read dialect forms tape all edits text r ≡ Ok out
        → IsRead dialect forms tape all out
    go (Ok again) reads e = told again reads (is_read_as again tape all) refl e
    go (Err fault) reads e = absurd cc

-- a text stays whose tape stays
kept_stays : (dialect : Dialect) (forms : FormSettings) (out : List ℕ) (again : List Program) (steps : List (List Step)) → tape_of 0 out ≡ Ok again
    → steps_of (rules_of dialect forms out again) again ≡ Ok steps → all_kept steps ≡ true → plain_of dialect forms out ≡ Ok out
unfolding plain_of
kept_stays dialect forms out again steps reads are kept =
    ap (plain_by_reading dialect forms out) reads
    ∙ ap (λ r. own_text dialect forms out again (steps_found r)) are
    ∙ ap (λ r. own_text dialect forms out again (if_sized steps r)) ((all_fit 0 steps kept).1)
    ∙ ap (λ b. cond b (Ok out) (written_text dialect forms out again steps)) kept

-- blocks that stay say themselves
blocks_say : (blocks : List Block) → told_blocks blocks ≡ written_blocks blocks (kept_blocks blocks)
blocks_say [] = refl
blocks_say (block ∷ blocks) = ap (λ rest. told_blocks (block ∷ []) ++ rest) (blocks_say blocks)

programs_say : (tape : List Program) → told_programs tape ≡ written_programs tape (kept_steps tape)
programs_say [] = refl
programs_say (program ∷ programs) =
    λ i. record { number = program.number; blocks = blocks_say program.blocks i } ∷ programs_say programs i

-- of a text of this control's language itself is written
own_written : (dialect : Dialect) (forms : FormSettings) (text source : List ℕ) (tape : List Program) (all : List (List Step)) → IsSource text source
    → tape_of 0 source ≡ Ok tape → steps_of (rules_of dialect forms source tape) tape ≡ Ok all → all_kept all ≡ true → IsWritten dialect forms text source
own_written dialect forms text source tape all is read steps kept =
    let p = tape_kept (rules_of dialect forms source tape) tape all steps kept in
    record {
      source = source;
      source_is = is;
      tape = tape;
      read = inl read;
      all = all;
      steps = steps;
      again = tape;
      reads = read;
      says = programs_say tape ∙ ap (written_programs tape) (sym p.0);
      forms_are = p.1;
    }

-- what is handed over is the text itself, or was read again
abbrev Handed : Dialect → FormSettings → List ℕ → List ℕ → List Program → List (List Step) → Type 0
Handed dialect forms source out tape all =
    ((tape_of 0 source ≡ Ok tape) × (all_kept all ≡ true) × (source ≡ out)) ⊎ (written_text dialect forms source tape all ≡ Ok out)

record IsHanded (dialect : Dialect) (forms : FormSettings) (source out : List ℕ) : Type 0 where
  tape : List Program
  read : IsShopTape source tape
  all : List (List Step)
  steps : steps_of (rules_of dialect forms source tape) tape ≡ Ok all
  handed : Handed dialect forms source out tape all

-- so it is of a tape that was read as it stands
own_handed : (dialect : Dialect) (forms : FormSettings) (source out : List ℕ) (tape : List Program) → tape_of 0 source ≡ Ok tape
    → own_text dialect forms source tape (steps_in dialect forms source tape) ≡ Ok out → IsHanded dialect forms source out
own_handed dialect forms source out tape read e = go (steps_in dialect forms source tape) refl e
  where
    own : (all : List (List Step)) → steps_of (rules_of dialect forms source tape) tape ≡ Ok all
        → (b : Bool) → all_kept all ≡ b → cond b (Ok source) (written_text dialect forms source tape all) ≡ Ok out → IsHanded dialect forms source out
    own all steps true kept e =
        let same : source ≡ out = cc in record { tape = tape; read = inl read; all = all; steps = steps; handed = inl (read, kept, same) }
    own all steps false kept e = record { tape = tape; read = inl read; all = all; steps = steps; handed = inr e }

    go : (r : Result (List (List Step)) PlainTapeFault) → steps_in dialect forms source tape ≡ r
        → own_text dialect forms source tape r ≡ Ok out → IsHanded dialect forms source out
    go (Ok all) is e = own all (found_is (steps_of (rules_of dialect forms source tape) tape) all is) (all_kept all) refl e
    go (Err fault) is e = absurd cc

-- and of one that was read with words after commas
commas_handed : (dialect : Dialect) (forms : FormSettings) (source out : List ℕ) → plain_by_commas dialect forms source (comma_tape source) ≡ Ok out
    → IsHanded dialect forms source out
commas_handed dialect forms source out e = go (comma_tape source) refl e
  where
    shops : (tape : List Program) → comma_tape source ≡ Ok tape → (r : Result (List (List Step)) PlainTapeFault) → steps_in dialect forms source tape ≡ r
        → shop_text dialect forms source tape r ≡ Ok out → IsHanded dialect forms source out
    shops tape read (Ok all) is e =
        record { tape = tape; read = inr read; all = all; steps = found_is (steps_of (rules_of dialect forms source tape) tape) all is; handed = inr e }
    shops tape read (Err fault) is e = absurd cc

    go : (r : Result (List Program) TextFault) → comma_tape source ≡ r → plain_by_commas dialect forms source r ≡ Ok out → IsHanded dialect forms source out
    go (Ok tape) read e = shops tape read (steps_in dialect forms source tape) refl e
    go (Err fault) read e = absurd cc

quiet_handed : (dialect : Dialect) (forms : FormSettings) (source out : List ℕ) → plain_quiet dialect forms source ≡ Ok out
    → IsHanded dialect forms source out
quiet_handed dialect forms source out e = go (tape_of 0 source) refl e
  where
    go : (r : Result (List Program) TextFault) → tape_of 0 source ≡ r → plain_by_quiet dialect forms source r ≡ Ok out → IsHanded dialect forms source out
    go (Ok tape) read e = own_handed dialect forms source out tape read e
    go (Err fault) read e = commas_handed dialect forms source out e

-- the source of a text, and what was handed over of it
abbrev HandedOf : Dialect → FormSettings → List ℕ → List ℕ → Type 0
HandedOf dialect forms text out = (source : List ℕ) × IsSource text source × IsHanded dialect forms source out

handed_is : (dialect : Dialect) (forms : FormSettings) (text out : List ℕ) → plain_of dialect forms text ≡ Ok out → HandedOf dialect forms text out
unfolding plain_of
handed_is dialect forms text out e = go (tape_of 0 text) refl e
  where
    go : (r : Result (List Program) TextFault) → tape_of 0 text ≡ r → plain_by_reading dialect forms text r ≡ Ok out → HandedOf dialect forms text out
    go (Ok tape) read e = (text, inl refl, own_handed dialect forms text out tape read e)
    go (Err fault) read e = (without_outputs text, inr refl, quiet_handed dialect forms (without_outputs text) out e)

-- what is written reads
pub written_reads : (dialect : Dialect) (forms : FormSettings) (text out : List ℕ) → plain_of dialect forms text ≡ Ok out → IsWritten dialect forms text out
written_reads dialect forms text out e = let found = handed_is dialect forms text out e in go found.0 found.1 found.2 found.2.handed
  where
    again : (source : List ℕ) → IsSource text source → (h : IsHanded dialect forms source out) → IsRead dialect forms h.tape h.all out → IsWritten dialect forms text out
    again source is h read = record {
      source = source;
      source_is = is;
      tape = h.tape;
      read = h.read;
      all = h.all;
      steps = h.steps;
      again = read.again;
      reads = read.reads;
      says = said read.again h.tape h.all read.says;
      forms_are = (tape_kept (rules_of dialect forms out read.again) read.again read.steps read.steps_are read.kept).1;
    }

    go : (source : List ℕ) → IsSource text source → (h : IsHanded dialect forms source out) → Handed dialect forms source out h.tape h.all
        → IsWritten dialect forms text out
    go source is h (inl p) =
        subst (λ t. IsWritten dialect forms text t) p.2 (own_written dialect forms text source h.tape h.all is p.0 h.steps p.1)
    go source is h (inr e) =
        again source is h (checked_is dialect forms h.tape h.all (edits_in source h.all) (edited_lines 1 (edits_in source h.all) (lines_of source)) out e)

-- what is written stays
pub written_stays : (dialect : Dialect) (forms : FormSettings) (text out : List ℕ) → plain_of dialect forms text ≡ Ok out → plain_of dialect forms out ≡ Ok out
written_stays dialect forms text out e = let found = handed_is dialect forms text out e in go found.0 found.2 found.2.handed
  where
    again : (tape : List Program) (all : List (List Step)) → IsRead dialect forms tape all out → plain_of dialect forms out ≡ Ok out
    again tape all is = kept_stays dialect forms out is.again is.steps is.reads is.steps_are is.kept

    go : (source : List ℕ) (h : IsHanded dialect forms source out) → Handed dialect forms source out h.tape h.all → plain_of dialect forms out ≡ Ok out
    go source h (inl p) = subst (λ t. plain_of dialect forms t ≡ Ok t) p.2 (kept_stays dialect forms source h.tape h.all p.0 h.steps p.1)
    go source h (inr e) =
        again h.tape h.all (checked_is dialect forms h.tape h.all (edits_in source h.all) (edited_lines 1 (edits_in source h.all) (lines_of source)) out e)
