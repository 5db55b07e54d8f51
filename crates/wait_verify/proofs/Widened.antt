-- A pair of plain texts that `verify` accepts is accepted for its waits too: from a block to a
-- program, a tape, and a pair. What is plain is in specs/Widening. For the law
-- `what_a_run_accepts_is_accepted` (src/laws.rt).
use Rattle.std.proofs.Common.{◌≡◌, ℕ, suc, ◌-◌, ◌*◌, bit_and, bit_or, slice_index, Bool, true, false, not, ◌&&◌, ◌||◌, cond, codes, List, [], ◌∷◌, ◌++◌, map, Option, Some, None, Result, Ok, Err, refl, ap, sym, ◌∙◌, subst, All, ℤ, pos}
use Rattle.std.specs.Int.Bits.{and_zero_r, or_zero_r}
use Rattle.std.specs.List.{list_any, filter_map}
use Rattle.std.proofs.lemmas.Nat.{and_comm}
use Rattle.std.proofs.lemmas.List.{map-append}
use Rattle.std.proofs.lemmas.List.Elements.{All-nil, All-cons, All-head, All-tail}
use Rattle.nc_number.specs.Results.{◌>>=◌}
use Rattle.code_tables.specs.declared.row.Row.{Row}
use Rattle.code_tables.specs.declared.system.System.{System}
use Rattle.nc_number.specs.declared.path.Path.{Path}
use Rattle.nc_number.specs.declared.path.Path.TheVariants.{One, Two}
use Rattle.cell_settings.specs.Cell.{Cell}
use Rattle.line_text.specs.declared.body.Word.{Word}
use Rattle.line_text.specs.declared.body.Body.{Body}
use Rattle.line_text.specs.declared.body.Body.TheVariants.{Words, Statement}
use Rattle.nc_text.specs.declared.tape.Block.{Block}
use Rattle.nc_text.specs.declared.tape.Program.{Program}
use Rattle.nc_text.specs.Shape.{blocks_in}
use Rattle.nc_text.specs.Tape.{tape_of}
use Rattle.block_order.specs.declared.control.Control.{Control}
use Rattle.block_order.specs.declared.control.Control.TheVariants as control
use Rattle.block_order.specs.declared.program.ControlBlock.{ControlBlock}
use Rattle.block_order.specs.declared.program.ControlProgram.{ControlProgram}
use Rattle.block_order.specs.Loud.{loud}
use Rattle.block_order.specs.Order.{blocks as order_blocks}
use Rattle.block_words.specs.declared.purpose.Purpose.{Purpose}
use Rattle.block_words.specs.declared.purpose.Purpose.TheVariants as purpose
use Rattle.block_words.specs.declared.dialect.Dialect.{Dialect}
use Rattle.block_words.specs.declared.word.FlowWord.{FlowWord}
use Rattle.block_words.specs.Codes.{gives, is_macro_call, purpose_of}
use Rattle.block_forms.specs.Forms.{BlockForm, Form, block_or_refusal, block_at, form_at, form_of_words, form_or_refusal, control_of_form, words_or_refusal}
use Rattle.block_words.specs.Purposes as asked
use Rattle.block_forms.specs.Refusals as closed
use Rattle.block_words.specs.Words as read
use Rattle.block_words.specs.Words.{is_one_of}
use Rattle.open_forms.specs.Codes.{is_macro}
use Rattle.open_forms.specs.Words.{words_of, written_micro}
use Rattle.open_forms.proofs.Accepts.{IsAccepted, accepted}
use Rattle.nc_number.proofs.Bools.{neither}
use Rattle.open_forms.proofs.AmongLetters.{fewer_computed, one_among}
use Rattle.open_forms.proofs.ReadWords.{AreSaid, are_said, same_words_of}
use Rattle.open_forms.proofs.Widened.{judged_words}
use Rattle.open_forms.proofs.TableRows.{in_each, macro_is, no_such_g, same_kind}
use Rattle.open_forms.specs.Controls.{open_control, control_or_number}
use Rattle.open_forms.specs.Widening.{AreClean, IsClean, IsCleanTape, IsWidened as IsWidenedBlock}
use Rattle.tape_flow.specs.declared.fault.FlowFault.{FlowFault}
use Rattle.tape_flow.specs.Controls.{control_block, control_program, controls}
use Rattle.tape_flow.specs.Forms as full
use Rattle.tape_flow.specs.Forms.{ProgramForm}
use Rattle.nc_verify.specs.Verdict as run
use Rattle.nc_verify.specs.Verdict.{IsFlowOf, Texts, skips_of, dialect_in}
use Rattle.open_order.specs.Contours.{or_later, blocks_fault, contour_fault, contour_in, has_code, is_cycle_code, is_macro_code}
use Rattle.wait_verify.specs.declared.switches.TheConstants.{LAST_POSITION}
use Rattle.wait_verify.specs.Asked.{Asked, question_of}
use Rattle.wait_verify.specs.Switches.{cell_at, cell_or_line, switches_at}
use Rattle.wait_verify.specs.Verdict.{IsOrderOf, Judged, AreAcceptedAt, AreAcceptedTo}
use Rattle.wait_verify.proofs.Positions.{none_free}
use Rattle.wait_verify.specs.Widening.{ArePlain, IsPlainBlock, IsPlainText, IsWidened}
use Rattle.open_order.specs.Reading.{Basis, settled_control, at_line, block_read, blocks_from, program_read, programs_from, programs_read}

-- The law of open_forms on blocks: one that reads in full leads where it leads for its waits.
abbrev pub BlockLaw : Type 0
BlockLaw = (dialect : Dialect) (block : Block) (form : BlockForm) → IsWidenedBlock dialect block form

-- The law of open_forms that the statements of each tape are as its reader leaves them.
abbrev pub CleanLaw : Type 0
CleanLaw = (skips : ℕ) (text : List ℕ) (tape : List Program) → tape_of skips text ≡ Ok tape → IsCleanTape tape

-- A block.

-- The form of a block has its line and its sequence number.
form_is : (block : Block) (read : Result Form ℕ) (form : BlockForm) → block_at block read ≡ Ok form
    → (form.line ≡ block.line) × (form.sequence ≡ block.sequence)
form_is block (Err number) form e = absurd cc
form_is block (Ok own) form e =
    let same : form_at block.line block.sequence own (control_of_form own) ≡ form = cc in
    (sym (ap (λ (f : BlockForm). f.line) same), sym (ap (λ (f : BlockForm). f.sequence) same))

-- If the tape may lack no program, the control of a block stays as it is.
none_gone : (c : Control) → settled_control (λ _. false) c ≡ c
none_gone control.Next = refl
none_gone (control.Goto n) = refl
none_gone (control.While m) = refl
none_gone (control.Do m) = refl
none_gone (control.EndLoop m) = refl
none_gone (control.Wait code) = refl
none_gone control.End = refl
none_gone (control.Call program repeats) = refl
none_gone control.Back = refl
none_gone (control.BackTo n) = refl

-- What a block is read over if the tape may lack no program.
abbrev basis_of : Dialect → List Program → Basis
basis_of dialect tape = record { premises = record { dialect = dialect; outside = None }; tape = tape }

-- A plain block that reads in full reads for its waits, with the same control.
block_widened : BlockLaw → (dialect : Dialect) (tape : List Program) (block : Block) (form : BlockForm) → IsPlainBlock dialect block
    → IsClean block.body → full.block_read dialect block ≡ Ok form → block_read (basis_of dialect tape) block ≡ Ok (control_block form)
block_widened law dialect tape block form plain clean reads = go (block_or_refusal dialect block) refl reads
  where
    go : (read : Result BlockForm ℕ) → block_or_refusal dialect block ≡ read → full.at_line block.line read ≡ Ok form
        → block_read (basis_of dialect tape) block ≡ Ok (control_block form)
    go (Err number) is e = absurd cc
    go (Ok own) is e =
        let same : own ≡ form = cc in
        let accepted : block_or_refusal dialect block ≡ Ok form = is ∙ ap (λ f. Ok f) same in
        let leads : open_control dialect block.body ≡ Ok form.control = law dialect block form accepted plain clean in
        let at = form_is block (form_or_refusal dialect block.body) form accepted in
        ap (λ read. at_line (λ _. false) block (control_or_number read)) leads
        ∙ ap (λ c. Ok (record { line = block.line; sequence = block.sequence; control = c })) (none_gone form.control)
        ∙ ap (λ line. Ok (record { line = line; sequence = block.sequence; control = form.control })) (sym at.0)
        ∙ ap (λ sequence. Ok (record { line = form.line; sequence = sequence; control = form.control })) (sym at.1)

-- The blocks of a program, and the programs of a tape.

-- What holds of all of two lists holds of all of the first.
front_of : {X : Type 0} (P : X → Type 0) (xs ys : List X) → All P (xs ++ ys) → All P xs
front_of P [] ys all = All-nil P
front_of P (x ∷ xs) ys all = All-cons P x xs (All-head P x (xs ++ ys) all) (front_of P xs ys (All-tail P x (xs ++ ys) all))

-- What holds of all of two lists holds of all of the second.
back_of : {X : Type 0} (P : X → Type 0) (xs ys : List X) → All P (xs ++ ys) → All P ys
back_of P [] ys all = all
back_of P (x ∷ xs) ys all = back_of P xs ys (All-tail P x (xs ++ ys) all)

-- If each step of a reading for waits answers what the step of the full reading does, seen by
-- `see`, two steps of it do.
step_widened : {A B C D : Type 0} (read : Result A FlowFault) (own : Result B FlowFault) (go : A → Result C FlowFault) (go' : B → Result D FlowFault)
    (see : A → B) (end : C) (end' : D) → ((x : A) → read ≡ Ok x → own ≡ Ok (see x)) → ((x : A) → go x ≡ Ok end → go' (see x) ≡ Ok end')
    → read >>= go ≡ Ok end → own >>= go' ≡ Ok end'
step_widened (Ok x) own go go' see end end' first rest e = rw (first x refl) (rest x e)
step_widened (Err fault) own go go' see end end' first rest e = absurd cc

-- Plain blocks that read in full read for their waits, with the same controls.
blocks_widened : BlockLaw → (dialect : Dialect) (tape : List Program) (blocks : List Block) (done forms : List BlockForm)
    → All (IsPlainBlock dialect) blocks → AreClean blocks → full.blocks_from dialect done blocks ≡ Ok forms
    → blocks_from (basis_of dialect tape) (map control_block done) blocks ≡ Ok (map control_block forms)
blocks_widened law dialect tape [] done forms plain clean e = let same : done ≡ forms = cc in ap (λ fs. Ok (map control_block fs)) same
blocks_widened law dialect tape (block ∷ blocks) done forms plain clean e =
    step_widened (full.block_read dialect block) (block_read (basis_of dialect tape) block)
    (λ form. full.blocks_from dialect (done ++ form ∷ []) blocks)
    (λ own. blocks_from (basis_of dialect tape) (map control_block done ++ own ∷ []) blocks)
    control_block forms (map control_block forms)
    (λ form reads. block_widened law dialect tape block form (All-head (IsPlainBlock dialect) block blocks plain) clean.0 reads)
    (λ form rest.
    subst (λ own. blocks_from (basis_of dialect tape) own blocks ≡ Ok (map control_block forms)) (map-append control_block done (form ∷ []))
    (blocks_widened law dialect tape blocks (done ++ form ∷ []) forms (All-tail (IsPlainBlock dialect) block blocks plain) clean.1 rest))
    e

-- A program of plain blocks that reads in full reads for its waits, with the same controls.
program_widened : BlockLaw → (dialect : Dialect) (tape : List Program) (program : Program) (form : ProgramForm)
    → All (IsPlainBlock dialect) program.blocks → AreClean program.blocks → full.program_read dialect program ≡ Ok form
    → program_read (basis_of dialect tape) program ≡ Ok (control_program form)
program_widened law dialect tape program form plain clean e =
    go (full.blocks_from dialect [] program.blocks) refl e
  where
    go : (read : Result (List BlockForm) FlowFault) → full.blocks_from dialect [] program.blocks ≡ read
        → (read >>= (λ blocks. Ok (record { number = program.number; line = program.line; blocks = blocks }))) ≡ Ok form
        → program_read (basis_of dialect tape) program ≡ Ok (control_program form)
    go (Err fault) is f = absurd cc
    go (Ok forms) is f =
        let same : record { number = program.number; line = program.line; blocks = forms } ≡ form = cc in
        let own = blocks_widened law dialect tape program.blocks [] forms plain clean is in
        ap (λ read. read >>= (λ blocks. Ok (record { number = program.number; line = program.line; blocks = blocks }))) own
        ∙ ap (λ p. Ok (control_program p)) same

-- Programs of a tape, of plain blocks, that read in full read for their waits, with the same
-- controls.
programs_widened : BlockLaw → (dialect : Dialect) (tape rest : List Program) (done forms : List ProgramForm)
    → All (IsPlainBlock dialect) (blocks_in rest) → IsCleanTape rest → full.programs_from dialect done rest ≡ Ok forms
    → programs_from (basis_of dialect tape) (controls done) rest ≡ Ok (controls forms)
programs_widened law dialect tape [] done forms plain clean e = let same : done ≡ forms = cc in ap (λ fs. Ok (controls fs)) same
programs_widened law dialect tape (program ∷ rest) done forms plain clean e =
    step_widened (full.program_read dialect program) (program_read (basis_of dialect tape) program)
    (λ form. full.programs_from dialect (done ++ form ∷ []) rest)
    (λ own. programs_from (basis_of dialect tape) (controls done ++ own ∷ []) rest)
    control_program forms (controls forms)
    (λ form reads. program_widened law dialect tape program form (front_of (IsPlainBlock dialect) program.blocks (blocks_in rest) plain) clean.0 reads)
    (λ form later.
    subst (λ own. programs_from (basis_of dialect tape) own rest ≡ Ok (controls forms)) (map-append control_program done (form ∷ []))
    (programs_widened law dialect tape rest (done ++ form ∷ []) forms
    (back_of (IsPlainBlock dialect) program.blocks (blocks_in rest) plain) clean.1 later))
    e

-- The contours: a block that reads in full has none.

-- If a computed code does not pass a test, a G word has a code that passes exactly if one of the
-- codes that are written out passes.
any_of_g : (is_it : Option ℤ → Bool) → is_it None ≡ false → (words : List Word)
    → has_code is_it words ≡ list_any (λ z. is_it (Some z)) (filter_map written_micro (words_of (codes "G") words))
any_of_g is_it none [] = refl
any_of_g is_it none (word ∷ words) = go (is_one_of (codes "G") word.letter) (written_micro word) refl (any_of_g is_it none words)
  where
    go : (own : Bool) (micro : Option ℤ) → written_micro word ≡ micro
        → has_code is_it words ≡ list_any (λ z. is_it (Some z)) (filter_map written_micro (words_of (codes "G") words))
        → ((own && is_it micro) || has_code is_it words)
        ≡ list_any (λ z. is_it (Some z)) (filter_map written_micro (cond own (word ∷ words_of (codes "G") words) (words_of (codes "G") words)))
    go false micro is rest = rest
    go true None is rest = rw (is, none) rest
    go true (Some z) is rest = rw is (ap (λ b. is_it (Some z) || b) rest)

-- In a block that is accepted each G code is written out.
g_plain : (dialect : Dialect) (words : List FlowWord) → closed.is_not_fixed dialect words ≡ false
    → read.has_computed (codes "G") words ≡ false
g_plain dialect words fixed = go (purpose_of dialect words) fixed
  where
    go : (p : Purpose) → read.has_computed (asked.fixed_letters p) words ≡ false → read.has_computed (codes "G") words ≡ false
    go purpose.MacroCall e = fewer_computed (codes "G") (codes "GNOPL") (one_among 71 (codes "GNOPL") refl) words e
    go purpose.Subprogram e = fewer_computed (codes "G") (codes "GNOMPL") (one_among 71 (codes "GNOMPL") refl) words e
    go purpose.Return e = fewer_computed (codes "G") (codes "GNOMPL") (one_among 71 (codes "GNOMPL") refl) words e
    go purpose.Setting e = fewer_computed (codes "G") (codes "GNOML") (one_among 71 (codes "GNOML") refl) words e
    go purpose.Wait e = fewer_computed (codes "G") (codes "GNOM") (one_among 71 (codes "GNOM") refl) words e
    go purpose.Dwell e = fewer_computed (codes "G") (codes "GNOM") (one_among 71 (codes "GNOM") refl) words e
    go purpose.Other e = fewer_computed (codes "G") (codes "GNOM") (one_among 71 (codes "GNOM") refl) words e

-- Outside a macro call every G code is one of the system's table.
known_codes : (system : System) (words : List FlowWord) (b : Bool) → gives system is_macro_call words ≡ b → b ≡ false
    → closed.is_unknown system words ≡ false → list_any (closed.is_unknown_code system) (read.words_of (codes "G") words) ≡ false
known_codes system words true is no_macro known = absurd cc
known_codes system words false is no_macro known =
    (neither _ _ (neither _ _ (rw is at known)).0).0

-- A block that is accepted, and is no macro call, has no code of a cycle with a contour.
no_cycle : (dialect : Dialect) (texts : List Word) (words : List FlowWord) → AreSaid texts words → IsAccepted dialect words
    → is_macro texts ≡ false → has_code is_cycle_code texts ≡ false
no_cycle dialect texts words are given no_macro =
    let kind : gives dialect.system is_macro_call words ≡ false =
    sym (same_kind dialect.system is_macro_call 65 (macro_is dialect.system) _ _ (same_words_of (codes "G") texts words are)) ∙ no_macro in
    any_of_g is_cycle_code refl texts
    ∙ no_such_g dialect.system (λ z. is_cycle_code (Some z))
    (in_each (λ (row : Row). not (is_cycle_code (Some (pos (row.code * 1000000))))) refl refl dialect.system) _ _
    (same_words_of (codes "G") texts words are)
    (known_codes dialect.system words (gives dialect.system is_macro_call words) refl kind given.known) (g_plain dialect words given.fixed)

-- Words of a block that is accepted for a run name no contour.
no_contour_words : (dialect : Dialect) (texts : List Word) (words : List FlowWord) → AreSaid texts words → IsAccepted dialect words
    → contour_in (Words texts) ≡ None
no_contour_words dialect texts words are given = go (is_macro texts) refl
  where
    macro_is_code : has_code is_macro_code texts ≡ is_macro texts
    macro_is_code = any_of_g is_macro_code refl texts

    go : (b : Bool) → is_macro texts ≡ b → contour_in (Words texts) ≡ None
    go true is = rw (macro_is_code, is) refl
    go false is = rw (macro_is_code, is, no_cycle dialect texts words are given is) refl

-- A body that has a form in full names no contour.
no_contour_form : (dialect : Dialect) (body : Body) (own : Form) → form_or_refusal dialect body ≡ Ok own → contour_in body ≡ None
no_contour_form dialect (Statement text) own reads = refl
no_contour_form dialect (Words texts) own reads = go (words_or_refusal dialect texts) refl reads
  where
    go : (r : Result (List FlowWord) ℕ) → words_or_refusal dialect texts ≡ r → form_of_words dialect r ≡ Ok own → contour_in (Words texts) ≡ None
    go (Err number) is e = absurd cc
    go (Ok words) is e =
        let told = judged_words dialect texts words is in
        no_contour_words dialect texts words (are_said texts words told.0) (accepted dialect words told.1)

-- A block that has a form in full names no contour.
no_contour_block : (dialect : Dialect) (block : Block) (r : Result Form ℕ) (form : BlockForm) → form_or_refusal dialect block.body ≡ r
    → block_at block r ≡ Ok form → contour_in block.body ≡ None
no_contour_block dialect block (Err number) form is e = absurd cc
no_contour_block dialect block (Ok own) form is e = no_contour_form dialect block.body own is

-- A block that reads in full names no contour.
no_contour : (dialect : Dialect) (block : Block) (form : BlockForm) → full.block_read dialect block ≡ Ok form → contour_in block.body ≡ None
no_contour dialect block form reads = go (block_or_refusal dialect block) refl reads
  where
    go : (r : Result BlockForm ℕ) → block_or_refusal dialect block ≡ r → full.at_line block.line r ≡ Ok form → contour_in block.body ≡ None
    go (Err number) is e = absurd cc
    go (Ok own) is e = no_contour_block dialect block (form_or_refusal dialect block.body) own refl is

-- The block names no contour.
abbrev HasNone : Block → Type 0
HasNone block = contour_in block.body ≡ None

-- No block of a program that reads in full names a contour.
none_in_blocks : (dialect : Dialect) (blocks : List Block) (done forms : List BlockForm) → full.blocks_from dialect done blocks ≡ Ok forms
    → All HasNone blocks
none_in_blocks dialect [] done forms e = All-nil HasNone
none_in_blocks dialect (block ∷ blocks) done forms e =
    go (full.block_read dialect block) refl e (λ form f. none_in_blocks dialect blocks (done ++ form ∷ []) forms f)
  where
    go : (r : Result BlockForm FlowFault) → full.block_read dialect block ≡ r
        → (r >>= (λ form. full.blocks_from dialect (done ++ form ∷ []) blocks)) ≡ Ok forms
        → ((form : BlockForm) → full.blocks_from dialect (done ++ form ∷ []) blocks ≡ Ok forms → All HasNone blocks)
        → All HasNone (block ∷ blocks)
    go (Err fault) is f later = absurd cc
    go (Ok form) is f later = All-cons HasNone block blocks (no_contour dialect block form is) (later form f)

-- Blocks without contours have no fault of contours.
none_of_blocks : (is_loud : ℕ → Bool) (bs : List ControlBlock) (blocks : List Block) → All HasNone blocks
    → blocks_fault is_loud bs blocks ≡ None
none_of_blocks is_loud bs [] none = refl
none_of_blocks is_loud bs (block ∷ blocks) none =
    rw (All-head HasNone block blocks none) (none_of_blocks is_loud bs blocks (All-tail HasNone block blocks none))

-- A tape that reads in full has no fault of contours.
no_contours : (dialect : Dialect) (order : List ControlProgram) (tape : List Program) (done forms : List ProgramForm)
    → full.programs_from dialect done tape ≡ Ok forms → contour_fault order tape ≡ None
no_contours dialect order [] done forms e = refl
no_contours dialect order (program ∷ rest) done forms e =
    go (full.blocks_from dialect [] program.blocks) refl e (λ form f. no_contours dialect order rest (done ++ form ∷ []) forms f)
  where
    go : (r : Result (List BlockForm) FlowFault) → full.blocks_from dialect [] program.blocks ≡ r
        → ((r >>= (λ blocks. Ok (record { number = program.number; line = program.line; blocks = blocks })))
        >>= (λ form. full.programs_from dialect (done ++ form ∷ []) rest)) ≡ Ok forms
        → ((form : ProgramForm) → full.programs_from dialect (done ++ form ∷ []) rest ≡ Ok forms → contour_fault order rest ≡ None)
        → contour_fault order (program ∷ rest) ≡ None
    go (Err fault) is f later = absurd cc
    go (Ok blocks) is f later =
        rw (none_of_blocks (loud order) (order_blocks order program.number) program.blocks (none_in_blocks dialect program.blocks [] blocks is))
        (later (record { number = program.number; line = program.line; blocks = blocks }) f)

-- The tape of a path, and a pair.

-- With no free switch on, the switches of a path are those of its settings.
same_switches : (on off : ℕ) → switches_at 0 on off ≡ on
same_switches on off = ap (bit_or on) (and_comm 0 (65535 - off) ∙ and_zero_r (65535 - off)) ∙ or_zero_r on

-- A plain text whose tape is accepted for a run has, for its waits, an order with the same
-- controls.
ordered_too : BlockLaw → CleanLaw → (cell : Cell) (path : Path) (text : List ℕ) (forms : List ProgramForm)
    → IsPlainText (dialect_in cell) (skips_of path cell) text → (flow : IsFlowOf cell path text forms)
    → IsOrderOf (record { dialect = dialect_in cell; outside = None }) (skips_of path cell) text flow.tape (controls forms)
ordered_too law clean cell path text forms plain flow =
    let read : programs_read (record { dialect = dialect_in cell; outside = None }) flow.tape ≡ Ok (controls forms) =
    programs_widened law (dialect_in cell) flow.tape flow.tape [] forms (plain.plain flow.tape flow.reads)
    (clean (skips_of path cell) text flow.tape flow.reads) flow.accepted.reads in
    record {
      reads = ap (λ t. tape_of (skips_of path cell) t) plain.opened ∙ flow.reads;
      ordered = record {
        reads = read;
        sound = flow.accepted.sound;
        late =
            ap (λ found. or_later found (contour_fault (controls forms) flow.tape)) (plain.single flow.tape (controls forms) flow.reads read)
            ∙ no_contours (dialect_in cell) (controls forms) flow.tape [] forms flow.accepted.reads;
      };
    }

-- A pair that a run accepts, as it is judged for its waits with no free switch on.
abbrev first_of : (texts : Texts) (cell : Cell) (left right : List ProgramForm) → run.AreAccepted texts cell left right → Judged
first_of texts cell left right accepted_run = record {
  cell = cell_at 0 cell;
  left_tape = accepted_run.flows.left_is.tape;
  right_tape = accepted_run.flows.right_is.tape;
  left = controls left;
  right = controls right;
}

-- It is accepted with no free switch on.
accepted_first : BlockLaw → CleanLaw → (texts : Texts) (cell : Cell) (left right : List ProgramForm) → ArePlain texts cell
    → (accepted_run : run.AreAccepted texts cell left right)
    → AreAcceptedAt (question_of texts.left texts.right texts.settings None) (first_of texts cell left right accepted_run)
accepted_first law clean texts cell left right plain accepted_run = record {
  orders = record {
    settings_are = ap (cell_or_line 0) accepted_run.flows.settings_are;
    left_is =
        subst (λ n. IsOrderOf (record { dialect = dialect_in cell; outside = None }) n texts.left accepted_run.flows.left_is.tape (controls left))
        (sym (same_switches (slice_index cell.skips 0) (slice_index cell.unskips 0)))
        (ordered_too law clean cell One texts.left left plain.left accepted_run.flows.left_is);
    right_is =
        subst (λ n. IsOrderOf (record { dialect = dialect_in cell; outside = None }) n texts.right accepted_run.flows.right_is.tape (controls right))
        (sym (same_switches (slice_index cell.skips 1) (slice_index cell.unskips 1)))
        (ordered_too law clean cell Two texts.right right plain.right accepted_run.flows.right_is);
  };
  pair = accepted_run.pair;
}

-- A pair of plain texts that is accepted for a run is accepted for its waits with no free switch on,
-- with the same lists of labels, and whole if no switch is free.
pub widened : BlockLaw → CleanLaw → (texts : Texts) (cell : Cell) (left right : List ProgramForm) → ArePlain texts cell
    → run.AreAccepted texts cell left right → IsWidened texts cell left right
widened law clean texts cell left right plain accepted_run =
    let all : Asked = question_of texts.left texts.right texts.settings None in
    record {
      judged = first_of texts cell left right accepted_run;
      left_same = refl;
      right_same = refl;
      accepted = accepted_first law clean texts cell left right plain accepted_run;
      whole = λ none. record {
        cell = cell;
        settings_are = accepted_run.flows.settings_are;
        first = accepted_first law clean texts cell left right plain accepted_run;
        standings = [];
        others = subst (λ free. AreAcceptedTo all free LAST_POSITION []) (sym none) (none_free all LAST_POSITION);
      };
    }
