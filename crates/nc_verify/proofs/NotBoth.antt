-- No three texts are both accepted and refused: for the law `accepted_texts_are_not_refused`.
use Rattle.std.proofs.Common.{◌≡◌, ℕ, zero, suc, ◌↔◌, List, [], ◌∷◌, slice_get, Result, Ok, Err, Some, sym, subst, ap, ◌∙◌, arith}
use Rattle.nc_number.specs.declared.path.Path.{Path}
use Rattle.nc_number.specs.declared.path.Path.TheVariants.{One, Two}
use Rattle.nc_text.specs.declared.fault.TextFault.{TextFault}
use Rattle.nc_text.specs.declared.tape.Program.{Program}
use Rattle.nc_text.specs.Tape.{tape_of}
use Rattle.cell_settings.specs.Cell.{Cell, settings_of}
use Rattle.block_words.specs.declared.dialect.Dialect.{Dialect}
use Rattle.block_order.specs.declared.program.ControlProgram.{ControlProgram}
use Rattle.block_order.specs.Labels.{IsUnforked}
use Rattle.tape_flow.specs.declared.fault.FlowFault.{FlowFault}
use Rattle.tape_flow.specs.Controls.{controls}
use Rattle.tape_flow.specs.Exact.{IsAccepted, IsRefused}
use Rattle.tape_flow.specs.Forms.{ProgramForm, programs_read}
use Rattle.label_list.specs.declared.labelled.Labelled.{Labelled}
use Rattle.label_list.specs.Accepted.{AgreeOnLabels, IsAcceptedPair}
use Rattle.label_list.specs.Lists.{bare_labels, path_labels}
use Rattle.nc_verify.specs.declared.refusal.Refusal.{Refusal}
use Rattle.nc_verify.specs.Verdict.{Texts, skips_of, dialect_in, IsFlowOf, IsTapeRefusal, AreAccepted, IsPairRefusal, IsRefusalOf}
use Rattle.nc_verify.specs.Verdict.IsTapeRefusal.{reading, flow}
use Rattle.nc_verify.specs.Verdict.IsPairRefusal.{one, two, differ}
use Rattle.nc_verify.specs.Verdict.IsRefusalOf.{settings, left, right, pair}

-- the law of tape_flow, as these lemmas take it: no tape has both a flow and a refusal
abbrev pub NotBoth : Type 0
NotBoth = (dialect : Dialect) (tape : List Program) (programs : List ProgramForm) (line number : ℕ)
    → IsAccepted dialect tape programs → IsRefused dialect tape line number → ⊥

-- one text of settings gives one cell
pub one_cell : (a b : Cell) (r : Result Cell ℕ) → r ≡ Ok a → r ≡ Ok b → a ≡ b
one_cell a b r p q = let e : ◌≡◌ {A = Result Cell ℕ} (Ok a) (Ok b) = sym p ∙ q in cc

-- one text gives one tape
pub one_tape : (a b : List Program) (r : Result (List Program) TextFault) → r ≡ Ok a → r ≡ Ok b → a ≡ b
one_tape a b r p q = let e : ◌≡◌ {A = Result (List Program) TextFault} (Ok a) (Ok b) = sym p ∙ q in cc

-- one reading of a tape gives one list of programs
one_programs : (a b : List ProgramForm) (r : Result (List ProgramForm) FlowFault) → r ≡ Ok a → r ≡ Ok b → a ≡ b
one_programs a b r p q = let e : ◌≡◌ {A = Result (List ProgramForm) FlowFault} (Ok a) (Ok b) = sym p ∙ q in cc

-- the text of a path has one flow under the settings of a cell
pub one_flow : (cell : Cell) (path : Path) (text : List ℕ) (a b : List ProgramForm) → IsFlowOf cell path text a → IsFlowOf cell path text b → a ≡ b
one_flow cell path text a b x y =
    let same : x.tape ≡ y.tape = one_tape x.tape y.tape (tape_of (skips_of path cell) text) x.reads y.reads in
    one_programs a b (programs_read (dialect_in cell) y.tape)
    (subst (λ t. programs_read (dialect_in cell) t ≡ Ok a) same x.accepted.reads) y.accepted.reads

-- the text of a path does not both have a flow and a refusal
pub not_both_tape : NotBoth → (cell : Cell) (path : Path) (text : List ℕ) (programs : List ProgramForm) (refusal : Refusal)
    → IsFlowOf cell path text programs → IsTapeRefusal cell path text refusal → ⊥
not_both_tape law cell path text programs refusal x (reading fault refused is) =
    absurd (let e : ◌≡◌ {A = Result (List Program) TextFault} (Ok x.tape) (Err fault) = sym x.reads ∙ refused in cc)
not_both_tape law cell path text programs refusal x (flow tape line number reads refused is) =
    let same : x.tape ≡ tape = one_tape x.tape tape (tape_of (skips_of path cell) text) x.reads reads in
    law (dialect_in cell) tape programs line number (subst (λ t. IsAccepted (dialect_in cell) t programs) same x.accepted) refused

-- lists of labels that agree but for their lines have the same label at each place
pub same_label : (xs ys : List Labelled) (n : ℕ) (a b : Labelled) → bare_labels xs ≡ bare_labels ys → slice_get xs n ≡ Some a → slice_get ys n ≡ Some b
    → a.label ≡ b.label
same_label [] ys n a b e p q = absurd cc
same_label (x ∷ xs) [] n a b e p q = absurd cc
same_label (x ∷ xs) (y ∷ ys) zero a b e p q =
    let heads : x.label ≡ y.label = cc in
    let one' : x ≡ a = cc in
    let two' : y ≡ b = cc in
    sym (ap (λ (z : Labelled). z.label) one') ∙ (heads ∙ ap (λ (z : Labelled). z.label) two')
same_label (x ∷ xs) (y ∷ ys) (suc n) a b e p q = same_label xs ys n a b (let t : bare_labels xs ≡ bare_labels ys = cc in t) p q

-- two flows are not both an accepted pair and refused as a pair
pub not_both_pair : (l r : List ControlProgram) (refusal : Refusal) → AgreeOnLabels l r → IsPairRefusal l r refusal → ⊥
not_both_pair l r refusal agree (one long) = omega (arith, long.long, agree.left_few)
not_both_pair l r refusal agree (two few long) = omega (arith, long.long, agree.right_few)
not_both_pair l r refusal agree (differ few_l few_r fault m is) =
    m.differ (same_label (path_labels l) (path_labels r) fault.after m.one m.two agree.same m.is_one m.is_two)

-- no three texts are both accepted and refused, by the law of tape_flow and that of label_list that
-- a pair is accepted exactly by its lists
pub not_both : NotBoth → ((l r : List ControlProgram) → IsUnforked l → IsUnforked r → IsAcceptedPair l r ↔ AgreeOnLabels l r)
    → (texts : Texts) (cell : Cell) (l r : List ProgramForm) (refusal : Refusal)
    → AreAccepted texts cell l r → IsRefusalOf texts refusal → ⊥
not_both law lists texts cell l r refusal ok (settings s) =
    absurd (let e : ◌≡◌ {A = Result Cell ℕ} (Ok cell) (Err s.line) = sym ok.flows.settings_are ∙ s.refused in cc)
not_both law lists texts cell l r refusal ok (left other read refused) =
    let same : cell ≡ other = one_cell cell other (settings_of texts.settings) ok.flows.settings_are read in
    not_both_tape law other One texts.left l refusal (subst (λ c. IsFlowOf c One texts.left l) same ok.flows.left_is) refused
not_both law lists texts cell l r refusal ok (right other programs read first refused) =
    let same : cell ≡ other = one_cell cell other (settings_of texts.settings) ok.flows.settings_are read in
    not_both_tape law other Two texts.right r refusal (subst (λ c. IsFlowOf c Two texts.right r) same ok.flows.right_is) refused
not_both law lists texts cell l r refusal ok (pair other a b flows refused) =
    let same : cell ≡ other = one_cell cell other (settings_of texts.settings) ok.flows.settings_are flows.settings_are in
    let la : a ≡ l = one_flow other One texts.left a l flows.left_is (subst (λ c. IsFlowOf c One texts.left l) same ok.flows.left_is) in
    let rb : b ≡ r = one_flow other Two texts.right b r flows.right_is (subst (λ c. IsFlowOf c Two texts.right r) same ok.flows.right_is) in
    not_both_pair (controls l) (controls r) refusal
    ((lists (controls l) (controls r) ok.pair.left_unforked ok.pair.right_unforked).0 ok.pair)
    (subst (λ x. IsPairRefusal (controls l) (controls x) refusal) rb
    (subst (λ x. IsPairRefusal (controls x) (controls b) refusal) la refused))
