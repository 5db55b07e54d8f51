-- Three texts have one refusal at most: for the law `texts_have_one_refusal`.
use Rattle.std.proofs.Common.{◌≡◌, ℕ, zero, suc, ◌<◌, ◌⊎◌, inl, inr, List, [], ◌∷◌, take, slice_get, Option, Some, Result, Ok, Err, refl, ap, sym, subst, ◌∙◌, arith}
use Rattle.nc_number.specs.declared.path.Path.{Path}
use Rattle.nc_number.specs.declared.path.Path.TheVariants.{One, Two}
use Rattle.nc_text.specs.declared.fault.TextFault.{TextFault}
use Rattle.nc_text.specs.declared.tape.Program.{Program}
use Rattle.nc_text.specs.Tape.{tape_of}
use Rattle.cell_settings.specs.Cell.{Cell, settings_of}
use Rattle.block_words.specs.declared.dialect.Dialect.{Dialect}
use Rattle.block_order.specs.declared.program.ControlProgram.{ControlProgram}
use Rattle.tape_flow.specs.Controls.{controls}
use Rattle.tape_flow.specs.Exact.{IsRefused}
use Rattle.tape_flow.specs.Forms.{ProgramForm}
use Rattle.flow_laws.specs.Answers.{HasRisingBlocks}
use Rattle.label_list.specs.declared.fault.PairFault.{PairFault}
use Rattle.label_list.specs.declared.labelled.Labelled.{Labelled}
use Rattle.label_list.specs.Faults as labels
use Rattle.label_list.specs.Faults.{IsMismatch}
use Rattle.label_list.specs.Lists.{path_labels}
use Rattle.nc_verify.specs.declared.refusal.Refusal.{Refusal}
use Rattle.nc_verify.specs.Refusals.{at_setting, at_line, mismatch}
use Rattle.nc_verify.specs.Verdict.{Texts, skips_of, dialect_in, IsFlowOf, IsTapeRefusal, AreRefusedSettings, IsPairRefusal, AreFlows, IsRefusalOf}
use Rattle.nc_verify.specs.Verdict.IsTapeRefusal.{reading, flow}
use Rattle.nc_verify.specs.Verdict.IsPairRefusal.{one, two, differ}
use Rattle.nc_verify.specs.Verdict.IsRefusalOf.{settings, left, right, pair}
use Rattle.nc_verify.proofs.NotBoth.{NotBoth, one_cell, one_tape, one_flow, not_both_tape, same_label}

-- the law of flow_laws that a tape has one refusal at most, as these lemmas take it
abbrev pub OneOfTape : Type 0
OneOfTape = (dialect : Dialect) (tape : List Program) (line other_line number other : ℕ) → HasRisingBlocks tape
    → IsRefused dialect tape line number → IsRefused dialect tape other_line other → (line ≡ other_line) × (number ≡ other)

-- the law of flow_laws that the lines of a tape's blocks rise, as these lemmas take it
abbrev pub Rising : Type 0
Rising = (skips : ℕ) (text : List ℕ) (tape : List Program) → tape_of skips text ≡ Ok tape → HasRisingBlocks tape

-- a text of settings has one refusal at most
pub one_of_settings : (text : List ℕ) (a b : Refusal) → AreRefusedSettings text a → AreRefusedSettings text b → a ≡ b
one_of_settings text a b x y =
    let both : ◌≡◌ {A = Result Cell ℕ} (Err x.line) (Err y.line) = sym x.refused ∙ y.refused in
    let same : x.line ≡ y.line = cc in
    x.is ∙ ap at_setting same ∙ sym y.is

-- The tape of a path.

-- a text isn't both read and refused
pub not_both_read : (text : List ℕ) (skips : ℕ) (tape : List Program) (fault : TextFault) → tape_of skips text ≡ Ok tape
    → tape_of skips text ≡ Err fault → ⊥
not_both_read text skips tape fault read refused =
    absurd (let e : ◌≡◌ {A = Result (List Program) TextFault} (Ok tape) (Err fault) = sym read ∙ refused in cc)

-- the text of a path's tape has one refusal at most under the settings of a cell
one_of_tape : Rising → OneOfTape → (cell : Cell) (path : Path) (text : List ℕ) (a b : Refusal) → IsTapeRefusal cell path text a
    → IsTapeRefusal cell path text b → a ≡ b
one_of_tape rising law cell path text a b (reading fault e is) (reading other f own) =
    let both : ◌≡◌ {A = Result (List Program) TextFault} (Err fault) (Err other) = sym e ∙ f in
    let same : fault ≡ other = cc in
    is ∙ ap (λ (x : TextFault). at_line path x.line x.number) same ∙ sym own
one_of_tape rising law cell path text a b (reading fault e is) (flow tape line number read refused own) =
    absurd (not_both_read text (skips_of path cell) tape fault read e)
one_of_tape rising law cell path text a b (flow tape line number read refused is) (reading fault e own) =
    absurd (not_both_read text (skips_of path cell) tape fault read e)
one_of_tape rising law cell path text a b (flow tape line number read refused is) (flow other other_line n other_read other_refused own) =
    let same : tape ≡ other = one_tape tape other (tape_of (skips_of path cell) text) read other_read in
    let here : IsRefused (dialect_in cell) other line number = subst (λ t. IsRefused (dialect_in cell) t line number) same refused in
    let at = law (dialect_in cell) other line other_line number n (rising (skips_of path cell) text other other_read) here other_refused in
    is ∙ ap (λ k. at_line path k number) at.0 ∙ ap (λ k. at_line path other_line k) at.1 ∙ sym own

-- Two lists of labels.

-- an element of the front of a list is that of the whole list at its place
take_get : (xs : List Labelled) (n k : ℕ) → k < n → slice_get (take n xs) k ≡ slice_get xs k
take_get xs zero k less = absurd (omega arith)
take_get [] (suc n) k less = refl
take_get (x ∷ xs) (suc n) zero less = refl
take_get (x ∷ xs) (suc n) (suc k) less = take_get xs n k (omega arith)

-- of two mismatches of the same lists none has fewer equal labels before it
not_before : (l r : List Labelled) (f g : PairFault) → IsMismatch l r f → IsMismatch l r g → f.after < g.after → ⊥
not_before l r f g x y less =
    x.differ (same_label (take g.after l) (take g.after r) f.after x.one x.two y.equal
    (take_get l g.after f.after less ∙ x.is_one) (take_get r g.after f.after less ∙ x.is_two))

-- two numbers are less, greater or equal
before_or_not : (n m : ℕ) → (n < m) ⊎ ((m < n) ⊎ (n ≡ m))
before_or_not n m = grind arith

-- at one place stands one label
one_label : (a b : Labelled) (o : Option Labelled) → o ≡ Some a → o ≡ Some b → a ≡ b
one_label a b o p q = let both : ◌≡◌ {A = Option Labelled} (Some a) (Some b) = sym p ∙ q in cc

-- two lists of labels have one mismatch at most
one_mismatch : (l r : List Labelled) (f g : PairFault) → IsMismatch l r f → IsMismatch l r g → f ≡ g
one_mismatch l r f g x y = elim (before_or_not f.after g.after) [
  | inl less ↦ absurd (not_before l r f g x y less)
  | inr (inl less) ↦ absurd (not_before l r g f y x less)
  | inr (inr same) ↦
      let one' : x.one ≡ y.one =
      one_label x.one y.one (slice_get l g.after) (subst (λ k. slice_get l k ≡ Some x.one) same x.is_one) y.is_one in
      let two' : x.two ≡ y.two =
      one_label x.two y.two (slice_get r g.after) (subst (λ k. slice_get r k ≡ Some x.two) same x.is_two) y.is_two in
      x.is ∙ ap (λ k. labels.mismatch k x.one.line x.two.line) same ∙ ap (λ (z : Labelled). labels.mismatch g.after z.line x.two.line) one'
      ∙ ap (λ (z : Labelled). labels.mismatch g.after y.one.line z.line) two' ∙ sym y.is
]

-- two flows have one refusal as a pair at most
pub one_of_pair : (l r : List ControlProgram) (a b : Refusal) → IsPairRefusal l r a → IsPairRefusal l r b → a ≡ b
one_of_pair l r a b (one x) (one y) = x.is ∙ sym y.is
one_of_pair l r a b (one x) (two few y) = absurd (omega (arith, x.long, few))
one_of_pair l r a b (one x) (differ few other fault m is) = absurd (omega (arith, x.long, few))
one_of_pair l r a b (two few x) (one y) = absurd (omega (arith, y.long, few))
one_of_pair l r a b (two few x) (two other y) = x.is ∙ sym y.is
one_of_pair l r a b (two few x) (differ one_few other fault m is) = absurd (omega (arith, x.long, other))
one_of_pair l r a b (differ few other fault m is) (one y) = absurd (omega (arith, y.long, few))
one_of_pair l r a b (differ few other fault m is) (two one_few y) = absurd (omega (arith, y.long, other))
one_of_pair l r a b (differ few other fault m is) (differ few' other' fault' m' is') =
    is ∙ ap mismatch (one_mismatch (path_labels l) (path_labels r) fault fault' m m') ∙ sym is'

-- Three texts.

-- settings aren't both allowed and refused
pub not_both_settings : (text : List ℕ) (cell : Cell) (a : Refusal) → AreRefusedSettings text a → settings_of text ≡ Ok cell → ⊥
not_both_settings text cell a x read =
    absurd (let e : ◌≡◌ {A = Result Cell ℕ} (Ok cell) (Err x.line) = sym read ∙ x.refused in cc)

-- under the settings of one text no path's tape has both a flow and a refusal
not_both_path : NotBoth → (texts : Texts) (path : Path) (text : List ℕ) (cell other : Cell) (programs : List ProgramForm) (refusal : Refusal)
    → settings_of texts.settings ≡ Ok cell → settings_of texts.settings ≡ Ok other → IsFlowOf cell path text programs
    → IsTapeRefusal other path text refusal → ⊥
not_both_path law texts path text cell other programs refusal read again flows refused =
    let same : cell ≡ other = one_cell cell other (settings_of texts.settings) read again in
    not_both_tape law other path text programs refusal (subst (λ c. IsFlowOf c path text programs) same flows) refused

-- under the settings of one text a path's tape has one refusal at most
one_of_path : Rising → OneOfTape → (texts : Texts) (path : Path) (text : List ℕ) (cell other : Cell) (a b : Refusal)
    → settings_of texts.settings ≡ Ok cell → settings_of texts.settings ≡ Ok other → IsTapeRefusal cell path text a
    → IsTapeRefusal other path text b → a ≡ b
one_of_path rising law texts path text cell other a b read again x y =
    let same : cell ≡ other = one_cell cell other (settings_of texts.settings) read again in
    one_of_tape rising law other path text a b (subst (λ c. IsTapeRefusal c path text a) same x) y

-- the flows of three texts have one refusal as a pair at most
one_of_flows : (texts : Texts) (cell other : Cell) (l r l' r' : List ProgramForm) (a b : Refusal) → AreFlows texts cell l r
    → AreFlows texts other l' r' → IsPairRefusal (controls l) (controls r) a → IsPairRefusal (controls l') (controls r') b → a ≡ b
one_of_flows texts cell other l r l' r' a b flows others x y =
    let same : cell ≡ other = one_cell cell other (settings_of texts.settings) flows.settings_are others.settings_are in
    let ll : l ≡ l' = one_flow other One texts.left l l' (subst (λ c. IsFlowOf c One texts.left l) same flows.left_is) others.left_is in
    let rr : r ≡ r' = one_flow other Two texts.right r r' (subst (λ c. IsFlowOf c Two texts.right r) same flows.right_is) others.right_is in
    one_of_pair (controls l') (controls r') a b
    (subst (λ z. IsPairRefusal (controls l') (controls z) a) rr (subst (λ z. IsPairRefusal (controls z) (controls r) a) ll x)) y

-- three texts have one refusal at most, by the laws `NotBoth`, `Rising` and `OneOfTape`
pub one_refusal : NotBoth → Rising → OneOfTape → (texts : Texts) (a b : Refusal) → IsRefusalOf texts a → IsRefusalOf texts b → a ≡ b
one_refusal apart rising law texts a b (settings x) (settings y) = one_of_settings texts.settings a b x y
one_refusal apart rising law texts a b (settings x) (left cell read y) = absurd (not_both_settings texts.settings cell a x read)
one_refusal apart rising law texts a b (settings x) (right cell programs read first y) = absurd (not_both_settings texts.settings cell a x read)
one_refusal apart rising law texts a b (settings x) (pair cell l r flows y) =
    absurd (not_both_settings texts.settings cell a x flows.settings_are)
one_refusal apart rising law texts a b (left cell read x) (settings y) = absurd (not_both_settings texts.settings cell b y read)
one_refusal apart rising law texts a b (left cell read x) (left other again y) =
    one_of_path rising law texts One texts.left cell other a b read again x y
one_refusal apart rising law texts a b (left cell read x) (right other programs again first y) =
    absurd (not_both_path apart texts One texts.left other cell programs a again read first x)
one_refusal apart rising law texts a b (left cell read x) (pair other l r flows y) =
    absurd (not_both_path apart texts One texts.left other cell l a flows.settings_are read flows.left_is x)
one_refusal apart rising law texts a b (right cell programs read first x) (settings y) =
    absurd (not_both_settings texts.settings cell b y read)
one_refusal apart rising law texts a b (right cell programs read first x) (left other again y) =
    absurd (not_both_path apart texts One texts.left cell other programs b read again first y)
one_refusal apart rising law texts a b (right cell programs read first x) (right other others again second y) =
    one_of_path rising law texts Two texts.right cell other a b read again x y
one_refusal apart rising law texts a b (right cell programs read first x) (pair other l r flows y) =
    absurd (not_both_path apart texts Two texts.right other cell r a flows.settings_are read flows.right_is x)
one_refusal apart rising law texts a b (pair cell l r flows x) (settings y) =
    absurd (not_both_settings texts.settings cell b y flows.settings_are)
one_refusal apart rising law texts a b (pair cell l r flows x) (left other again y) =
    absurd (not_both_path apart texts One texts.left cell other l b flows.settings_are again flows.left_is y)
one_refusal apart rising law texts a b (pair cell l r flows x) (right other programs again first y) =
    absurd (not_both_path apart texts Two texts.right cell other r b flows.settings_are again flows.right_is y)
one_refusal apart rising law texts a b (pair cell l r flows x) (pair other l' r' others y) =
    one_of_flows texts cell other l r l' r' a b flows others x y
