-- No three texts are neither accepted nor refused: for the law `no_texts_are_without_an_answer`.
-- `CantBothFail` says that it can't be that neither of the two holds.
use Rattle.std.proofs.Common.{◌≡◌, ◌≢◌, ℕ, suc, ◌<◌, ◌≤◌, ◌⊎◌, inl, inr, ◌↔◌, List, [], ◌∷◌, length, take, slice_get, Some, Result, Ok, Err, refl, ap, sym, ◌∙◌, arith}
use Rattle.nc_number.specs.declared.path.Path.{Path}
use Rattle.nc_number.specs.declared.path.Path.TheVariants.{One, Two}
use Rattle.nc_number.specs.declared.limits.TheConstants.{MOST_LABELS}
use Rattle.nc_text.specs.declared.fault.TextFault.{TextFault}
use Rattle.nc_text.specs.declared.tape.Program.{Program}
use Rattle.nc_text.specs.Tape.{tape_of}
use Rattle.cell_settings.specs.Cell.{Cell, settings_of}
use Rattle.block_words.specs.declared.dialect.Dialect.{Dialect}
use Rattle.block_order.specs.declared.label.Label.{Label}
use Rattle.block_order.specs.declared.label.Label.TheVariants as label
use Rattle.block_order.specs.declared.program.ControlProgram.{ControlProgram}
use Rattle.block_order.specs.Faults.{IsClear, Waiting}
use Rattle.block_order.specs.Labels.{IsUnforked}
use Rattle.tape_flow.specs.Controls.{controls}
use Rattle.tape_flow.specs.Exact.{IsAccepted, IsRefused}
use Rattle.tape_flow.specs.Forms.{ProgramForm}
use Rattle.flow_laws.specs.Answers.{CantBothFail}
use Rattle.label_list.specs.declared.labelled.Labelled.{Labelled}
use Rattle.label_list.specs.Accepted.{AgreeOnLabels, IsAcceptedPair}
use Rattle.label_list.specs.Faults as labels
use Rattle.label_list.specs.Faults.{IsMismatch}
use Rattle.label_list.specs.Lists.{path_labels, bare_labels, ended_by, IsEnded}
use Rattle.label_list.proofs.Ended.{path_ended}
use Rattle.nc_verify.specs.declared.refusal.Refusal.{Refusal}
use Rattle.nc_verify.specs.Refusals.{at_setting, at_line, too_long, mismatch}
use Rattle.nc_verify.specs.Verdict.{Texts, skips_of, dialect_in, IsFlowOf, IsTapeRefusal, IsPairRefusal, AreAccepted, IsRefusalOf}
use Rattle.nc_verify.specs.Verdict.IsTapeRefusal.{reading, flow}
use Rattle.nc_verify.specs.Verdict.IsPairRefusal.{one, two, differ}
use Rattle.nc_verify.specs.Verdict.IsRefusalOf.{settings, left, right, pair}

-- the law of flow_laws that a tape is accepted or refused, as these lemmas take it
abbrev pub SomeOfTape : Type 0
SomeOfTape = (dialect : Dialect) (tape : List Program) → CantBothFail ((programs : List ProgramForm) × IsAccepted dialect tape programs)
    ((line : ℕ) × (number : ℕ) × IsRefused dialect tape line number)

-- the law of block_order that a tape in which nothing is wrong with its waits has one list of
-- labels, as these lemmas take it
abbrev pub OneList : Type 0
OneList = (tape : List ControlProgram) → IsClear tape Waiting → IsUnforked tape

-- the law of label_list that a pair is accepted exactly by its lists, as these lemmas take it
abbrev pub ByLists : Type 0
ByLists = (l r : List ControlProgram) → IsUnforked l → IsUnforked r → IsAcceptedPair l r ↔ AgreeOnLabels l r

-- Two lists of labels that end differ at some label, or nowhere.

-- the labels differ after so many equal ones
record DifferAt (l r : List Labelled) (after : ℕ) : Type 0 where
  -- the label of path 1 there
  one' : Labelled
  -- the label of path 2 there
  two' : Labelled
  equal : bare_labels (take after l) ≡ bare_labels (take after r)
  is_one : slice_get l after ≡ Some one'
  is_two : slice_get r after ≡ Some two'
  differs : one'.label ≢ two'.label

-- with an equal label in front of each, two lists differ one place later
one_behind : (x y : Labelled) (xs ys : List Labelled) (after : ℕ) → x.label ≡ y.label → DifferAt xs ys after → DifferAt (x ∷ xs) (y ∷ ys) (suc after)
one_behind x y xs ys after same d = record {
  one' = d.one';
  two' = d.two';
  equal = (λ i. same i ∷ d.equal i);
  is_one = d.is_one;
  is_two = d.is_two;
  differs = d.differs;
}

-- behind a label of this kind that both lists have, both end, or both go on
both_behind : (kind : Label) (xs ys : List Labelled) → ended_by kind xs (IsEnded xs) → ended_by kind ys (IsEnded ys)
    → (bare_labels xs ≡ bare_labels ys) ⊎ (IsEnded xs × IsEnded ys)
both_behind (label.Wait code) xs ys ex ey = inr (ex, ey)
both_behind label.End xs ys ex ey = inl (ap bare_labels ex ∙ sym (ap bare_labels ey))
both_behind label.Again xs ys ex ey = inl (ap bare_labels ex ∙ sym (ap bare_labels ey))
both_behind label.Off xs ys ex ey = inl (ap bare_labels ex ∙ sym (ap bare_labels ey))

-- two lists of labels that end are the same, or differ somewhere
same_or_differ : (l r : List Labelled) → IsEnded l → IsEnded r → CantBothFail (bare_labels l ≡ bare_labels r) ((after : ℕ) × DifferAt l r after)
same_or_differ [] r el er unequal none = el
same_or_differ (x ∷ xs) [] el er unequal none = er
same_or_differ (x ∷ xs) (y ∷ ys) el er unequal none =
    none (
      0,
      record {
        one' = x;
        two' = y;
        equal = refl;
        is_one = refl;
        is_two = refl;
        differs = λ same. go same (both_behind y.label xs ys (subst_label same) er) (same_or_differ xs ys);
      },
    )
  where
    subst_label : x.label ≡ y.label → ended_by y.label xs (IsEnded xs)
    subst_label same = rw (← same) el

    go : x.label ≡ y.label → (bare_labels xs ≡ bare_labels ys) ⊎ (IsEnded xs × IsEnded ys)
        → (IsEnded xs → IsEnded ys → CantBothFail (bare_labels xs ≡ bare_labels ys) ((after : ℕ) × DifferAt xs ys after)) → ⊥
    go same (inl tails) rest = unequal (λ i. same i ∷ tails i)
    go same (inr ends) rest =
        rest ends.0 ends.1 (λ tails. unequal (λ i. same i ∷ tails i))
        (λ d. none (suc d.0, one_behind x y xs ys d.0 same d.1))

-- a place at which two lists of labels differ behind equal ones is their mismatch
mismatch_at : (l r : List Labelled) (after : ℕ) (d : DifferAt l r after)
    → IsMismatch l r (labels.mismatch after d.one'.line d.two'.line)
mismatch_at l r after d = record {
  one = d.one';
  two = d.two';
  equal = d.equal;
  is_one = d.is_one;
  is_two = d.is_two;
  differ = d.differs;
  is = refl;
}

-- a number of labels is few enough or too many
few_or_many : (n : ℕ) → (n ≤ MOST_LABELS) ⊎ (MOST_LABELS < n)
few_or_many n = grind arith

-- two flows, each with one list of labels, are an accepted pair, or refused as a pair
pub pair_answer : ByLists → (l r : List ControlProgram) → IsUnforked l → IsUnforked r
    → CantBothFail (IsAcceptedPair l r) ((refusal : Refusal) × IsPairRefusal l r refusal)
pair_answer lists l r ul ur unaccepted unrefused = go (few_or_many (length (path_labels l))) (few_or_many (length (path_labels r)))
  where
    go : (length (path_labels l) ≤ MOST_LABELS) ⊎ (MOST_LABELS < length (path_labels l))
        → (length (path_labels r) ≤ MOST_LABELS) ⊎ (MOST_LABELS < length (path_labels r)) → ⊥
    go (inr long) other = unrefused (too_long One, one (record { long = long; is = refl }))
    go (inl few) (inr long) = unrefused (too_long Two, two few (record { long = long; is = refl }))
    go (inl few) (inl other) =
        same_or_differ (path_labels l) (path_labels r) (path_ended l) (path_ended r)
        (λ same. unaccepted ((lists l r ul ur).1 (record { left_few = few; right_few = other; same = same })))
        (λ d. unrefused (
          mismatch (labels.mismatch d.0 d.1.one'.line d.1.two'.line),
          differ few other (labels.mismatch d.0 d.1.one'.line d.1.two'.line) (mismatch_at (path_labels l) (path_labels r) d.0 d.1) refl,
        ))

-- Three texts.

-- the text of a path's tape has a flow, or is refused
tape_answer : SomeOfTape → (cell : Cell) (path : Path) (text : List ℕ)
    → CantBothFail ((programs : List ProgramForm) × IsFlowOf cell path text programs) ((refusal : Refusal) × IsTapeRefusal cell path text refusal)
tape_answer law cell path text unaccepted unrefused = go (tape_of (skips_of path cell) text) refl
  where
    go : (read : Result (List Program) TextFault) → tape_of (skips_of path cell) text ≡ read → ⊥
    go (Err fault) is = unrefused (at_line path fault.line fault.number, reading fault is refl)
    go (Ok tape) is =
        law (dialect_in cell) tape (λ own. unaccepted (own.0, record { tape = tape; reads = is; accepted = own.1 }))
        (λ own. unrefused (at_line path own.0 own.1, flow tape own.0 own.1 is own.2 refl))

-- three texts whose tapes have flows are accepted, or refused
flows_answer : OneList → ByLists → (texts : Texts) (cell : Cell) (l r : List ProgramForm) → settings_of texts.settings ≡ Ok cell
    → IsFlowOf cell One texts.left l → IsFlowOf cell Two texts.right r
    → CantBothFail (AreAccepted texts cell l r) ((refusal : Refusal) × IsRefusalOf texts refusal)
flows_answer unforked lists texts cell l r is fl fr unaccepted unrefused =
    pair_answer lists (controls l) (controls r) (unforked (controls l) fl.accepted.sound.waits) (unforked (controls r) fr.accepted.sound.waits)
    (λ own. unaccepted (record { flows = record { settings_are = is; left_is = fl; right_is = fr }; pair = own }))
    (λ own. unrefused (own.0, pair cell l r (record { settings_are = is; left_is = fl; right_is = fr }) own.1))

-- three texts are accepted, or refused, by the laws `SomeOfTape`, `OneList` and `ByLists`
pub some_answer : SomeOfTape → OneList → ByLists → (texts : Texts)
    → CantBothFail ((cell : Cell) × (l : List ProgramForm) × (r : List ProgramForm) × AreAccepted texts cell l r)
    ((refusal : Refusal) × IsRefusalOf texts refusal)
some_answer law unforked lists texts unaccepted unrefused = go (settings_of texts.settings) refl
  where
    go : (read : Result Cell ℕ) → settings_of texts.settings ≡ read → ⊥
    go (Err line) is = unrefused (at_setting line, settings (record { line = line; refused = is; is = refl }))
    go (Ok cell) is =
        tape_answer law cell One texts.left
        (λ l. tape_answer law cell Two texts.right
        (λ r. flows_answer unforked lists texts cell l.0 r.0 is l.1 r.1 (λ own. unaccepted (cell, l.0, r.0, own)) unrefused)
        (λ own. unrefused (own.0, right cell l.0 is l.1 own.1)))
        (λ own. unrefused (own.0, left cell is own.1))
