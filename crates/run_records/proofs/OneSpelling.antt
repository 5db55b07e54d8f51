-- A record has one spelling, and whatever follows it there is no cause why it is none. For the law
-- `an_entry_has_one_spelling` (src/laws.rt); HeadsStand takes facts too.
use Rattle.std.proofs.Common.{◌≡◌, ℕ, ◌+◌, ◌*◌, ◌≤◌, List, ◌∷◌, ◌++◌, length, drop, get_or, refl, sym, ◌∙◌, ap, subst, arith, length-append, true, false, Some, None, Option, ◌||◌}
use Rattle.std.specs.Prelude.{◌==◌, is_some, is_none, if◌then◌else◌}
use Rattle.std.proofs.lemmas.Bool.{ne_eqb}
use Rattle.std.proofs.lemmas.Bool.Decides.{nat_tests}
use Rattle.std.proofs.lemmas.Option.{none-some, same_Some}
use Rattle.nc_number.specs.Path.{number_of}
use Rattle.nc_number.specs.declared.path.Path.{Path}
use Rattle.nc_number.specs.declared.path.Path.TheVariants.{One, Two}
use Rattle.run_records.specs.declared.edit.Edit.{Edit}
use Rattle.run_records.specs.declared.entry.EntryKind.{EntryKind}
use Rattle.run_records.specs.declared.entry.EntryKind.TheVariants.{Did, Arrived, Met, Ended, Alarmed, Edited}
use Rattle.run_records.specs.Causes.{cause_of, is_edit, has_bad_path, has_bad_kind, has_too_many_stamps, is_cut_short, has_bad_edit}
use Rattle.run_records.specs.Edits.{numbers_of, edit_with, IsEdit}
use Rattle.run_records.specs.Entries.{Entry, edit_of}
use Rattle.run_records.specs.Spelling.{kind_number, stamp_bytes, numbers_bytes, bytes_behind, entry_bytes, IsKind, IsEntry}
use Rattle.run_records.proofs.EditsSpelled.{numbers_again, are_spelled, edit_again, one_edit}
use Rattle.run_records.proofs.Stamps.{length-stamp_bytes, one_list}

-- paths of one number are the same
one_path : (a b : Path) → number_of a ≡ number_of b → a ≡ b
one_path One One same = refl
one_path Two Two same = refl
one_path One Two same = absurd (omega arith)
one_path Two One same = absurd (omega arith)

-- the step of a kind's number
abbrev step_with : ℕ → EntryKind
step_with n = if n == 1 then Did else if n == 2 then Arrived else if n == 3 then Met else if n == 4 then Ended else Alarmed

-- the step of the number of a kind that is a step is that kind
step_again : (kind : EntryKind) → edit_of kind ≡ None → step_with (kind_number kind) ≡ kind
step_again Did is = refl
step_again Arrived is = refl
step_again Met is = refl
step_again Ended is = refl
step_again Alarmed is = refl
step_again (Edited edit) is = absurd (none-some edit (sym is))

-- steps of one number are the same
one_step : (a b : EntryKind) → edit_of a ≡ None → edit_of b ≡ None → kind_number a ≡ kind_number b → a ≡ b
one_step a b is also same = sym (step_again a is) ∙ ap step_with same ∙ step_again b also

-- steps have the numbers 1 to 5
pub step_number : (kind : EntryKind) → edit_of kind ≡ None → (1 ≤ kind_number kind) × (kind_number kind ≤ 5)
step_number Did is = (omega arith, omega arith)
step_number Arrived is = (omega arith, omega arith)
step_number Met is = (omega arith, omega arith)
step_number Ended is = (omega arith, omega arith)
step_number Alarmed is = (omega arith, omega arith)
step_number (Edited edit) is = absurd (none-some edit (sym is))

-- a kind of which this is the edit is that edit
pub edited_kind : (kind : EntryKind) (edit : Edit) → edit_of kind ≡ Some edit → kind ≡ Edited edit
edited_kind Did edit is = absurd (none-some edit is)
edited_kind Arrived edit is = absurd (none-some edit is)
edited_kind Met edit is = absurd (none-some edit is)
edited_kind Ended edit is = absurd (none-some edit is)
edited_kind Alarmed edit is = absurd (none-some edit is)
edited_kind (Edited other) edit is = ap Edited (same_Some other edit is)

-- of two records with one number of the kind whose bytes after the kind begin one list, kinds and
-- stamps are the same, and what follows them is the same
parts : (entry other : Entry) (rest more : List ℕ) (x y : Option Edit) → edit_of entry.kind ≡ x → edit_of other.kind ≡ y → IsEntry entry → IsEntry other → kind_number entry.kind ≡ kind_number other.kind
    → bytes_behind x entry.stamps ++ rest ≡ bytes_behind y other.stamps ++ more → (entry.kind ≡ other.kind) × (entry.stamps ≡ other.stamps) × (rest ≡ more)
parts entry other rest more None None e f is also number same =
    let stamps = one_list entry.stamps other.stamps rest more is.stamps also.stamps (ap (λ (l : List ℕ). get_or l 0 0) same) (ap (drop 1) same) in
    (one_step entry.kind other.kind e f number, stamps.0, stamps.1)
parts entry other rest more (Some edit) (Some second) e f is also number same =
    let edits = one_edit edit second rest more (subst IsKind e is.edit) (subst IsKind f also.edit) same in
    (edited_kind entry.kind edit e ∙ ap Edited edits.0 ∙ sym (edited_kind other.kind second f), is.bare (ap is_some e) ∙ sym (also.bare (ap is_some f)), edits.1)
parts entry other rest more None (Some second) e f is also number same =
    let small = step_number entry.kind e in
    let six = ap kind_number (edited_kind other.kind second f) in
    absurd (omega arith)
parts entry other rest more (Some edit) None e f is also number same =
    let small = step_number other.kind f in
    let six = ap kind_number (edited_kind entry.kind edit e) in
    absurd (omega arith)

-- two records whose bytes begin one list are the same, and what follows them is the same
pub one_entry : (entry other : Entry) (rest more : List ℕ) → IsEntry entry → IsEntry other → entry_bytes entry ++ rest ≡ entry_bytes other ++ more → (entry ≡ other) × (rest ≡ more)
one_entry entry other rest more is also same =
    let path = one_path entry.path other.path (ap (λ (l : List ℕ). get_or l 0 0) same) in
    let number = ap (λ (l : List ℕ). get_or l 1 0) same in
    let behind = parts entry other rest more (edit_of entry.kind) (edit_of other.kind) refl refl is also number (ap (drop 2) same) in
    (λ i. record { path = path i; kind = behind.0 i; stamps = behind.1 i }, behind.2)

-- the byte of a path is 1 or 2
path_fits : (path : Path) → (number_of path == 1 || number_of path == 2) ≡ true
path_fits One = refl
path_fits Two = refl

-- if none of the causes holds, there is no cause
no_cause_holds : (bytes : List ℕ) → has_bad_path bytes ≡ false → has_bad_kind bytes ≡ false → has_too_many_stamps bytes ≡ false → is_cut_short bytes ≡ false → has_bad_edit bytes ≡ false → cause_of bytes ≡ None
no_cause_holds bytes path kind some whole good = rw (path, kind, some, whole, good) refl

-- a path, the kind of a step, the number of its stamps and all of these hold no cause
no_cause_of_step : (path : Path) (kind : ℕ) (stamps rest : List ℕ) → 1 ≤ kind → kind ≤ 5 → length stamps ≤ 32 → cause_of (number_of path ∷ kind ∷ length stamps ∷ (stamp_bytes stamps ++ rest)) ≡ None
no_cause_of_step path kind stamps rest least most few =
    let bytes : List ℕ = number_of path ∷ kind ∷ length stamps ∷ (stamp_bytes stamps ++ rest) in
    let a_path : has_bad_path bytes ≡ false = let fits = path_fits path in grind (arith, nat_tests) in
    let a_kind : has_bad_kind bytes ≡ false = grind (arith, nat_tests) in
    let no_edit : is_edit bytes ≡ false = ne_eqb kind 6 (λ e. omega arith) in
    let some : has_too_many_stamps bytes ≡ false = grind (arith, nat_tests) in
    let long : 3 + 4 * length stamps ≤ length bytes = omega (arith, length-append (stamp_bytes stamps) rest, length-stamp_bytes stamps) in
    let whole : is_cut_short bytes ≡ false = grind (arith, nat_tests) in
    let good : has_bad_edit bytes ≡ false = rw no_edit refl in
    no_cause_holds bytes a_path a_kind some whole good

-- a path, the kind of an edit and its numbers hold no cause
no_cause_of_edit : (path : Path) (edit : Edit) (rest : List ℕ) → IsEdit edit → cause_of (number_of path ∷ 6 ∷ (numbers_bytes (numbers_of edit) ++ rest)) ≡ None
no_cause_of_edit path edit rest is =
    let bytes : List ℕ = number_of path ∷ 6 ∷ (numbers_bytes (numbers_of edit) ++ rest) in
    let a_path : has_bad_path bytes ≡ false = let fits = path_fits path in grind (arith, nat_tests) in
    let a_kind : has_bad_kind bytes ≡ false = grind (arith, nat_tests) in
    let some : has_too_many_stamps bytes ≡ false = refl in
    let long : 21 ≤ length bytes = omega arith in
    let whole : is_cut_short bytes ≡ false = grind (arith, nat_tests) in
    let good : has_bad_edit bytes ≡ false =
    ap (λ numbers. is_none (edit_with numbers)) (numbers_again (numbers_of edit) rest (are_spelled edit is)) ∙ ap is_none (edit_again edit is) in
    no_cause_holds bytes a_path a_kind some whole good

-- the bytes of a record, whatever follows them, hold no cause
pub no_cause : (entry : Entry) (rest : List ℕ) → IsEntry entry → cause_of (entry_bytes entry ++ rest) ≡ None
no_cause entry rest is = go (edit_of entry.kind) refl
  where
    go : (x : Option Edit) → edit_of entry.kind ≡ x → cause_of (number_of entry.path ∷ kind_number entry.kind ∷ (bytes_behind (edit_of entry.kind) entry.stamps ++ rest)) ≡ None
    go None e =
        let number = step_number entry.kind e in
        rw e (no_cause_of_step entry.path (kind_number entry.kind) entry.stamps rest number.0 number.1 is.few)
    go (Some edit) e = rw (edited_kind entry.kind edit e) (no_cause_of_edit entry.path edit rest (subst IsKind e is.edit))
