-- No pair is both accepted and refused at one position of the switches: for Positions.
use Rattle.std.proofs.Common.{◌≡◌, ℕ, List, Result, Ok, Err, Option, Some, None, ap, sym, subst, ◌∙◌}
use Rattle.nc_number.specs.declared.path.Path.{Path}
use Rattle.nc_number.specs.declared.path.Path.TheVariants.{One, Two}
use Rattle.nc_text.specs.declared.fault.TextFault.{TextFault}
use Rattle.nc_text.specs.declared.tape.Program.{Program}
use Rattle.nc_text.specs.Tape.{tape_of}
use Rattle.cell_settings.specs.Cell.{Cell}
use Rattle.block_order.specs.declared.program.ControlProgram.{ControlProgram}
use Rattle.tape_flow.specs.declared.fault.FlowFault.{FlowFault}
use Rattle.tape_flow.specs.Exact.{IsOrderFault}
use Rattle.tape_flow.proofs.Accepted.{no_fault}
use Rattle.nc_verify.specs.declared.refusal.Refusal.{Refusal}
use Rattle.nc_verify.specs.Verdict.{skips_of, AreRefusedSettings, IsPairRefusal}
use Rattle.nc_verify.proofs.NotBoth.{one_cell, one_tape, not_both_pair}
use Rattle.nc_verify.proofs.SomeAnswer.{ByLists}
use Rattle.open_order.specs.declared.premises.Premises.{Premises}
use Rattle.open_text.specs.Opened.{opened_text}
use Rattle.wait_verify.specs.Asked.{Asked}
use Rattle.wait_verify.specs.Switches.{cell_of, cell_or_line}
use Rattle.open_order.specs.Exact.{refusal, IsOrdered, IsRefused, late_fault}
use Rattle.open_order.specs.Exact.IsRefused.{block, order, late}
use Rattle.open_order.specs.Reading.{programs_read}
use Rattle.wait_verify.specs.Verdict.{premises_of, IsOrderOf, IsTapeRefusal, IsLeftOrder, IsRightOrder, Judged, AreAcceptedAt, IsRefusalAt}
use Rattle.wait_verify.specs.Verdict.IsTapeRefusal.{reading as tape_reading, order as tape_order}
use Rattle.wait_verify.specs.Verdict.IsRefusalAt.{settings, left, right, pair}

-- A reading of a tape gives one order at most.
pub one_order : (a b : List ControlProgram) (r : Result (List ControlProgram) FlowFault) → r ≡ Ok a → r ≡ Ok b → a ≡ b
one_order a b r p q = let e : ◌≡◌ {A = Result (List ControlProgram) FlowFault} (Ok a) (Ok b) = sym p ∙ q in cc

-- No tape both has an order and is refused.
not_both_order : (premises : Premises) (programs : List Program) (own : List ControlProgram) (line number : ℕ)
    → IsOrdered premises programs own → IsRefused premises programs line number → ⊥
not_both_order premises programs own line number x (block failed) =
    absurd (let e : ◌≡◌ {A = Result (List ControlProgram) FlowFault} (Ok own) (Err (refusal line number)) =
    sym x.reads ∙ failed in cc)
not_both_order premises programs own line number x (order other reads fault) =
    let same : other ≡ own = one_order other own (programs_read premises programs) reads x.reads in
    let here = subst (λ o. IsOrderFault o line number) same fault in
    no_fault own here.1.stage line here.0 x.sound here.1.holds
not_both_order premises programs own line number x (late other reads sound fault) =
    let same : other ≡ own = one_order other own (programs_read premises programs) reads x.reads in
    let here = subst (λ o. late_fault o programs ≡ Some (refusal line number)) same fault in
    absurd (let e : ◌≡◌ {A = Option FlowFault} None (Some (refusal line number)) = sym x.late ∙ here in cc)

-- A text reads as one tape at most.
pub same_programs : (premises : Premises) (skips : ℕ) (text : List ℕ) (a b : List Program) (oa ob : List ControlProgram)
    → IsOrderOf premises skips text a oa → IsOrderOf premises skips text b ob → a ≡ b
same_programs premises skips text a b oa ob x y = one_tape a b (tape_of skips (opened_text skips text)) x.reads y.reads

-- A text has one order of its blocks at most.
pub same_order : (premises : Premises) (skips : ℕ) (text : List ℕ) (a b : List Program) (oa ob : List ControlProgram)
    → IsOrderOf premises skips text a oa → IsOrderOf premises skips text b ob → oa ≡ ob
same_order premises skips text a b oa ob x y =
    let same : a ≡ b = same_programs premises skips text a b oa ob x y in
    one_order oa ob (programs_read premises b) (subst (λ t. programs_read premises t ≡ Ok oa) same x.ordered.reads) y.ordered.reads

-- No text both has an order and is refused.
pub not_both_tape : (premises : Premises) (skips : ℕ) (path : Path) (text : List ℕ) (programs : List Program)
    (own : List ControlProgram) (told : Refusal) → IsOrderOf premises skips text programs own
    → IsTapeRefusal premises skips path text told → ⊥
not_both_tape premises skips path text programs own told x (tape_reading fault refused is) =
    absurd (let e : ◌≡◌ {A = Result (List Program) TextFault} (Ok programs) (Err fault) = sym x.reads ∙ refused in cc)
not_both_tape premises skips path text programs own told x (tape_order other line number reads refused is) =
    let same : programs ≡ other = one_tape programs other (tape_of skips (opened_text skips text)) x.reads reads in
    not_both_order premises other own line number (subst (λ t. IsOrdered premises t own) same x.ordered) refused

-- Settings that are refused give no cell at a position.
pub no_cell : (asked : Asked) (cell : Cell) (told : Refusal) → AreRefusedSettings asked.texts.settings told → cell_of asked ≡ Ok cell → ⊥
no_cell asked cell told s read =
    absurd (let e : ◌≡◌ {A = Result Cell ℕ} (Ok cell) (Err s.line) = sym read ∙ ap (cell_or_line asked.position) s.refused in cc)

-- No pair is both accepted and refused at a position, by the law that a pair is accepted exactly by its lists of
-- labels.
pub not_both : ByLists → (asked : Asked) (judged : Judged) (told : Refusal) → AreAcceptedAt asked judged → IsRefusalAt asked told → ⊥
not_both lists asked judged told ok (settings s) = absurd (no_cell asked judged.cell told s ok.orders.settings_are)
not_both lists asked judged told ok (left other read refused) =
    let same : judged.cell ≡ other = one_cell judged.cell other (cell_of asked) ok.orders.settings_are read in
    not_both_tape (premises_of asked other) (skips_of One other) One asked.texts.left judged.left_tape judged.left told
    (subst (λ c. IsLeftOrder asked c judged.left_tape judged.left) same ok.orders.left_is) refused
not_both lists asked judged told ok (right other first_tape first_order read first refused) =
    let same : judged.cell ≡ other = one_cell judged.cell other (cell_of asked) ok.orders.settings_are read in
    not_both_tape (premises_of asked other) (skips_of Two other) Two asked.texts.right judged.right_tape judged.right told
    (subst (λ c. IsRightOrder asked c judged.right_tape judged.right) same ok.orders.right_is) refused
not_both lists asked judged told ok (pair other orders refused) =
    let same : judged.cell ≡ other.cell =
    one_cell judged.cell other.cell (cell_of asked) ok.orders.settings_are orders.settings_are in
    let la : other.left ≡ judged.left =
    same_order (premises_of asked other.cell) (skips_of One other.cell) asked.texts.left other.left_tape judged.left_tape
    other.left judged.left orders.left_is (subst (λ c. IsLeftOrder asked c judged.left_tape judged.left) same ok.orders.left_is) in
    let rb : other.right ≡ judged.right =
    same_order (premises_of asked other.cell) (skips_of Two other.cell) asked.texts.right other.right_tape judged.right_tape
    other.right judged.right orders.right_is
    (subst (λ c. IsRightOrder asked c judged.right_tape judged.right) same ok.orders.right_is) in
    not_both_pair judged.left judged.right told
    ((lists judged.left judged.right ok.pair.left_unforked ok.pair.right_unforked).0 ok.pair)
    (subst (λ x. IsPairRefusal judged.left x told) rb (subst (λ x. IsPairRefusal x other.right told) la refused))
