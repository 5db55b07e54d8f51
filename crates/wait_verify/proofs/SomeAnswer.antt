-- No pair is neither accepted nor refused at a position of the switches: first the tape of a path,
-- then the pair. `CantBothFail` says that it can't be that neither of the two holds. For Positions.
use Rattle.std.proofs.Common.{◌≡◌, ℕ, List, Option, Some, None, Result, Ok, Err, refl, ap}
use Rattle.nc_number.specs.Causes.{cause_number}
use Rattle.nc_number.specs.declared.path.Path.{Path}
use Rattle.nc_number.specs.declared.path.Path.TheVariants.{One, Two}
use Rattle.nc_text.specs.declared.fault.TextFault.{TextFault}
use Rattle.nc_text.specs.declared.tape.Program.{Program}
use Rattle.nc_text.specs.Tape.{tape_of}
use Rattle.cell_settings.specs.Cell.{Cell, settings_of}
use Rattle.block_order.specs.declared.program.ControlProgram.{ControlProgram}
use Rattle.block_order.specs.Faults.{IsSound}
use Rattle.tape_flow.specs.declared.fault.FlowFault.{FlowFault}
use Rattle.flow_laws.specs.Answers.{CantBothFail, HasSomeFirst}
use Rattle.nc_verify.specs.declared.refusal.Refusal.{Refusal}
use Rattle.nc_verify.specs.Refusals.{at_setting, at_line}
use Rattle.nc_verify.specs.Verdict.{skips_of}
use Rattle.nc_verify.proofs.SomeAnswer.{ByLists, OneList, pair_answer}
use Rattle.open_order.specs.declared.premises.Premises.{Premises}
use Rattle.open_text.specs.Opened.{opened_text}
use Rattle.wait_verify.specs.Asked.{Asked}
use Rattle.wait_verify.specs.Switches.{cell_at, cell_or_line, cell_of}
use Rattle.open_order.specs.Exact.{IsOrdered, IsRefused, late_fault}
use Rattle.open_order.specs.Exact.IsRefused.{block, order, late}
use Rattle.open_order.specs.Reading.{programs_read}
use Rattle.wait_verify.specs.Verdict.{premises_of, IsOrderOf, IsTapeRefusal, Judged, AreOrders, AreAcceptedAt, IsRefusalAt}
use Rattle.wait_verify.specs.Verdict.IsTapeRefusal.{reading as tape_reading, order as tape_order}
use Rattle.wait_verify.specs.Verdict.IsRefusalAt.{settings, left, right, pair}

-- The tape of a path.

-- A tape whose blocks read to a sound order is ordered, or refused for a number that stands twice, or for a contour.
late_answer : (premises : Premises) (programs : List Program) (own : List ControlProgram) → programs_read premises programs ≡ Ok own
    → IsSound own → CantBothFail (IsOrdered premises programs own)
    ((line : ℕ) × (number : ℕ) × IsRefused premises programs line number)
late_answer premises programs own reads sound unordered unrefused = go (late_fault own programs) refl
  where
    go : (found : Option FlowFault) → late_fault own programs ≡ found → ⊥
    go None is = unordered (record { reads = reads; sound = sound; late = is })
    go (Some fault) is = unrefused (fault.line, fault.number, late own reads sound is)

-- A tape has an order, or it is refused.
order_answer : HasSomeFirst → (premises : Premises) (programs : List Program)
    → CantBothFail ((own : List ControlProgram) × IsOrdered premises programs own)
    ((line : ℕ) × (number : ℕ) × IsRefused premises programs line number)
order_answer law premises programs unordered unrefused = go (programs_read premises programs) refl
  where
    go : (read : Result (List ControlProgram) FlowFault) → programs_read premises programs ≡ read → ⊥
    go (Err fault) is = unrefused (fault.line, fault.number, block is)
    go (Ok own) is =
        law own
        (λ sound. late_answer premises programs own is sound (λ ordered. unordered (own, ordered)) unrefused)
        (λ first. unrefused (first.0, cause_number first.1, order own is (first.1, first.2, refl)))

-- A text has an order, or it is refused.
tape_answer : HasSomeFirst → (premises : Premises) (skips : ℕ) (path : Path) (text : List ℕ)
    → CantBothFail ((programs : List Program) × (own : List ControlProgram) × IsOrderOf premises skips text programs own)
    ((told : Refusal) × IsTapeRefusal premises skips path text told)
tape_answer law premises skips path text unordered unrefused = go (tape_of skips (opened_text skips text)) refl
  where
    go : (read : Result (List Program) TextFault) → tape_of skips (opened_text skips text) ≡ read → ⊥
    go (Err fault) is = unrefused (at_line path fault.line fault.number, tape_reading fault is refl)
    go (Ok programs) is =
        order_answer law premises programs
        (λ own. unordered (programs, own.0, record { reads = is; ordered = own.1 }))
        (λ own. unrefused (at_line path own.0 own.1, tape_order programs own.0 own.1 is own.2 refl))

-- A pair.

-- A pair of orders is accepted, or it is refused.
orders_answer : OneList → ByLists → (asked : Asked) (judged : Judged) → AreOrders asked judged
    → CantBothFail (AreAcceptedAt asked judged) ((told : Refusal) × IsRefusalAt asked told)
orders_answer unforked lists asked judged orders unaccepted unrefused =
    pair_answer lists judged.left judged.right (unforked judged.left orders.left_is.ordered.sound.waits)
    (unforked judged.right orders.right_is.ordered.sound.waits)
    (λ own. unaccepted (record { orders = orders; pair = own }))
    (λ own. unrefused (own.0, pair judged orders own.1))

-- A pair is accepted, or it is refused.
pub some_answer : HasSomeFirst → OneList → ByLists → (asked : Asked)
    → CantBothFail ((judged : Judged) × AreAcceptedAt asked judged) ((told : Refusal) × IsRefusalAt asked told)
some_answer law unforked lists asked unaccepted unrefused = go (settings_of asked.texts.settings) refl
  where
    go : (read : Result Cell ℕ) → settings_of asked.texts.settings ≡ read → ⊥
    go (Err line) is = unrefused (at_setting line, settings (record { line = line; refused = is; is = refl }))
    go (Ok own) is =
        let cell : Cell = cell_at asked.position own in
        let at : cell_of asked ≡ Ok cell = ap (cell_or_line asked.position) is in
        tape_answer law (premises_of asked cell) (skips_of One cell) One asked.texts.left
        (λ l. tape_answer law (premises_of asked cell) (skips_of Two cell) Two asked.texts.right
        (λ r. orders_answer unforked lists asked
        (record { cell = cell; left_tape = l.0; right_tape = r.0; left = l.1; right = r.1 })
        (record { settings_are = at; left_is = l.2; right_is = r.2 })
        (λ own. unaccepted (record { cell = cell; left_tape = l.0; right_tape = r.0; left = l.1; right = r.1 }, own)) unrefused)
        (λ told. unrefused (told.0, right cell l.0 l.1 at l.2 told.1)))
        (λ told. unrefused (told.0, left cell at told.1))
