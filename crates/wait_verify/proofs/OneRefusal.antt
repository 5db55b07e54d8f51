-- A pair has one refusal at most at one position of the switches: first the tape of a path, then the
-- pair. For Positions.
use Rattle.std.proofs.Common.{◌≡◌, ℕ, List, Option, Some, Result, Ok, Err, ap, sym, subst, ◌∙◌}
use Rattle.nc_number.specs.Causes.{cause_number}
use Rattle.nc_number.specs.declared.path.Path.{Path}
use Rattle.nc_number.specs.declared.path.Path.TheVariants.{One, Two}
use Rattle.nc_text.specs.declared.fault.TextFault.{TextFault}
use Rattle.nc_text.specs.declared.tape.Program.{Program}
use Rattle.nc_text.specs.Tape.{tape_of}
use Rattle.cell_settings.specs.Cell.{Cell}
use Rattle.block_order.specs.declared.program.ControlProgram.{ControlProgram}
use Rattle.block_order.specs.Faults.{IsSound}
use Rattle.tape_flow.specs.declared.fault.FlowFault.{FlowFault}
use Rattle.tape_flow.specs.Exact.{IsOrderFault}
use Rattle.tape_flow.proofs.Accepted.{no_fault}
use Rattle.flow_laws.specs.Answers.{HasOneFirst}
use Rattle.nc_verify.specs.declared.refusal.Refusal.{Refusal}
use Rattle.nc_verify.specs.Refusals.{at_line}
use Rattle.nc_verify.specs.Verdict.{skips_of, IsPairRefusal}
use Rattle.nc_verify.proofs.NotBoth.{one_cell, one_tape}
use Rattle.nc_verify.proofs.OneRefusal.{one_of_settings, one_of_pair, not_both_read}
use Rattle.open_order.specs.declared.premises.Premises.{Premises}
use Rattle.open_text.specs.Opened.{opened_text}
use Rattle.wait_verify.specs.Asked.{Asked}
use Rattle.wait_verify.specs.Switches.{cell_of}
use Rattle.open_order.specs.Exact.{refusal, IsRefused, late_fault}
use Rattle.open_order.specs.Exact.IsRefused.{block, order, late}
use Rattle.open_order.specs.Reading.{programs_read}
use Rattle.wait_verify.specs.Verdict.{premises_of, IsOrderOf, IsTapeRefusal, IsLeftOrder, IsRightOrder, Judged, AreOrders, IsRefusalAt}
use Rattle.wait_verify.specs.Verdict.IsTapeRefusal.{reading as tape_reading, order as tape_order}
use Rattle.wait_verify.specs.Verdict.IsRefusalAt.{settings, left, right, pair}
use Rattle.wait_verify.proofs.NotBoth.{one_order, same_order, no_cell, not_both_tape}

-- The tape of a path.

-- Refusals that are equal have the same line and number.
same_fault : (line number other_line other : ℕ) → ◌≡◌ {A = FlowFault} (refusal line number) (refusal other_line other)
    → (line ≡ other_line) × (number ≡ other)
same_fault line number other_line other e = (ap (λ (f : FlowFault). f.line) e, ap (λ (f : FlowFault). f.number) e)

-- A reading of a tape has one error at most.
same_error : (r : Result (List ControlProgram) FlowFault) (a b : FlowFault) → r ≡ Err a → r ≡ Err b → a ≡ b
same_error r a b p q = let e : ◌≡◌ {A = Result (List ControlProgram) FlowFault} (Err a) (Err b) = sym p ∙ q in cc

-- An answer holds one fault at most.
same_some : (o : Option FlowFault) (a b : FlowFault) → o ≡ Some a → o ≡ Some b → a ≡ b
same_some o a b p q = let e : ◌≡◌ {A = Option FlowFault} (Some a) (Some b) = sym p ∙ q in cc

-- No reading of a tape is both an order and an error.
read_or_not : (r : Result (List ControlProgram) FlowFault) (own : List ControlProgram) (fault : FlowFault) → r ≡ Ok own
    → r ≡ Err fault → ⊥
read_or_not r own fault p q =
    absurd (let e : ◌≡◌ {A = Result (List ControlProgram) FlowFault} (Ok own) (Err fault) = sym p ∙ q in cc)

-- An order has one first fault at most.
one_of_orders : HasOneFirst → (own : List ControlProgram) (line number other_line other : ℕ) → IsOrderFault own line number
    → IsOrderFault own other_line other → (line ≡ other_line) × (number ≡ other)
one_of_orders law own line number other_line other x y =
    let same = law own line other_line x.0 y.0 x.1 y.1 in
    (same.0, x.2 ∙ ap cause_number same.1 ∙ sym y.2)

-- A sound order has no fault.
faulty_is_unsound : (own : List ControlProgram) (line number : ℕ) → IsSound own → IsOrderFault own line number → ⊥
faulty_is_unsound own line number sound fault = no_fault own fault.1.stage line fault.0 sound fault.1.holds

-- A tape that reads has one refusal at most.
one_of_refused : HasOneFirst → (premises : Premises) (programs : List Program) (line number other_line other : ℕ)
    → IsRefused premises programs line number → IsRefused premises programs other_line other
    → (line ≡ other_line) × (number ≡ other)
one_of_refused law premises programs line number other_line other (block x) (block y) =
    same_fault line number other_line other
    (same_error (programs_read premises programs) (refusal line number) (refusal other_line other) x y)
one_of_refused law premises programs line number other_line other (block x) (order own reads fault) =
    absurd (read_or_not (programs_read premises programs) own (refusal line number) reads x)
one_of_refused law premises programs line number other_line other (block x) (late own reads sound fault) =
    absurd (read_or_not (programs_read premises programs) own (refusal line number) reads x)
one_of_refused law premises programs line number other_line other (order own reads fault) (block y) =
    absurd (read_or_not (programs_read premises programs) own (refusal other_line other) reads y)
one_of_refused law premises programs line number other_line other (order own reads fault) (order own' reads' fault') =
    let same : own ≡ own' = one_order own own' (programs_read premises programs) reads reads' in
    one_of_orders law own' line number other_line other (subst (λ o. IsOrderFault o line number) same fault) fault'
one_of_refused law premises programs line number other_line other (order own reads fault) (late own' reads' sound fault') =
    let same : own ≡ own' = one_order own own' (programs_read premises programs) reads reads' in
    absurd (faulty_is_unsound own' line number sound (subst (λ o. IsOrderFault o line number) same fault))
one_of_refused law premises programs line number other_line other (late own reads sound fault) (block y) =
    absurd (read_or_not (programs_read premises programs) own (refusal other_line other) reads y)
one_of_refused law premises programs line number other_line other (late own reads sound fault) (order own' reads' fault') =
    let same : own' ≡ own = one_order own' own (programs_read premises programs) reads' reads in
    absurd (faulty_is_unsound own other_line other sound (subst (λ o. IsOrderFault o other_line other) same fault'))
one_of_refused law premises programs line number other_line other (late own reads sound fault) (late own' reads' sound' fault') =
    let same : own ≡ own' = one_order own own' (programs_read premises programs) reads reads' in
    same_fault line number other_line other
    (same_some (late_fault own' programs) (refusal line number) (refusal other_line other)
    (subst (λ o. late_fault o programs ≡ Some (refusal line number)) same fault) fault')

-- A text has one refusal at most.
one_of_tape : HasOneFirst → (premises : Premises) (skips : ℕ) (path : Path) (text : List ℕ) (a b : Refusal)
    → IsTapeRefusal premises skips path text a → IsTapeRefusal premises skips path text b → a ≡ b
one_of_tape law premises skips path text a b (tape_reading fault e is) (tape_reading other f own) =
    let both : ◌≡◌ {A = Result (List Program) TextFault} (Err fault) (Err other) = sym e ∙ f in
    let same : fault ≡ other = cc in
    is ∙ ap (λ (x : TextFault). at_line path x.line x.number) same ∙ sym own
one_of_tape law premises skips path text a b (tape_reading fault e is) (tape_order programs line number read refused own) =
    absurd (not_both_read (opened_text skips text) skips programs fault read e)
one_of_tape law premises skips path text a b (tape_order programs line number read refused is) (tape_reading fault e own) =
    absurd (not_both_read (opened_text skips text) skips programs fault read e)
one_of_tape law premises skips path text a b (tape_order programs line number read refused is) (tape_order other other_line n other_read other_refused own) =
    let same : programs ≡ other = one_tape programs other (tape_of skips (opened_text skips text)) read other_read in
    let here : IsRefused premises other line number = subst (λ t. IsRefused premises t line number) same refused in
    let at = one_of_refused law premises other line number other_line n here other_refused in
    is ∙ ap (λ k. at_line path k number) at.0 ∙ ap (λ k. at_line path other_line k) at.1 ∙ sym own

-- A pair.

-- The text of a path has this tape and order, under the settings of a cell.
abbrev IsPathOrder : Asked → Path → List ℕ → Cell → List Program → List ControlProgram → Type 0
IsPathOrder asked path text cell programs own = IsOrderOf (premises_of asked cell) (skips_of path cell) text programs own

-- The text of a path is refused, under the settings of a cell.
abbrev IsPathRefusal : Asked → Path → List ℕ → Cell → Refusal → Type 0
IsPathRefusal asked path text cell told = IsTapeRefusal (premises_of asked cell) (skips_of path cell) path text told

-- At one position of the switches no path's text has an order and is refused.
not_both_path : (asked : Asked) (path : Path) (text : List ℕ) (cell other : Cell) (programs : List Program)
    (own : List ControlProgram) (told : Refusal) → cell_of asked ≡ Ok cell
    → cell_of asked ≡ Ok other → IsPathOrder asked path text cell programs own
    → IsPathRefusal asked path text other told → ⊥
not_both_path asked path text cell other programs own told read again ordered refused =
    let same : cell ≡ other = one_cell cell other (cell_of asked) read again in
    not_both_tape (premises_of asked other) (skips_of path other) path text programs own told
    (subst (λ c. IsPathOrder asked path text c programs own) same ordered) refused

-- At one position of the switches a path's text has one refusal at most.
one_of_path : HasOneFirst → (asked : Asked) (path : Path) (text : List ℕ) (cell other : Cell) (a b : Refusal)
    → cell_of asked ≡ Ok cell → cell_of asked ≡ Ok other
    → IsPathRefusal asked path text cell a → IsPathRefusal asked path text other b → a ≡ b
one_of_path law asked path text cell other a b read again x y =
    let same : cell ≡ other = one_cell cell other (cell_of asked) read again in
    one_of_tape law (premises_of asked other) (skips_of path other) path text a b
    (subst (λ c. IsPathRefusal asked path text c a) same x) y

-- Two orders as a pair have one refusal at most.
one_of_two : (asked : Asked) (one' other : Judged) (a b : Refusal) → AreOrders asked one' → AreOrders asked other
    → IsPairRefusal one'.left one'.right a → IsPairRefusal other.left other.right b → a ≡ b
one_of_two asked one' other a b orders others x y =
    let same : one'.cell ≡ other.cell =
    one_cell one'.cell other.cell (cell_of asked) orders.settings_are others.settings_are in
    let ll : one'.left ≡ other.left =
    same_order (premises_of asked other.cell) (skips_of One other.cell) asked.texts.left one'.left_tape other.left_tape
    one'.left other.left (subst (λ c. IsLeftOrder asked c one'.left_tape one'.left) same orders.left_is) others.left_is in
    let rr : one'.right ≡ other.right =
    same_order (premises_of asked other.cell) (skips_of Two other.cell) asked.texts.right one'.right_tape other.right_tape
    one'.right other.right (subst (λ c. IsRightOrder asked c one'.right_tape one'.right) same orders.right_is) others.right_is in
    one_of_pair other.left other.right a b
    (subst (λ z. IsPairRefusal other.left z a) rr (subst (λ z. IsPairRefusal z one'.right a) ll x)) y

-- A pair has one refusal at most, if an order has one first fault at most.
pub one_refusal : HasOneFirst → (asked : Asked) (a b : Refusal) → IsRefusalAt asked a → IsRefusalAt asked b → a ≡ b
one_refusal law asked a b (settings x) (settings y) = one_of_settings asked.texts.settings a b x y
one_refusal law asked a b (settings x) (left cell read y) = absurd (no_cell asked cell a x read)
one_refusal law asked a b (settings x) (right cell programs own read first y) =
    absurd (no_cell asked cell a x read)
one_refusal law asked a b (settings x) (pair judged orders y) =
    absurd (no_cell asked judged.cell a x orders.settings_are)
one_refusal law asked a b (left cell read x) (settings y) = absurd (no_cell asked cell b y read)
one_refusal law asked a b (left cell read x) (left other again y) =
    one_of_path law asked One asked.texts.left cell other a b read again x y
one_refusal law asked a b (left cell read x) (right other programs own again first y) =
    absurd (not_both_path asked One asked.texts.left other cell programs own a again read first x)
one_refusal law asked a b (left cell read x) (pair judged orders y) =
    absurd (not_both_path asked One asked.texts.left judged.cell cell judged.left_tape judged.left a orders.settings_are read
    orders.left_is x)
one_refusal law asked a b (right cell programs own read first x) (settings y) =
    absurd (no_cell asked cell b y read)
one_refusal law asked a b (right cell programs own read first x) (left other again y) =
    absurd (not_both_path asked One asked.texts.left cell other programs own b read again first y)
one_refusal law asked a b (right cell programs own read first x) (right other others theirs again second y) =
    one_of_path law asked Two asked.texts.right cell other a b read again x y
one_refusal law asked a b (right cell programs own read first x) (pair judged orders y) =
    absurd (not_both_path asked Two asked.texts.right judged.cell cell judged.right_tape judged.right a orders.settings_are read
    orders.right_is x)
one_refusal law asked a b (pair judged orders x) (settings y) =
    absurd (no_cell asked judged.cell b y orders.settings_are)
one_refusal law asked a b (pair judged orders x) (left other again y) =
    absurd (not_both_path asked One asked.texts.left judged.cell other judged.left_tape judged.left b orders.settings_are again
    orders.left_is y)
one_refusal law asked a b (pair judged orders x) (right other programs own again first y) =
    absurd (not_both_path asked Two asked.texts.right judged.cell other judged.right_tape judged.right b orders.settings_are again
    orders.right_is y)
one_refusal law asked a b (pair judged orders x) (pair other others y) = one_of_two asked judged other a b orders others x y
