-- A call answers what its definition answers, unless memory ran out.
use Rattle.std.specs.Prelude.{◌≡◌, Result, Ok, Err}
use Rattle.nc_number.specs.declared.fault.Failing.{Failing}
use Rattle.nc_number.specs.declared.fault.Failing.TheVariants.{Fault, NoMemory}

-- the definition fails with what it sees of the call's fault, such as its line or its number; if
-- memory ran out, nothing is said
abbrev pub FailsBy : {Y F E : Type 0} → (F → E) → Failing F → Result Y E → Type 0
FailsBy seen (Fault fault) due = due ≡ Err (seen fault)
FailsBy seen NoMemory due = Unit {0}

-- the definition answers what the call answers: it sees a view of an Ok, and of a fault what `seen`
-- gives; if memory ran out, nothing is said
abbrev pub GivesBy : {X Y F E : Type 0} → (X → Y) → (F → E) → Result X (Failing F) → Result Y E → Type 0
GivesBy view seen (Ok x) due = due ≡ Ok (view x)
GivesBy view seen (Err error) due = FailsBy seen error due

-- the definition fails with the call's fault, and sees all of it; if memory ran out, nothing is
-- said
abbrev pub Fails : {Y E : Type 0} → Failing E → Result Y E → Type 0
Fails error due = FailsBy (λ fault. fault) error due

-- the definition answers what the call answers: it sees a view of an Ok, and all of a fault; if
-- memory ran out, nothing is said
abbrev pub Gives : {X Y E : Type 0} → (X → Y) → Result X (Failing E) → Result Y E → Type 0
Gives view result due = GivesBy view (λ fault. fault) result due
