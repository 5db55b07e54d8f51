-- A tape that is accepted has no refused block and no fault of its order, so it is not refused: for
-- the law `an_accepted_tape_is_not_refused`.
use Rattle.std.proofs.Common.{◌≡◌, ℕ, List, [], ◌∷◌, refl, subst, Option, None, Result, Ok, Err, All}
use Rattle.std.proofs.lemmas.List.Elements.{All-nil, All-cons, All-contains}
use Rattle.nc_number.specs.declared.cause.Cause.{Cause}
use Rattle.nc_text.specs.declared.tape.Block.{Block}
use Rattle.nc_text.specs.declared.tape.Program.{Program}
use Rattle.nc_text.specs.Shape.{blocks_in}
use Rattle.block_words.specs.declared.dialect.Dialect.{Dialect}
use Rattle.block_forms.specs.Forms.{BlockForm, block_or_refusal}
use Rattle.block_order.specs.declared.program.ControlProgram.{ControlProgram}
use Rattle.block_order.specs.Faults.{Stage, Fitting, Finding, Waiting, HasFault, IsSound}
use Rattle.tape_flow.specs.declared.fault.FlowFault.{FlowFault}
use Rattle.tape_flow.specs.Forms.{ProgramForm, at_line, programs_read}
use Rattle.tape_flow.specs.Controls.{controls}
use Rattle.tape_flow.specs.Exact.{IsAccepted, IsRefused, block as by_block, order as by_order}
use Rattle.tape_flow.proofs.FirstRefused.{refusal_or, first_refusal, Tells, programs_tell}

-- the block is not refused
abbrev IsRead : Dialect → Block → Type 0
IsRead dialect block = (number : ℕ) → block_or_refusal dialect block ≡ Err number → ⊥

-- if neither this block nor one behind it is refused, it reads, as those behind it do
read_at : (dialect : Dialect) (block : Block) (blocks : List Block) (read : Result BlockForm ℕ)
    → block_or_refusal dialect block ≡ read → refusal_or (at_line block.line read) (first_refusal dialect blocks) ≡ None
    → (first_refusal dialect blocks ≡ None → All (IsRead dialect) blocks) → All (IsRead dialect) (block ∷ blocks)
read_at dialect block blocks (Ok form) is clear rest =
    All-cons (IsRead dialect) block blocks (λ number refusal. cc) (rest clear)
read_at dialect block blocks (Err own) is clear rest = cc

-- if there is no first refusal, all blocks read
all_read : (dialect : Dialect) (blocks : List Block) → first_refusal dialect blocks ≡ None → All (IsRead dialect) blocks
all_read dialect [] clear = All-nil (IsRead dialect)
all_read dialect (block ∷ blocks) clear =
    read_at dialect block blocks (block_or_refusal dialect block) refl clear (λ rest. all_read dialect blocks rest)

-- a reading that succeeds found no refusal
pub nothing_found : {A : Type 0} (read : Result A FlowFault) (forms : A) (first : Option FlowFault)
    → Tells read first None → read ≡ Ok forms → first ≡ None
nothing_found read forms first told is = rw is at told

-- a sound order has no fault
pub no_fault : (order : List ControlProgram) (stage : Stage) (line : ℕ) (cause : Cause) → IsSound order
    → HasFault order stage line cause → ⊥
no_fault order Fitting line cause sound fault = sound.fits line cause fault
no_fault order Finding line cause sound fault = sound.finds line cause fault
no_fault order Waiting line cause sound fault = sound.waits line cause fault

-- no tape is both accepted and refused
pub not_both : (dialect : Dialect) (tape : List Program) (programs : List ProgramForm) (line number : ℕ)
    → IsAccepted dialect tape programs → IsRefused dialect tape line number → ⊥
not_both dialect tape programs line number accepted (by_block has least) =
    let clear = nothing_found (programs_read dialect tape) programs (first_refusal dialect (blocks_in tape))
    (programs_tell dialect tape []) accepted.reads in
    All-contains (IsRead dialect) (blocks_in tape) has.0 (all_read dialect (blocks_in tape) clear) has.1 number has.3
not_both dialect tape programs line number accepted (by_order others read fault) =
    let same : programs ≡ others = cc (accepted.reads, read) in
    no_fault (controls others) fault.1.stage line fault.0 (subst (λ forms. IsSound (controls forms)) same accepted.sound)
    fault.1.holds
