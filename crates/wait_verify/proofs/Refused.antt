-- A text that does not read, or an order that is refused, is the refusal of the path's tape: for
-- `tape_of_path` and `order_of_path` (src/tape.rt).
use Rattle.std.proofs.Common.{◌≡◌, ℕ, List, Ok, subst}
use Rattle.nc_number.specs.declared.fault.Failing.{Failing}
use Rattle.nc_number.specs.declared.fault.Failing.TheVariants.{Fault, NoMemory}
use Rattle.nc_number.specs.declared.path.Path.{Path}
use Rattle.nc_number.specs.Answers.{Fails}
use Rattle.nc_text.specs.declared.fault.TextFault.{TextFault}
use Rattle.nc_text.specs.declared.tape.Program.{Program}
use Rattle.nc_text.specs.Tape.{tape_of}
use Rattle.block_order.specs.Answers.{IfFault}
use Rattle.tape_flow.specs.declared.fault.FlowFault.{FlowFault}
use Rattle.nc_verify.specs.declared.refusal.Refusal.{Refusal}
use Rattle.nc_verify.specs.Refusals.{at_line}
use Rattle.open_order.specs.declared.premises.Premises.{Premises}
use Rattle.open_text.specs.Opened.{opened_text}
use Rattle.open_order.specs.Exact.{IsRefused}
use Rattle.wait_verify.specs.Verdict.{IsTapeRefusal, reading as by_reading, order as by_tape}

-- A text that does not read is the refusal of the path's tape.
pub tape_refused : (premises : Premises) (skips : ℕ) (path : Path) (text : List ℕ) (error : Failing TextFault) (fault : TextFault)
    (refusal : Refusal) → error ≡ Fault fault → Fails error (tape_of skips (opened_text skips text))
    → refusal ≡ at_line path fault.line fault.number → IsTapeRefusal premises skips path text refusal
tape_refused premises skips path text error fault refusal is fails told =
    by_reading fault (subst (λ e. Fails e (tape_of skips (opened_text skips text))) is fails) told

-- A tape that reads, and of which a block, the order or a contour is refused, is the refusal of the
-- path's tape.
pub order_refused : (premises : Premises) (skips : ℕ) (path : Path) (text : List ℕ) (tape : List Program) (error : Failing FlowFault)
    (fault : FlowFault) (refusal : Refusal) → error ≡ Fault fault → tape_of skips (opened_text skips text) ≡ Ok tape
    → IfFault error (λ f. IsRefused premises tape f.line f.number) → refusal ≡ at_line path fault.line fault.number
    → IsTapeRefusal premises skips path text refusal
order_refused premises skips path text tape error fault refusal is reads refused told =
    by_tape tape fault.line fault.number reads
    (subst (λ e. IfFault e (λ f. IsRefused premises tape f.line f.number)) is refused) told
