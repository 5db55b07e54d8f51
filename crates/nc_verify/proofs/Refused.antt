-- A refusal of a part is one of the whole: of a path's tape by its reading or its flow
-- (src/tape.rt), of a pair by its labels (src/meeting.rt).
use Rattle.std.proofs.Common.{◌≡◌, ℕ, ◌≤◌, List, length, Ok, Err, subst}
use Rattle.nc_number.specs.declared.fault.Failing.{Failing}
use Rattle.nc_number.specs.declared.fault.Failing.TheVariants.{Fault, NoMemory}
use Rattle.nc_number.specs.declared.path.Path.{Path}
use Rattle.nc_number.specs.Answers.{Fails}
use Rattle.nc_number.specs.declared.limits.TheConstants.{MOST_LABELS}
use Rattle.nc_text.specs.declared.fault.TextFault.{TextFault}
use Rattle.nc_text.specs.declared.tape.Program.{Program}
use Rattle.nc_text.specs.Tape.{tape_of}
use Rattle.cell_settings.specs.Cell.{Cell}
use Rattle.block_order.specs.declared.program.ControlProgram.{ControlProgram}
use Rattle.block_order.specs.Answers.{IfFault}
use Rattle.tape_flow.specs.declared.fault.FlowFault.{FlowFault}
use Rattle.tape_flow.specs.Exact.{IsRefused}
use Rattle.label_list.specs.declared.fault.PairFault.{PairFault}
use Rattle.label_list.specs.declared.labelled.Labelled.{Labelled}
use Rattle.label_list.specs.Faults.{IsMismatch}
use Rattle.label_list.specs.Lists.{path_labels}
use Rattle.nc_verify.specs.declared.refusal.Refusal.{Refusal}
use Rattle.nc_verify.specs.Refusals.{at_line, mismatch}
use Rattle.nc_verify.specs.Verdict.{skips_of, dialect_in, IsTapeRefusal, IsPairRefusal}
use Rattle.nc_verify.specs.Verdict.IsTapeRefusal.{reading, flow}
use Rattle.nc_verify.specs.Verdict.IsPairRefusal.{differ}

-- if one statement on a refusal follows from another, it follows for an error, which is a refusal
-- or that memory ran out
pub by_refusal : (P Q : Refusal → Type 0) (error : Failing Refusal) → ((refusal : Refusal) → P refusal → Q refusal)
    → IfFault error P → IfFault error Q
by_refusal P Q (Fault refusal) follows p = follows refusal p
by_refusal P Q NoMemory follows p = tt

-- a text that does not read is the refusal of its path's tape
pub tape_refused : (cell : Cell) (path : Path) (text : List ℕ) (skips : ℕ) (error : Failing TextFault) (fault : TextFault) (refusal : Refusal)
    → error ≡ Fault fault → skips ≡ skips_of path cell → Fails error (tape_of skips text)
    → refusal ≡ at_line path fault.line fault.number → IsTapeRefusal cell path text refusal
tape_refused cell path text skips error fault refusal is same fails told =
    reading fault (subst (λ n. tape_of n text ≡ Err fault) same (subst (λ e. Fails e (tape_of skips text)) is fails)) told

-- a tape that reads and has no flow is the refusal of its path's tape
pub flow_refused : (cell : Cell) (path : Path) (text : List ℕ) (skips : ℕ) (tape : List Program) (error : Failing FlowFault)
    (fault : FlowFault) (refusal : Refusal) → error ≡ Fault fault → skips ≡ skips_of path cell → tape_of skips text ≡ Ok tape
    → IfFault error (λ f. IsRefused (dialect_in cell) tape f.line f.number) → refusal ≡ at_line path fault.line fault.number
    → IsTapeRefusal cell path text refusal
flow_refused cell path text skips tape error fault refusal is same reads refused told =
    flow tape fault.line fault.number (subst (λ n. tape_of n text ≡ Ok tape) same reads)
    (subst (λ e. IfFault e (λ f. IsRefused (dialect_in cell) tape f.line f.number)) is refused) told

-- the mismatch of two flows' labels, of which there are few enough, is the refusal of the pair
pub labels_differ : (left right : List ControlProgram) (xs ys : List Labelled) (fault : PairFault) (refusal : Refusal)
    → xs ≡ path_labels left → ys ≡ path_labels right → length xs ≤ MOST_LABELS → length ys ≤ MOST_LABELS
    → IsMismatch xs ys fault → refusal ≡ mismatch fault → IsPairRefusal left right refusal
labels_differ left right xs ys fault refusal l r few_l few_r m told =
    differ (subst (λ zs. length zs ≤ MOST_LABELS) l few_l) (subst (λ zs. length zs ≤ MOST_LABELS) r few_r) fault
    (subst (λ zs. IsMismatch (path_labels left) zs fault) r (subst (λ zs. IsMismatch zs ys fault) l m)) told
