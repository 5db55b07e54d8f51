-- How a call ends, from what was put and from what is due.
use Rattle.std.proofs.Common.{ℕ, List, Result, Ok, Err, refl, sym, subst}
use Rattle.std.proofs.KnownBytes.{Appends-nil}
use Rattle.nc_outside.specs.declared.sink.PutFault.{PutFault}
use Rattle.nc_outside.specs.declared.sink.PutFault.TheVariants.{Failed, NoMemory}
use Rattle.nc_outside.specs.Written.{SinkState}
use Rattle.nc_verify.specs.Printed.{IsPut}
use Rattle.lathe_calls.specs.Answers.{Answer, tells, nothing, Ends, whole, cut, unwritten, untold, IsJust, status_behind}

-- if a text that is due was put, the call ended with its status, or that of what went wrong
pub ends_put : {Due : Answer → Type 0} {old new : SinkState} {text : List ℕ} (status : ℕ) (put : Result (Unit {0}) PutFault)
    → Due (tells status text) → IsPut old new text put → Ends Due old new (status_behind put status)
ends_put status (Ok x) due is = whole due (is.fault.kept (λ bad. absurd cc)) is.ok
ends_put status (Err Failed) due is = cut due (is.fault.rose refl) is.err.0 is.err.1
ends_put status (Err NoMemory) due is = unwritten due (is.fault.kept (λ bad. absurd cc)) is.err.0 is.err.1

-- if nothing is due and nothing was written, the call ended with 12, as memory ran out or a thread
-- was refused
pub ends_untold : {Due : Answer → Type 0} (sink : SinkState) → Due nothing → Ends Due sink sink 12
ends_untold sink due = untold due refl (Appends-nil sink.written)

-- if a text is due and nothing was written of it, the call ended with 12, as memory ran out
pub ends_unwritten : {Due : Answer → Type 0} (sink : SinkState) (status : ℕ) (text : List ℕ) → Due (tells status text) → Ends Due sink sink 12
ends_unwritten sink status text due = unwritten due refl 0 (Appends-nil sink.written)

-- if what is due in one sense is due in another, a call that ended by the one ended by the other
pub ends_by : {Due Other : Answer → Type 0} {old new : SinkState} (result : ℕ) → ((answer : Answer) → Due answer → Other answer)
    → Ends Due old new result → Ends Other old new result
ends_by result follows (whole {status} {text} due calm written) = whole (follows (tells status text) due) calm written
ends_by result follows (cut {status} {text} due rose n written) = cut (follows (tells status text) due) rose n written
ends_by result follows (unwritten {status} {text} due calm n written) = unwritten (follows (tells status text) due) calm n written
ends_by result follows (untold due calm written) = untold (follows nothing due) calm written

-- if just this answer was told, and it was due, the call ended by what is due
pub ends_just : {Due : Answer → Type 0} {old new : SinkState} (answer : Answer) (result : ℕ) → Due answer
    → Ends (IsJust answer) old new result → Ends Due old new result
ends_just {Due} answer result due ends = ends_by result (λ a is. subst Due (sym is) due) ends
