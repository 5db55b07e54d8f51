-- Answers that agree: one status and one text, or nothing was told.
-- DueOnce, FaultsFirst and the proof of `top` (src/control.rt) use it.
use Rattle.std.proofs.Common.{◌≡◌, ℕ, ◌<◌, List, take, refl, sym, subst, arith}
use Rattle.nc_outside.specs.Written.{SinkState, Writes}
use Rattle.lathe_calls.specs.Answers.{Answer, tells, nothing, Ends, whole, cut, unwritten, untold}
use Rattle.lathe_calls.specs.Statuses as exit
use Rattle.lathe_top.specs.Done.{IsOr, itself, sink_failed, memory_wanting, IsTold, in_full, cut_off, left_off}

-- two answers agree: they have one status and one text, or one of them is `nothing`
abbrev pub Agree : Answer → Answer → Type 0
Agree nothing other = Unit {0}
Agree (tells status text) nothing = Unit {0}
Agree (tells status text) (tells other line) = (status ≡ other) × (text ≡ line)

-- each answer agrees with `nothing`
pub agree_nothing : (a : Answer) → Agree a nothing
agree_nothing nothing = tt
agree_nothing (tells status text) = tt

-- the answer has this status, or is nothing
abbrev pub HasStatus : ℕ → Answer → Type 0
HasStatus wanted nothing = Unit {0}
HasStatus wanted (tells status text) = status ≡ wanted

-- if all answers that are due have one status or are nothing, the call ended with that status, or
-- with 5 or 12 as the sink failed, memory ran out or a thread was refused
pub ends_or : {Due : Answer → Type 0} {old new : SinkState} (status : ℕ) (result : ℕ)
    → ((answer : Answer) → Due answer → HasStatus status answer) → Ends Due old new result → IsOr old new status result
ends_or {Due} {old} {new} status result only (whole {status = s} {text = t} due calm written) =
    subst (λ v. IsOr old new v s) (only (tells s t) due) (itself calm)
ends_or status result only (cut due rose n written) = sink_failed rose
ends_or status result only (unwritten due calm n written) = memory_wanting calm
ends_or status result only (untold due calm written) = memory_wanting calm

-- if a call of the sink failed, the call ended with 5
pub ends_failed : {Due : Answer → Type 0} {old new : SinkState} (result : ℕ) → old.faults < new.faults → Ends Due old new result
    → result ≡ exit.sink_fault
ends_failed result rose (whole due calm written) = absurd (omega (arith, rose, calm))
ends_failed result rose (cut due failed n written) = refl
ends_failed result rose (unwritten due calm n written) = absurd (omega (arith, rose, calm))
ends_failed result rose (untold due calm written) = absurd (omega (arith, rose, calm))

-- if all answers that are due agree with one, that one was told, as far as the sink and the memory
-- allowed
pub ends_told : {Due : Answer → Type 0} {old new : SinkState} (status : ℕ) (text : List ℕ) (result : ℕ)
    → ((answer : Answer) → Due answer → Agree answer (tells status text)) → Ends Due old new result → IsTold old new status text result
ends_told {Due} {old} {new} status text result only (whole {status = s} {text = t} due calm written) =
    let same = only (tells s t) due in
    subst (λ v. IsTold old new status text v) (sym same.0) (in_full calm (subst (Writes old new) same.1 written))
ends_told {Due} {old} {new} status text result only (cut {status = s} {text = t} due rose n written) =
    cut_off rose n (subst (λ l. Writes old new (take n l)) (only (tells s t) due).1 written)
ends_told {Due} {old} {new} status text result only (unwritten {status = s} {text = t} due calm n written) =
    left_off calm n (subst (λ l. Writes old new (take n l)) (only (tells s t) due).1 written)
ends_told status text result only (untold due calm written) = left_off calm 0 written
