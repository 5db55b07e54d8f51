-- An answer about a trace is one that is due, from what was put.
-- For the proofs of `trace` and `trace_with` (src/running.rt).
use Rattle.std.proofs.Common.{◌≡◌, ℕ, List, sym, subst}
use Rattle.std.specs.Prelude.{min}
use Rattle.nc_number.specs.declared.fault.Failing.{Failing}
use Rattle.nc_number.specs.declared.fault.Failing.TheVariants.{Fault, NoMemory}
use Rattle.block_order.specs.Answers.{IfFault}
use Rattle.nc_outside.specs.declared.reason.Reason.{Reason}
use Rattle.nc_restart.specs.Pair.{opening_of, tapes_in}
use Rattle.nc_verify.specs.declared.refusal.Refusal.{Refusal}
use Rattle.nc_verify.specs.declared.verified.Verified.{Verified}
use Rattle.nc_verify.specs.Verdict.{Texts, IsRefusalOf}
use Rattle.race_report.specs.declared.race.Race.{Race}
use Rattle.run_records.specs.Entries.{Entry}
use Rattle.turn_order.specs.InTurn.{IsInTurn}
use Rattle.lathe_calls.specs.Answers.{Answer, tells}
use Rattle.lathe_calls.specs.Judged.{IsRefusing}
use Rattle.lathe_calls.specs.Races.{AreRaces}
use Rattle.lathe_calls.specs.Statuses.{reason_status}
use Rattle.lathe_calls.specs.Traced.{IsTraceOf, IsTraced, end_of, ran, refused, trace_of, untraced}

-- the line of a refusal, or nothing without memory, is due as the trace of texts with that refusal
pub traced_refused : (limit : ℕ) {texts : Texts} (error : Failing Refusal) → IfFault error (IsRefusalOf texts)
    → (answer : Answer) → IsRefusing error answer → IsTraced limit texts answer
traced_refused limit {texts} (Fault refusal) of_texts answer is = subst (IsTraced limit texts) (sym is.2) (refused of_texts is.1)
traced_refused limit {texts} NoMemory of_texts answer is = subst (IsTraced limit texts) (sym is) untraced

-- the trace of a run whose paths took turns is due, with the status of how it ended
pub ran_so : (limit : ℕ) (pair : Verified) (entries : List Entry) (end : Reason) (races : List Race)
    → IsInTurn (tapes_in pair) (opening_of pair) (min limit pair.settings.records) entries → end ≡ end_of pair entries → AreRaces pair races
    → IsTraceOf limit pair (tells (reason_status end) (trace_of pair entries end races))
ran_so limit pair entries end races run is are =
    subst (λ e. IsTraceOf limit pair (tells (reason_status e) (trace_of pair entries e races))) (sym is) (ran entries races run are)
