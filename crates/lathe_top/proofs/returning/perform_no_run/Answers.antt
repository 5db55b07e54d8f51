-- For the proof of `perform_no_run` (src/returning.rt): each command does what is due to it, and
-- leaves the second disk alone unless it branches. A new command that makes no run needs its line
-- here.
use Rattle.std.proofs.Common.{refl}
use Rattle.lathe_calls.proofs.Ended.{ends_by}
use Rattle.lathe_top.proofs.returning.perform_no_run.Goals as goal

pub returns-in-Verify : goal.returns-in-Verify
returns-in-Verify g c = rw c.in-Verify.is (ends_by _ (λ answer due. (due, refl)) (rw c.names_of-names.ensures at c.answer_pair.ensures))

pub returns-in-Waits : goal.returns-in-Waits
returns-in-Waits g c =
    rw c.in-Waits.is (ends_by _ (λ answer due. (due, refl))
    (rw (c.names_of-names-in-Waits.ensures, c.outside_in-range.ensures) at c.answer_pair-in-Waits.ensures))

pub returns-in-Races : goal.returns-in-Races
returns-in-Races g c =
    rw c.in-Races.is (ends_by _ (λ answer due. (due, refl)) (rw c.names_of-names-in-Races.ensures at c.answer_pair-in-Races.ensures))

pub returns-in-Trace : goal.returns-in-Trace
returns-in-Trace g c =
    rw c.in-Trace.is (ends_by _ (λ answer due. (due, refl)) (rw c.names_of-names-in-Trace.ensures at c.answer_pair-in-Trace.ensures))

pub returns-in-Edit : goal.returns-in-Edit
returns-in-Edit g c = rw c.in-Edit.is (ends_by _ (λ answer due. (due, refl)) (rw c.as_str.ensures at c.edit.ensures))

pub returns-in-Moves : goal.returns-in-Moves
returns-in-Moves g c = rw c.in-Moves.is (ends_by _ (λ answer due. ((due.0, due.1, refl), refl)) c.look.ensures)

pub returns-in-State : goal.returns-in-State
returns-in-State g c = rw c.in-State.is (ends_by _ (λ answer due. ((due.0, due.1, refl), refl)) c.look-in-State.ensures)

pub returns-in-Zones : goal.returns-in-Zones
returns-in-Zones g c = rw c.in-Zones.is (ends_by _ (λ answer due. (due, refl)) (rw c.as_str-in-Zones.ensures at c.show_zoned.ensures))

pub returns-in-ZonesOf : goal.returns-in-ZonesOf
returns-in-ZonesOf g c =
    rw c.in-ZonesOf.is (ends_by _ (λ answer due. (due, refl))
    (rw (c.names_of-names-in-ZonesOf.ensures, c.as_str-in-ZonesOf.ensures) at c.judge_zones.ensures))

pub returns-in-Branch : goal.returns-in-Branch
returns-in-Branch g c = rw c.in-Branch.is (ends_by _ (λ answer due. ((due.0, due.1, refl), tt)) c.branch_off.ensures)

pub returns-in-Expand : goal.returns-in-Expand
returns-in-Expand g c = rw c.in-Expand.is (ends_by _ (λ answer due. (due, refl)) (rw c.as_str-in-Expand.ensures at c.write_out.ensures))

pub returns-in-Plain : goal.returns-in-Plain
returns-in-Plain g c =
    rw c.in-Plain.is (ends_by _ (λ answer due. (due, refl))
    (rw (c.as_str-in-Plain.ensures, c.name_in.ensures) at c.write_plain.ensures))
