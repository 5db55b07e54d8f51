-- What contracts see of the forms in memory (src/memory_shelf.rt, vec_sink.rt, memory_turret.rt,
-- list_stepper.rt), and what their calls make of them. No other crate cites it; tests meet it in
-- the contracts of the forms.
use Rattle.std.specs.Prelude.{ℕ, ◌+◌, ◌-◌, ◌^◌, min, nat_le, Bool, ◌||◌, if◌then◌else◌, List, [], ◌∷◌, ◌++◌, length, map, Some, String, Vec, string_bytes}
use Rattle.std.specs.Prelude.{slice_index_or}
use Rattle.nc_outside.specs.declared.halt.Next.{Next}
use Rattle.nc_outside.specs.declared.halt.Next.TheVariants.{Finished}
use Rattle.nc_outside.specs.declared.stepper.Call.{Call}
use Rattle.nc_outside.specs.declared.got.Got.{Got}
use Rattle.nc_outside.specs.declared.got.Got.TheVariants.{Placed, Moved, Rested}
use Rattle.nc_number.specs.Faults.{next}
use Rattle.nc_outside.specs.Files.{Files, ShelfState}
use Rattle.nc_outside.specs.Written.{SinkState}
use Rattle.nc_outside.specs.Received.{TurretState}
use Rattle.nc_outside.specs.Plan.{PlanView, fresh_plan, plan_after_call, fails_next, fault_count}

-- the names and bytes of files that are kept as texts and vectors
abbrev pub files_of : {A B : Type 0} → List (String A × Vec ℕ B) → Files
files_of held = map (λ file. (string_bytes file.0, file.1.items)) held

-- a shelf in memory: its files, the names that it was asked for, and which of its calls are to fail
pub record KeptShelf : Type 0 where
  -- its files, each with its name
  pub files : Files
  -- the names that it was asked for, in order
  pub asked : List (List ℕ)
  -- which calls of `fetch` are to fail
  pub plan : PlanView

-- what contracts see of a shelf in memory: it tells all
abbrev pub shelf_of : KeptShelf → ShelfState
shelf_of kept = record { files = Some kept.files; asked = Some kept.asked; faults = fault_count kept.plan }

-- a sink in memory: what was written, and which of its calls are to fail
pub record KeptBytes : Type 0 where
  -- what was written
  pub bytes : List ℕ
  -- which calls of `put` are to fail
  pub plan : PlanView

-- what contracts see of a sink in memory: it tells all
abbrev pub sink_of : KeptBytes → SinkState
sink_of kept = record { written = Some kept.bytes; faults = fault_count kept.plan }

-- a turret in memory: what it got, how much of that it has room for, how many calls it has had,
-- which of them are to fail, and how many of the other calls found no room
pub record KeptMoves : Type 0 where
  -- what it got, in order
  pub got : List Got
  -- how many places, moves and rests it has room for
  pub room : ℕ
  -- how many calls it has had
  pub calls : ℕ
  -- which calls of `place` and `hand` are to fail
  pub plan : PlanView
  -- which calls of `settle` are to fail
  pub settling : PlanView
  -- how many calls that were not planned to fail found no room
  pub past : ℕ

-- what contracts see of a turret in memory: it tells all. Its faults are those of both plans and
-- the calls without room, up to the last value of a u64.
abbrev pub turret_of : KeptMoves → TurretState
turret_of kept = record {
  received = Some (record { got = kept.got; calls = kept.calls });
  faults = min (min (fault_count kept.plan + kept.past) (2 ^ 64 - 1) + fault_count kept.settling) (2 ^ 64 - 1);
}

-- a turret in memory that got nothing yet, with this room, of which these calls of `place` and
-- `hand` and these of `settle` are to fail
abbrev pub fresh_turret : ℕ → List ℕ → List ℕ → KeptMoves
fresh_turret room failing unsettled = record {
  got = [];
  room = room;
  calls = 0;
  plan = fresh_plan failing;
  settling = fresh_plan unsettled;
  past = 0;
}

-- the plan of the calls that give a turret this
abbrev pub plan_for : Got → KeptMoves → PlanView
plan_for (Placed at) kept = kept.plan
plan_for (Moved what) kept = kept.plan
plan_for (Rested at) kept = kept.settling

-- a turret in memory when a call with this was counted by its plan
abbrev pub when_planned : Got → KeptMoves → KeptMoves
when_planned (Placed at) kept = record kept { plan = plan_after_call kept.plan; calls = next kept.calls }
when_planned (Moved what) kept = record kept { plan = plan_after_call kept.plan; calls = next kept.calls }
when_planned (Rested at) kept = record kept { settling = plan_after_call kept.settling; calls = next kept.calls }

-- a turret in memory has no room for one place, move or rest more
abbrev pub is_full : KeptMoves → Bool
is_full kept = nat_le kept.room (length kept.got)

-- the call that would give a turret this fails: its number is planned, or it finds no room
abbrev pub refuses_next : Got → KeptMoves → Bool
refuses_next what kept = fails_next (plan_for what kept) || is_full kept

-- a turret in memory when the call with this was counted, and that it finds no room if so
abbrev pub when_counted : Got → KeptMoves → KeptMoves
when_counted what kept = record (when_planned what kept) {
  past = if fails_next (plan_for what kept) then kept.past else if is_full kept then next kept.past else kept.past;
}

-- a turret in memory after the call that gives it this unless it is refused
abbrev pub after_call : Got → KeptMoves → KeptMoves
after_call what kept =
    record (when_counted what kept) { got = if refuses_next what kept then kept.got else kept.got ++ what ∷ [] }

-- a stepper over a stated list: the answers that are still to come, and the calls that it had
pub record KeptCalls : Type 0 where
  -- the answers that are still to come
  pub coming : List Next
  -- the calls that it had, in order
  pub calls : List Call

-- what the next step of such a stepper answers: after the list, that the path has finished
abbrev pub next_answer : KeptCalls → Next
next_answer kept = slice_index_or kept.coming 0 Finished
