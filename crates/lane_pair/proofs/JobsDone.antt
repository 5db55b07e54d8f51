-- What the threads of a path come to, each by itself and together.
-- The proofs of `work_path`, `drive_turret` (src/jobs.rt), `end_path` and `run_seats` (src/pair.rt)
-- use it.
use Rattle.std.proofs.Common.{◌≡◌, Bool, true, false, true≢false, refl, List, [], ◌∷◌, ◌++◌, length, flat_map, ap, sym, ◌∙◌, subst, Option, Some, None}
use Rattle.std.specs.Prelude.{IsTrue, is_some}
use Rattle.atomic_table.specs.Seated.{TableId}
use Rattle.drive_line.specs.declared.item.Item.{Item}
use Rattle.drive_line.specs.Driving.{DrivenState, Serves}
use Rattle.drive_line.specs.Line.{LineId, Sending, Taking, moves_among, told_among}
use Rattle.nc_number.specs.declared.path.Path.{Path}
use Rattle.nc_outside.specs.Calls.{IsCalled, told_by}
use Rattle.nc_outside.specs.declared.halt.Halt.{Halt as HaltWhy}
use Rattle.nc_outside.specs.declared.halt.Halt.TheVariants.{Turret}
use Rattle.nc_outside.specs.declared.halt.Next.{Next}
use Rattle.nc_outside.specs.declared.stepper.Call.{Call}
use Rattle.nc_outside.specs.declared.stepper.Call.TheVariants.{Halt}
use Rattle.nc_outside.specs.Received.{TurretState}
use Rattle.path_worker.specs.declared.worker.Why.{Why}
use Rattle.path_worker.specs.Drive.{halts_at}
use Rattle.path_worker.specs.Work.{Works, IsWhole, items_at, calls_made, told_at_end}
use Rattle.path_worker.proofs.Working.{sent_is_answered}
use Rattle.seat_table.specs.Passes.{Pass, Halter, has_halt, IsAsAtStop}
use Rattle.seat_table.specs.declared.knowing.Stop.{Stop}
use Rattle.seat_table.specs.Turning.{Tellings}
use Rattle.kept_threads.specs.declared.order.Order.{Order}
use Rattle.kept_threads.specs.declared.order.Order.TheVariants.{Work}
use Rattle.lane_pair.specs.Jobs.{Worked, Drove}
use Rattle.lane_pair.specs.Seats.{IsPathEnd}

-- a worker that began with no call and no item sent what its steps told, and then the end of the path,
-- if it has ended
pub sent_told : (path : Path) (answers : List Next) (why : Why) (old new : List Item) (was is : List Call) (told : Tellings) → old ≡ [] → was ≡ []
    → Works path (Some was) (Some is) old new answers → IsWhole answers why → told_by is ≡ told → told_among new ≡ told ++ told_at_end why
sent_told path answers why old new was is told none fresh w whole by =
    let called : ◌≡◌ {A = Option (List Call)} (Some is) (Some (was ++ calls_made path (length (moves_among old)) answers)) = w.calls in
    let e : is ≡ was ++ calls_made path (length (moves_among old)) answers = cc in
    let all : is ≡ calls_made path 0 answers =
    e ∙ ap (λ l. l ++ calls_made path (length (moves_among old)) answers) fresh ∙ ap (λ l. calls_made path (length (moves_among l)) answers) none in
    ap told_among w.items ∙ ap (λ l. told_among (l ++ flat_map items_at answers)) none ∙ sent_is_answered path 0 answers why whole
    ∙ ap (λ l. l ++ told_at_end why) (sym (ap told_by all) ∙ by)

-- a drive whose turret failed has halted the table
pub halted_so : (path : Path) (failed : Bool) (was is : List Call) (stop : Option Stop) → was ≡ [] → IsCalled (Some was) (Some is) (halts_at path failed)
    → (IsTrue (has_halt is) → IsTrue (is_some stop)) → failed ≡ true → IsTrue (is_some stop)
halted_so path true was is stop fresh called told e =
    let more : ◌≡◌ {A = Option (List Call)} (Some is) (Some (was ++ Halt (Turret path) ∷ [])) = called in
    let all : is ≡ was ++ Halt (Turret path) ∷ [] = cc in
    told (subst (λ l. IsTrue (has_halt l)) (sym (all ∙ ap (λ l. l ++ Halt (Turret path) ∷ []) fresh)) refl)
halted_so path false was is stop fresh called told e = absurd (true≢false (sym e))

-- what the worker and the drive of a path came to, if the drive took all that the worker sent
pub path_end : (table : TableId) (path : Path) (line : LineId) (start : TurretState) (pass : Pass) (sending : Sending) (why : Why) (halter : Halter) (taking : Taking)
    (driven : DrivenState) → taking.items ≡ sending.items → Worked table path line pass sending why → Drove table path line start halter taking driven
    → IsPathEnd table path start why pass halter driven
path_end table path line start pass sending why halter taking driven whole w d = record {
  table_is = w.table_is;
  path_is = w.path_is;
  halter_table = d.table_is;
  halter_path = d.path_is;
  serves = subst (λ l. Serves l start driven) (ap told_among whole ∙ w.sent) d.serves;
  halted = d.halted;
}

-- a worker of a table and a line is one of the same table and line by other names
pub worked_at : (was table : TableId) (path : Path) (first line : LineId) (pass : Pass) (sending : Sending) (why : Why)
    → was ≡ table → first ≡ line → Worked was path first pass sending why → Worked table path line pass sending why
worked_at was table path first line pass sending why e f w =
    record { table_is = w.table_is ∙ e; path_is = w.path_is; line_is = w.line_is ∙ f; sent = w.sent }

-- a drive of a table and a line is one of the same table and line by other names
pub drove_at : (was table : TableId) (path : Path) (first line : LineId) (start : TurretState) (pass : Halter) (taking : Taking) (driven : DrivenState)
    → was ≡ table → first ≡ line → Drove was path first start pass taking driven → Drove table path line start pass taking driven
drove_at was table path first line start pass taking driven e f d = record {
  table_is = d.table_is ∙ e;
  path_is = d.path_is;
  line_is = d.line_is ∙ f;
  ended = d.ended;
  serves = d.serves;
  halted = d.halted;
}

-- if a pass knows that the table has halted, the table has a reason
pub stops_by : {C : Type 0} (told : C → Path → Tellings) (reason : C → Option HaltWhy) (c : C) (stop : Option Stop)
    → IsAsAtStop told reason c stop → IsTrue (is_some stop) → IsTrue (is_some (reason c))
stops_by told reason c (Some stop) is known = subst (λ (o : Option HaltWhy). IsTrue (is_some o)) (sym is.why) refl
stops_by told reason c None is known = absurd (true≢false (sym known))

-- a thread that was told nothing before was told this job alone
pub told_work : {J : Type 0} (before after : List (Order J)) (job : J) → after ≡ before ++ Work job ∷ [] → before ≡ [] → after ≡ Work job ∷ []
told_work before after job told idle = told ∙ ap (λ l. l ++ Work job ∷ []) idle
