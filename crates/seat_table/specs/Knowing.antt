-- What the seats of a table know, the rule of the table, and what each step on its words tells. The
-- table has one slot for itself and three words. Word 0 tells whether a seat has the turn: it is 0
-- if none has, 1 if one has, 2 if one has and another sleeps until it is given back. Word 1 counts
-- the waits that ended, word 2 the seats that sleep in a wait. No other crate cites this file, but
-- callers meet `KeepsStop` in the clauses of `SeatTable` (src/seats.rt).
use Rattle.std.specs.Prelude.{◌≡◌, ◌≢◌, ⊤, ℕ, ◌<◌, Bool, true, false, ◌||◌, ◌&&◌, not, if◌then◌else◌}
use Rattle.std.specs.Prelude.{List, [], ◌∷◌, ◌++◌, length, slice_index, Option, Some, None}
use mathlib.Core.Option.{some}
use lib.ListN.{get_elem?}
use Rattle.atomic_table.specs.Table.{State, Me, Step}
use Rattle.atomic_table.specs.Seated.{TableId}
use Rattle.nc_number.specs.declared.both.Both.{Both}
use Rattle.nc_number.specs.declared.path.Path.{Path}
use Rattle.nc_number.specs.declared.path.Path.TheVariants.{One, Two}
use Rattle.nc_number.specs.Both.{of_path}
use Rattle.nc_outside.specs.declared.halt.Halt.{Halt}
use Rattle.nc_outside.specs.declared.stepper.Call.{Call}
use Rattle.seat_table.specs.Turning.{Tellings}
use Rattle.seat_table.specs.declared.knowing.Rights.{Rights}
use Rattle.seat_table.specs.declared.knowing.Stop.{Stop}
use Rattle.seat_table.specs.declared.knowing.Knows.{Knows}

-- What a seat is for: to step a path, or to halt the run for the turret of a path. (A seat that
-- steps a path may halt the run too, and tell that the path was drained: who has any right may tell
-- the table so.)
pub data Right : Type 0 where
  -- to step this path
  steps : Path → Right
  -- to halt the run for the turret of this path
  halts : Path → Right

-- Whether the right is one of these rights.
abbrev pub has : Right → Rights → Bool
has (steps path) r = of_path r.steps path
has (halts path) r = of_path r.halts path

-- The tellings of both paths.
abbrev pub Lists : Type 0
Lists = Both Tellings

-- The tellings of both paths of this table.
abbrev pub lists_of : {C : Type 0} → (C → Path → Tellings) → C → Lists
lists_of told c = record { one = told c One; two = told c Two }

-- The stop of a table with these tellings, if it has a reason to halt.
abbrev pub stop_by : Option Halt → Lists → Option Stop
stop_by None l = None
stop_by (Some why) l = Some (record { why = why; told = l })

-- The stop of this table, if it has halted: why, and its tellings.
abbrev pub stop_of : {C : Type 0} → (C → Path → Tellings) → (C → Option Halt) → C → Option Stop
stop_of told reason c = stop_by (reason c) (lists_of told c)

-- Each stop of the list is the stop of the table; if the table has not halted, the list is empty.
abbrev pub AreStops : Option Stop → List Stop → Type 0
AreStops stop [] = ⊤
AreStops stop (s ∷ stops) = (stop ≡ Some s) × AreStops stop stops

-- The stop as a list, which is empty if there is none.
abbrev pub stop_list : Option Stop → List Stop
stop_list None = []
stop_list (Some stop) = stop ∷ []

-- The first of these, if there is one.
abbrev pub first_stop : List Stop → Option Stop
first_stop [] = None
first_stop (stop ∷ stops) = Some stop

-- A table with these tellings `now`, halted or not. Seat `owner r` has the right `r`. If a seat has
-- the turn, it is `holder`; `word` is the word of the turn. `id` is the seat that is spoken of.
module _ (now : Lists) (stop : Option Stop) (owner : Right → ℕ) (holder word : ℕ) (id : ℕ) where
  -- What a seat knows, if it is so of the table: a right is that of one seat, a seat that may step
  -- a path has the path's tellings, the seat that has the turn has found all tellings, and a seat
  -- that knows of a halt knows what the table has come to.
  pub record Fits (v : Knows) : Type 0 where
    -- Each right of the seat is its own.
    pub owns : (r : Right) → has r v.rights ≡ true → id ≡ owner r
    -- It has the table's tellings of each path that it may step.
    pub lists : (p : Path) → has (steps p) v.rights ≡ true → of_path v.lists p ≡ of_path now p
    -- What it knows of a halt is what the table has come to.
    pub stops : AreStops stop v.stops
    -- If it has the turn, it is the holder, it has found the table's tellings, the word of the turn
    -- is not 0, and it has some right.
    pub busy : v.busy ≡ true → (id ≡ holder) × (v.found ≡ now) × (0 < word) × (r : Right) × (has r v.rights ≡ true)
    -- If it has the turn, it has found whether the table has halted.
    pub busy_stop : v.busy ≡ true → v.found_stop ≡ stop

-- The rule. While nobody has the turn, the table is in its slot, with these tellings, and has halted
-- or not. While it is taken, one seat has it.
pub record Kept {C : Type 0} (told : C → Path → Tellings) (reason : C → Option Halt) (s : State (Option C) Knows) : Type 0 where
  -- The tellings of the table.
  pub now : Lists
  -- The stop of the table, if it has halted.
  pub stop : Option Stop
  -- Which seat has a right.
  pub owner : Right → ℕ
  -- Which seat has the turn, if one has.
  pub holder : ℕ
  -- There is a word of the turn.
  pub wide : 0 < length s.words
  -- There is a slot for the table.
  pub deep : 0 < length s.homes
  -- Each seat knows what is so.
  pub each : (id : ℕ) (v : Knows) → get_elem? s.views id ≡ some v
      → Fits now stop owner holder (slice_index s.words 0) id v
  -- If nobody has the turn (word 0 is 0), the table is in its slot.
  pub home : slice_index s.words 0 ≡ 0 → (c : C) × (get_elem? s.homes 0 ≡ some (some (Some c)))
      × ((p : Path) → told c p ≡ of_path now p) × (stop_of told reason c ≡ stop)
  -- If somebody has it, that seat knows it.
  pub away : 0 < slice_index s.words 0 → (v : Knows) × (get_elem? s.views holder ≡ some v) × (v.busy ≡ true)

-- No tellings of either path.
abbrev pub no_lists : Lists
no_lists = record { one = []; two = [] }

-- What a seat knows that does not have the turn: its rights, lists, stops and calls are these.
abbrev pub idle : Rights → Lists → List Stop → List Call → Knows
idle r l stops calls = record {
  rights = r;
  lists = l;
  stops = stops;
  busy = false;
  found = no_lists;
  found_stop = None;
  calls = calls;
}

-- For neither path.
abbrev pub for_none : Both Bool
for_none = record { one = false; two = false }

-- For one path alone.
abbrev pub for_one : Path → Both Bool
for_one One = record { one = true; two = false }
for_one Two = record { one = false; two = true }

-- For both paths.
abbrev pub for_both : Both Bool
for_both = record { one = true; two = true }

-- To step both paths, and to halt for both turrets.
abbrev pub all_rights : Rights
all_rights = record { steps = for_both; halts = for_both }

-- No right at all.
abbrev pub no_rights : Rights
no_rights = record { steps = for_none; halts = for_none }

-- The rights of a seat that has just this one.
abbrev pub right_of : Right → Rights
right_of (steps path) = record { steps = for_one path; halts = for_none }
right_of (halts path) = record { steps = for_none; halts = for_one path }

-- What the first seat knows: it has all rights.
abbrev pub first_knowledge : Knows
first_knowledge = idle all_rights no_lists [] []

-- What a seat knows that was joined to another: it has no right.
abbrev pub no_knowledge : Knows
no_knowledge = idle no_rights no_lists [] []

-- For each path the right without that of `m`.
abbrev pub rest_of : Both Bool → Both Bool → Both Bool
rest_of r m = record { one = r.one && not m.one; two = r.two && not m.two }

-- The rights without these.
abbrev pub minus : Rights → Rights → Rights
minus r m = record { steps = rest_of r.steps m.steps; halts = rest_of r.halts m.halts }

-- For each path either right.
abbrev pub joint_of : Both Bool → Both Bool → Both Bool
joint_of r m = record { one = r.one || m.one; two = r.two || m.two }

-- The rights of both.
abbrev pub plus : Rights → Rights → Rights
plus r m = record { steps = joint_of r.steps m.steps; halts = joint_of r.halts m.halts }

-- What a seat knows that is cut off from one that knows `v`: it has these rights alone, the same
-- lists, no stop and no call.
abbrev pub knowledge_cut_off : Rights → Knows → Knows
knowledge_cut_off m v = idle m v.lists [] []

-- What a seat that knew `v` knows once a seat with these rights was cut off from it: it has its
-- other rights, and keeps its lists, stops and calls.
abbrev pub knowledge_left : Rights → Knows → Knows
knowledge_left m v = idle (minus v.rights m) v.lists v.stops v.calls

-- Of each path the tellings that the first seat lists, if it may step the path; else those of the
-- second seat.
abbrev pub picked_lists : Knows → Knows → Lists
picked_lists v w = record {
  one = if v.rights.steps.one then v.lists.one else w.lists.one;
  two = if v.rights.steps.two then v.lists.two else w.lists.two;
}

-- What a seat that knew `v` knows once it took in one that knew `w`: it has the rights and stops of
-- both, of each path the tellings of the one that may step it, and its own calls alone.
abbrev pub joined_knowledge : Knows → Knows → Knows
joined_knowledge v w = idle (plus v.rights w.rights) (picked_lists v w) (v.stops ++ w.stops) v.calls

-- What the seat knows once a stepper over it had these calls besides.
abbrev pub knowledge_with_calls : List Call → Knows → Knows
knowledge_with_calls calls v = record v { calls = v.calls ++ calls }

-- What a seat that knew `v` knows with the turn, once it found these tellings and this stop.
abbrev pub knowledge_in_turn : Knows → Lists → Option Stop → Knows
knowledge_in_turn v l stop = record {
  rights = v.rights;
  lists = v.lists;
  stops = v.stops;
  busy = true;
  found = l;
  found_stop = stop;
  calls = v.calls;
}

-- The steps on the word of the turn, for tables with these tellings and reasons.
module _ {C : Type 0} (told : C → Path → Tellings) (reason : C → Option Halt) where
  -- What a seat knows, with what it took from the slot.
  abbrev Sat : Type 0
  Sat = Me (Option C) Knows

  -- The seat got the turn, as it found 0 there. Then it has the table, with these tellings.
  pub record Got (m : Sat) (m' : Sat) : Type 0 where
    -- The table.
    pub table : C
    -- The seat has the turn, and found the table's tellings.
    pub view : m'.0 ≡ knowledge_in_turn m.0 (lists_of told table) (stop_of told reason table)
    -- The table is in its hand.
    pub slot : m'.1 ≡ (0, Some table) ∷ m.1
    -- What it listed of the paths that it may step are the table's tellings.
    pub lists : (p : Path) → has (steps p) m.0.rights ≡ true → of_path m.0.lists p ≡ told table p
    -- What it knew of a halt is so of the table.
    pub stops : AreStops (stop_of told reason table) m.0.stops

  -- The seat got the turn if it found 0 in the word of the turn; else nothing changed.
  abbrev pub took : Step (Option C) → Sat → ℕ → Sat → Type 0
  took st m n m' = (n ≡ 0 → Got m m') × (n ≢ 0 → m' ≡ m)

  -- The tellings of the table in hand.
  abbrev pub lists_at : List (ℕ × Option C) → Lists
  lists_at [] = no_lists
  lists_at ((k, Some c) ∷ xs) = lists_of told c
  lists_at ((k, None) ∷ xs) = no_lists

  -- The stop of the table in hand as a list, which is empty if it has not halted.
  abbrev pub stops_at : List (ℕ × Option C) → List Stop
  stops_at [] = []
  stops_at ((k, Some c) ∷ xs) = stop_list (stop_of told reason c)
  stops_at ((k, None) ∷ xs) = []

  -- The seat gave the table back: it keeps its rights and calls, and lists the table's tellings of
  -- both paths, and its stop if it has halted.
  abbrev pub gave : Step (Option C) → Sat → ℕ → Sat → Type 0
  gave st m n m' = (m'.0 ≡ idle m.0.rights (lists_at m.1) (stops_at m.1) m.0.calls) × (m'.1 ≡ [])

-- The seat is one of this table, which has three words and a slot.
abbrev pub IsAt : TableId → TableId → Type 0
IsAt seat table = (seat ≡ table) × (table.words ≡ 3) × (table.slots ≡ 1)

-- The seat does not have the turn.
abbrev pub Idle : {C : Type 0} → Me (Option C) Knows → Type 0
Idle m = (m.0.busy ≡ false) × (m.1 ≡ [])

-- The seat has the turn, took the table out of its slot, and found all tellings.
pub record Took {C : Type 0} (told : C → Path → Tellings) (reason : C → Option Halt) (m : Me (Option C) Knows) (table : C)
    (m' : Me (Option C) Knows) : Type 0 where
  -- The seat has the turn, and found the table's tellings.
  pub view : m'.0 ≡ knowledge_in_turn m.0 (lists_of told table) (stop_of told reason table)
  -- It left nothing in the slot.
  pub slot : m'.1 ≡ (0, None) ∷ []
  -- What it listed of the paths that it may step are the table's tellings.
  pub lists : (p : Path) → has (steps p) m.0.rights ≡ true → of_path m.0.lists p ≡ told table p
  -- What it knew of a halt is so of the table.
  pub stops : AreStops (stop_of told reason table) m.0.stops

-- The tellings of a path that a seat lists.
abbrev pub list_at : {C : Type 0} → Path → Me (Option C) Knows → Tellings
list_at p m = of_path m.0.lists p

-- The stop of the table that the seat knows, if it knows one.
abbrev pub stop_at : {C : Type 0} → Me (Option C) Knows → Option Stop
stop_at m = first_stop m.0.stops

-- The seat does not have the turn, and has this right alone.
abbrev pub IsOf : {C : Type 0} → Right → Me (Option C) Knows → Type 0
IsOf r m = (m.0.busy ≡ false) × (m.1 ≡ []) × (m.0.rights ≡ right_of r)

-- The seat keeps its rights and its calls.
abbrev pub Keeps : {C : Type 0} → Me (Option C) Knows → Me (Option C) Knows → Type 0
Keeps m m' = (m'.0.rights ≡ m.0.rights) × (m'.0.calls ≡ m.0.calls)

-- Whoever knew that the table has halted knows the same stop after. Callers meet this in the
-- clauses `stop` of `SeatTable` (src/seats.rt).
abbrev pub KeepsStop : Option Stop → Option Stop → Type 0
KeepsStop before after = (s : Stop) → before ≡ Some s → after ≡ Some s
