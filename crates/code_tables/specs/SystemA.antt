-- The G codes of Fanuc's system A for lathes, as far as this control knows them: number, modal
-- group (src/group.rt), kind. Group 90 is this control's own, for codes that change nothing. Other
-- crates come to the rows by Systems.antt.
-- `system_a` (src/system.rt) has the same rows; a further code is a row in both.
use Rattle.std.specs.Prelude.{ℕ, List, [], ◌∷◌}
use Rattle.code_tables.specs.declared.row.Row.{Row}
use Rattle.code_tables.specs.declared.kind.CodeKind.{CodeKind}
use Rattle.code_tables.specs.declared.kind.CodeKind.TheVariants.{Rapid, Feed, ArcCw, ArcCcw, Thread, CycleTurn, CycleThread, CycleFace, Surface, Spindle, PerMin, PerRev, Inch, Metric, NoseOff, NoseOn, Work, Dwell, Setting, Home, Limit, Machine, MacroCall, Idle}

-- the row of a code: its number, its group and its kind
abbrev g : ℕ → ℕ → CodeKind → Row
g code group kind = record { code = code; group = group; kind = kind }

-- the G codes of system A, group by group
abbrev pub system_a_rows : List Row
system_a_rows =
    g 0 1 Rapid ∷ g 1 1 Feed ∷ g 2 1 ArcCw ∷ g 3 1 ArcCcw ∷ g 32 1 Thread
    ∷ g 90 1 CycleTurn ∷ g 92 1 CycleThread ∷ g 94 1 CycleFace
    ∷ g 96 2 Surface ∷ g 97 2 Spindle
    ∷ g 98 5 PerMin ∷ g 99 5 PerRev
    ∷ g 20 6 Inch ∷ g 21 6 Metric
    ∷ g 40 7 NoseOff ∷ g 41 7 NoseOn ∷ g 42 7 NoseOn
    ∷ g 54 14 Work ∷ g 55 14 Work ∷ g 56 14 Work ∷ g 57 14 Work ∷ g 58 14 Work ∷ g 59 14 Work
    ∷ g 4 0 Dwell ∷ g 10 0 Setting ∷ g 28 0 Home ∷ g 50 0 Limit ∷ g 53 0 Machine ∷ g 65 0 MacroCall
    ∷ g 18 90 Idle ∷ g 67 90 Idle ∷ g 80 90 Idle ∷ []
