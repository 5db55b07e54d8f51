-- Which kinds of codes are refused, are arcs, or are canned cycles: for the functions of these
-- names (src/kind.rt).
use Rattle.std.specs.Prelude.{Bool, true, false}
use Rattle.code_tables.specs.declared.kind.CodeKind.{CodeKind}
use Rattle.code_tables.specs.declared.kind.CodeKind.TheVariants.{ArcCw, ArcCcw, CycleTurn, CycleThread, CycleFace, Inch, NoseOn}

-- the codes that this control knows and refuses: inch input and nose radius compensation
abbrev pub is_refused : CodeKind → Bool
is_refused Inch = true
is_refused NoseOn = true
is_refused other = false

-- the arcs, beside which I, K and R are read
abbrev pub is_arc : CodeKind → Bool
is_arc ArcCw = true
is_arc ArcCcw = true
is_arc other = false

-- the canned cycles, whose end point stays in force while the code does
abbrev pub is_cycle : CodeKind → Bool
is_cycle CycleTurn = true
is_cycle CycleThread = true
is_cycle CycleFace = true
is_cycle other = false
