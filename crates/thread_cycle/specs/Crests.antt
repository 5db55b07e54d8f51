-- The crest of a thread, and what is clear of it. src/fault.rt asks it of the start.
use Rattle.std.specs.Prelude.{◌*◌, Bool, ℤ, ◌+ℤ◌}
use Rattle.thread_cycle.specs.declared.cycle.ThreadCycle.{ThreadCycle}
use Rattle.thread_cycle.specs.Passes.{is_inner, away}
use Rattle.thread_cycle.specs.Sides.{IsOnSide, is_on_both}

-- the X of the crest where the thread ends, and at the start's Z
abbrev pub crest_at_end : ThreadCycle → ℤ
crest_at_end t = away t t.target.x (2 * t.depth)

abbrev pub crest_at_begin : ThreadCycle → ℤ
crest_at_begin t = crest_at_end t +ℤ t.taper +ℤ t.taper

-- an X is clear of the crest at both ends of the thread
abbrev pub IsOffCrest : ThreadCycle → ℤ → Type 0
IsOffCrest t x = IsOnSide (is_inner t) (crest_at_end t) x × IsOnSide (is_inner t) (crest_at_begin t) x

-- whether the start is
abbrev pub starts_off : ThreadCycle → Bool
starts_off t = is_on_both (is_inner t) (crest_at_end t) (crest_at_begin t) t.start.x
