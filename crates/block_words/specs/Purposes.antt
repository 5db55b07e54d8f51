-- What the purpose of a block asks of its words, and which P of a wait names both paths.
use Rattle.std.specs.Prelude.{ℕ, Bool, true, false, ◌==◌, ◌||◌, List, codes}
use Rattle.block_words.specs.declared.purpose.Purpose.{Purpose}
use Rattle.block_words.specs.declared.purpose.Purpose.TheVariants.{MacroCall, Subprogram, Return, Wait, Dwell, Setting, Other}

-- The letters whose words must be written out: G, N and O everywhere, M outside macro calls, P and
-- L of calls and returns, L of the setting of an offset.
abbrev pub fixed_letters : Purpose → List ℕ
fixed_letters MacroCall = codes "GNOPL"
fixed_letters Subprogram = codes "GNOMPL"
fixed_letters Return = codes "GNOMPL"
fixed_letters Setting = codes "GNOML"
fixed_letters Wait = codes "GNOM"
fixed_letters Dwell = codes "GNOM"
fixed_letters Other = codes "GNOM"

-- P has no meaning in the block.
abbrev pub is_idle_p : Purpose → Bool
is_idle_p Other = true
is_idle_p _ = false

-- L has no meaning in the block.
abbrev pub is_idle_l : Purpose → Bool
is_idle_l MacroCall = false
is_idle_l Subprogram = false
is_idle_l Setting = false
is_idle_l _ = true

-- P names both paths: 3 by bits, 12 or 21 by their numbers.
abbrev pub names_both : Bool → ℕ → Bool
names_both true n = n == 3
names_both false n = n == 12 || n == 21
