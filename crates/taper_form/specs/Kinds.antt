-- Which cycle cuts a taper, and the blocks that begin a run of such cuts. src/kind.rt computes it. 71
-- is the letter G, 82 R.
use Rattle.std.specs.Prelude.{ℕ, Bool, not, is_some, List, Option, Some, None, ℤ, pos, if◌then◌else◌}
use Rattle.code_tables.specs.declared.kind.CodeKind.{CodeKind}
use Rattle.code_tables.specs.declared.kind.CodeKind.TheVariants.{CycleTurn, CycleFace}
use Rattle.code_tables.specs.declared.system.System.{System}
use Rattle.code_tables.specs.declared.system.System.TheVariants.{A, B}
use Rattle.line_text.specs.declared.body.Body.{Body}
use Rattle.line_text.specs.declared.body.Word.{Word}
use Rattle.plain_form.specs.Said.{has_code}
use Rattle.cycle_words.specs.Numbers.{is_said}
use Rattle.cycle_words.specs.Scenes.{words_of}
use Rattle.taper_form.specs.declared.kind.TaperKind.{TaperKind}
use Rattle.taper_form.specs.declared.kind.TaperKind.TheVariants.{Turning, Facing}

-- a cycle's code, in millionths
abbrev pub kind_code : TaperKind → System → ℤ
kind_code Turning A = pos 90000000
kind_code Turning B = pos 77000000
kind_code Facing A = pos 94000000
kind_code Facing B = pos 79000000

-- the cycle that a code of motion is
abbrev pub of_code : CodeKind → Option TaperKind
of_code CycleTurn = Some Turning
of_code CycleFace = Some Facing
of_code other = None

-- the cycle whose code is in force
abbrev pub in_force : Option CodeKind → Option TaperKind
in_force None = None
in_force (Some kind) = of_code kind

-- the cycle whose code the words have
abbrev pub named_kind : System → List Word → Option TaperKind
named_kind system words =
    if has_code (kind_code Turning system) words then Some Turning
    else if has_code (kind_code Facing system) words then Some Facing
    else None

-- the cycle whose code is in force in a block without a G code
abbrev pub kept_kind : Option CodeKind → List Word → Option TaperKind
kept_kind motion words = if is_said 71 words then None else in_force motion

-- the first of two cycles that there is
abbrev pub first_kind : Option TaperKind → Option TaperKind → Option TaperKind
first_kind (Some kind) other = Some kind
first_kind None other = other

-- the cycle of a block with a taper: the words have R, and its code, or no G code where its code is in
-- force
abbrev pub kind_of : System → Option CodeKind → List Word → Option TaperKind
kind_of system motion words =
    if not (is_said 82 words) then None else first_kind (named_kind system words) (kept_kind motion words)

-- a block begins a cut along a taper
abbrev pub begins_cut : System → Option CodeKind → Body → Bool
begins_cut system motion body = is_some (kind_of system motion (words_of body))
