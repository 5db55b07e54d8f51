-- What holds over a whole tape before it is written out. src/rules.rt computes it.
use Rattle.std.specs.Prelude.{ℕ, Bool, true, false, not, ◌||◌, List, Some, pos, if◌then◌else◌}
use Rattle.std.specs.List.{list_any}
use Rattle.code_tables.specs.declared.system.System.{System}
use Rattle.code_tables.specs.declared.system.System.TheVariants.{A, B}
use Rattle.line_text.specs.declared.body.Body.{Body}
use Rattle.line_text.specs.declared.body.Body.TheVariants.{Words, Statement}
use Rattle.nc_text.specs.declared.tape.Program.{Program}
use Rattle.block_words.specs.declared.dialect.Dialect.{Dialect}
use Rattle.known_blocks.specs.declared.known.Known.{Known}
use Rattle.known_blocks.specs.Known.{unknown}
use Rattle.plain_form.specs.Said.{has_code}
use Rattle.plain_form.specs.declared.settings.FormSettings.{FormSettings}
use Rattle.plain_blocks.specs.declared.walk.Rules.{Rules}
use Rattle.tape_plain.specs.Skips.{skips_of}

-- the block has G91, which makes lengths ways
abbrev pub is_ways : Body → Bool
is_ways (Words words) = has_code (pos 91000000) words
is_ways (Statement text) = false

-- a block of a program has
abbrev pub has_ways : Program → Bool
has_ways program = list_any (λ block. is_ways block.body) program.blocks

-- it is system A, which has no G91
abbrev pub is_a : System → Bool
is_a A = true
is_a B = false

-- X and Z are where a block goes on the whole tape
abbrev pub is_absolute : System → List Program → Bool
is_absolute system tape = is_a system || not (list_any has_ways tape)

-- what is known before every block of a tape: lengths are places if they can be nothing else
abbrev pub known_anywhere : System → List Program → Known
known_anywhere system tape =
    if is_absolute system tape then record unknown { incremental = Some false } else unknown

-- what holds over the whole tape
abbrev pub rules_of : Dialect → FormSettings → List ℕ → List Program → Rules
rules_of dialect forms text tape = record {
  dialect = dialect;
  settings = forms;
  anywhere = known_anywhere dialect.system tape;
  skips = skips_of text;
}
