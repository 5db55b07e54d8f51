-- The verdict as numbers, for callers that read no line.
use Rattle.std.specs.Prelude.{◌≡◌, ℕ, true, false, List}
use Rattle.cell_settings.specs.Cell.{Cell}
use Rattle.tape_flow.specs.Forms.{ProgramForm}
use Rattle.nc_verify.specs.declared.refusal.Refusal.{Refusal}
use Rattle.nc_verify.specs.Verdict.{Texts, AreAccepted, IsRefusalOf}
use Rattle.lathe_calls.specs.Statuses as exit
use Rattle.lathe_calls.specs.Texts.{are_fit}
use Rattle.lathe_calls.specs.declared.weighing.RefusedAs.{RefusedAs}
use Rattle.lathe_calls.specs.declared.weighing.Weighed.{Weighed}

-- a refusal as C has it
abbrev pub refused_as : Refusal → RefusedAs
refused_as refusal = record {
  line = refusal.line;
  other = refusal.other;
  after = refusal.after;
  number = refusal.number;
  path = refusal.path;
  nothing = 0;
}

-- this status, and no refusal: all of it is 0
abbrev pub unrefused : ℕ → Weighed
unrefused status = record {
  status = status;
  refusal = record { line = 0; other = 0; after = 0; number = 0; path = 0; nothing = 0 };
}

-- The verdict on three texts as numbers: 0 for accepted ones; 1 and the refusal of the others, the
-- same whose line `verify` writes; 13 if a text is too long, or 12 if memory ran out.
pub data IsWeighed (texts : Texts) : Weighed → Type 0 where
  -- the texts are accepted
  accepted : {cell : Cell} {left right : List ProgramForm} → are_fit texts ≡ true → AreAccepted texts cell left right
      → IsWeighed texts (unrefused exit.done)
  -- the texts are refused
  refused : {refusal : Refusal} → are_fit texts ≡ true → IsRefusalOf texts refusal
      → IsWeighed texts (record { status = exit.refused; refusal = refused_as refusal })
  -- a text is longer than a file of its kind may be
  too_long : are_fit texts ≡ false → IsWeighed texts (unrefused exit.no_file)
  -- memory ran out
  lacking : are_fit texts ≡ true → IsWeighed texts (unrefused exit.no_memory)
