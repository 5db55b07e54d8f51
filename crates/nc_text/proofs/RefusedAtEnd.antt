-- A tape's text that a reader refuses in `feed`, whatever follows, has this refusal as its answer.
use Rattle.std.proofs.Common.{ℕ, List, [], ◌++◌, sym, ◌∙◌, ap}
use Rattle.std.proofs.lemmas.List.{append-nil}
use Rattle.nc_number.specs.declared.fault.Failing.{Failing}
use Rattle.nc_number.specs.declared.fault.Failing.TheVariants.{Fault, NoMemory}
use Rattle.nc_number.specs.Answers.{Fails}
use Rattle.nc_text.specs.declared.fault.TextFault.{TextFault}
use Rattle.nc_text.specs.Reading.{FaultIs, IsRefused}
use Rattle.nc_text.specs.Tape.{tape_of}

-- if a text is refused whatever follows, its answer is that refusal; out of memory claims nothing
pub refused_at_end : (skips : ℕ) (text : List ℕ) (error : Failing TextFault) → FaultIs error (λ fault. IsRefused skips ([] ++ text) fault)
    → Fails error (tape_of skips text)
refused_at_end skips text (Fault fault) refused = ap (λ xs. tape_of skips xs) (sym (append-nil text)) ∙ refused []
refused_at_end skips text NoMemory refused = tt
