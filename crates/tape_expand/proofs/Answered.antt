-- What a call answers is what the definition in specs/Expansion answers. For the proofs of
-- src/expand.rt.
use Rattle.std.proofs.Common.{◌≡◌, ℕ, Bool, List, All, Result, Ok, Err, ap, sym, ◌∙◌, subst}
use Rattle.std.proofs.lemmas.List.Elements.{All-weaker}
use Rattle.nc_number.specs.declared.fault.Failing.{Failing}
use Rattle.nc_number.specs.declared.fault.Failing.TheVariants.{Fault, NoMemory}
use Rattle.nc_number.specs.Answers.{Fails}
use Rattle.nc_text.specs.declared.fault.TextFault.{TextFault}
use Rattle.nc_text.specs.declared.tape.Program.{Program}
use Rattle.nc_text.specs.Tape.{tape_of}
use Rattle.cycle_form.specs.declared.fault.CycleFault.{CycleFault}
use Rattle.cycle_form.specs.Marks.{marks_of}
use Rattle.cycle_form.specs.Parts.{PartView, IsSoundPart, IsClearPart}
use Rattle.tape_expand.specs.declared.fault.ExpandFault.{ExpandFault}
use Rattle.tape_expand.specs.declared.fault.ExpandFault.TheVariants.{Unreadable, Cycle}
use Rattle.tape_expand.specs.Expansion.{sized_by, sized_parts, parts_of_cycles, parts_of_tape, parts_in, expanded_lines, AreClearParts}

-- a text that is no tape fails for its refusal as a text
pub text_fails : (error : Failing TextFault) (fault : TextFault) (text : List ℕ) (tape : Result (List Program) TextFault) → error ≡ Fault fault → Fails error tape
    → parts_of_tape text tape ≡ Err (Unreadable fault)
text_fails error fault text tape is fails = ap (parts_of_tape text) (subst (λ e. Fails e tape) is fails)

-- a tape with a bad cycle fails for the refusal of that cycle
pub cycle_fails : (error : Failing CycleFault) (fault : CycleFault) (parts : Result (List PartView) CycleFault) → error ≡ Fault fault → Fails error parts
    → parts_of_cycles parts ≡ Err (Cycle fault)
cycle_fails error fault parts is fails = ap parts_of_cycles (subst (λ e. Fails e parts) is fails)

-- if the parts of a tape fail, so do its parts with their size judged
pub parts_fail : (n : ℕ) (due : Result (List PartView) CycleFault) (error : Failing CycleFault) → Fails error due → Fails error (sized_by n due)
parts_fail n due (Fault f) e = ap (sized_by n) e
parts_fail n due NoMemory e = tt

-- the parts by the marks that the code has are those by the marks of the text
pub marked : (text : List ℕ) (marks items : List Bool) (tape : List Program) → marks ≡ items → items ≡ marks_of text
    → parts_of_cycles (sized_parts marks tape) ≡ parts_of_cycles (sized_parts (marks_of text) tape)
marked text marks items tape is items_is = ap (λ m. parts_of_cycles (sized_parts m tape)) (is ∙ items_is)

-- a call that fails as one answer says fails as an equal answer says
pub same_fails : (error : Failing ExpandFault) (due other : Result (List PartView) ExpandFault) → due ≡ other → Fails error due → Fails error other
same_fails error due other is fails = subst (λ d. Fails error d) is fails

-- if a text reads as this tape, its parts are those of the tape
pub of_text : (text : List ℕ) (tape slice : List Program) → slice ≡ tape → tape_of 0 text ≡ Ok tape → parts_in text ≡ parts_of_cycles (sized_parts (marks_of text) slice)
unfolding parts_in
of_text text tape slice is e = ap (parts_of_tape text) e ∙ ap (λ t. parts_of_cycles (sized_parts (marks_of text) t)) (sym is)

-- if the parts by the reading of a text fail, as of a text that is no tape, so do the parts of the
-- text
pub of_no_tape : (text : List ℕ) (error : Failing ExpandFault) → Fails error (parts_of_tape text (tape_of 0 text)) → Fails error (parts_in text)
unfolding parts_in
of_no_tape text error fails = fails

-- if the parts of a text fail, so does its expansion
pub nothing_written : (text : List ℕ) (due : Result (List PartView) ExpandFault) (error : Failing ExpandFault) → Fails error due → Fails error (expanded_lines text due)
nothing_written text due (Fault f) e = ap (expanded_lines text) e
nothing_written text due NoMemory e = tt

-- parts that are sound are clear: their blocks never enter the contour
pub clear_parts : (due : Result (List PartView) ExpandFault) (parts : List PartView) → due ≡ Ok parts → ((part : PartView) → IsSoundPart part → IsClearPart part)
    → All IsSoundPart parts → AreClearParts due
clear_parts due parts is clear sound = subst AreClearParts (sym is) (All-weaker IsSoundPart IsClearPart clear parts sound)
