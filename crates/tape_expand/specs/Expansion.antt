-- The tape of a text with its roughing cycles written out: the contract of `expand_tape`
-- (src/expand.rt).
use Rattle.std.specs.Prelude.{ℕ, ⊤, Bool, List, length, All, Result, Ok, Err}
use Rattle.std.specs.List.{flat_map}
use Rattle.nc_text.specs.declared.fault.TextFault.{TextFault}
use Rattle.nc_text.specs.declared.tape.Program.{Program}
use Rattle.nc_text.specs.Lines.{lines_of}
use Rattle.nc_text.specs.Shape.{blocks_in}
use Rattle.nc_text.specs.Tape.{tape_of}
use Rattle.cycle_form.specs.declared.fault.CycleFault.{CycleFault}
use Rattle.cycle_form.specs.Marks.{marks_of}
use Rattle.cycle_form.specs.Parts.{PartView, IsClearPart}
use Rattle.cycle_form.specs.Sizes.{size_verdict}
use Rattle.cycle_form.specs.Walk.{parts_of}
use Rattle.tape_expand.specs.declared.fault.ExpandFault.{ExpandFault}
use Rattle.tape_expand.specs.declared.fault.ExpandFault.TheVariants.{Unreadable, Cycle}
use Rattle.tape_expand.specs.Replaced.{edits_of}
use Rattle.line_edits.specs.Splice.{edited_lines}

-- these parts, if the judgement on their size is that they fit; else its refusal
abbrev pub fitting_parts : List PartView → Result ⊤ CycleFault → Result (List PartView) CycleFault
fitting_parts parts (Ok done) = Ok parts
fitting_parts parts (Err fault) = Err fault

-- the parts, if no cycle was refused and a tape of so many blocks has at most 20,000 with them
-- written out; else the refusal
abbrev pub sized_by : ℕ → Result (List PartView) CycleFault → Result (List PartView) CycleFault
sized_by blocks (Ok parts) = fitting_parts parts (size_verdict blocks parts)
sized_by blocks (Err fault) = Err fault

-- the parts of a tape, if no cycle is refused and it has at most 20,000 blocks with them written
-- out; `marks` says which lines have a skip sign or a comment
abbrev pub sized_parts : List Bool → List Program → Result (List PartView) CycleFault
sized_parts marks tape = sized_by (length (blocks_in tape)) (parts_of marks tape)

-- the parts, or the refusal of a cycle
abbrev pub parts_of_cycles : Result (List PartView) CycleFault → Result (List PartView) ExpandFault
parts_of_cycles (Ok parts) = Ok parts
parts_of_cycles (Err fault) = Err (Cycle fault)

-- the parts of a text that reads as this tape, or the refusal of a text that is no tape
abbrev pub parts_of_tape : List ℕ → Result (List Program) TextFault → Result (List PartView) ExpandFault
parts_of_tape text (Ok tape) = parts_of_cycles (sized_parts (marks_of text) tape)
parts_of_tape text (Err fault) = Err (Unreadable fault)

-- The parts of a text that are written out, read with no skip switch set; or why it is refused: as
-- no tape, else for a cycle that is part of no form, else for its size.
unfoldable pub parts_in : List ℕ → Result (List PartView) ExpandFault
parts_in text = parts_of_tape text (tape_of 0 text)

-- the text with the blocks of the parts, or its refusal
abbrev pub expanded_lines : List ℕ → Result (List PartView) ExpandFault → Result (List ℕ) ExpandFault
expanded_lines text (Ok parts) = Ok (edited_lines 1 (flat_map edits_of parts) (lines_of text))
expanded_lines text (Err fault) = Err fault

-- the text in which each part gives way to its blocks, and every other line stays byte for byte; or
-- its refusal
abbrev pub expansion_of : List ℕ → Result (List ℕ) ExpandFault
expansion_of text = expanded_lines text (parts_in text)

-- nothing is refused, and no whole point on a move of the blocks of a part lies inside its contour
-- (of a G71 the one with its allowances)
abbrev pub AreClearParts : Result (List PartView) ExpandFault → Type 0
AreClearParts (Ok parts) = All IsClearPart parts
AreClearParts (Err fault) = ⊥
