-- A table of lines, as it takes one program after another, tells all lines of a flow together with
-- the programs that are left: for `add_program` and `table_of` (src/table.rt).
use Rattle.std.proofs.Common.{◌≡◌, ◌==◌, ℕ, zero, suc, ◌+◌, ◌<◌, ◌⊎◌, inl, inr, true, false, List, [], ◌∷◌, length, drop, get_or, Option, Some, None, is_some, slice_get, refl, ap, sym, subst, ◌∙◌, arith}
use Rattle.std.proofs.lemmas.Bool.{eq-eqb, ne_eqb}
use Rattle.std.proofs.Math.Seq.{drop-cons}
use Rattle.block_forms.specs.declared.block.FlowBlock.{FlowBlock}
use Rattle.tape_flow.specs.declared.flow.Flow.{Flow}
use Rattle.tape_flow.specs.declared.program.FlowProgram.{FlowProgram}
use Rattle.tape_flow.specs.Places.{flow_program, flow_blocks}
use Rattle.race_report.specs.declared.sought.Sought.{Sought}
use Rattle.race_report.specs.declared.table.LineTable.{LineTable}
use Rattle.race_report.specs.declared.table.ProgramLines.{ProgramLines}
use Rattle.race_report.specs.Lines.{block_line, sought_line}
use Rattle.race_report.specs.Tables.{kept_lines, line_at, lines_of, told_or, IsToldWith}

-- the lines of a program have at each place that of its block, if it does what is looked for
lines_at : (sought : Sought) (v : ℕ) (blocks : List FlowBlock) (place : ℕ)
    → line_at (lines_of sought v blocks) place ≡ block_line sought v (slice_get blocks place)
lines_at sought v [] place = refl
lines_at sought v (b ∷ blocks) zero = refl
lines_at sought v (b ∷ blocks) (suc place) = lines_at sought v blocks place

-- a search for another O number than the first program's passes it
other_program : (p : FlowProgram) (rest : List FlowProgram) (q : ℕ) → (q ≡ p.number → ⊥) → flow_program (p ∷ rest) q ≡ flow_program rest q
other_program p rest q other = let apart : (p.number == q) ≡ false = ne_eqb p.number q (λ e. other (sym e)) in rw apart refl

-- a search for the first program's O number finds it
same_program : (p : FlowProgram) (rest : List FlowProgram) → flow_program (p ∷ rest) p.number ≡ Some p
same_program p rest = let same : (p.number == p.number) ≡ true = eq-eqb p.number p.number refl in rw same refl

-- two numbers are the same or not
same_or_not : (m n : ℕ) → (m ≡ n) ⊎ (m ≡ n → ⊥)
same_or_not m n = grind arith

-- if the table has lines of this O number already, the table and the rest tell all lines
pub told_again : (flow : Flow) (sought : Sought) (v : ℕ) (table : LineTable) (p : FlowProgram) (rest : List FlowProgram)
    → is_some (kept_lines table p.number) ≡ true → IsToldWith flow sought v table (p ∷ rest) → IsToldWith flow sought v table rest
told_again flow sought v table p rest known so q place = go (kept_lines table q) refl (so q place)
  where
    go : (o : Option ProgramLines) → kept_lines table q ≡ o
        → told_or sought v (kept_lines table q) (flow_program (p ∷ rest) q) place ≡ sought_line flow sought v q place
        → told_or sought v (kept_lines table q) (flow_program rest q) place ≡ sought_line flow sought v q place
    go (Some lines) e before = rw e (rw e at before)
    go None e before =
        let other : q ≡ p.number → ⊥ = λ same.
        (let told : is_some (kept_lines table q) ≡ true = subst (λ k. is_some (kept_lines table k) ≡ true) (sym same) known in
        let none : is_some (kept_lines table q) ≡ false = ap is_some e in absurd cc) in
        subst (λ f. told_or sought v (kept_lines table q) f place ≡ sought_line flow sought v q place) (other_program p rest q other) before

-- if the lines of a program are kept, the table and the rest tell all lines
pub told_more : (flow : Flow) (sought : Sought) (v : ℕ) (old new : LineTable) (p : FlowProgram) (rest : List FlowProgram) (lines : ProgramLines)
    → is_some (kept_lines old p.number) ≡ false → lines.lines.items ≡ lines_of sought v p.blocks
    → kept_lines new p.number ≡ Some lines
    → ((q : ℕ) → (q ≡ p.number → ⊥) → kept_lines new q ≡ kept_lines old q)
    → IsToldWith flow sought v old (p ∷ rest) → IsToldWith flow sought v new rest
told_more flow sought v old new p rest lines unknown are kept others so q place = go (same_or_not q p.number)
  where
    here : (o : Option ProgramLines) → kept_lines old p.number ≡ o → is_some o ≡ false
        → told_or sought v (kept_lines old p.number) (flow_program (p ∷ rest) p.number) place ≡ sought_line flow sought v p.number place
        → told_or sought v (kept_lines new p.number) (flow_program rest p.number) place ≡ sought_line flow sought v p.number place
    here (Some some) e none before = absurd cc
    here None e none before =
        rw kept (ap (λ xs. line_at xs place) are ∙ (lines_at sought v p.blocks place
        ∙ (ap (λ f. block_line sought v (slice_get (flow_blocks f) place)) (sym (same_program p rest)) ∙ (rw e at before))))

    go : (q ≡ p.number) ⊎ (q ≡ p.number → ⊥)
        → told_or sought v (kept_lines new q) (flow_program rest q) place ≡ sought_line flow sought v q place
    go (inl e) =
        subst (λ k. told_or sought v (kept_lines new k) (flow_program rest k) place ≡ sought_line flow sought v k place) (sym e)
        (here (kept_lines old p.number) refl unknown (so p.number place))
    go (inr other) =
        ap (λ o. told_or sought v o (flow_program rest q) place) (others q other)
        ∙ (ap (λ f. told_or sought v (kept_lines old q) f place) (sym (other_program p rest q other)) ∙ so q place)

-- the programs that are left from place i on begin with the one at that place
told_at : (flow : Flow) (sought : Sought) (v : ℕ) (table : LineTable) (programs : List FlowProgram) (i : ℕ) (d : FlowProgram)
    → i < length programs → IsToldWith flow sought v table (drop i programs)
    → IsToldWith flow sought v table (get_or programs i d ∷ drop (i + 1) programs)
told_at flow sought v table programs i d within so =
    let next : suc i ≡ i + 1 = omega arith in
    subst (IsToldWith flow sought v table) (drop-cons programs i d within ∙ ap (λ k. get_or programs i d ∷ drop k programs) next) so

-- the programs that are left begin with the one that the loop has at hand
pub told_item : (flow : Flow) (sought : Sought) (v : ℕ) (table : LineTable) (items : List FlowProgram) (i : ℕ) (p : FlowProgram)
    → items ≡ flow.programs → p ≡ get_or items i p → i < length items → IsToldWith flow sought v table (drop i flow.programs)
    → IsToldWith flow sought v table (p ∷ drop (i + 1) flow.programs)
told_item flow sought v table items i p same is within so =
    let at : p ≡ get_or flow.programs i p = subst (λ xs. p ≡ get_or xs i p) same is in
    let inside : i < length flow.programs = subst (λ (xs : List FlowProgram). i < length xs) same within in
    subst (λ q. IsToldWith flow sought v table (q ∷ drop (i + 1) flow.programs)) (sym at)
    (told_at flow sought v table flow.programs i p inside so)
