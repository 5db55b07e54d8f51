-- The reader comes to the first fault that the relation says, or, if no condition holds at any
-- line, to the answer that the lines make. For Agrees and Ends; Ends says what that answer is.
use Rattle.std.proofs.Common.{◌≡◌, ℕ, ◌+◌, ◌≤◌, Bool, true, false, cond, not, ◌||◌, ltb, List, [], ◌∷◌, ◌++◌, length, filter, Option, Some, None, Err, ◌⊎◌, inl, inr, refl, ap, sym, ◌∙◌, arith}
use Rattle.std.specs.Option.{is_none}
use Rattle.std.specs.List.{list_any}
use Rattle.std.proofs.lemmas.Bool.{ltb-true}
use Rattle.std.proofs.lemmas.List.{length-append}
use Rattle.std.proofs.lemmas.List.Elements.{filter-append}
use Rattle.std.proofs.lemmas.List.Folds.{list_any-append}
use Rattle.nc_number.proofs.Bools.{or_false, or_true}
use Rattle.nc_text.specs.declared.fault.TextFault.{TextFault}
use Rattle.line_text.specs.declared.refusal.Refusal.{Refusal}
use Rattle.line_text.specs.declared.refusal.Refusal.TheVariants.{NoProgramNumber, TapeTooLong, WordRange}
use Rattle.nc_text.specs.declared.tape.Program.{Program}
use Rattle.line_text.specs.declared.said.Said.{Said}
use Rattle.line_text.specs.declared.said.Said.TheVariants as said
use Rattle.line_text.specs.Refusals.{refusal_number}
use Rattle.nc_text.specs.Lines.{Line, size_of}
use Rattle.nc_text.specs.Tape.{Before, Answer, fault_behind, next, with_said, unless_refused, goes_on, after_line, answer_at_end, answer_without_end, not_begun, tape_begun, in_rest, in_body, in_leader, is_said_in_range, is_block, nothing_read}
use Rattle.tape_relation.specs.Parts.{size, begins_percent, has_percent, behind_percent, is_closed}
use Rattle.tape_relation.proofs.LineRead.{says, says_block, is_something, says_something}
use Rattle.tape_relation.specs.Conditions.{Counts, Holds, NoneHolds}
use Rattle.tape_relation.specs.Relation.{IsFirstFault}
use Rattle.tape_relation.proofs.Fronts.{has_more, has_last, behind_more, behind_last, behind_none, size_last, length_last}
use Rattle.tape_relation.proofs.LeastNumber.{order, first_of, Tells, tells_least, tells_none}
use Rattle.tape_relation.proofs.Places.{none_left, none_more, fault_here, fault_later}
use Rattle.tape_relation.proofs.Steps.{Stands, Inside, outer_test, outer_tells, percent_test, percent_tells, body_test, body_tells, body_step, counts_here}

-- what a line says does not change the number of lines that were read
said_lines : (before : Before) (s : Said) → (with_said before s).lines ≡ before.lines
said_lines before said.Nothing = refl
said_lines before (said.Program None) = refl
said_lines before (said.Program (Some number)) = refl
said_lines before (said.Block block) = refl

-- what a line says does not change the number of bytes that were read
said_bytes : (before : Before) (s : Said) → (with_said before s).bytes ≡ before.bytes
said_bytes before said.Nothing = refl
said_bytes before (said.Program None) = refl
said_bytes before (said.Program (Some number)) = refl
said_bytes before (said.Block block) = refl

-- Bit n of `skips` is switch n.
module _ (skips : ℕ) where
  -- the answer from a line of the body on, if no line is refused
  abbrev pub body_end : List Line → Before → Answer
  body_end [] before = answer_without_end before
  body_end (line ∷ lines) before = cond (begins_percent line) (answer_at_end before) (body_end lines (next (with_said before (says skips line)) (length line.bytes) line.ended))

  -- the answer from a line before the first `%` line on, if no line is refused
  abbrev pub leader_end : List Line → Before → Answer
  leader_end [] before = not_begun
  leader_end (line ∷ lines) before =
      cond (begins_percent line) (body_end lines (tape_begun (next before (length line.bytes) line.ended))) (leader_end lines (next before (length line.bytes) line.ended))

  -- no condition holds and the answer is the one that is due, or the answer is the first fault
  abbrev pub Comes : List Line → List Line → Answer → Answer → Type 0
  Comes front lines answer due = (NoneHolds skips front lines × (answer ≡ due)) ⊎ ((fault : TextFault) × IsFirstFault skips front lines fault × (answer ≡ Err fault))

  -- if no condition holds at a line, the first fault of the lines after it is that of all
  comes_later : (front lines : List Line) (line : Line) (answer due : Answer) → ((r : Refusal) → Holds skips front line r → ⊥) → Comes (front ++ line ∷ []) lines answer due → Comes front (line ∷ lines) answer due
  comes_later front lines line answer due here (inl is) = inl (none_more skips front lines line here is.0, is.1)
  comes_later front lines line answer due here (inr (fault, is, e)) = inr (fault, fault_later skips front lines line fault here is, e)

  -- at one line, the least refusal that the test finds is the first fault; if it finds none, the
  -- rest decides
  one_step : (front lines : List Line) (line : Line) (before after : Before) (test : Refusal → Bool) (rest : Before → Answer) (due : Answer) → before.lines ≡ length front → Tells skips front line test
      → (found : Option Refusal) → first_of test order ≡ found → (found ≡ None → Comes (front ++ line ∷ []) lines (rest after) due)
      → Comes front (line ∷ lines) (goes_on before (unless_refused found after) rest) due
  one_step front lines line before after test rest due at tells None e later = comes_later front lines line (rest after) due (tells_none skips front line test tells e) (later refl)
  one_step front lines line before after test rest due at tells (Some r) e later =
      inr (fault_behind before r, fault_here skips front lines line r (fault_behind before r) (tells_least skips front line test r tells e) (ap (λ (n : ℕ). record { number = refusal_number r; line = n + 1 }) at), refl)

  -- after a line that is not past the longest tape, the counts of lines and bytes still fit
  stands_next : (front : List Line) (line : Line) (before after : Before) → Stands front before → after.lines ≡ before.lines → after.bytes ≡ before.bytes → (Holds skips front line TapeTooLong → ⊥)
      → Stands (front ++ line ∷ []) (next after (length line.bytes) line.ended)
  stands_next front line before after stands lines-are bytes-are fits = record {
    lines_are = ap (λ (n : ℕ). n + 1) (lines-are ∙ stands.lines_are) ∙ sym (length_last front line);
    bytes_are = ap (λ (n : ℕ). n + size_of (length line.bytes) line.ended) (bytes-are ∙ stands.bytes_are) ∙ sym (size_last front line);
    few = within (ltb 4194304 (size (front ++ line ∷ []))) refl;
  }
    where
      within : (b : Bool) → ltb 4194304 (size (front ++ line ∷ [])) ≡ b → size (front ++ line ∷ []) ≤ 4194304
      within true e = absurd (fits (stands.few, ltb-true 4194304 (size (front ++ line ∷ [])) e))
      within false e = not_less 4194304 (size (front ++ line ∷ [])) e
        where
          not_less : (n m : ℕ) → ltb n m ≡ false → m ≤ n
          not_less n m off = grind arith

  -- The next two: lines with both `%` lines have them with more lines too, and no line after them
  -- counts.
  closed_more : (front more : List Line) → is_closed front ≡ true → is_closed (front ++ more) ≡ true
  closed_more front more e = go (has_percent front) refl
    where
      go : (b : Bool) → has_percent front ≡ b → is_closed (front ++ more) ≡ true
      go true has = ap has_percent (behind_more front more has) ∙ has_more (behind_percent front) more e
      go false has = let bad : false ≡ true = sym (ap has_percent (behind_none front has)) ∙ e in absurd cc

  not_in_rest : (front : List Line) (line : Line) → is_closed front ≡ true → Counts front line → ⊥
  not_in_rest front line e counts = let bad : true ≡ false = sym e ∙ counts.1 in absurd cc

  -- after the second `%` line the reader comes to the first fault, or to the end of the tape
  rest_comes : (lines front : List Line) (before : Before) → Stands front before → is_closed front ≡ true → Comes front lines (in_rest lines before) (answer_at_end before)
  rest_comes [] front before stands closed = inl (none_left skips front, refl)
  rest_comes (line ∷ lines) front before stands closed =
      let tells = outer_tells skips front line before stands (not_in_rest front line closed) in
      one_step front lines line before (next before (length line.bytes) line.ended) (outer_test before line) (in_rest lines) (answer_at_end before) stands.lines_are tells (first_of (outer_test before line) order) refl
      (λ none. rest_comes lines (front ++ line ∷ []) (next before (length line.bytes) line.ended)
      (stands_next front line before before stands refl refl (tells_none skips front line (outer_test before line) tells none TapeTooLong)) (closed_more front (line ∷ []) closed))

  -- after a line of the body, the counts of blocks and programs still fit what was said
  said_next : (front : List Line) (line : Line) (before : Before) (s : Said) → says skips line ≡ s → Inside skips front before → (is_block s ≡ true → is_none before.current ≡ false) → is_said_in_range s ≡ true
      → ((with_said before s).blocks ≡ length (filter (says_block skips) (behind_percent front ++ line ∷ [])))
      × (is_none (with_said before s).current ≡ not (list_any (says_something skips) (behind_percent front ++ line ∷ [])))
  said_next front line before s is inside some range =
      rw (filter-append (says_block skips) (behind_percent front) (line ∷ []), length-append (filter (says_block skips) (behind_percent front)) (filter (says_block skips) (line ∷ [])), list_any-append (says_something skips) (behind_percent front) (line ∷ []), is)
      (go s before.current inside.none_is some range)
    where
      body : List Line
      body = behind_percent front

      go : (t : Said) (current : Option Program) → is_none current ≡ not (list_any (says_something skips) body) → (is_block t ≡ true → is_none current ≡ false) → is_said_in_range t ≡ true
          → ((with_said (record before { current = current }) t).blocks ≡ length (filter (says_block skips) body) + length (cond (is_block t) (line ∷ []) []))
          × (is_none (with_said (record before { current = current }) t).current ≡ not (list_any (says_something skips) body || (is_something t || false)))
      go said.Nothing current e p r = let b = inside.blocks_are in (omega arith, e ∙ ap not (sym (or_false (list_any (says_something skips) body))))
      go (said.Program None) current e p r = absurd cc
      go (said.Program (Some n)) current e p r = let b = inside.blocks_are in (omega arith, ap not (sym (or_true (list_any (says_something skips) body))))
      go (said.Block block) None e p r = let bad : true ≡ false = p refl in absurd cc
      go (said.Block block) (Some program) e p r = let b = inside.blocks_are in (omega arith, ap not (sym (or_true (list_any (says_something skips) body))))

  -- after a line of the body at which no condition holds, the next one stands in the body with what
  -- was said
  inside_next : (front : List Line) (line : Line) (before : Before) → Inside skips front before → begins_percent line ≡ false → ((r : Refusal) → body_test skips before line r ≡ true → ⊥)
      → Inside skips (front ++ line ∷ []) (next (with_said before (says skips line)) (length line.bytes) line.ended)
  inside_next front line before inside other none =
      let body : behind_percent (front ++ line ∷ []) ≡ behind_percent front ++ line ∷ [] = behind_more front (line ∷ []) inside.opened in
      let said = said_next front line before (says skips line) refl inside (λ is. some (is_none before.current) refl is) (range (is_said_in_range (says skips line)) refl) in record {
        opened = has_more front (line ∷ []) inside.opened;
        not_closed = ap has_percent body ∙ has_last (behind_percent front) line inside.not_closed ∙ ap (λ (b : Bool). b || false) other;
        blocks_are = said.0 ∙ ap (λ (ls : List Line). length (filter (says_block skips) ls)) (sym body);
        none_is = said.1 ∙ ap (λ (ls : List Line). not (list_any (says_something skips) ls)) (sym body);
      }
    where
      some : (b : Bool) → is_none before.current ≡ b → says_block skips line ≡ true → is_none before.current ≡ false
      some true e is = absurd (none NoProgramNumber (rw (is, e) refl))
      some false e is = e

      range : (b : Bool) → is_said_in_range (says skips line) ≡ b → is_said_in_range (says skips line) ≡ true
      range true e = e
      range false e = absurd (none WordRange (rw e refl))

  -- The next two: in the body the reader comes to the first fault, or to the answer that the lines
  -- make.
  body_first : (test : Bool) (lines front : List Line) (line : Line) (before : Before) → begins_percent line ≡ test → Stands front before → Inside skips front before
      → (Stands (front ++ line ∷ []) (next (with_said before (says skips line)) (length line.bytes) line.ended) → Inside skips (front ++ line ∷ []) (next (with_said before (says skips line)) (length line.bytes) line.ended)
      → Comes (front ++ line ∷ []) lines (in_body skips lines (next (with_said before (says skips line)) (length line.bytes) line.ended)) (body_end lines (next (with_said before (says skips line)) (length line.bytes) line.ended)))
      → Comes front (line ∷ lines) (cond test (goes_on before (unless_refused (first_of (percent_test before line) order) (next before (length line.bytes) line.ended)) (in_rest lines)) (goes_on before (after_line skips before line.bytes line.ended) (in_body skips lines)))
      (cond test (answer_at_end before) (body_end lines (next (with_said before (says skips line)) (length line.bytes) line.ended)))
  body_first true lines front line before is stands inside later =
      let tells = percent_tells skips front line before stands (counts_here skips front line before inside) is in
      one_step front lines line before (next before (length line.bytes) line.ended) (percent_test before line) (in_rest lines) (answer_at_end before) stands.lines_are tells (first_of (percent_test before line) order) refl
      (λ none. rest_comes lines (front ++ line ∷ []) (next before (length line.bytes) line.ended)
      (stands_next front line before before stands refl refl (tells_none skips front line (percent_test before line) tells none TapeTooLong))
      (ap has_percent (behind_more front (line ∷ []) inside.opened) ∙ has_last (behind_percent front) line inside.not_closed ∙ ap (λ (b : Bool). b || false) is))
  body_first false lines front line before is stands inside later =
      let tells = body_tells skips front line before stands inside is in
      let after = next (with_said before (says skips line)) (length line.bytes) line.ended in
      rw (body_step skips before line)
      (one_step front lines line before after (body_test skips before line) (in_body skips lines) (body_end lines after) stands.lines_are tells (first_of (body_test skips before line) order) refl
      (λ none. later (stands_next front line before (with_said before (says skips line)) stands (said_lines before (says skips line)) (said_bytes before (says skips line)) (tells_none skips front line (body_test skips before line) tells none TapeTooLong))
      (inside_next front line before inside is (λ r e. tells_none skips front line (body_test skips before line) tells none r (tells.holds r e)))))

  body_comes : (lines front : List Line) (before : Before) → Stands front before → Inside skips front before → Comes front lines (in_body skips lines before) (body_end lines before)
  body_comes [] front before stands inside = inl (none_left skips front, refl)
  body_comes (line ∷ lines) front before stands inside =
      body_first (begins_percent line) lines front line before refl stands inside (body_comes lines (front ++ line ∷ []) (next (with_said before (says skips line)) (length line.bytes) line.ended))

  -- the step before the first `%` line, whether or not this line is it
  leader_first : (test : Bool) (lines front : List Line) (line : Line) (before : Before) → begins_percent line ≡ test → Stands front before → has_percent front ≡ false → before.blocks ≡ 0 → before.current ≡ None
      → (Stands (front ++ line ∷ []) (next before (length line.bytes) line.ended) → has_percent (front ++ line ∷ []) ≡ false
      → Comes (front ++ line ∷ []) lines (in_leader skips lines (next before (length line.bytes) line.ended)) (leader_end lines (next before (length line.bytes) line.ended)))
      → Comes front (line ∷ lines) (cond test (goes_on before (unless_refused (first_of (percent_test before line) order) (next before (length line.bytes) line.ended)) (λ after. in_body skips lines (tape_begun after)))
      (goes_on before (unless_refused (first_of (outer_test before line) order) (next before (length line.bytes) line.ended)) (in_leader skips lines)))
      (cond test (body_end lines (tape_begun (next before (length line.bytes) line.ended))) (leader_end lines (next before (length line.bytes) line.ended)))
  leader_first true lines front line before is stands closed no_blocks no_program later =
      let opened : has_percent (front ++ line ∷ []) ≡ true = has_last front line closed ∙ ap (λ (b : Bool). b || false) is in
      let counts : Counts front line = (opened, ap has_percent (behind_none front closed)) in
      let tells = percent_tells skips front line before stands counts is in
      let after = next before (length line.bytes) line.ended in
      let body : behind_percent (front ++ line ∷ []) ≡ [] = behind_last front line closed in
      one_step front lines line before after (percent_test before line) (λ a. in_body skips lines (tape_begun a)) (body_end lines (tape_begun after)) stands.lines_are tells (first_of (percent_test before line) order) refl
      (λ none.
      let next-stands = stands_next front line before before stands refl refl (tells_none skips front line (percent_test before line) tells none TapeTooLong) in
      body_comes lines (front ++ line ∷ []) (tape_begun after) (record { lines_are = next-stands.lines_are; bytes_are = next-stands.bytes_are; few = next-stands.few }) (record {
        opened = opened;
        not_closed = ap has_percent body;
        blocks_are = no_blocks ∙ ap (λ (ls : List Line). length (filter (says_block skips) ls)) (sym body);
        none_is = ap is_none no_program ∙ ap (λ (ls : List Line). not (list_any (says_something skips) ls)) (sym body);
      }))
  leader_first false lines front line before is stands closed no_blocks no_program later =
      let leader : has_percent (front ++ line ∷ []) ≡ false = has_last front line closed ∙ ap (λ (b : Bool). b || false) is in
      let tells = outer_tells skips front line before stands (λ counts. let bad : false ≡ true = sym leader ∙ counts.0 in absurd cc) in
      let after = next before (length line.bytes) line.ended in
      one_step front lines line before after (outer_test before line) (in_leader skips lines) (leader_end lines after) stands.lines_are tells (first_of (outer_test before line) order) refl
      (λ none. later (stands_next front line before before stands refl refl (tells_none skips front line (outer_test before line) tells none TapeTooLong)) leader)

  -- before the first `%` line the reader comes to the first fault, or to the answer that the lines
  -- make
  pub leader_comes : (lines front : List Line) (before : Before) → Stands front before → has_percent front ≡ false → before.blocks ≡ 0 → before.current ≡ None → Comes front lines (in_leader skips lines before) (leader_end lines before)
  leader_comes [] front before stands closed no_blocks no_program = inl (none_left skips front, refl)
  leader_comes (line ∷ lines) front before stands closed no_blocks no_program =
      leader_first (begins_percent line) lines front line before refl stands closed no_blocks no_program
      (λ s c. leader_comes lines (front ++ line ∷ []) (next before (length line.bytes) line.ended) s c no_blocks no_program)

  -- from the first line of a text on, the reader comes to the first fault, or to the answer that
  -- the lines make
  pub text_comes : (lines : List Line) → Comes [] lines (in_leader skips lines nothing_read) (leader_end lines nothing_read)
  text_comes lines = leader_comes lines [] nothing_read (record { lines_are = refl; bytes_are = refl; few = omega arith }) refl refl refl
