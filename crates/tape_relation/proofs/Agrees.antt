-- nc_text's definition of reading and the relation agree: a text has the tape or the fault that the
-- relation says. For the law `the_reader_reads_the_relation` (src/law.rt).
use Rattle.std.proofs.Common.{◌≡◌, ℕ, ◌+◌, Bool, true, false, cond, ◌||◌, List, [], ◌∷◌, ◌++◌, length, Ok, Err, ◌⊎◌, inl, inr, refl, ap, sym, subst, ◌∙◌, arith}
use Rattle.std.specs.List.{list_all, list_any}
use Rattle.std.proofs.lemmas.List.Folds.{list_all-append}
use Rattle.std.proofs.lemmas.List.{length-append}
use Rattle.nc_number.proofs.Bools.{both}
use Rattle.nc_text.specs.declared.fault.TextFault.{TextFault}
use Rattle.line_text.specs.declared.refusal.Refusal.TheVariants.{NoProgramNumber, NoEnd}
use Rattle.nc_text.specs.declared.tape.Program.{Program}
use Rattle.nc_text.specs.Lines.{Line, lines_of}
use Rattle.nc_text.specs.Tape.{Before, Answer, next, tape_begun, not_begun, in_leader, nothing_read, tape_of}
use Rattle.tape_relation.specs.Parts.{begins_percent, has_percent, before_percent, behind_percent, body_of, is_closed, opening_line}
use Rattle.tape_relation.proofs.LineRead.{says_something, says_in_range, SayPrograms}
use Rattle.tape_relation.proofs.LineSays.{silent_read, silent_found}
use Rattle.tape_relation.proofs.ProgramsSay.{programs_found}
use Rattle.tape_relation.specs.Conditions.{NoneHolds}
use Rattle.tape_relation.specs.Relation.{fault_at, IsFaultOf, IsTapeOf, IsTape, IsFault}
use Rattle.tape_relation.proofs.LinesOf.{own_lines, lines_are}
use Rattle.tape_relation.proofs.Fronts.{has_last, behind_none, behind_last}
use Rattle.tape_relation.proofs.Places.{none_behind}
use Rattle.tape_relation.proofs.FirstFault.{body_end, leader_end, text_comes, Comes}
use Rattle.tape_relation.proofs.Ends.{ranges, IsBehind, ended_by, Begins, SaysNone, starts}
use Rattle.tape_relation.proofs.OneAnswer.{one_tape, one_fault, not_both, body_said}

-- the parts of lines of which one begins with `%`, and what was read when the lines of the programs
-- begin
record Opened (skips : ℕ) (lines : List Line) (before : Before) : Type 0 where
  -- the first line that begins with `%`
  opening : Line
  -- what was read up to that line, and with it
  there : Before
  -- the lines are those before it, that line, and those after it
  lines_are : lines ≡ (before_percent lines ++ opening ∷ []) ++ behind_percent lines
  -- that line begins with `%`
  is_percent : begins_percent opening ≡ true
  -- no line before it does
  leader_is : has_percent (before_percent lines) ≡ false
  -- the answer from the first line on is the answer from the body on
  ends : leader_end skips lines before ≡ body_end skips (behind_percent lines) there
  -- the lines up to that one, and with it, were read
  count : there.lines ≡ before.lines + length (before_percent lines) + 1
  -- the number of that line is kept as that of the first `%` line
  percent_is : there.percent ≡ there.lines
  -- the program that is being read, if any, is as before
  current_is : there.current ≡ before.current
  -- the programs that are done are as before
  done_is : there.done ≡ before.done

-- If the lines after one more leader line are opened, so are all; and if that line begins with `%`,
-- the body begins after it.
opened_first : (test : Bool) (skips : ℕ) (line : Line) (lines : List Line) (before : Before) → begins_percent line ≡ test → (test || has_percent lines) ≡ true
    → (has_percent lines ≡ true → Opened skips lines (next before (length line.bytes) line.ended)) → Opened skips (line ∷ lines) before
opened_first true skips line lines before t e later = record {
  opening = line;
  there = tape_begun (next before (length line.bytes) line.ended);
  lines_are = rw t refl;
  is_percent = t;
  leader_is = rw t refl;
  ends = rw t refl;
  count = rw t (let z : before.lines + 1 ≡ before.lines + 0 + 1 = omega arith in z);
  percent_is = refl;
  current_is = refl;
  done_is = refl;
}
opened_first false skips line lines before t e later =
    let h = later e in record {
      opening = h.opening;
      there = h.there;
      lines_are = rw t (ap (λ (ls : List Line). line ∷ ls) h.lines_are);
      is_percent = h.is_percent;
      leader_is = rw (t, t) h.leader_is;
      ends = rw t h.ends;
      count = rw t (let c = h.count in omega arith);
      percent_is = h.percent_is;
      current_is = h.current_is;
      done_is = h.done_is;
    }

-- lines of which one begins with `%` have these parts
opened : (skips : ℕ) (lines : List Line) (before : Before) → has_percent lines ≡ true → Opened skips lines before
opened skips [] before e = absurd cc
opened skips (line ∷ lines) before e = opened_first (begins_percent line) skips line lines before refl e (opened skips lines (next before (length line.bytes) line.ended))

-- before lines without a `%` line, one more line of the leader leaves the answer that no tape has
-- begun
closed_first : (test : Bool) (skips : ℕ) (line : Line) (lines : List Line) (before : Before) → (test || has_percent lines) ≡ false → (has_percent lines ≡ false → leader_end skips lines (next before (length line.bytes) line.ended) ≡ not_begun)
    → cond test (body_end skips lines (tape_begun (next before (length line.bytes) line.ended))) (leader_end skips lines (next before (length line.bytes) line.ended)) ≡ not_begun
closed_first true skips line lines before e later = absurd cc
closed_first false skips line lines before e later = later e

-- lines without a `%` line have the answer that no tape has begun
no_opening : (skips : ℕ) (lines : List Line) (before : Before) → has_percent lines ≡ false → leader_end skips lines before ≡ not_begun
no_opening skips [] before e = refl
no_opening skips (line ∷ lines) before e = closed_first (begins_percent line) skips line lines before e (no_opening skips lines (next before (length line.bytes) line.ended))

-- the answer is the tape or the fault that the relation gives these lines
abbrev Due : ℕ → List Line → Answer → Type 0
Due skips lines (Ok tape) = IsTapeOf skips lines tape
Due skips lines (Err fault) = IsFaultOf skips lines fault

-- if no condition holds at any line, the reader's answer is the one that is due
due : (skips : ℕ) (lines : List Line) (answer : Answer) → NoneHolds skips [] lines → answer ≡ leader_end skips lines nothing_read → Due skips lines answer
due skips lines answer none e = at_percent (has_percent lines) refl
  where
    at_percent : (t : Bool) → has_percent lines ≡ t → Due skips lines answer
    at_percent false t =
        let P : Answer → Type 0 = Due skips lines in
        let nothing : list_any (says_something skips) (body_of lines) ≡ false = ap (λ (ls : List Line). list_any (says_something skips) (before_percent ls)) (behind_none lines t) in
        let line : 1 ≡ opening_line lines = rw t refl in
        let is : IsFaultOf skips lines (fault_at NoProgramNumber 1) = inr (none, inl (silent_found skips (body_of lines) nothing, ap (fault_at NoProgramNumber) line)) in
        subst P (sym (e ∙ no_opening skips lines nothing_read t)) is
    at_percent true t = begin (starts skips (behind_percent lines) front o.there behind (none_behind skips [] front (behind_percent lines) here) o.current_is (ap (list_any (says_something skips)) (behind_last (before_percent lines) o.opening o.leader_is)))
      where
        o : Opened skips lines nothing_read
        o = opened skips lines nothing_read t

        front : List Line
        front = before_percent lines ++ o.opening ∷ []

        behind : IsBehind front
        behind = record {
          opened = has_last (before_percent lines) o.opening o.leader_is ∙ ap (λ (b : Bool). b || false) o.is_percent;
          not_closed = ap has_percent (behind_last (before_percent lines) o.opening o.leader_is);
        }

        here : NoneHolds skips [] (front ++ behind_percent lines)
        here = let Q : List Line → Type 0 = NoneHolds skips [] in subst Q o.lines_are none

        begin : Begins skips (behind_percent lines) o.there ⊎ SaysNone skips (behind_percent lines) o.there → Due skips lines answer
        begin (inr n) =
            let P : Answer → Type 0 = Due skips lines in
            let c = o.count in
            let p = o.percent_is in
            let number : o.there.percent ≡ length (before_percent lines) + 1 = omega arith in
            let line : o.there.percent ≡ opening_line lines = rw t number in
            let is : IsFaultOf skips lines (fault_at NoProgramNumber o.there.percent) = inr (none, inl (silent_found skips (body_of lines) n.body_is, ap (fault_at NoProgramNumber) line)) in
            subst P (sym (e ∙ o.ends ∙ n.ends)) is
        begin (inl b) = close (is_closed lines) refl
          where
            programs : SayPrograms skips (length (before_percent lines) + 1 + length b.quiet) b.others b.programs
            programs =
                let Q : ℕ → Type 0 = λ k. SayPrograms skips k b.others b.programs in
                let c = o.count in
                let start : o.there.lines + length b.quiet ≡ length (before_percent lines) + 1 + length b.quiet = omega arith in subst Q start b.are

            in_range : list_all (says_in_range skips) b.others ≡ true
            in_range =
                let all : list_all (says_in_range skips) (b.quiet ++ b.others) ≡ true = ap (list_all (says_in_range skips)) (sym b.body_is) ∙ ranges skips (behind_percent lines) front behind (none_behind skips [] front (behind_percent lines) here) in
                (both (list_all (says_in_range skips) b.quiet) (list_all (says_in_range skips) b.others) (sym (list_all-append (says_in_range skips) b.quiet b.others) ∙ all)).1

            close : (closed : Bool) → is_closed lines ≡ closed → Due skips lines answer
            close true k =
                let P : Answer → Type 0 = Due skips lines in
                let is : IsTapeOf skips lines b.programs = record { none_holds = none; closed = k; some = b.some; quiet = b.quiet; others = b.others; body_is = b.body_is; quiet_is = silent_found skips b.quiet b.quiet_is; programs = programs_found skips (length (before_percent lines) + 1 + length b.quiet) b.others b.programs in_range programs } in
                let tape : ended_by (has_percent (behind_percent lines)) (o.there.done ++ b.programs) (o.there.lines + length (behind_percent lines)) ≡ Ok b.programs =
                ap (λ (z : Bool). ended_by z (o.there.done ++ b.programs) (o.there.lines + length (behind_percent lines))) k ∙ ap (λ (ps : List Program). ended_by true (ps ++ b.programs) 0) o.done_is
                in
                subst P (sym (e ∙ o.ends ∙ b.ends ∙ tape)) is
            close false k =
                let P : Answer → Type 0 = Due skips lines in
                let c = o.count in
                let all : length lines ≡ length (front ++ behind_percent lines) = ap length o.lines_are in
                let parts : length (front ++ behind_percent lines) ≡ length front + length (behind_percent lines) = length-append front (behind_percent lines) in
                let first : length front ≡ length (before_percent lines) + 1 = length-append (before_percent lines) (o.opening ∷ []) in
                let last : o.there.lines + length (behind_percent lines) ≡ length lines = omega arith in
                let there_is = body_said skips (length (before_percent lines) + 1 + length b.quiet) (body_of lines) b.quiet b.others b.programs b.some b.body_is programs in
                let is : IsFaultOf skips lines (fault_at NoEnd (o.there.lines + length (behind_percent lines))) = inr (none, inr (λ silent. let bad : true ≡ false = sym there_is ∙ silent_read skips (body_of lines) silent in absurd cc, k, ap (fault_at NoEnd) last)) in
                let end : ended_by (has_percent (behind_percent lines)) (o.there.done ++ b.programs) (o.there.lines + length (behind_percent lines)) ≡ Err (fault_at NoEnd (o.there.lines + length (behind_percent lines))) =
                ap (λ (z : Bool). ended_by z (o.there.done ++ b.programs) (o.there.lines + length (behind_percent lines))) k
                in
                subst P (sym (e ∙ o.ends ∙ b.ends ∙ end)) is

-- the reader's answer is due whether or not the lines have a first fault
comes : (skips : ℕ) (lines : List Line) (answer : Answer) → Comes skips [] lines answer (leader_end skips lines nothing_read) → Due skips lines answer
comes skips lines answer (inl (none, e)) = due skips lines answer none e
comes skips lines answer (inr (fault, first, e)) = let P : Answer → Type 0 = Due skips lines in let is : IsFaultOf skips lines fault = inl first in subst P (sym e) is

-- the reader's answer to a text is the one that is due to its lines
reads : (skips : ℕ) (text : List ℕ) → Due skips (lines_of text) (tape_of skips text)
unfolding tape_of
reads skips text = comes skips (lines_of text) (in_leader skips (lines_of text) nothing_read) (text_comes skips (lines_of text))

-- a tape that the reader gives is the tape of the relation
pub is_tape : (skips : ℕ) (text : List ℕ) (tape : List Program) → tape_of skips text ≡ Ok tape → IsTape skips text tape
is_tape skips text tape e = let P : Answer → Type 0 = Due skips (lines_of text) in (lines_of text, own_lines text, subst P e (reads skips text))

-- a fault that the reader gives is the fault of the relation
pub is_fault : (skips : ℕ) (text : List ℕ) (fault : TextFault) → tape_of skips text ≡ Err fault → IsFault skips text fault
is_fault skips text fault e = let P : Answer → Type 0 = Due skips (lines_of text) in (lines_of text, own_lines text, subst P e (reads skips text))

-- if the relation says that a text is a tape, it says so of the text's own lines
tape_due : (skips : ℕ) (text : List ℕ) (tape : List Program) → IsTape skips text tape → IsTapeOf skips (lines_of text) tape
tape_due skips text tape (lines, are, is) = let P : List Line → Type 0 = λ ls. IsTapeOf skips ls tape in subst P (sym (lines_are text lines are)) is

-- if the relation says that a text has a fault, it says so of the text's own lines
fault_due : (skips : ℕ) (text : List ℕ) (fault : TextFault) → IsFault skips text fault → IsFaultOf skips (lines_of text) fault
fault_due skips text fault (lines, are, is) = let P : List Line → Type 0 = λ ls. IsFaultOf skips ls fault in subst P (sym (lines_are text lines are)) is

-- if the relation says that lines are a tape, the answer that is due is that tape
tape_only : (skips : ℕ) (lines : List Line) (answer : Answer) (tape : List Program) → Due skips lines answer → IsTapeOf skips lines tape → answer ≡ Ok tape
tape_only skips lines (Ok other) tape given is = ap Ok (one_tape skips lines other tape given is)
tape_only skips lines (Err fault) tape given is = absurd (not_both skips lines tape fault is given)

-- if the relation says that lines have a fault, the answer that is due is that fault
fault_only : (skips : ℕ) (lines : List Line) (answer : Answer) (fault : TextFault) → Due skips lines answer → IsFaultOf skips lines fault → answer ≡ Err fault
fault_only skips lines (Ok tape) fault given is = absurd (not_both skips lines tape fault given is)
fault_only skips lines (Err other) fault given is = ap Err (one_fault skips lines other fault given is)

-- a tape of the relation is what the reader gives
pub tape_is : (skips : ℕ) (text : List ℕ) (tape : List Program) → IsTape skips text tape → tape_of skips text ≡ Ok tape
tape_is skips text tape is = tape_only skips (lines_of text) (tape_of skips text) tape (reads skips text) (tape_due skips text tape is)

-- a fault of the relation is what the reader gives
pub fault_is : (skips : ℕ) (text : List ℕ) (fault : TextFault) → IsFault skips text fault → tape_of skips text ≡ Err fault
fault_is skips text fault is = fault_only skips (lines_of text) (tape_of skips text) fault (reads skips text) (fault_due skips text fault is)
