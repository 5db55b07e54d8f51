-- Lines at which no condition holds are the programs of the relation, or they lack a program or
-- their end. For Agrees, from the first `%` line on.
use Rattle.std.proofs.Common.{◌≡◌, ℕ, ◌+◌, ◌<◌, Bool, true, false, ◌&&◌, ◌||◌, List, [], ◌∷◌, ◌++◌, length, Option, Some, None, Ok, Err, ◌⊎◌, inl, inr, refl, ap, sym, subst, ◌∙◌, arith, append_assoc}
use Rattle.std.specs.Option.{option_to_list}
use Rattle.std.specs.List.{list_any, list_all}
use Rattle.std.proofs.lemmas.List.{append-nil}
use Rattle.std.proofs.lemmas.List.Folds.{list_any-append}
use Rattle.line_text.specs.declared.refusal.Refusal.{Refusal}
use Rattle.line_text.specs.declared.refusal.Refusal.TheVariants.{NoProgramNumber, NoEnd, WordRange}
use Rattle.nc_text.specs.declared.tape.Block.{Block}
use Rattle.nc_text.specs.declared.tape.Program.{Program}
use Rattle.line_text.specs.declared.said.Said.{Said}
use Rattle.line_text.specs.declared.said.Said.TheVariants as said
use Rattle.line_text.specs.declared.said.SaidBlock.{SaidBlock}
use Rattle.nc_text.specs.Lines.{Line}
use Rattle.nc_text.specs.Mark.{with_blocks}
use Rattle.nc_text.specs.Tape.{Before, Answer, next, with_said, block_at, program_at, is_said_in_range, is_block}
use Rattle.tape_relation.specs.Parts.{begins_percent, has_percent, before_percent, behind_percent, is_closed}
use Rattle.tape_relation.proofs.LineRead.{says, says_program, says_something, says_in_range, blocks_on, SayPrograms}
use Rattle.tape_relation.proofs.LineSays.{block_found, silent_found, range_found}
use Rattle.tape_relation.specs.Conditions.{Holds, NoneHolds}
use Rattle.tape_relation.specs.Relation.{fault_at}
use Rattle.tape_relation.proofs.Fronts.{has_more, has_last, behind_more}
use Rattle.tape_relation.proofs.Places.{none_here, none_behind}
use Rattle.tape_relation.proofs.FirstFault.{body_end}

-- the line after these stands between the `%` lines: one of them begins with `%`, and only one
pub record IsBehind (front : List Line) : Type 0 where
  -- one of the lines begins with `%`
  pub opened : has_percent front ≡ true
  -- no second one does
  pub not_closed : is_closed front ≡ false

-- after a line that does not begin with `%`, the next one still stands between the `%` lines
behind_next : (front : List Line) (line : Line) → IsBehind front → begins_percent line ≡ false → IsBehind (front ++ line ∷ [])
behind_next front line is other = record {
  opened = has_more front (line ∷ []) is.opened;
  not_closed = ap has_percent (behind_more front (line ∷ []) is.opened) ∙ has_last (behind_percent front) line is.not_closed ∙ ap (λ (b : Bool). b || false) other;
}

-- the answer to these programs: themselves if the tape has its end, else that the end lacks, told
-- of this line
abbrev pub ended_by : Bool → List Program → ℕ → Answer
ended_by true tape last = Ok tape
ended_by false tape last = Err (fault_at NoEnd last)

-- how a text ends depends on whether it is closed, on its programs and on its last line
ended_same : (closed : Bool) (a b : List Program) (m n : ℕ) → a ≡ b → m ≡ n → ended_by closed a m ≡ ended_by closed b n
ended_same closed a b m n e f = ap (λ (ps : List Program). ended_by closed ps m) e ∙ ap (ended_by closed b) f

-- Bit n of `skips` is switch n.
module _ (skips : ℕ) where
  -- lines after the first blocks of a program: its own further lines, the programs after it, and
  -- the answer they make
  record GoesOn (lines : List Line) (before : Before) (program : Program) : Type 0 where
    -- the lines of the program that goes on, up to the next O number
    own : List Line
    -- the lines from the next O number on
    others : List Line
    -- the programs of those lines
    programs : List Program
    -- both are the lines of the body
    body_is : before_percent lines ≡ own ++ others
    -- no line of the first part says an O number
    own_is : list_any (says_program skips) own ≡ false
    -- the lines from the next O number on say these programs
    are : SayPrograms skips (before.lines + length own) others programs
    -- the answer is all these programs, with an end or without
    ends : body_end skips lines before ≡ ended_by (has_percent lines) (before.done ++ (with_blocks program (blocks_on skips before.lines own) ∷ programs)) (before.lines + length lines)

  -- lines before any program: some say nothing, then come programs, and the answer is these
  pub record Begins (lines : List Line) (before : Before) : Type 0 where
    -- the lines before the first O number
    pub quiet : List Line
    -- the lines from the first O number on
    pub others : List Line
    -- the programs of those lines
    pub programs : List Program
    -- there is at least one program
    pub some : 0 < length programs
    -- both are the lines of the body
    pub body_is : before_percent lines ≡ quiet ++ others
    -- the lines before the first O number say nothing
    pub quiet_is : list_any (says_something skips) quiet ≡ false
    -- the other lines say these programs
    pub are : SayPrograms skips (before.lines + length quiet) others programs
    -- the answer is these programs, with an end or without
    pub ends : body_end skips lines before ≡ ended_by (has_percent lines) (before.done ++ programs) (before.lines + length lines)

  -- lines before any program that say nothing at all: the answer is that no program is there
  pub record SaysNone (lines : List Line) (before : Before) : Type 0 where
    -- no line of the body says anything
    pub body_is : list_any (says_something skips) (before_percent lines) ≡ false
    -- the answer is that the tape has no program
    pub ends : body_end skips lines before ≡ Err (fault_at NoProgramNumber before.percent)

  -- what was read with one line of the body more
  abbrev after : Before → Line → Before
  after before line = next (with_said before (says skips line)) (length line.bytes) line.ended

  -- a program with no further blocks is itself
  no_blocks : (program : Program) → program ≡ with_blocks program []
  no_blocks program = ap (λ (blocks : List Block). record program { blocks = blocks }) (sym (append-nil program.blocks))

  -- a line of the body at which no condition holds has its numbers in range
  in_range : (front : List Line) (line : Line) → IsBehind front → begins_percent line ≡ false → ((r : Refusal) → Holds skips front line r → ⊥) → is_said_in_range (says skips line) ≡ true
  in_range front line is other none = go (is_said_in_range (says skips line)) refl
    where
      go : (b : Bool) → is_said_in_range (says skips line) ≡ b → is_said_in_range (says skips line) ≡ true
      go true e = e
      go false e = absurd (none WordRange (((has_more front (line ∷ []) is.opened, is.not_closed), other), range_found skips line e))

  -- each line up to the closing one is in its range
  pub ranges : (lines front : List Line) → IsBehind front → NoneHolds skips front lines → list_all (says_in_range skips) (before_percent lines) ≡ true
  ranges [] front is none = refl
  ranges (line ∷ lines) front is none = go (begins_percent line) refl (λ other. ranges lines (front ++ line ∷ []) (behind_next front line is other) (none_behind skips front (line ∷ []) lines none))
    where
      go : (t : Bool) → begins_percent line ≡ t → (begins_percent line ≡ false → list_all (says_in_range skips) (before_percent lines) ≡ true) → list_all (says_in_range skips) (before_percent (line ∷ lines)) ≡ true
      go true e later = rw e refl
      go false e later =
          let here : says_in_range skips line ≡ true = in_range front line is e (none_here skips front lines line none) in
          rw e (ap (λ (b : Bool). b && list_all (says_in_range skips) (before_percent lines)) here ∙ later e)

  -- a line that does not begin with `%` goes with the lines of the body after it
  rest_is : (line : Line) (lines own others : List Line) → begins_percent line ≡ false → before_percent lines ≡ own ++ others → before_percent (line ∷ lines) ≡ line ∷ (own ++ others)
  rest_is line lines own others other e = rw other (ap (λ (ls : List Line). line ∷ ls) e)

  -- `GoesOn` may be said of what was read with the line, if it is known what the line says
  known : (lines : List Line) (line : Line) (before : Before) (program : Program) (s : Said) → says skips line ≡ s → GoesOn lines (after before line) program → GoesOn lines (next (with_said before s) (length line.bytes) line.ended) program
  known lines line before program s is g = let P : Said → Type 0 = λ t. GoesOn lines (next (with_said before t) (length line.bytes) line.ended) program in subst P is g

  -- the answer from a line of the body on is that from the next line on
  end_is : (lines : List Line) (line : Line) (before : Before) (s : Said) (tape : List Program) → says skips line ≡ s → begins_percent line ≡ false
      → body_end skips lines (next (with_said before s) (length line.bytes) line.ended) ≡ ended_by (has_percent lines) tape ((before.lines + 1) + length lines)
      → body_end skips (line ∷ lines) before ≡ ended_by (has_percent (line ∷ lines)) tape (before.lines + length (line ∷ lines))
  end_is lines line before s tape is other e =
      let last : (before.lines + 1) + length lines ≡ before.lines + length (line ∷ lines) = omega arith in
      rw (other, is) (e ∙ ap (ended_by (has_percent lines) tape) last)

  -- The lemmas in `goes_` say that a program goes on at a line: a line that says nothing, a block,
  -- or the O number of the next program.
  goes_nothing : (lines : List Line) (line : Line) (before : Before) (program : Program) → says skips line ≡ said.Nothing → begins_percent line ≡ false → GoesOn lines (after before line) program → GoesOn (line ∷ lines) before program
  goes_nothing lines line before program is other g =
      let h = known lines line before program said.Nothing is g in
      let count : (before.lines + 1) + length h.own ≡ before.lines + length (line ∷ h.own) = omega arith in record {
        own = line ∷ h.own;
        others = h.others;
        programs = h.programs;
        body_is = rest_is line lines h.own h.others other h.body_is;
        own_is = rw is h.own_is;
        are = let P : ℕ → Type 0 = λ k. SayPrograms skips k h.others h.programs in subst P count h.are;
        ends = end_is lines line before said.Nothing (before.done ++ (with_blocks program (blocks_on skips before.lines (line ∷ h.own)) ∷ h.programs)) is other (rw is h.ends);
      }

  goes_block : (lines : List Line) (line : Line) (before : Before) (program : Program) (block : SaidBlock) → says skips line ≡ said.Block block → begins_percent line ≡ false
      → GoesOn lines (after before line) (with_blocks program (block_at (before.lines + 1) block ∷ [])) → GoesOn (line ∷ lines) before program
  goes_block lines line before program block is other g =
      let put = block_at (before.lines + 1) block in
      let h = known lines line before (with_blocks program (put ∷ [])) (said.Block block) is g in
      let count : (before.lines + 1) + length h.own ≡ before.lines + length (line ∷ h.own) = omega arith in
      let more : with_blocks (with_blocks program (put ∷ [])) (blocks_on skips (before.lines + 1) h.own) ≡ with_blocks program (put ∷ blocks_on skips (before.lines + 1) h.own) =
      ap (λ (blocks : List Block). record program { blocks = blocks }) (append_assoc program.blocks (put ∷ []) (blocks_on skips (before.lines + 1) h.own))
      in record {
        own = line ∷ h.own;
        others = h.others;
        programs = h.programs;
        body_is = rest_is line lines h.own h.others other h.body_is;
        own_is = rw is h.own_is;
        are = let P : ℕ → Type 0 = λ k. SayPrograms skips k h.others h.programs in subst P count h.are;
        ends = end_is lines line before (said.Block block) (before.done ++ (with_blocks program (blocks_on skips before.lines (line ∷ h.own)) ∷ h.programs)) is other
            (rw is (h.ends ∙ ended_same (has_percent lines) (before.done ++ (with_blocks (with_blocks program (put ∷ [])) (blocks_on skips (before.lines + 1) h.own) ∷ h.programs)) (before.done ++ (with_blocks program (put ∷ blocks_on skips (before.lines + 1) h.own) ∷ h.programs)) ((before.lines + 1) + length lines) ((before.lines + 1) + length lines)
            (ap (λ (p : Program). before.done ++ (p ∷ h.programs)) more) refl));
      }

  -- the programs from a line with an O number on: the one that begins there, and those after it
  begun_at : (lines : List Line) (line : Line) (before : Before) (number : ℕ) (own others : List Line) (programs : List Program) → says skips line ≡ said.Program (Some number) → list_any (says_program skips) own ≡ false
      → SayPrograms skips ((before.lines + 1) + length own) others programs
      → SayPrograms skips (before.lines + 0) (line ∷ (own ++ others)) (with_blocks (program_at (before.lines + 1) number) (blocks_on skips (before.lines + 1) own) ∷ programs)
  begun_at lines line before number own others programs is own-is are =
      let P : ℕ → Type 0 = λ k. SayPrograms skips k (line ∷ (own ++ others)) (with_blocks (program_at (before.lines + 1) number) (blocks_on skips (before.lines + 1) own) ∷ programs) in
      let start : before.lines ≡ before.lines + 0 = omega arith in subst P start (line, own, others, refl, is, refl, own-is, refl, are)

  goes_program : (lines : List Line) (line : Line) (before : Before) (program : Program) (number : ℕ) → says skips line ≡ said.Program (Some number) → begins_percent line ≡ false → before.current ≡ Some program
      → GoesOn lines (after before line) (program_at (before.lines + 1) number) → GoesOn (line ∷ lines) before program
  goes_program lines line before program number is other e g =
      let h = known lines line before (program_at (before.lines + 1) number) (said.Program (Some number)) is g in
      let begun_program = with_blocks (program_at (before.lines + 1) number) (blocks_on skips (before.lines + 1) h.own) in
      let same : (before.done ++ option_to_list before.current) ++ (begun_program ∷ h.programs) ≡ before.done ++ (with_blocks program [] ∷ (begun_program ∷ h.programs)) =
      ap (λ (o : Option Program). (before.done ++ option_to_list o) ++ (begun_program ∷ h.programs)) e ∙ append_assoc before.done (program ∷ []) (begun_program ∷ h.programs) ∙ ap (λ (p : Program). before.done ++ (p ∷ (begun_program ∷ h.programs))) (no_blocks program)
      in record {
        own = [];
        others = line ∷ (h.own ++ h.others);
        programs = begun_program ∷ h.programs;
        body_is = rest_is line lines h.own h.others other h.body_is;
        own_is = refl;
        are = begun_at lines line before number h.own h.others h.programs is h.own_is h.are;
        ends = end_is lines line before (said.Program (Some number)) (before.done ++ (with_blocks program [] ∷ (begun_program ∷ h.programs))) is other (h.ends ∙ ended_same (has_percent lines) _ _ _ _ same refl);
      }

  -- the last program goes on to the end, or to the closing line
  goes_first : (test : Bool) (lines front : List Line) (line : Line) (before : Before) (program : Program) → begins_percent line ≡ test → IsBehind front → NoneHolds skips front (line ∷ lines) → before.current ≡ Some program
      → (s : Said) → says skips line ≡ s → (begins_percent line ≡ false → (p : Program) → (after before line).current ≡ Some p → GoesOn lines (after before line) p) → GoesOn (line ∷ lines) before program
  goes_first true lines front line before program t is none e s at later = record {
    own = [];
    others = [];
    programs = [];
    body_is = rw t refl;
    own_is = refl;
    are = refl;
    ends = rw (t, e) (ap (λ (p : Program). ended_by true (before.done ++ (p ∷ [])) 0) (no_blocks program));
  }
  goes_first false lines front line before program t is none e said.Nothing at later = goes_nothing lines line before program at t (later t program (ap (λ (w : Said). (with_said before w).current) at ∙ e))
  goes_first false lines front line before program t is none e (said.Program None) at later =
      let bad : false ≡ true = sym (ap is_said_in_range at) ∙ in_range front line is t (none_here skips front lines line none) in absurd cc
  goes_first false lines front line before program t is none e (said.Program (Some number)) at later =
      goes_program lines line before program number at t e (later t (program_at (before.lines + 1) number) (ap (λ (w : Said). (with_said before w).current) at))
  goes_first false lines front line before program t is none e (said.Block block) at later =
      goes_block lines line before program block at t
      (later t (with_blocks program (block_at (before.lines + 1) block ∷ [])) (ap (λ (w : Said). (with_said before w).current) at ∙ ap (λ (o : Option Program). (with_said (record before { current = o }) (said.Block block)).current) e))

  -- from any line of the body on, the program that is being read goes on to the end
  goes_on : (lines front : List Line) (before : Before) (program : Program) → IsBehind front → NoneHolds skips front lines → before.current ≡ Some program → GoesOn lines before program
  goes_on [] front before program is none e = record {
    own = [];
    others = [];
    programs = [];
    body_is = refl;
    own_is = refl;
    are = refl;
    ends = let z : before.lines ≡ before.lines + 0 = omega arith in rw e (ap (λ (n : ℕ). ended_by false [] n) z);
  }
  goes_on (line ∷ lines) front before program is none e =
      goes_first (begins_percent line) lines front line before program refl is none e (says skips line) refl
      (λ other p current. goes_on lines (front ++ line ∷ []) (after before line) p (behind_next front line is other) (none_behind skips front (line ∷ []) lines none) current)

  -- The next two: before any program, a line that says nothing, or the first O number.
  begins_nothing : (lines : List Line) (line : Line) (before : Before) → says skips line ≡ said.Nothing → begins_percent line ≡ false → Begins lines (after before line) ⊎ SaysNone lines (after before line) → Begins (line ∷ lines) before ⊎ SaysNone (line ∷ lines) before
  begins_nothing lines line before is other (inl b) =
      let P : Said → Type 0 = λ t. Begins lines (next (with_said before t) (length line.bytes) line.ended) in
      let h = subst P is b in
      let count : (before.lines + 1) + length h.quiet ≡ before.lines + length (line ∷ h.quiet) = omega arith in
      inl (record {
        quiet = line ∷ h.quiet;
        others = h.others;
        programs = h.programs;
        some = h.some;
        body_is = rest_is line lines h.quiet h.others other h.body_is;
        quiet_is = rw is h.quiet_is;
        are = let Q : ℕ → Type 0 = λ k. SayPrograms skips k h.others h.programs in subst Q count h.are;
        ends = end_is lines line before said.Nothing (before.done ++ h.programs) is other h.ends;
      })
  begins_nothing lines line before is other (inr n) =
      let P : Said → Type 0 = λ t. SaysNone lines (next (with_said before t) (length line.bytes) line.ended) in
      let h = subst P is n in inr (record { body_is = rw (other, is) h.body_is; ends = rw (other, is) h.ends })

  begins_program : (lines : List Line) (line : Line) (before : Before) (number : ℕ) → says skips line ≡ said.Program (Some number) → begins_percent line ≡ false → before.current ≡ None
      → GoesOn lines (after before line) (program_at (before.lines + 1) number) → Begins (line ∷ lines) before
  begins_program lines line before number is other e g =
      let h = known lines line before (program_at (before.lines + 1) number) (said.Program (Some number)) is g in
      let begun_program = with_blocks (program_at (before.lines + 1) number) (blocks_on skips (before.lines + 1) h.own) in
      let same : (before.done ++ option_to_list before.current) ++ (begun_program ∷ h.programs) ≡ before.done ++ (begun_program ∷ h.programs) =
      ap (λ (o : Option Program). (before.done ++ option_to_list o) ++ (begun_program ∷ h.programs)) e ∙ ap (λ (ps : List Program). ps ++ (begun_program ∷ h.programs)) (append-nil before.done)
      in record {
        quiet = [];
        others = line ∷ (h.own ++ h.others);
        programs = begun_program ∷ h.programs;
        some = omega arith;
        body_is = rest_is line lines h.own h.others other h.body_is;
        quiet_is = refl;
        are = begun_at lines line before number h.own h.others h.programs is h.own_is h.are;
        ends = end_is lines line before (said.Program (Some number)) (before.done ++ (begun_program ∷ h.programs)) is other (h.ends ∙ ended_same (has_percent lines) _ _ _ _ same refl);
      }

  -- step of `starts`: before any program, the lines from this one on begin programs or say nothing
  -- at all, whether or not the line begins with `%`
  starts_first : (test : Bool) (lines front : List Line) (line : Line) (before : Before) → begins_percent line ≡ test → IsBehind front → NoneHolds skips front (line ∷ lines) → before.current ≡ None
      → list_any (says_something skips) (behind_percent front) ≡ false → (s : Said) → says skips line ≡ s
      → (begins_percent line ≡ false → (after before line).current ≡ None → list_any (says_something skips) (behind_percent (front ++ line ∷ [])) ≡ false → Begins lines (after before line) ⊎ SaysNone lines (after before line))
      → Begins (line ∷ lines) before ⊎ SaysNone (line ∷ lines) before
  starts_first true lines front line before t is none e nothing s at later = inr (record { body_is = rw t refl; ends = rw (t, e) refl })
  starts_first false lines front line before t is none e nothing said.Nothing at later =
      let body : list_any (says_something skips) (behind_percent front ++ line ∷ []) ≡ false = rw (list_any-append (says_something skips) (behind_percent front) (line ∷ []), nothing, at) refl in
      begins_nothing lines line before at t (later t (ap (λ (w : Said). (with_said before w).current) at ∙ e) (ap (list_any (says_something skips)) (behind_more front (line ∷ []) is.opened) ∙ body))
  starts_first false lines front line before t is none e nothing (said.Program None) at later =
      let bad : false ≡ true = sym (ap is_said_in_range at) ∙ in_range front line is t (none_here skips front lines line none) in absurd cc
  starts_first false lines front line before t is none e nothing (said.Program (Some number)) at later =
      inl (begins_program lines line before number at t e
      (goes_on lines (front ++ line ∷ []) (after before line) (program_at (before.lines + 1) number) (behind_next front line is t) (none_behind skips front (line ∷ []) lines none) (ap (λ (w : Said). (with_said before w).current) at)))
  starts_first false lines front line before t is none e nothing (said.Block block) at later =
      absurd (none_here skips front lines line none NoProgramNumber (((has_more front (line ∷ []) is.opened, is.not_closed), t), block_found skips line (ap is_block at), silent_found skips (behind_percent front) nothing))

  -- before any program, the lines of the body begin programs, or say nothing at all
  pub starts : (lines front : List Line) (before : Before) → IsBehind front → NoneHolds skips front lines → before.current ≡ None → list_any (says_something skips) (behind_percent front) ≡ false → Begins lines before ⊎ SaysNone lines before
  starts [] front before is none e nothing = inr (record { body_is = refl; ends = rw e refl })
  starts (line ∷ lines) front before is none e nothing =
      starts_first (begins_percent line) lines front line before refl is none e nothing (says skips line) refl
      (λ other current still. starts lines (front ++ line ∷ []) (after before line) (behind_next front line is other) (none_behind skips front (line ∷ []) lines none) current still)
