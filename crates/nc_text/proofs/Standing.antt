-- A reader of a tape stands for the bytes that it was given: what `HasRead` says holds after each
-- piece, in whatever pieces they come. For the proofs of src/feed.rt, src/step.rt and
-- src/reader.rt.
use Rattle.std.proofs.Common.{◌≡◌, ◌==◌, ℕ, ◌+◌, Bool, true, false, List, [], ◌∷◌, ◌++◌, length, take, refl, sym, ap, subst, ◌∙◌, append_assoc, arith}
use Rattle.std.proofs.Math.Seq.{take-append_seam}
use Rattle.std.proofs.lemmas.List.{length-append, append-nil, nil_from_length}
use Rattle.std.proofs.lemmas.List.Elements.{All-append, All-nil}
use Rattle.std.specs.Prelude.{Some, Result, Ok, Err, OnOk, IfOk}
use Rattle.nc_number.specs.Answers.{Gives}
use Rattle.nc_number.specs.declared.fault.Failing.{Failing}
use Rattle.nc_text.specs.declared.fault.TextFault.{TextFault}
use Rattle.nc_text.specs.declared.tape.Program.{Program}
use Rattle.nc_text.specs.declared.stage.Stage.{Stage}
use Rattle.nc_text.specs.declared.stage.Stage.TheVariants as stages
use Rattle.nc_text.specs.Lines.{Line, IsOneLine, lines_of}
use Rattle.nc_text.specs.Tape.{Before, tape_of}
use Rattle.nc_text.specs.Reading.{State, refusal_of, kept_of, more_kept, counted_length, answer_from, line_continued, LeadsTo, IsOpenLine, IsAt, HasRead, IsRefused}
use Rattle.nc_text.proofs.Counted.{counted_more, line_kept}
use Rattle.nc_text.proofs.LineEnds.{line_ends, text_ends, kept_none, kept_more}

-- what a reader keeps, by its five fields
abbrev pub state : ℕ → Stage → List ℕ → ℕ → Before → State
state skips stage kept len before = record { skips = skips; stage = stage; kept = kept; len = len; before = before }

-- a state whose fields are all as before is the state before
pub as_before : (s : ℕ) (stage new-stage : Stage) (kept new-kept : List ℕ) (len new-len : ℕ) (before new-before : Before) → new-stage ≡ stage → new-kept ≡ kept → new-len ≡ len → new-before ≡ before
    → state s new-stage new-kept new-len new-before ≡ state s stage kept len before
as_before s stage new-stage kept new-kept len new-len before new-before stage-is kept-is len-is before-is = λ i. state s (stage-is i) (kept-is i) (len-is i) (before-is i)

-- what was kept of a line is there again when it is cut back
pub kept_back : (stage : Stage) (kept piece longer shorter : List ℕ) (n : ℕ) → n ≡ length kept → longer ≡ kept ++ more_kept stage kept piece → shorter ≡ take n longer → shorter ≡ kept
kept_back stage kept piece longer shorter n n-is longer-is shorter-is =
    shorter-is ∙ ap (λ (k : ℕ). take k longer) n-is ∙ ap (take (length kept)) longer-is ∙ take-append_seam kept (more_kept stage kept piece)

-- a line of which nothing is kept or counted has no bytes yet
no_bytes : (stage : Stage) (kept : List ℕ) (len : ℕ) → kept ≡ [] → len ≡ 0 → IsOpenLine stage kept len []
no_bytes stage kept len kept-is len-is = record { one_line = All-nil (λ (x : ℕ). (x == 10) ≡ false); kept_is = kept-is ∙ sym (kept_none stage); len_is = len-is }

-- the present line with a piece without a line feed is an open line of all these bytes
line_extended : (stage new-stage : Stage) (kept new-kept : List ℕ) (len new-len : ℕ) (piece line : List ℕ) → IsOneLine piece → new-stage ≡ stage → new-kept ≡ kept ++ more_kept stage kept piece → new-len ≡ counted_length (len + length piece)
    → IsOpenLine stage kept len line → IsOpenLine new-stage new-kept new-len (line ++ piece)
line_extended stage new-stage kept new-kept len new-len piece line one stage-is kept-is len-is is =
    let kept-all : new-kept ≡ kept_of stage (line ++ piece) = kept-is ∙ ap (λ (k : List ℕ). k ++ more_kept stage k piece) is.kept_is ∙ kept_more stage line piece in record {
      one_line = All-append (λ (x : ℕ). (x == 10) ≡ false) line piece is.one_line one;
      kept_is = kept-all ∙ ap (λ (s : Stage). kept_of s (line ++ piece)) (sym stage-is);
      len_is = len-is ∙ ap (λ (n : ℕ). counted_length (n + length piece)) is.len_is ∙ counted_more (length line) (length piece) ∙ ap counted_length (sym (length-append line piece));
    }

-- a reader that goes on with the present line by a piece has read that piece
line_goes_on : (s : ℕ) (stage new-stage : Stage) (kept new-kept : List ℕ) (len new-len : ℕ) (before : Before) (piece : List ℕ) → IsOneLine piece → new-stage ≡ stage → new-kept ≡ kept ++ more_kept stage kept piece → new-len ≡ counted_length (len + length piece)
    → (skips : ℕ) (bytes : List ℕ) → HasRead (state s stage kept len before) skips bytes → HasRead (state s new-stage new-kept new-len before) skips (bytes ++ piece)
line_goes_on s stage new-stage kept new-kept len new-len before piece one stage-is kept-is len-is skips bytes read =
    let line = read.1.0 in
    let at : IsAt (state s stage kept len before) bytes line = read.1.1 in (
      read.0,
      (
        line ++ piece,
        record {
          is_line = line_extended stage new-stage kept new-kept len new-len piece line one stage-is kept-is len-is at.is_line;
          front = at.front;
          bytes_are = ap (λ (text : List ℕ). text ++ piece) at.bytes_are ∙ append_assoc at.front line piece;
          whole = λ more. at.whole more ∙ ap (λ (st : Stage). answer_from s st (lines_of more) before) (sym stage-is);
        },
      ),
    )

-- a call that goes on with the present line has read its piece, if it says so
pub piece_taken : {E : Type 0} (r : Result (Unit {0}) E) (s : ℕ) (stage new-stage : Stage) (kept new-kept : List ℕ) (len new-len : ℕ) (before : Before) (piece : List ℕ) → IsOneLine piece → new-stage ≡ stage → OnOk r (new-kept ≡ kept ++ more_kept stage kept piece) → OnOk r (new-len ≡ counted_length (len + length piece))
    → OnOk r ((skips : ℕ) (bytes : List ℕ) → HasRead (state s stage kept len before) skips bytes → HasRead (state s new-stage new-kept new-len before) skips (bytes ++ piece))
piece_taken (Ok x) s stage new-stage kept new-kept len new-len before piece one stage-is kept-is len-is = line_goes_on s stage new-stage kept new-kept len new-len before piece one stage-is kept-is len-is
piece_taken (Err e) s stage new-stage kept new-kept len new-len before piece one stage-is kept-is len-is = tt

-- a line may be read by what is kept and counted of it
line_stands : (s : ℕ) (stage : Stage) (kept : List ℕ) (len : ℕ) (before : Before) (line : List ℕ) (ended : Bool) → kept ≡ kept_of stage line → len ≡ counted_length (length line)
    → (lines : List Line) → answer_from s stage (record { bytes = line; ended = ended } ∷ lines) before ≡ line_continued s stage kept len ended lines before
line_stands s stage kept len before line ended kept-is len-is lines = line_kept s stage line ended lines before ∙ (λ i. line_continued s stage (sym kept-is i) (sym len-is i) ended lines before)

-- a step that is right for what was kept of a line is right for the line itself
line_ended : (s : ℕ) (stage new-stage : Stage) (kept slice : List ℕ) (len : ℕ) (before new-before : Before) (line : List ℕ) (ended : Bool) → IsOpenLine stage kept len line → slice ≡ kept
    → ((lines : List Line) → line_continued s stage slice len ended lines before ≡ answer_from s new-stage lines new-before)
    → (lines : List Line) → answer_from s stage (record { bytes = line; ended = ended } ∷ lines) before ≡ answer_from s new-stage lines new-before
line_ended s stage new-stage kept slice len before new-before line ended is slice-is step lines = line_stands s stage slice len before line ended (slice-is ∙ is.kept_is) is.len_is lines ∙ step lines

-- a step that is right for what is kept of a line that lies whole in a text is right for the line
pub whole_line : {E : Type 0} (r : Result Stage E) (s : ℕ) (stage : Stage) (kept : List ℕ) (len : ℕ) (before new-before : Before) (line : List ℕ) → kept ≡ kept_of stage line → len ≡ counted_length (0 + length line)
    → IfOk r (λ next. (lines : List Line) → line_continued s stage kept len true lines before ≡ answer_from s next lines new-before)
    → IfOk r (λ next. (lines : List Line) → answer_from s stage (record { bytes = line; ended = true } ∷ lines) before ≡ answer_from s next lines new-before)
whole_line (Ok next) s stage kept len before new-before line kept-is len-is step = λ lines.
    let all : 0 + length line ≡ length line = omega arith in
    line_stands s stage kept len before line true kept-is (len-is ∙ ap counted_length all) lines ∙ step lines
whole_line (Err e) s stage kept len before new-before line kept-is len-is step = tt

-- a step over the first line of a text leads on to the text after that line, and from there on
pub line_read : (s : ℕ) (stage new-stage : Stage) (before new-before : Before) (text line behind rest : List ℕ) → text ≡ line ++ 10 ∷ behind → IsOneLine line
    → ((lines : List Line) → answer_from s stage (record { bytes = line; ended = true } ∷ lines) before ≡ answer_from s new-stage lines new-before) → LeadsTo s new-stage new-before behind new-stage new-before rest
    → LeadsTo s stage before text new-stage new-before rest
line_read s stage new-stage before new-before text line behind rest cut one step left = (
  line ++ 10 ∷ left.0,
  cut ∙ ap (λ (t : List ℕ). line ++ 10 ∷ t) left.1 ∙ sym (append_assoc line (10 ∷ left.0) rest),
  λ more. ap (λ (t : List ℕ). answer_from s stage (lines_of t) before) (append_assoc line (10 ∷ left.0) more) ∙ ap (λ (lines : List Line). answer_from s stage lines before) (line_ends line (left.0 ++ more) one) ∙ step (lines_of (left.0 ++ more)) ∙ left.2 more,
)

-- a text that is refused leads on with nothing left of it
pub nothing_left : (stage : Stage) (fault : TextFault) (text rest : List ℕ) → stage ≡ stages.Refused fault → rest ≡ [] → (skips : ℕ) (before : Before) → LeadsTo skips stage before text stage before rest
nothing_left stage fault text rest refused none skips before =
    let P : Stage → Type 0 = λ st. LeadsTo skips st before text st before rest in
    subst P (sym refused) (text, sym (append-nil text) ∙ ap (λ (t : List ℕ). text ++ t) (sym none), λ more. refl)

-- two leads, of which the second begins where the first ends, are one lead
pub leads_on : (s : ℕ) (a b c : Stage) (x y z : Before) (first second third : List ℕ) → LeadsTo s a x first b y second → LeadsTo s b y second c z third → LeadsTo s a x first c z third
leads_on s a b c x y z first second third p q = (
  p.0 ++ q.0,
  p.1 ∙ ap (λ (t : List ℕ). p.0 ++ t) q.1 ∙ sym (append_assoc p.0 q.0 third),
  λ more. ap (λ (t : List ℕ). answer_from s a (lines_of t) x) (append_assoc p.0 q.0 more) ∙ p.2 (q.0 ++ more) ∙ q.2 more,
)

-- the end of the present line and the lines after it lead to the line that has begun last
pub next_line : (s : ℕ) (stage mid-stage new-stage last-stage : Stage) (kept slice last-kept : List ℕ) (len last-len : ℕ) (before mid-before new-before : Before) (behind rest : List ℕ) → slice ≡ kept
    → ((lines : List Line) → line_continued s stage slice len true lines before ≡ answer_from s mid-stage lines mid-before)
    → LeadsTo s mid-stage mid-before behind new-stage new-before rest → last-stage ≡ new-stage → IsOpenLine last-stage last-kept last-len rest → (line : List ℕ) → IsOpenLine stage kept len line
    → (bytes : List ℕ) × IsOpenLine last-stage last-kept last-len bytes × LeadsTo s stage before (line ++ 10 ∷ behind) last-stage new-before bytes
next_line s stage mid-stage new-stage last-stage kept slice last-kept len last-len before mid-before new-before behind rest slice-is step reads last is-last line is = (
  rest,
  is-last,
  subst (λ (st : Stage). LeadsTo s stage before (line ++ 10 ∷ behind) st new-before rest) (sym last)
      (leads_on s stage mid-stage new-stage before mid-before new-before (line ++ 10 ∷ behind) behind rest
      (line_read s stage mid-stage before mid-before (line ++ 10 ∷ behind) line behind behind refl is.one_line (line_ended s stage mid-stage kept slice len before mid-before line true is slice-is step) ([], refl, λ more. refl)) reads),
)

-- a reader that took a piece with a line feed has read that piece
pub lines_taken : (s : ℕ) (stage mid-stage new-stage : Stage) (kept mid-kept new-kept : List ℕ) (len mid-len new-len : ℕ) (before new-before : Before) (front behind : List ℕ) → IsOneLine front → mid-stage ≡ stage → mid-kept ≡ kept ++ more_kept stage kept front → mid-len ≡ counted_length (len + length front)
    → ((line : List ℕ) → IsOpenLine mid-stage mid-kept mid-len line → (rest : List ℕ) × IsOpenLine new-stage new-kept new-len rest × LeadsTo s mid-stage before (line ++ 10 ∷ behind) new-stage new-before rest)
    → (skips : ℕ) (bytes : List ℕ) → HasRead (state s stage kept len before) skips bytes → HasRead (state s new-stage new-kept new-len new-before) skips (bytes ++ (front ++ 10 ∷ behind))
lines_taken s stage mid-stage new-stage kept mid-kept new-kept len mid-len new-len before new-before front behind one stage-is kept-is len-is goes skips bytes read =
    let line = read.1.0 in
    let at : IsAt (state s stage kept len before) bytes line = read.1.1 in
    let next = goes (line ++ front) (line_extended stage mid-stage kept mid-kept len mid-len front line one stage-is kept-is len-is at.is_line) in (
      read.0,
      (
        next.0,
        record {
          is_line = next.1;
          front = at.front ++ next.2.0;
          bytes_are =
              ap (λ (text : List ℕ). text ++ (front ++ 10 ∷ behind)) at.bytes_are ∙ append_assoc at.front line (front ++ 10 ∷ behind)
              ∙ ap (λ (text : List ℕ). at.front ++ text) (sym (append_assoc line front (10 ∷ behind)) ∙ next.2.1) ∙ sym (append_assoc at.front next.2.0 next.0);
          whole = λ more.
              ap (tape_of s) (append_assoc at.front next.2.0 more) ∙ at.whole (next.2.0 ++ more) ∙ ap (λ (st : Stage). answer_from s st (lines_of (next.2.0 ++ more)) before) (sym stage-is) ∙ next.2.2 more;
        },
      ),
    )

-- a new reader has read no bytes
pub nothing_given : (s : ℕ) (stage : Stage) (kept : List ℕ) (len : ℕ) (before : Before) → stage ≡ stages.Leader → kept ≡ [] → len ≡ 0 → ((more : List ℕ) → tape_of s more ≡ answer_from s stages.Leader (lines_of more) before) → HasRead (state s stage kept len before) s []
nothing_given s stage kept len before stage-is kept-is len-is whole =
    (refl, ([], record { is_line = no_bytes stage kept len kept-is len-is; front = []; bytes_are = refl; whole = λ more. whole more ∙ ap (λ (st : Stage). answer_from s st (lines_of more) before) (sym stage-is) }))

-- a stage that tells a refusal is the stage of that refusal
pub refused_at : (stage : Stage) (fault : TextFault) → refusal_of stage ≡ Some fault → stage ≡ stages.Refused fault
refused_at stages.Leader fault e = absurd cc
refused_at stages.Body fault e = absurd cc
refused_at stages.Rest fault e = absurd cc
refused_at (stages.Refused other) fault e = let same : other ≡ fault = cc in ap stages.Refused same

-- whatever follows, the answer of the text is what is made of the present line and of what follows
whole_on : (s : ℕ) (stage : Stage) (kept : List ℕ) (len : ℕ) (before : Before) (bytes line : List ℕ) → IsAt (state s stage kept len before) bytes line → (more : List ℕ) → tape_of s (bytes ++ more) ≡ answer_from s stage (lines_of (line ++ more)) before
whole_on s stage kept len before bytes line at more = ap (λ (text : List ℕ). tape_of s (text ++ more)) at.bytes_are ∙ ap (tape_of s) (append_assoc at.front line more) ∙ at.whole (line ++ more)

-- a reader at a refusal has read bytes that are refused so, whatever follows
pub refused_by : (s : ℕ) (stage : Stage) (kept : List ℕ) (len : ℕ) (before : Before) (fault : TextFault) → stage ≡ stages.Refused fault
    → (skips : ℕ) (bytes : List ℕ) → HasRead (state s stage kept len before) skips bytes → IsRefused skips bytes fault
refused_by s stage kept len before fault stage-is skips bytes read = λ more.
    ap (λ (k : ℕ). tape_of k (bytes ++ more)) (sym read.0) ∙ whole_on s stage kept len before bytes read.1.0 read.1.1 more ∙ ap (λ (st : Stage). answer_from s st (lines_of (read.1.0 ++ more)) before) stage-is

-- the answer of the bytes that were given is what is made of the present line
whole_is : (s : ℕ) (stage : Stage) (kept : List ℕ) (len : ℕ) (before : Before) (skips : ℕ) (bytes line : List ℕ) → s ≡ skips → IsAt (state s stage kept len before) bytes line → tape_of skips bytes ≡ answer_from s stage (lines_of line) before
whole_is s stage kept len before skips bytes line same at =
    ap (λ (k : ℕ). tape_of k bytes) (sym same) ∙ ap (tape_of s) (sym (append-nil bytes)) ∙ whole_on s stage kept len before bytes line at [] ∙ ap (λ (l : List ℕ). answer_from s stage (lines_of l) before) (append-nil line)

-- without a present line, what is made of no line is the answer of the text
pub no_line : (s : ℕ) (stage : Stage) (kept : List ℕ) (len : ℕ) (before : Before) (r : Result (List Program) (Failing TextFault)) → len ≡ 0 → ((k : ℕ) → Gives (λ tape. tape) r (answer_from k stage [] before))
    → (skips : ℕ) (bytes : List ℕ) → HasRead (state s stage kept len before) skips bytes → Gives (λ tape. tape) r (tape_of skips bytes)
no_line s stage kept len before r none concluded skips bytes read =
    let line = read.1.0 in
    let at : IsAt (state s stage kept len before) bytes line = read.1.1 in
    let len-is = at.is_line.len_is in
    let line-is : line ≡ [] = nil_from_length line (omega arith) in
    subst (Gives (λ tape. tape) r) (sym (whole_is s stage kept len before skips bytes line read.0 at ∙ ap (λ (l : List ℕ). answer_from s stage (lines_of l) before) line-is)) (concluded s)

-- a text without a line feed that has a byte is one line, which the end of the text ends
text_left : (line : List ℕ) → IsOneLine line → (length line ≡ 0 → ⊥) → lines_of line ≡ record { bytes = line; ended = false } ∷ []
text_left [] one long = absurd (long refl)
text_left (b ∷ line) one long = text_ends b line one

-- if the end of the text ends the last line, what is made of that line is the answer of the text
pub last_line : (s : ℕ) (stage new-stage : Stage) (kept slice : List ℕ) (len : ℕ) (before new-before : Before) (r : Result (List Program) (Failing TextFault)) → (len ≡ 0 → ⊥) → slice ≡ kept
    → ((lines : List Line) → line_continued s stage slice len false lines before ≡ answer_from s new-stage lines new-before)
    → ((k : ℕ) → Gives (λ tape. tape) r (answer_from k new-stage [] new-before))
    → (skips : ℕ) (bytes : List ℕ) → HasRead (state s stage kept len before) skips bytes → Gives (λ tape. tape) r (tape_of skips bytes)
last_line s stage new-stage kept slice len before new-before r long slice-is step concluded skips bytes read =
    let line = read.1.0 in
    let at : IsAt (state s stage kept len before) bytes line = read.1.1 in
    let left = text_left line at.is_line.one_line (λ e. long (at.is_line.len_is ∙ ap counted_length e)) in
    let ended = line_ended s stage new-stage kept slice len before new-before line false at.is_line slice-is step [] in
    subst (Gives (λ tape. tape) r) (sym (whole_is s stage kept len before skips bytes line read.0 at ∙ ap (λ (ls : List Line). answer_from s stage ls before) left ∙ ended)) (concluded s)
