-- What the sink of a turret that writes lines tells when a line was put, or a part of one, and the
-- counts of the turret's calls. For the proofs of `new`, `write` and `keep` (src/line_turret.rt)
-- and those of src/putting.rt.
use Rattle.std.proofs.Common.{◌≡◌, ℕ, zero, suc, List, [], ◌∷◌, ◌++◌, take, Option, Some, None, is_some, refl, true, false, if◌then◌else◌, append_assoc, sym, ap, ◌∙◌, arith}
use Rattle.std.specs.Option.{ForSome}
use Rattle.std.specs.Io.KnownBytes.{Appends}
use Rattle.std.proofs.lemmas.List.{append-nil}
use Rattle.nc_outside.specs.declared.got.Got.{Got}
use Rattle.nc_number.specs.Faults.{next}
use Rattle.nc_outside.specs.Received.{Received, counted_on}
use Rattle.turret_lines.specs.Meetings.{Standing, no_standing, is_written, meeting_text, met_behind, standing_behind, standing_from, standing_of, wait_in}
use Rattle.turret_lines.specs.Stream.{HasPart, got_text, lines_at, lines_from, stream_of}

-- the lines by these and one thing more are the lines by these, and those that it gets then
lines_push : (at : Standing) (got : List Got) (what : Got) → lines_from at (got ++ what ∷ []) ≡ lines_from at got ++ lines_at (standing_from at got) what
lines_push at [] what = append-nil (lines_at at what)
lines_push at (first ∷ got) what =
    ap (λ l. lines_at at first ++ l) (lines_push (standing_behind at first) got what)
    ∙ sym (append_assoc (lines_at at first) (lines_from (standing_behind at first) got) (lines_at (standing_from (standing_behind at first) got) what))

-- the lines of what a turret got and one thing more are the lines before and those by that
stream_push : (got : List Got) (what : Got) → stream_of (got ++ what ∷ []) ≡ stream_of got ++ lines_at (standing_of got) what
unfolding stream_of standing_of
stream_push got what = lines_push no_standing got what

-- behind these and one thing more a stream stands as behind that
standing_push : (at : Standing) (got : List Got) (what : Got) → standing_from at (got ++ what ∷ []) ≡ standing_behind (standing_from at got) what
standing_push at [] what = refl
standing_push at (first ∷ got) what = standing_push (standing_behind at first) got what

-- how the stream stands by what it gets more
pub stands_on : (got new : List Got) (what : Got) (at now : Standing) → at ≡ standing_of got → new ≡ got ++ what ∷ [] → standing_behind at what ≡ now → now ≡ standing_of new
unfolding standing_of
stands_on got new what at now is grown behind = sym behind ∙ ap (λ s. standing_behind s what) is ∙ sym (standing_push no_standing got what) ∙ ap (standing_from no_standing) (sym grown)

-- by what is written a stream stands at its wait, if it is one
pub stands_written : (what : Got) (met : ℕ) (before waits : Option ℕ) → is_written what ≡ true → waits ≡ wait_in what
    → ◌≡◌ {A = Standing} (standing_behind (record { met = met; waits = before }) what) (record { met = met_behind met before; waits = waits })
stands_written what met before waits written is =
    ap (λ b. if b then record { met = met_behind met before; waits = wait_in what } else record { met = met; waits = before }) written
    ∙ ap (λ w. record { met = met_behind met before; waits = w }) (sym is)

-- what is not written leaves it where it stands
pub stands_kept : (what : Got) (at : Standing) → is_written what ≡ false → standing_behind at what ≡ at
stands_kept what at written = ap (λ b. if b then record { met = met_behind at.met at.waits; waits = wait_in what } else at) written

-- the lines by what is written are that of the meeting and its own
pub lines_written : (what : Got) (at : Standing) → is_written what ≡ true → meeting_text at.met at.waits ++ got_text what ≡ lines_at at what
lines_written what at written = sym (ap (λ b. if b then meeting_text at.met at.waits ++ got_text what else []) written)

-- there are no lines by what is not written
lines_kept : (what : Got) (at : Standing) → is_written what ≡ false → lines_at at what ≡ []
lines_kept what at written = ap (λ b. if b then meeting_text at.met at.waits ++ got_text what else []) written

-- with what is not written the stream is the same
pub stream_kept : (got new : List Got) (what : Got) → is_written what ≡ false → new ≡ got ++ what ∷ [] → stream_of new ≡ stream_of got
stream_kept got new what written grown =
    ap stream_of grown ∙ stream_push got what ∙ ap (λ l. stream_of got ++ l) (lines_kept what (standing_of got) written) ∙ append-nil (stream_of got)

-- two pieces that are put one behind the other
pub puts_both : (a b c : Option (List ℕ)) (first second : List ℕ) → is_some b ≡ is_some a → Appends a b first → Appends b c second → Appends a c (first ++ second)
puts_both None b c first second tells p q = tt
puts_both (Some x) None c first second tells p q = absurd p
puts_both (Some x) (Some y) None first second tells p q = absurd q
puts_both (Some x) (Some y) (Some z) first second tells p q = q ∙ ap (λ l. l ++ second) p ∙ append_assoc x first second

-- no piece that is put
pub puts_none : (a : Option (List ℕ)) (piece : List ℕ) → piece ≡ [] → Appends a a piece
puts_none None piece none = tt
puts_none (Some x) piece none = sym (append-nil x) ∙ ap (λ l. x ++ l) (sym none)

-- a sink that tells on has the new line after the lines before
told_more : (old new : Option (List ℕ)) (bytes lines : List ℕ) → is_some new ≡ is_some old → Appends old new bytes
    → ForSome old (λ b. b ≡ lines) → ForSome new (λ b. b ≡ lines ++ bytes)
told_more None None bytes lines tells grew was b e = cc
told_more None (Some y) bytes lines tells grew was b e = cc
told_more (Some x) None bytes lines tells grew was b e = cc
told_more (Some x) (Some y) bytes lines tells grew was b e =
    let same : y ≡ b = cc in
    sym same ∙ grew ∙ ap (λ t. t ++ bytes) (was x refl)

-- a sink that had the lines and got those by one thing more has the lines with that
pub line_more : (old new : Option (List ℕ)) (line : List ℕ) (got : List Got) (what : Got) → is_some new ≡ is_some old → Appends old new line
    → line ≡ lines_at (standing_of got) what → ForSome old (λ b. b ≡ stream_of got) → ForSome new (λ b. b ≡ stream_of (got ++ what ∷ []))
line_more old new line got what tells grew is was b e =
    told_more old new line (stream_of got) tells grew was b e ∙ (ap (λ t. stream_of got ++ t) is ∙ sym (stream_push got what))

-- a sink that has the lines alone has them and no part of another
pub no_part : (written : Option (List ℕ)) (got : List Got) → ForSome written (λ b. b ≡ stream_of got) → ∥ ForSome written (λ b. HasPart b got) ∥₁
no_part written got was = ∣ (λ b e. record { next = None; size = 0; parted = was b e ∙ sym (append-nil (stream_of got)) }) ∣₁

-- a sink that had the lines and got a part of a line has the lines and that part
pub part_more : (old new : Option (List ℕ)) (line : List ℕ) (size : ℕ) (got : List Got) (what : Got) → is_some new ≡ is_some old → Appends old new (take size line)
    → line ≡ lines_at (standing_of got) what → ForSome old (λ b. b ≡ stream_of got) → ∥ ForSome new (λ b. HasPart b got) ∥₁
part_more old new line size got what tells grew is was =
    ∣ (λ b e. record {
      next = Some what;
      size = size;
      parted = told_more old new (take size line) (stream_of got) tells grew was b e ∙ ap (λ t. stream_of got ++ take size t) is;
    }) ∣₁

-- turrets that got the same, by as many calls, are in one state
pub same_received : (a b : List Got) (k l : ℕ) → a ≡ b → k ≡ l
    → ◌≡◌ {A = Option Received} (Some (record { got = a; calls = k })) (Some (record { got = b; calls = l }))
same_received a b k l e f = rw (e, f) refl

-- a count with one call more is the next number
pub one_more : (was now : ℕ) → now ≡ next was → now ≡ counted_on was 1
unfolding counted_on
one_more was now e = e

-- a count that has risen is not 0
pub never_zero : {A : Type 0} → (was now : ℕ) → now ≡ next was → now ≡ 0 → A
never_zero was now e none = absurd (omega (arith, e, none))

-- a sink without bytes has the lines of a turret that got nothing
pub nothing_told : (written : Option (List ℕ)) (got : List Got) → got ≡ [] → ForSome written (λ b. b ≡ []) → ForSome written (λ b. b ≡ stream_of got)
unfolding stream_of
nothing_told written got none fresh b e = rw none (fresh b e)

-- the stream of a turret that got nothing stands at its beginning
pub nothing_stands : (got : List Got) → got ≡ [] → no_standing ≡ standing_of got
unfolding standing_of
nothing_stands got none = ap (standing_from no_standing) (sym none)

-- a part of the first of two lists is a part of both
pub part_of_first : (n : ℕ) (first second : List ℕ) → (x : ℕ) × (take x (first ++ second) ≡ take n first)
part_of_first zero first second = (0, refl)
part_of_first (suc n) [] second = (0, refl)
part_of_first (suc n) (b ∷ first) second = let rest = part_of_first n first second in (suc rest.0, ap (λ l. b ∷ l) rest.1)

-- the first of two lists and a part of the second are a part of both
pub part_of_second : (n : ℕ) (first second : List ℕ) → (x : ℕ) × (take x (first ++ second) ≡ first ++ take n second)
part_of_second n [] second = (n, refl)
part_of_second n (b ∷ first) second = let rest = part_of_second n first second in (suc rest.0, ap (λ l. b ∷ l) rest.1)

-- a sink that had the lines has them with what is not written
pub whole_kept : (written : Option (List ℕ)) (got new : List Got) (what : Got) → is_written what ≡ false → new ≡ got ++ what ∷ []
    → ForSome written (λ b. b ≡ stream_of got) → ForSome written (λ b. b ≡ stream_of new)
whole_kept written got new what none grown was b e = was b e ∙ sym (stream_kept got new what none grown)
