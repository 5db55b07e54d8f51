-- What is found among the least lines of the parts is the first race of the variable: for
-- `first_race` and `race_of` (src/racing.rt).
use Rattle.std.proofs.Common.{◌≡◌, ℕ, zero, suc, ◌+◌, ◌<◌, ◌≤◌, ◌⊎◌, inl, inr, Bool, true, List, [], ◌∷◌, length, Option, Some, None, is_some, false, slice_get, refl, ap, sym, subst, ◌∙◌, arith}
use Rattle.nc_number.specs.declared.both.Both.{Both}
use Rattle.nc_number.specs.declared.path.Path.{Path}
use Rattle.nc_number.specs.declared.path.Path.TheVariants.{One, Two}
use Rattle.tape_flow.specs.declared.flow.Flow.{Flow}
use Rattle.part_lines.specs.Least.{IsLeast}
use Rattle.part_lines.specs.PartLines.{LineInPart, AreLeastLines}
use Rattle.race_report.specs.declared.race.Race.{Race}
use Rattle.race_report.specs.declared.racing.PathLines.{PathLines}
use Rattle.race_report.specs.declared.sought.Sought.{Sought}
use Rattle.race_report.specs.declared.sought.Sought.TheVariants.{Writes, Names}
use Rattle.race_report.specs.Lines.{sought_line}
use Rattle.race_report.specs.RaceLists.{MayWriteAt, NamesAt, writer_of, other_of, IsRaceAt, HasLessLines, WritesFirst, ComesFirst}
use Rattle.race_report.specs.Tables.{line_at, ArePairLines}
use Rattle.race_report.specs.Found.{race_between, or_race, race_at, first_from, IsAnswer}
use Rattle.race_report.proofs.SoughtLines.{SoughtAt, line_sought, sought_is, part_writes_at, part_names_at}
use Rattle.race_report.proofs.FewerWaits.{behind, HaveWaits, down_to}

-- a list of lines has, at each place below its length, what `line_at` tells
at_place : (xs : List (Option ℕ)) (n : ℕ) → n < length xs → slice_get xs n ≡ Some (line_at xs n)
at_place [] n less = absurd (omega arith)
at_place (x ∷ xs) zero less = refl
at_place (x ∷ xs) (suc n) less = at_place xs n (omega arith)

-- what a list of least lines has for a part is the least line of that part among those looked for
sought_least : (flow : Flow) (sought : Sought) (v n : ℕ) (found : List (Option ℕ)) → AreLeastLines flow.order (sought_line flow sought v) found
    → n < length found → IsLeast (LineInPart flow.order (sought_line flow sought v) n) (line_at found n)
sought_least flow sought v n found are less = are.least n (line_at found n) (at_place found n less)

-- the line is the least at which part n does what is looked for; `None` says that it never does
abbrev IsLeastAt : Flow → Sought → ℕ → ℕ → Option ℕ → Type 0
IsLeastAt flow sought v n None = (k : ℕ) → SoughtAt flow sought v n k → ⊥
IsLeastAt flow sought v n (Some line) = SoughtAt flow sought v n line × ((k : ℕ) → SoughtAt flow sought v n k → line ≤ k)

-- a least line of a part is one at which a block does what is looked for
least_at : (flow : Flow) (sought : Sought) (v n : ℕ) (o : Option ℕ) → IsLeast (LineInPart flow.order (sought_line flow sought v) n) o
    → IsLeastAt flow sought v n o
least_at flow sought v n None never = λ k at. never k (sought_is flow sought v n k at)
least_at flow sought v n (Some line) least =
    (line_sought flow sought v n line least.0, λ k at. least.1 k (sought_is flow sought v n k at))

-- of the races of one variable, one number of waits and one writer, this one has the least lines;
-- or there is none
abbrev IsBetween : (ℕ → Bool) → Flow → Flow → ℕ → ℕ → Path → Option Race → Type 0
IsBetween shared left right v n writer None =
    (race : Race) → race.variable ≡ v → race.after ≡ n → race.writer ≡ writer → IsRaceAt shared left right race → ⊥
IsBetween shared left right v n writer (Some race) =
    (race.variable ≡ v) × (race.after ≡ n) × (race.writer ≡ writer) × IsRaceAt shared left right race
    × ((other : Race) → other.variable ≡ v → other.after ≡ n → other.writer ≡ writer → IsRaceAt shared left right other → HasLessLines race other)

-- Both flows of a pair, the variables that both paths share, and the shared variable v.
module _ (shared : ℕ → Bool) (left right : Flow) (v : ℕ) (is_shared : shared v ≡ true) where
  -- behind the waits of a race its writer has a block of its line that may write the variable
  writes_of : (n : ℕ) (writer : Path) (race : Race) → race.variable ≡ v → race.after ≡ n → race.writer ≡ writer → IsRaceAt shared left right race
      → MayWriteAt (writer_of writer left right) n v race.write_line
  writes_of n writer race a b c is =
      subst (λ p. MayWriteAt (writer_of p left right) n v race.write_line) c
      (subst (λ m. MayWriteAt (writer_of race.writer left right) m v race.write_line) b
      (subst (λ u. MayWriteAt (writer_of race.writer left right) race.after u race.write_line) a is.writes))

  -- behind the waits of a race the other path has a block of its line that names the variable
  names_of : (n : ℕ) (writer : Path) (race : Race) → race.variable ≡ v → race.after ≡ n → race.writer ≡ writer → IsRaceAt shared left right race
      → NamesAt (other_of writer left right) n v race.other_line
  names_of n writer race a b c is =
      subst (λ p. NamesAt (other_of p left right) n v race.other_line) c
      (subst (λ m. NamesAt (other_of race.writer left right) m v race.other_line) b
      (subst (λ u. NamesAt (other_of race.writer left right) race.after u race.other_line) a is.names))

  -- the race of the two least lines has the least lines; without one of them there is no race
  between : (n : ℕ) (writer : Path) (write name : Option ℕ) → IsLeastAt (writer_of writer left right) Writes v n write
      → IsLeastAt (other_of writer left right) Names v n name → IsBetween shared left right v n writer (race_between v n writer write name)
  between n writer None name writes names = λ race a b c is. writes race.write_line (writes_of n writer race a b c is)
  between n writer (Some write) None writes names = λ race a b c is. names race.other_line (names_of n writer race a b c is)
  between n writer (Some write) (Some name) writes names = (
    refl,
    refl,
    refl,
    record { is_shared = is_shared; writes = writes.0; names = names.0 },
    λ other a b c is.
        less (writes.1 other.write_line (writes_of n writer other a b c is)) (names.1 other.other_line (names_of n writer other a b c is)),
  )
    where
      less : {w o : ℕ} → write ≤ w → name ≤ o → (write < w) ⊎ ((write ≡ w) × (name ≤ o))
      less one two = grind arith

  -- of the races of the variable behind so many waits this is the first; or there is none
  abbrev IsAt : ℕ → Option Race → Type 0
  IsAt n None = (race : Race) → race.variable ≡ v → race.after ≡ n → IsRaceAt shared left right race → ⊥
  IsAt n (Some race) =
      (race.variable ≡ v) × (race.after ≡ n) × IsRaceAt shared left right race
      × ((other : Race) → other.variable ≡ v → other.after ≡ n → IsRaceAt shared left right other → WritesFirst race other)

  -- of the races behind so many waits that of path 1 as the writer comes first
  either_at : (n : ℕ) (one two : Option Race) → IsBetween shared left right v n One one → IsBetween shared left right v n Two two
      → IsAt n (or_race one two)
  either_at n (Some race) two is other = (is.0, is.1, is.3, λ next a b at. go next a b at next.writer refl)
    where
      go : (next : Race) → next.variable ≡ v → next.after ≡ n → IsRaceAt shared left right next → (p : Path) → next.writer ≡ p → WritesFirst race next
      go next a b at One e = inr (is.2 ∙ sym e, is.4 next a b e at)
      go next a b at Two e = inl (is.2, e)
  either_at n None (Some race) none is = (is.0, is.1, is.3, λ next a b at. go next a b at next.writer refl)
    where
      go : (next : Race) → next.variable ≡ v → next.after ≡ n → IsRaceAt shared left right next → (p : Path) → next.writer ≡ p → WritesFirst race next
      go next a b at One e = absurd (none next a b e at)
      go next a b at Two e = inr (is.2 ∙ sym e, is.4 next a b e at)
  either_at n None None none never = λ race a b at. go race a b at race.writer refl
    where
      go : (race : Race) → race.variable ≡ v → race.after ≡ n → IsRaceAt shared left right race → (p : Path) → race.writer ≡ p → ⊥
      go race a b at One e = none race a b e at
      go race a b at Two e = never race a b e at

  -- Both lists of labels have `waits` waits, and `lines` are the least lines of all parts.
  module _ (waits : ℕ) (have : HaveWaits left right waits) (lines : Both PathLines) (are : ArePairLines left right v lines) where
    -- what `race_at` finds behind n waits is the first race there
    at : (n : ℕ) → n ≤ waits → IsAt n (race_at lines v n)
    at n few =
        let one_writes = least_at left Writes v n (line_at lines.one.writes.items n)
        (sought_least left Writes v n lines.one.writes.items are.one.writes (let m = are.one.writes.many in let w = have.one in omega arith)) in
        let one_names = least_at left Names v n (line_at lines.one.names.items n)
        (sought_least left Names v n lines.one.names.items are.one.names (let m = are.one.names.many in let w = have.one in omega arith)) in
        let two_writes = least_at right Writes v n (line_at lines.two.writes.items n)
        (sought_least right Writes v n lines.two.writes.items are.two.writes (let m = are.two.writes.many in let w = have.two in omega arith)) in
        let two_names = least_at right Names v n (line_at lines.two.names.items n)
        (sought_least right Names v n lines.two.names.items are.two.names (let m = are.two.names.many in let w = have.two in omega arith)) in
        either_at n (race_between v n One (line_at lines.one.writes.items n) (line_at lines.two.names.items n))
        (race_between v n Two (line_at lines.two.writes.items n) (line_at lines.one.names.items n))
        (between n One (line_at lines.one.writes.items n) (line_at lines.two.names.items n) one_writes two_names)
        (between n Two (line_at lines.two.writes.items n) (line_at lines.one.names.items n) two_writes one_names)

    -- of the races of the variable in the parts from n on this is the first; or there is none
    abbrev IsFrom : ℕ → Option Race → Type 0
    IsFrom n None = (race : Race) → race.variable ≡ v → n ≤ race.after → race.after ≤ waits → IsRaceAt shared left right race → ⊥
    IsFrom n (Some race) =
        (race.variable ≡ v) × IsRaceAt shared left right race
        × ((other : Race) → other.variable ≡ v → n ≤ other.after → other.after ≤ waits → IsRaceAt shared left right other → ComesFirst race other)

    -- a number that is no less is the same, or no less than the next one
    same_or_later : (n m : ℕ) → n ≤ m → (m ≡ n) ⊎ (suc n ≤ m)
    same_or_later n m h = grind arith

    -- the first race of the parts from n on is that behind n waits, or else that of the later parts
    or_later : (n : ℕ) (here later : Option Race) → IsAt n here → IsFrom (suc n) later → IsFrom n (or_race here later)
    or_later n (Some race) later is rest = (is.0, is.2, λ other a above few there. go other a there (same_or_later n other.after above))
      where
        go : (other : Race) → other.variable ≡ v → IsRaceAt shared left right other → (other.after ≡ n) ⊎ (suc n ≤ other.after) → ComesFirst race other
        go other a there (inl e) = inr (is.1 ∙ sym e, is.3 other a e there)
        go other a there (inr more) = let own = is.1 in inl (omega arith)
    or_later n None (Some race) none is = (is.0, is.1, λ other a above few there. go other a few there (same_or_later n other.after above))
      where
        go : (other : Race) → other.variable ≡ v → other.after ≤ waits → IsRaceAt shared left right other → (other.after ≡ n) ⊎ (suc n ≤ other.after) → ComesFirst race other
        go other a few there (inl e) = absurd (none other a e there)
        go other a few there (inr more) = is.2 other a more few there
    or_later n None None none never = λ race a above few there. go race a few there (same_or_later n race.after above)
      where
        go : (race : Race) → race.variable ≡ v → race.after ≤ waits → IsRaceAt shared left right race → (race.after ≡ n) ⊎ (suc n ≤ race.after) → ⊥
        go race a few there (inl e) = none race a e there
        go race a few there (inr more) = never race a more few there

    -- what `first_from` finds in the parts from n on is their first race
    from : (count n : ℕ) → n + count ≡ suc waits → IsFrom n (first_from lines v count n)
    from zero n all = λ race a above few there. absurd (omega arith)
    from (suc count) n all =
        or_later n (race_at lines v n) (first_from lines v count (suc n)) (at n (omega arith)) (from count (suc n) (omega arith))

    -- what is found in the parts of one round is the answer for all numbers of waits
    first_is : (o : Option Race) → IsFrom 0 o → IsAnswer shared left right v o
    first_is None never = (
      λ n is. race_never n One (part_writes_at left n v is.writes).0 (part_names_at right n v is.names).0
          (record { is_shared = is_shared; writes = (part_writes_at left n v is.writes).1; names = (part_names_at right n v is.names).1 }),
      λ n is. race_never n Two (part_writes_at right n v is.writes).0 (part_names_at left n v is.names).0
          (record { is_shared = is_shared; writes = (part_writes_at right n v is.writes).1; names = (part_names_at left n v is.names).1 }),
    )
      where
        race_never : (n : ℕ) (writer : Path) (w o : ℕ)
            → IsRaceAt shared left right (record { variable = v; after = n; writer = writer; write_line = w; other_line = o }) → ⊥
        race_never n writer w o is =
            let race : Race = record { variable = v; after = n; writer = writer; write_line = w; other_line = o } in
            let less = down_to shared left right waits have race is in
            never (behind less.n race) refl (omega arith) less.few less.is
    first_is (Some race) is = (
      is.0,
      record {
        is = is.1;
        first = λ other same there.
            let less = down_to shared left right waits have other there in
            let first = is.2 (behind less.n other) (same ∙ is.0) (omega arith) less.few less.is in
            go other less.n less.fewer first;
      },
    )
      where
        go : (other : Race) (n : ℕ) → (n ≡ other.after) ⊎ (n < other.after) → ComesFirst race (behind n other) → ComesFirst race other
        go other n (inl e) (inl less) = inl (omega arith)
        go other n (inl e) (inr (own, writes)) = inr (own ∙ e, writes)
        go other n (inr more) (inl less) = inl (omega arith)
        go other n (inr more) (inr (own, writes)) = inl (omega arith)

    pub answers : IsAnswer shared left right v (first_from lines v (length lines.one.writes.items) 0)
    answers =
        let all = are.one.writes.many in
        let w = have.one in
        first_is (first_from lines v (length lines.one.writes.items) 0) (from (length lines.one.writes.items) 0 (omega arith))

-- the loop over the parts: the first race in those that are left is the first of all
pub record IsLeft (lines : Both PathLines) (v after total : ℕ) : Type 0 where
  -- how many parts are left
  pub count : ℕ
  -- the parts passed and those left are all parts
  pub all : after + count ≡ total
  -- the first race in the parts that are left is the first of all
  pub same : first_from lines v count after ≡ first_from lines v total 0

-- if the part at hand has none, the first race is in the later parts
pub left_next : (lines : Both PathLines) (v after total : ℕ) → IsLeft lines v after total → after < total
    → is_some (race_at lines v after) ≡ false → IsLeft lines v (after + 1) total
left_next lines v after total left less none = go left.count left.all left.same
  where
    by : (o : Option Race) (c : ℕ) → race_at lines v after ≡ o
        → or_race (race_at lines v after) (first_from lines v c (suc after)) ≡ first_from lines v c (suc after)
    by None c e = rw e refl
    by (Some race) c e = let some : is_some (race_at lines v after) ≡ true = ap is_some e in absurd cc

    go : (count : ℕ) → after + count ≡ total → first_from lines v count after ≡ first_from lines v total 0 → IsLeft lines v (after + 1) total
    go zero all same = absurd (omega arith)
    go (suc c) all same =
        let next : suc after ≡ after + 1 = omega arith in
        record {
          count = c;
          all = omega arith;
          same = ap (λ k. first_from lines v c k) (sym next) ∙ (sym (by (race_at lines v after) c refl) ∙ same);
        }

-- if no part is left, there is no race
left_none : (lines : Both PathLines) (v after total : ℕ) → IsLeft lines v after total → total ≤ after → None ≡ first_from lines v total 0
left_none lines v after total left past = go left.count left.all ∙ left.same
  where
    go : (count : ℕ) → after + count ≡ total → None ≡ first_from lines v count after
    go zero all = refl
    go (suc c) all = absurd (omega arith)
