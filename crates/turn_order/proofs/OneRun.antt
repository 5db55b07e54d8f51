-- A run whose paths take turns makes no record once it has ended, so it is one run.
-- For the law `one_run_in_turn` (src/laws.rt).
use Rattle.std.proofs.Common.{◌≡◌, ℕ, zero, suc, ◌+◌, ◌-◌, ◌≤◌, ◌&&◌, Bool, true, false, List, [], ◌∷◌, ◌++◌, length, refl, sym, ◌∙◌, ap, subst, arith, append_assoc, append-nil, length-append, Option, Some, None}
use Rattle.std.specs.Prelude.{nat_le}
use Rattle.nc_number.specs.declared.path.Path.{Path}
use Rattle.nc_number.specs.declared.path.Path.TheVariants.{One, Two}
use Rattle.nc_number.specs.Path.{other_of}
use Rattle.nc_moves.specs.declared.alarm.Alarm.{Alarm}
use Rattle.run_records.specs.Entries.{Entry}
use Rattle.run_records.specs.declared.entry.EntryKind.{EntryKind}
use Rattle.path_state.specs.View.{PathView}
use Rattle.two_path.specs.Machine.{MachineView, own_first, opening}
use Rattle.two_path.specs.Turns.{Blocks, Tapes, TurnResult, unless_idle, block_turn, own_turn, turn_of, kind_of, entry_with, entry_of}
use Rattle.two_path.specs.Histories.{HistoriesAreRuns, fold, history, run, list_of}
use Rattle.nc_outside.specs.declared.reason.Reason.{Reason}
use Rattle.nc_outside.specs.Reasons.{end_by}
use Rattle.two_path.specs.Ending.{end_of}
use Rattle.turn_order.specs.InTurn.{IsInTurn, in_turn}

-- a machine that has ended: an alarm, or the ends of both paths
abbrev IsOver : MachineView → Type 0
IsOver m = end_of m ≡ None → ⊥

-- a turn of a path leaves the machine as it is, and makes no record
record IsStill (m : MachineView) (r : TurnResult) : Type 0 where
  -- the machine is as before
  same : r.machine ≡ m
  -- there is no record
  none : kind_of r.turn ≡ None

-- a turn of the first path of a machine that has ended leaves it as it is, and makes no record: by
-- its alarm, and by whether each path has ended
still_by : (m : MachineView) (a : Option Alarm) (f second : Bool) (w : Option ℕ) (rest : TurnResult) → (end_by a (f && second) ≡ None → ⊥) → IsStill m (unless_idle m a f w rest)
still_by m (Some alarm) f second w rest over = record { same = refl; none = refl }
still_by m None true second w rest over = record { same = refl; none = refl }
still_by m None false second w rest over = absurd (over refl)

-- whether both paths have ended does not depend on which comes first
swap : (a : Option Alarm) (f s : Bool) → (end_by a (f && s) ≡ None → ⊥) → end_by a (s && f) ≡ None → ⊥
swap (Some alarm) f s over is = absurd cc
swap None true true over is = absurd cc
swap None true false over is = over refl
swap None false true over is = over refl
swap None false false over is = over refl

-- each turn of the first path leaves a machine that has ended as it is, and makes no record
own_still : (blocks : Blocks) (path : Path) (m : MachineView) → IsOver m → IsStill m (own_turn blocks path m)
own_still blocks path m over = still_by m m.alarm m.paths.one.finished m.paths.two.finished m.paths.one.waiting (block_turn blocks path m) over

-- a turn of this path leaves the machine, and makes no record
record IsPassed (tapes : Tapes) (path : Path) (m : MachineView) : Type 0 where
  -- the machine is as before
  same : (turn_of tapes path m).machine ≡ m
  -- there is no record
  none : list_of (entry_of tapes path m) ≡ []

-- each turn of either path leaves a machine that has ended, and makes no record
passed : (tapes : Tapes) (path : Path) (m : MachineView) → IsOver m → IsPassed tapes path m
passed tapes One m over =
    let still = own_still tapes.one One m over in
    record { same = still.same; none = ap (λ (k : Option EntryKind). list_of (entry_with One m.paths.one.stamps k)) still.none }
passed tapes Two m over =
    let still = own_still tapes.two Two (own_first Two m) (swap m.alarm m.paths.one.finished m.paths.two.finished over) in
    record { same = ap (own_first Two) still.same; none = ap (λ (k : Option EntryKind). list_of (entry_with Two m.paths.two.stamps k)) still.none }

-- no turn makes a record once the run has ended
none_more : (tapes : Tapes) (path : Path) (m : MachineView) (n : ℕ) → IsOver m → history tapes m (in_turn path n) ≡ []
none_more tapes path m zero over = refl
none_more tapes path m (suc n) over =
    let it = passed tapes path m over in
    ap (λ (es : List Entry). es ++ history tapes (turn_of tapes path m).machine (in_turn (other_of path) n)) it.none
    ∙ ap (λ (x : MachineView). history tapes x (in_turn (other_of path) n)) it.same
    ∙ none_more tapes (other_of path) m n over

-- the path whose turn it is after so many turns, the first of which was that of this path
abbrev path_after : Path → ℕ → Path
path_after path zero = path
path_after path (suc n) = path_after (other_of path) n

-- the records of `more` further turns, after n turns from this path on
unfoldable further : Tapes → MachineView → Path → ℕ → ℕ → List Entry
further tapes m path n more = history tapes (run tapes m (in_turn path n)) (in_turn (path_after path n) more)

-- the records of n turns and `more` further ones are those of the n turns, and then those of the
-- further ones
in_two_parts : (tapes : Tapes) (m : MachineView) (path : Path) (n more : ℕ)
    → history tapes m (in_turn path (n + more)) ≡ history tapes m (in_turn path n) ++ further tapes m path n more
unfolding further
in_two_parts tapes m path zero more =
    let count : 0 + more ≡ more = omega arith in
    ap (λ k. history tapes m (in_turn path k)) count
in_two_parts tapes m path (suc n) more =
    let count : suc n + more ≡ suc (n + more) = omega arith in
    let made = list_of (entry_of tapes path m) in
    let next = (turn_of tapes path m).machine in
    ap (λ k. history tapes m (in_turn path k)) count
    ∙ ap (λ (es : List Entry). made ++ es) (in_two_parts tapes next (other_of path) n more)
    ∙ sym (append_assoc made (history tapes next (in_turn (other_of path) n)) (further tapes next (other_of path) n more))

-- behind as many elements as there may be there are no others
none_left : (xs ys : List Entry) (n : ℕ) → length xs ≡ n → length (xs ++ ys) ≤ n → ys ≡ []
none_left xs [] n all within = refl
none_left xs (y ∷ ys) n all within = absurd (let both = length-append xs (y ∷ ys) in omega (arith, both, all, within))

-- a run that has ended has no further records
over_further : (tapes : Tapes) (m : MachineView) (path : Path) (n more : ℕ) → IsOver (run tapes m (in_turn path n)) → further tapes m path n more ≡ []
unfolding further
over_further tapes m path n more over = none_more tapes (path_after path n) (run tapes m (in_turn path n)) more over

-- two runs of the pair whose paths take turns, up to the same limit
module _ (tapes : Tapes) (first second : PathView) (limit : ℕ) (law : HistoriesAreRuns tapes (opening first second)) where
  -- of two such runs the one with more turns has the same records
  same_records : (one two : List Entry) (n more : ℕ) → history tapes (opening first second) (in_turn One n) ≡ one
      → history tapes (opening first second) (in_turn One (n + more)) ≡ two
      → length two ≤ limit → (end_of (fold tapes (opening first second) one) ≡ None → length one ≡ limit) → one ≡ two
  same_records one two n more is_one is_two within ended = go (end_of (fold tapes (opening first second) one)) refl
    where
      parts : two ≡ one ++ further tapes (opening first second) One n more
      parts =
          sym is_two ∙ in_two_parts tapes (opening first second) One n more
          ∙ ap (λ (es : List Entry). es ++ further tapes (opening first second) One n more) is_one

      whole : further tapes (opening first second) One n more ≡ [] → one ≡ two
      whole none = sym (append-nil one) ∙ ap (λ (es : List Entry). one ++ es) (sym none) ∙ sym parts

      ends : end_of (fold tapes (opening first second) one) ≡ end_of (run tapes (opening first second) (in_turn One n))
      ends =
          ap (λ (es : List Entry). end_of (fold tapes (opening first second) es)) (sym is_one)
          ∙ ap end_of (law.run (in_turn One n)).folds

      go : (o : Option Reason) → end_of (fold tapes (opening first second) one) ≡ o → one ≡ two
      go None is =
          whole (none_left one (further tapes (opening first second) One n more) limit (ended is)
          (subst (λ (es : List Entry). length es ≤ limit) parts within))
      go (Some end) is =
          whole (over_further tapes (opening first second) One n more
          (λ none. let clash : ◌≡◌ {A = Option Reason} (Some end) None = sym is ∙ ends ∙ none in cc))

  -- two such runs have the same records
  pub one_run : (one two : List Entry) → IsInTurn tapes (opening first second) limit one → IsInTurn tapes (opening first second) limit two → one ≡ two
  one_run one two a b = go (nat_le a.turns b.turns) refl
    where
      go : (c : Bool) → nat_le a.turns b.turns ≡ c → one ≡ two
      go true e =
          let count : a.turns + (b.turns - a.turns) ≡ b.turns = grind arith in
          same_records one two a.turns (b.turns - a.turns) a.records
          (ap (λ n. history tapes (opening first second) (in_turn One n)) count ∙ b.records) b.within a.ended
      go false e =
          let count : b.turns + (a.turns - b.turns) ≡ a.turns = grind arith in
          sym (same_records two one b.turns (a.turns - b.turns) b.records
          (ap (λ n. history tapes (opening first second) (in_turn One n)) count ∙ a.records) a.within b.ended)
