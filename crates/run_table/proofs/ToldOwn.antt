-- What a step of a path tells its turret is what it answers: record by record, and the rest before a
-- wait that is not recorded yet.
-- HeldSteps uses it.
use Rattle.std.proofs.Common.{◌≡◌, ◌≢◌, ◌⊎◌, inl, inr, ⊎_elim, ℕ, ◌==◌, Bool, true, false, List, [], ◌∷◌, ◌++◌, length, map, refl, sym, ◌∙◌, ap, subst, arith, append-nil, append_assoc, Option, Some, None}
use Rattle.std.specs.Prelude.{⊤, if◌then◌else◌, MatchOption}
use Rattle.std.proofs.lemmas.List.{nil_from_length}
use Rattle.nc_number.specs.declared.both.Both.{Both}
use Rattle.nc_number.specs.declared.path.Path.{Path}
use Rattle.nc_number.specs.declared.path.Path.TheVariants.{One, Two}
use Rattle.nc_number.specs.Both.{of_path}
use Rattle.nc_moves.specs.declared.motion.Moves.{Moves}
use Rattle.nc_outside.specs.Calls.{told_at}
use Rattle.nc_outside.specs.declared.got.Got.{Got}
use Rattle.nc_outside.specs.declared.got.Got.TheVariants.{Moved, Rested}
use Rattle.nc_outside.specs.declared.rest.Rest.TheVariants as rest
use Rattle.nc_outside.specs.declared.halt.Halt.{Halt}
use Rattle.nc_outside.specs.declared.halt.Next.{Next}
use Rattle.nc_outside.specs.declared.halt.Next.TheVariants as next
use Rattle.nc_outside.specs.Lined.{lined_moves, lined_move}
use Rattle.run_records.specs.declared.entry.EntryKind.{EntryKind}
use Rattle.two_path.specs.declared.turn.Turn.{Turn}
use Rattle.two_path.specs.declared.turn.Turn.TheVariants as turn
use Rattle.two_path.specs.Turns.{kind_of}
use Rattle.run_table.specs.declared.answer.TableStep.{TableStep}
use Rattle.run_table.specs.declared.answer.TableStep.TheVariants.{Turned, Drain, Undrained, DiskFault, Halted}
use Rattle.run_table.specs.declared.resting.Resting.{Resting}
use Rattle.run_table.specs.declared.resting.Resting.TheVariants.{Unasked, Asked, Rests}
use Rattle.run_table.specs.Draining.{rest_behind, rest_behind_turn, rest_told, resting_behind, told_in_turn, wait_of, with_resting, FitsRest, FitsTurn}
use Rattle.run_table.specs.Made.{joined}
use Rattle.run_table.specs.Holding.{next_of_moves, next_of_turn, next_of}
use Rattle.run_table.proofs.ListsGrow.{GrowsBy, GrowsByTurn, Grows}

-- with one list more, joined lists have what it has more
pub joined_more : {A : Type 0} (lists : List (List A)) (list : List A) → joined (lists ++ list ∷ []) ≡ joined lists ++ list
joined_more [] list = append-nil list
joined_more (first ∷ lists) list = ap (λ l. first ++ l) (joined_more lists list) ∙ sym (append_assoc first (joined lists) list)

-- a turn without a record tells nothing
none_told : (t : Turn) → kind_of t ≡ None → told_in_turn t ≡ []
none_told (turn.Read variable stamp) is = refl
none_told (turn.Did moves) is = absurd cc
none_told (turn.Arrived code) is = absurd cc
none_told (turn.Met code) is = absurd cc
none_told (turn.Ended moves) is = absurd cc
none_told (turn.Waiting code) is = refl
none_told turn.Finished is = refl
none_told (turn.Alarm alarm) is = refl
none_told (turn.Halted alarm) is = refl
none_told turn.Edited is = refl

-- what is told of the records of a path grows by what a turn tells
pub turn_grows : (path : Path) (t : Turn) (k : Option EntryKind) (before after : Path → List (List Got)) → kind_of t ≡ k → GrowsByTurn path t k before after
    → joined (after path) ≡ joined (before path) ++ told_in_turn t
turn_grows path t None before after is grows =
    ap joined (grows path) ∙ sym (append-nil (joined (before path))) ∙ ap (λ l. joined (before path) ++ l) (sym (none_told t is))
turn_grows path t (Some k) before after is grows = ap joined grows.own ∙ joined_more (before path) (told_in_turn t)

-- nothing is told of the records of a path by an empty entry, or by none
empty_grows : (path : Path) (before after : Path → List (List Got)) → GrowsBy path [] before after ⊎ ((p : Path) → after p ≡ before p) → joined (after path) ≡ joined (before path)
empty_grows path before after grows = ⊎_elim
    (λ (g : GrowsBy path [] before after). ap joined g.own ∙ joined_more (before path) [] ∙ append-nil (joined (before path)))
    (λ (g : (p : Path) → after p ≡ before p). ap joined (g path)) grows

-- a turret that rests for a wait, or was told to, is told nothing by another turn
not_both : (b g : List Got) (r : Resting) → (r ≡ Unasked) ⊎ (g ≡ []) → (b ++ g) ++ rest_told r ≡ (b ++ rest_told r) ++ g
not_both b g r fits = ⊎_elim
    (λ (e : r ≡ Unasked). ap (λ (x : Resting). (b ++ g) ++ rest_told x) e ∙ append-nil (b ++ g) ∙ ap (λ l. l ++ g) (sym (append-nil b) ∙ ap (λ (x : Resting). b ++ rest_told x) (sym e)))
    (λ (e : g ≡ []). ap (λ l. (b ++ l) ++ rest_told r) e ∙ ap (λ l. l ++ rest_told r) (append-nil b) ∙ sym (append-nil (b ++ rest_told r)) ∙ ap (λ l. (b ++ rest_told r) ++ l) (sym e)) fits

-- nothing more
and_none : (b : List Got) (r : Resting) → b ++ rest_told r ≡ (b ++ rest_told r) ++ []
and_none b r = sym (append-nil (b ++ rest_told r))

-- a turn that is no wait, by whether the turret rests
other_fits : (t : Turn) (r : Resting) → wait_of t ≡ None → FitsTurn r t → (r ≡ Unasked) ⊎ (told_in_turn t ≡ [])
other_fits t Unasked none fits = inl refl
other_fits t (Asked code) none fits = inr fits.1
other_fits t (Rests code) none fits = ⊎_elim
    (λ (e : wait_of t ≡ Some code). absurd (let clash : None ≡ Some code = sym none ∙ e in cc))
    (λ (e : (wait_of t ≡ None) × (told_in_turn t ≡ [])). inr e.1) fits

-- a turn is a wait only if the turret rests for just that wait
wait_fits : (t : Turn) (r : Resting) (code : ℕ) → wait_of t ≡ Some code → FitsTurn r t → rest_told r ≡ Rested (rest.Wait code) ∷ []
wait_fits t Unasked code is fits = absurd (let clash : None ≡ Some code = sym fits ∙ is in cc)
wait_fits t (Asked at) code is fits = absurd (let clash : None ≡ Some code = sym fits.0 ∙ is in cc)
wait_fits t (Rests at) code is fits = ⊎_elim
    (λ (e : wait_of t ≡ Some at). let both : Some at ≡ Some code = sym e ∙ is in let same : at ≡ code = cc in ap (λ (k : ℕ). Rested (rest.Wait k) ∷ []) same)
    (λ (e : (wait_of t ≡ None) × (told_in_turn t ≡ [])). absurd (let clash : None ≡ Some code = sym e.0 ∙ is in cc)) fits

-- what is told by a wait was told by the rest before it
wait_told : (b a : List Got) (r : Resting) (code : ℕ) → a ≡ b ++ Rested (rest.Wait code) ∷ [] → rest_told r ≡ Rested (rest.Wait code) ∷ [] → a ++ [] ≡ (b ++ rest_told r) ++ []
wait_told b a r code grown rests = ap (λ l. l ++ []) (grown ∙ ap (λ l. b ++ l) (sym rests))

-- the moves of a block tell what they are handed on as
handed_told : (moves : Moves) → MatchOption (Some (next_of_moves moves)) ⊥ (λ next. map Moved (lined_moves moves) ≡ told_at next)
handed_told moves = go (length moves.list == 0) refl
  where
    go : (x : Bool) → (length moves.list == 0) ≡ x → map Moved (lined_moves moves) ≡ told_at (if x then next.Silent else next.Moves moves)
    go true none = let empty : moves.list ≡ [] = nil_from_length moves.list (grind arith) in ap (λ l. map Moved (map (lined_move moves.line) l)) empty
    go false some = refl

-- moves that a turn tells are what it answers
moves_told : (moves : Moves) (b a : List Got) (r : Resting) → a ≡ b ++ map Moved (lined_moves moves) → (r ≡ Unasked) ⊎ (map Moved (lined_moves moves) ≡ [])
    → a ++ rest_told r ≡ (b ++ rest_told r) ++ told_at (next_of_moves moves)
moves_told moves b a r grown fits =
    ap (λ l. l ++ rest_told r) grown ∙ not_both b (map Moved (lined_moves moves)) r fits ∙ ap (λ l. (b ++ rest_told r) ++ l) (handed_told moves)

-- a turn that tells nothing answers nothing for the turret
quiet_told : (b a : List Got) (r : Resting) → a ≡ b ++ [] → a ++ rest_told r ≡ (b ++ rest_told r) ++ []
quiet_told b a r grown = ap (λ l. l ++ rest_told r) (grown ∙ append-nil b) ∙ and_none b r

-- what a turn tells the turret of its path is what it answers
turn_own : {H : Type 0} (old new : H) (t : Turn) (r : Resting) (b a : List Got) → a ≡ b ++ told_in_turn t → FitsTurn r t → ((code : ℕ) → t ≡ turn.Waiting code → new ≡ old)
    → MatchOption (next_of_turn t) (new ≡ old) (λ next. a ++ rest_told (rest_behind_turn t r) ≡ (b ++ rest_told r) ++ told_at next)
turn_own old new (turn.Read variable stamp) r b a grown fits waits = quiet_told b a r grown
turn_own old new (turn.Did moves) r b a grown fits waits = moves_told moves b a r grown (other_fits (turn.Did moves) r refl fits)
turn_own old new (turn.Arrived code) r b a grown fits waits = wait_told b a r code grown (wait_fits (turn.Arrived code) r code refl fits)
turn_own old new (turn.Met code) r b a grown fits waits = wait_told b a r code grown (wait_fits (turn.Met code) r code refl fits)
turn_own old new (turn.Ended moves) r b a grown fits waits = moves_told moves b a r grown (other_fits (turn.Ended moves) r refl fits)
turn_own old new (turn.Waiting code) r b a grown fits waits = waits code refl
turn_own old new turn.Finished r b a grown fits waits = quiet_told b a r grown
turn_own old new (turn.Alarm alarm) r b a grown fits waits = quiet_told b a r grown
turn_own old new (turn.Halted alarm) r b a grown fits waits = quiet_told b a r grown
turn_own old new turn.Edited r b a grown fits waits = quiet_told b a r grown

-- what a step tells the turret of its path is what it answers
pub step_own : {H : Type 0} (old new : H) (path : Path) (answer : TableStep) (r : Resting) (before after : Path → List (List Got)) → Grows path answer before after → FitsRest r answer
    → ((code : ℕ) → answer ≡ Turned (turn.Waiting code) → new ≡ old)
    → MatchOption (next_of answer) (new ≡ old) (λ next. joined (after path) ++ rest_told (rest_behind answer r) ≡ (joined (before path) ++ rest_told r) ++ told_at next)
step_own old new path (Turned t) r before after grows fits waits =
    turn_own old new t r (joined (before path)) (joined (after path)) (turn_grows path t (kind_of t) before after refl grows) fits (λ code e. waits code (ap Turned e))
step_own old new path (Drain code) r before after grows fits waits =
    ap (λ l. joined l ++ Rested (rest.Wait code) ∷ []) (grows path) ∙ ap (λ l. l ++ Rested (rest.Wait code) ∷ []) (sym (append-nil (joined (before path))))
    ∙ ap (λ (x : Resting). (joined (before path) ++ rest_told x) ++ Rested (rest.Wait code) ∷ []) (sym fits)
step_own old new path Undrained r before after grows fits waits = ap (λ l. joined l ++ rest_told r) (grows path) ∙ and_none (joined (before path)) r
step_own old new path DiskFault r before after grows fits waits = ap (λ l. l ++ rest_told r) (empty_grows path before after grows) ∙ and_none (joined (before path)) r
step_own old new path (Halted why) r before after grows fits waits = ap (λ l. joined l ++ rest_told r) (grows path) ∙ and_none (joined (before path)) r

-- a step adds nothing to the lists of the other path
others_by_turn : (path : Path) (t : Turn) (k : Option EntryKind) (before after : Path → List (List Got)) → GrowsByTurn path t k before after → (p : Path) → p ≢ path → after p ≡ before p
others_by_turn path t None before after grows p differ = grows p
others_by_turn path t (Some k) before after grows p differ = grows.others p differ

-- a step adds nothing to the lists of the other path
pub others_grow : (path : Path) (answer : TableStep) (before after : Path → List (List Got)) → Grows path answer before after → (p : Path) → p ≢ path → after p ≡ before p
others_grow path (Turned t) before after grows p differ = others_by_turn path t (kind_of t) before after grows p differ
others_grow path (Drain code) before after grows p differ = grows p
others_grow path Undrained before after grows p differ = grows p
others_grow path DiskFault before after grows p differ = ⊎_elim (λ (g : GrowsBy path [] before after). g.others p differ) (λ (g : (q : Path) → after q ≡ before q). g p) grows
others_grow path (Halted why) before after grows p differ = grows p

-- whether the turret of the other path rests is not changed by a step
pub rests_other : (path p : Path) (is : Resting) (resting : Both Resting) → p ≢ path → of_path (with_resting path is resting) p ≡ of_path resting p
rests_other One One is resting differ = absurd (differ refl)
rests_other One Two is resting differ = refl
rests_other Two One is resting differ = refl
rests_other Two Two is resting differ = absurd (differ refl)

-- of the path itself it is as it was set
pub rests_own : (path : Path) (is : Resting) (resting : Both Resting) → of_path (with_resting path is resting) path ≡ is
rests_own One is resting = refl
rests_own Two is resting = refl

-- where a step leaves whether the turret of its path rests, all is left
pub rests_kept : (path : Path) (resting : Both Resting) → with_resting path (of_path resting path) resting ≡ resting
rests_kept One resting = refl
rests_kept Two resting = refl
