-- If no part has a race, all runs of the machine go alike: from the pairs of Alike to the machine, for
-- Flows.
use Rattle.std.proofs.Common.{◌≡◌, ℕ, List, [], ◌∷◌, ◌++◌, ◌⊎◌, Option, Some, None, refl, ap, sym, subst, ◌∙◌, append-nil}
use Rattle.nc_number.specs.declared.path.Path.{Path}
use Rattle.nc_number.specs.declared.path.Path.TheVariants.{One, Two}
use Rattle.nc_number.specs.declared.value.Var.{Var}
use Rattle.path_state.specs.View.{PathView}
use Rattle.path_state.specs.Effect.{Effect}
use Rattle.path_state.specs.Effect as effect
use Rattle.two_path.specs.Machine.{opening}
use Rattle.two_path.specs.Turns.{Blocks, moves_at, path_behind_wait}
use Rattle.two_path.specs.Histories.{run, turns_of}
use Rattle.race_order.specs.Agreement.{Deed, Makes, Meets, deeds_by, BeginsWith, AreAlike, GoAlike}
use Rattle.race_order.proofs.Alone as alone
use Rattle.race_order.proofs.Together.{Pair, IsFree}
use Rattle.race_order.proofs.Alike.{Grows, first_goes_alike}
use Rattle.race_order.proofs.Stable.{var_stable}
use Rattle.race_order.proofs.Deeds.{calm_front}
use Rattle.race_order.proofs.Machines.{Known, Logged, come_to, one_write, moved_on, logged, seen, path_of}
use Rattle.race_order.proofs.Turns.{shown}
use Rattle.race_order.proofs.Runs.{swapped, run_swapped, tapes_with, run_shown, first_pair, first_shown}

-- what a path did here is how it begins to do there
abbrev GoesOnFrom : Logged → Logged → Type 0
GoesOnFrom s after = BeginsWith s.1 after.1

-- what a path did grows with a block that is done and writes nothing
grows_done : (b : Blocks) (s after : Logged) (e : Effect) → seen b s e ≡ alone.Done after → GoesOnFrom s after
grows_done b s after (effect.Need v) is = absurd cc
grows_done b s after (effect.Done to None moves) is =
    let e : logged b s to moves ≡ after = cc in
    subst (λ t. GoesOnFrom s t) e (Makes (moves_at (b.line s.0.place) moves) ∷ [], refl)
grows_done b s after (effect.Done to (Some w) moves) is = absurd cc
grows_done b s after (effect.AtWait code) is = absurd cc
grows_done b s after (effect.AtEnd to moves) is = absurd cc
grows_done b s after (effect.Alarm number value) is = absurd cc

-- what a path did grows with a block that writes
grows_wrote : (b : Blocks) (s after : Logged) (v : ℕ) (x : Var) (e : Effect) → seen b s e ≡ alone.Wrote after v x → GoesOnFrom s after
grows_wrote b s after v x (effect.Need u) is = absurd cc
grows_wrote b s after v x (effect.Done to None moves) is = absurd cc
grows_wrote b s after v x (effect.Done to (Some w) moves) is =
    let e : moved_on b s to moves (one_write w s.2) ≡ after = cc in
    subst (λ t. GoesOnFrom s t) e (Makes (moves_at (b.line s.0.place) moves) ∷ [], refl)
grows_wrote b s after v x (effect.AtWait code) is = absurd cc
grows_wrote b s after v x (effect.AtEnd to moves) is = absurd cc
grows_wrote b s after v x (effect.Alarm number value) is = absurd cc

-- what a path did grows with its last block
grows_ends : (b : Blocks) (s after : Logged) (e : Effect) → seen b s e ≡ alone.AtEnd after → GoesOnFrom s after
grows_ends b s after (effect.Need v) is = absurd cc
grows_ends b s after (effect.Done to None moves) is = absurd cc
grows_ends b s after (effect.Done to (Some w) moves) is = absurd cc
grows_ends b s after (effect.AtWait code) is = absurd cc
grows_ends b s after (effect.AtEnd to moves) is =
    let e : logged b s to moves ≡ after = cc in
    subst (λ t. GoesOnFrom s t) e (Makes (moves_at (b.line s.0.place) moves) ∷ [], refl)
grows_ends b s after (effect.Alarm number value) is = absurd cc

-- what a path did stays as it comes to a wait
grows_comes : (b : Blocks) (s after : Logged) (e : Effect) → seen b s e ≡ alone.AtWait after → GoesOnFrom s after
grows_comes b s after (effect.Need v) is = absurd cc
grows_comes b s after (effect.Done to None moves) is = absurd cc
grows_comes b s after (effect.Done to (Some w) moves) is = absurd cc
grows_comes b s after (effect.AtWait code) is =
    let come : Logged = (s.0, s.1, come_to code s.2) in
    let e : come ≡ after = cc in
    subst (λ t. GoesOnFrom s t) e ([], sym (append-nil s.1))
grows_comes b s after (effect.AtEnd to moves) is = absurd cc
grows_comes b s after (effect.Alarm number value) is = absurd cc

-- what a path of the machine did only grows
deeds_grow : (b : Blocks) (k : Known b) → Grows (path_of b k) (λ s. s.1)
deeds_grow b k = record {
  done = λ s vs after is. grows_done b s after (b.effect s.0 vs) is;
  wrote = λ s vs after v x is. grows_wrote b s after v x (b.effect s.0 vs) is;
  ends = λ s vs after is. grows_ends b s after (b.effect s.0 vs) is;
  comes = λ s vs after is. grows_comes b s after (b.effect s.0 vs) is;
  passes = λ s. (Meets s.2.code (path_behind_wait s.0) ∷ [], refl);
}

-- if no part has a race, two runs of the machine go alike
pub runs_go_alike : (b d : Blocks) (k : Known b) (l : Known d) → IsFree (path_of b k) (path_of d l) → (first second : PathView)
    → k.In 0 first → l.In 0 second → (turns others : List Path) → GoAlike (tapes_with b d) (opening first second) turns others
runs_go_alike b d k l free first second here there turns others =
    let tapes = tapes_with b d in
    let start = opening first second in
    let x = first_pair b d k l first second in
    let t = calm_front tapes start refl turns in
    let o = calm_front tapes start refl others in
    let a = run_shown b d k l x start [] [] (first_shown b d k l first second) t.front t.calm in
    let c = run_shown b d k l x start [] [] (first_shown b d k l first second) o.front o.calm in
    let m = shown b d k l (run tapes start (turns_of t.front)) (deeds_by tapes One start t.front) (deeds_by tapes Two start t.front) a.one_told a.two_told a.env in
    let n = shown b d k l (run tapes start (turns_of o.front)) (deeds_by tapes One start o.front) (deeds_by tapes Two start o.front) c.one_told c.two_told c.env in
    let one = first_goes_alike (path_of b k) (λ s. s.1) (deeds_grow b k) var_stable (path_of d l) free x m n here there a.run c.run in
    let two =
    first_goes_alike (path_of d l) (λ s. s.1) (deeds_grow d l) var_stable (path_of b k) (record { first = free.second; second = free.first })
    (swapped (path_of b k) (path_of d l) x) (swapped (path_of b k) (path_of d l) m) (swapped (path_of b k) (path_of d l) n) there here
    (run_swapped (path_of b k) (path_of d l) x m a.run) (run_swapped (path_of b k) (path_of d l) x n c.run) in
    λ who. of_all who t.front o.front (t.deeds who) (o.deeds who) (of_both t.front o.front one two who)
  where
    of_both : (front before : List Path)
        → AreAlike (deeds_by (tapes_with b d) One (opening first second) front) (deeds_by (tapes_with b d) One (opening first second) before)
        → AreAlike (deeds_by (tapes_with b d) Two (opening first second) front) (deeds_by (tapes_with b d) Two (opening first second) before)
        → (who : Path)
        → AreAlike (deeds_by (tapes_with b d) who (opening first second) front) (deeds_by (tapes_with b d) who (opening first second) before)
    of_both front before one two One = one
    of_both front before one two Two = two

    of_all : (who : Path) (front before : List Path)
        → deeds_by (tapes_with b d) who (opening first second) front ≡ deeds_by (tapes_with b d) who (opening first second) turns
        → deeds_by (tapes_with b d) who (opening first second) before ≡ deeds_by (tapes_with b d) who (opening first second) others
        → AreAlike (deeds_by (tapes_with b d) who (opening first second) front) (deeds_by (tapes_with b d) who (opening first second) before)
        → AreAlike (deeds_by (tapes_with b d) who (opening first second) turns) (deeds_by (tapes_with b d) who (opening first second) others)
    of_all who front before same also alike =
        subst (λ all. AreAlike all (deeds_by (tapes_with b d) who (opening first second) others)) same
        (subst (λ all. AreAlike (deeds_by (tapes_with b d) who (opening first second) front) all) also alike)
