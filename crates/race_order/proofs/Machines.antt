-- A path of two_path's machine as one of Alone, which reads and writes named variables: its state
-- holds what it does and what it told. For Turns and Runs.
use Rattle.std.proofs.Common.{◌≡◌, ℕ, suc, ◌+◌, List, [], ◌∷◌, ◌++◌, Option, Some, None, refl, subst}
use Rattle.nc_number.specs.declared.value.Var.{Var}
use Rattle.nc_moves.specs.declared.motion.Move.{Move}
use Rattle.path_state.specs.View.{PathView}
use Rattle.path_state.specs.Statements.{Write as Written}
use Rattle.path_state.specs.Effect.{Effect}
use Rattle.path_state.specs.Effect as effect
use Rattle.two_path.specs.Turns.{Blocks, moves_at, path_behind_wait}
use Rattle.race_order.specs.Agreement.{Deed, Makes, Meets}
use Rattle.race_order.proofs.Alone as alone
use Rattle.race_order.proofs.Alone.{PathOf}

-- What is known of the blocks: the places behind n waits, the variables that part n names and may
-- write.
pub record Known (blocks : Blocks) : Type 1 where
  -- which variables part n names
  pub names : ℕ → ℕ → Type 0
  -- which variables part n may write
  pub may : ℕ → ℕ → Type 0
  -- the path stands in part n
  pub In : ℕ → PathView → Type 0
  -- a variable that a part may write is one that it names
  pub may_named : (n v : ℕ) → may n v → names n v
  -- a block of a part needs only variables that the part names
  pub named : (n : ℕ) (path : PathView) (vs : List Var) (v : ℕ) → In n path → blocks.effect path vs ≡ effect.Need v → names n v
  -- a block of a part writes only variables that the part may write
  pub written : (n : ℕ) (path after : PathView) (vs : List Var) (w : Written) (moves : List Move) → In n path
      → blocks.effect path vs ≡ effect.Done after (Some w) moves → may n w.variable
  -- behind a block that is done the path stands in the same part
  pub goes : (n : ℕ) (path after : PathView) (vs : List Var) (w : Option Written) (moves : List Move) → In n path
      → blocks.effect path vs ≡ effect.Done after w moves → In n after
  -- behind a wait of a part the path stands in the next part
  pub passes : (n code : ℕ) (path : PathView) (vs : List Var) → In n path → blocks.effect path vs ≡ effect.AtWait code
      → In (suc n) (path_behind_wait path)

-- what a path told beside what it did: how many records, of which a wait is one, what it wrote, and
-- the code of the wait to which it came last
pub record Told : Type 0 where
  pub records : ℕ
  pub writes : List Written
  pub code : ℕ

-- what a path has told before its first turn
abbrev pub nothing_told : Told
nothing_told = record { records = 0; writes = []; code = 0 }

-- one record more
abbrev pub one_record : Told → Told
one_record told = record told { records = told.records + 1 }

-- one write more
abbrev pub one_write : Written → Told → Told
one_write w told = record told { records = told.records + 1; writes = told.writes ++ w ∷ [] }

-- a wait of this code to which the path came
abbrev pub come_to : ℕ → Told → Told
come_to code told = record told { code = code }

-- the state of a path, what it did so far, and what else it told
abbrev pub Logged : Type 0
Logged = PathView × List Deed × Told

-- a path behind a block, with the moves of the block, also if these are none, and what else it told
abbrev pub moved_on : Blocks → Logged → PathView → List Move → Told → Logged
moved_on blocks s after moves told = (after, s.1 ++ Makes (moves_at (blocks.line s.0.place) moves) ∷ [], told)

-- a path behind a block that is done, with its moves and one record more told
abbrev pub logged : Blocks → Logged → PathView → List Move → Logged
logged blocks s after moves = moved_on blocks s after moves (one_record s.2)

-- what a block comes to, with its moves in the state
abbrev pub seen : Blocks → Logged → Effect → alone.Effect Logged Var
seen blocks s (effect.Need v) = alone.Need v
seen blocks s (effect.Done after None moves) = alone.Done (logged blocks s after moves)
seen blocks s (effect.Done after (Some w) moves) = alone.Wrote (moved_on blocks s after moves (one_write w s.2)) w.variable w.value
seen blocks s (effect.AtWait code) = alone.AtWait (s.0, s.1, come_to code s.2)
seen blocks s (effect.AtEnd after moves) = alone.AtEnd (logged blocks s after moves)
seen blocks s (effect.Alarm number value) = alone.Alarm

-- a variable that a block needs is one that its part names
pub needs_seen : (b : Blocks) (k : Known b) (n : ℕ) (s : Logged) (vs : List Var) (v : ℕ) → k.In n s.0
    → (e : Effect) → b.effect s.0 vs ≡ e → seen b s e ≡ alone.Need v → k.names n v
needs_seen b k n s vs v inn (effect.Need u) is same = let e : u ≡ v = cc in subst (λ i. k.names n i) e (k.named n s.0 vs u inn is)
needs_seen b k n s vs v inn (effect.Done after None moves) is same = absurd cc
needs_seen b k n s vs v inn (effect.Done after (Some w) moves) is same = absurd cc
needs_seen b k n s vs v inn (effect.AtWait code) is same = absurd cc
needs_seen b k n s vs v inn (effect.AtEnd after moves) is same = absurd cc
needs_seen b k n s vs v inn (effect.Alarm number value) is same = absurd cc

-- a block that is done and writes nothing leads to a place of the same part
pub done_seen : (b : Blocks) (k : Known b) (n : ℕ) (s : Logged) (vs : List Var) (to : Logged) → k.In n s.0
    → (e : Effect) → b.effect s.0 vs ≡ e → seen b s e ≡ alone.Done to → k.In n to.0
done_seen b k n s vs to inn (effect.Need u) is same = absurd cc
done_seen b k n s vs to inn (effect.Done after None moves) is same =
    let e : logged b s after moves ≡ to = cc in subst (λ t. k.In n t.0) e (k.goes n s.0 after vs None moves inn is)
done_seen b k n s vs to inn (effect.Done after (Some w) moves) is same = absurd cc
done_seen b k n s vs to inn (effect.AtWait code) is same = absurd cc
done_seen b k n s vs to inn (effect.AtEnd after moves) is same = absurd cc
done_seen b k n s vs to inn (effect.Alarm number value) is same = absurd cc

-- a block that writes may write the variable by its part, and leads to a place of the same part
pub wrote_seen : (b : Blocks) (k : Known b) (n : ℕ) (s : Logged) (vs : List Var) (to : Logged) (v : ℕ) (x : Var) → k.In n s.0
    → (e : Effect) → b.effect s.0 vs ≡ e → seen b s e ≡ alone.Wrote to v x → (k.may n v) × k.In n to.0
wrote_seen b k n s vs to v x inn (effect.Need u) is same = absurd cc
wrote_seen b k n s vs to v x inn (effect.Done after None moves) is same = absurd cc
wrote_seen b k n s vs to v x inn (effect.Done after (Some w) moves) is same =
    let e : moved_on b s after moves (one_write w s.2) ≡ to = cc in
    let f : w.variable ≡ v = cc in (
      subst (λ i. k.may n i) f (k.written n s.0 after vs w moves inn is),
      subst (λ t. k.In n t.0) e (k.goes n s.0 after vs (Some w) moves inn is),
    )
wrote_seen b k n s vs to v x inn (effect.AtWait code) is same = absurd cc
wrote_seen b k n s vs to v x inn (effect.AtEnd after moves) is same = absurd cc
wrote_seen b k n s vs to v x inn (effect.Alarm number value) is same = absurd cc

-- a wait that is passed leads to a place of the next part
pub wait_seen : (b : Blocks) (k : Known b) (n : ℕ) (s : Logged) (vs : List Var) (to : Logged) → k.In n s.0
    → (e : Effect) → b.effect s.0 vs ≡ e → seen b s e ≡ alone.AtWait to → k.In (suc n) (path_behind_wait to.0)
wait_seen b k n s vs to inn (effect.Need u) is same = absurd cc
wait_seen b k n s vs to inn (effect.Done after None moves) is same = absurd cc
wait_seen b k n s vs to inn (effect.Done after (Some w) moves) is same = absurd cc
wait_seen b k n s vs to inn (effect.AtWait code) is same =
    let come : Logged = (s.0, s.1, come_to code s.2) in
    let e : come ≡ to = cc in
    subst (λ t. k.In (suc n) (path_behind_wait t.0)) e (k.passes n code s.0 vs inn is)
wait_seen b k n s vs to inn (effect.AtEnd after moves) is same = absurd cc
wait_seen b k n s vs to inn (effect.Alarm number value) is same = absurd cc

-- a path of the machine as one that reads and writes named variables
abbrev pub path_of : (b : Blocks) → Known b → PathOf Var
path_of b k = record {
  S = Logged;
  effect = λ s vs. seen b s (b.effect s.0 vs);
  pass = λ s. (path_behind_wait s.0, s.1 ++ Meets s.2.code (path_behind_wait s.0) ∷ [], one_record s.2);
  names = k.names;
  may = k.may;
  In = λ n s. k.In n s.0;
  may_named = k.may_named;
  needs = λ n s vs v inn is. needs_seen b k n s vs v inn (b.effect s.0 vs) refl is;
  writes = λ n s vs to v x inn is. (wrote_seen b k n s vs to v x inn (b.effect s.0 vs) refl is).0;
  goes = λ n s vs to inn is. done_seen b k n s vs to inn (b.effect s.0 vs) refl is;
  goes_on = λ n s vs to v x inn is. (wrote_seen b k n s vs to v x inn (b.effect s.0 vs) refl is).1;
  passes = λ n s vs to inn is. wait_seen b k n s vs to inn (b.effect s.0 vs) refl is;
}
