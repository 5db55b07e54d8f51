-- The loop in which a block reads again what the stamps of a record stand for: what is read so far,
-- with what the stamps that are left stand for, is what all stamps stand for. For `read_all_again`
-- (src/again.rt) by way of Redone; and that what a block asks for or writes is shared
-- (`needs_shared`, `writes_shared`), for `read_again` and `settle` (src/turning.rt).
use Rattle.std.proofs.Common.{◌≡◌, ℕ, ◌≤◌, Bool, true, false, ◌&&◌, nat_le, List, [], ◌∷◌, ◌++◌, Option, Some, None, IfSome, refl, sym, ap, subst, ◌∙◌, append_assoc, append-nil, arith, if◌then◌else◌}
use Rattle.std.proofs.lemmas.Bool.Decides.{nat_tests}
use Rattle.nc_number.specs.declared.value.Var.{Var}
use Rattle.common_vars.specs.declared.links.Write.{Write}
use Rattle.common_vars.specs.Writes.{IsShared, value_after}
use Rattle.path_state.specs.View.{Fixed, PathView}
use Rattle.path_state.specs.Looks.{is_shared}
use Rattle.nc_moves.specs.declared.motion.Move.{Move}
use Rattle.path_state.specs.StatementSteps.{write_seen}
use Rattle.path_state.specs.Statements.{Write as Written}
use Rattle.path_state.specs.Effect.{Effect, Need, Done}
use Rattle.two_path.specs.Machine.{Part, part_without_reads}
use Rattle.two_path.specs.Turns.{Blocks}
use Rattle.two_path.specs.Histories.{value_asked, and_next, values_from, values_at, AsksFrom, AreInOrder, MayRead}
use Rattle.two_path.specs.Again.{variable_asked, variable_due}
use Rattle.two_path.specs.Joined.{JointView, machine_of, AreShared}

-- the block may read with these stamps from here on: they are in order, and it asks for each
abbrev Reads : Blocks → PathView → List Write → ℕ → ℕ → List Var → List ℕ → Type 0
Reads blocks path writes low count values stamps = AreInOrder low count stamps × AsksFrom blocks path writes values stamps

-- the loop over the stamps of a record: some are read again, and these are left
pub record IsReplaying (blocks : Blocks) (start now : Part) (writes : List Write) (count low : ℕ) (all left : List ℕ) : Type 0 where
  -- but for what its block has read the path is as at the start
  pub part : now ≡ record start { values = now.values; stamps = now.stamps }
  -- the stamps read and those left are all stamps
  pub stamps : now.stamps ++ left ≡ all
  -- the values so far, with those that the stamps left stand for, are those that all stamps stand
  -- for
  pub values : values_from blocks start.path writes now.values left ≡ values_at blocks start.path writes all
  -- if the block may read with the stamps that are left, it may read with all
  pub forth : Reads blocks start.path writes low count now.values left → Reads blocks start.path writes start.since count [] all
  -- if the block may read with all stamps, it may read with those that are left
  pub back : Reads blocks start.path writes start.since count [] all → Reads blocks start.path writes low count now.values left

-- before the first stamp the loop says so
pub begins : (blocks : Blocks) (start : Part) (writes : List Write) (count : ℕ) (all : List ℕ) → part_without_reads start ≡ start
    → IsReplaying blocks start start writes count start.since all all
begins blocks start writes count all bare =
    let values : [] ≡ start.values = ap (λ (p : Part). p.values) bare in
    let stamps : [] ≡ start.stamps = ap (λ (p : Part). p.stamps) bare in
    record {
      part = refl;
      stamps = ap (λ ks. ks ++ all) (sym stamps);
      values = ap (λ vs. values_from blocks start.path writes vs all) (sym values);
      forth = λ r. (r.0, subst (λ vs. AsksFrom blocks start.path writes vs all) (sym values) r.1);
      back = λ r. (r.0, subst (λ vs. AsksFrom blocks start.path writes vs all) values r.1);
    }

-- a read that is due is in order, and the block asks for it
pub due_some : (low count stamp : ℕ) (e : Effect) (v : ℕ) → variable_due low count stamp e ≡ Some v → (low ≤ stamp) × (stamp ≤ count) × (e ≡ Need v)
due_some low count stamp e v is = go (nat_le low stamp) refl (nat_le stamp count) refl is
  where
    needs : (e : Effect) → variable_asked e ≡ Some v → e ≡ Need v
    needs (Need w) is = ap Need cc
    needs _ is = absurd cc

    go : (x : Bool) → nat_le low stamp ≡ x → (y : Bool) → nat_le stamp count ≡ y → (if x && y then variable_asked e else None) ≡ Some v
        → (low ≤ stamp) × (stamp ≤ count) × (e ≡ Need v)
    go true a true b is = (grind (arith, nat_tests), grind (arith, nat_tests), needs e is)
    go true a false b is = absurd cc
    go false a y b is = absurd cc

-- if no read is due with a stamp that is in order, the block asks for no variable
due_none : (low count stamp : ℕ) (e : Effect) (v : ℕ) → variable_due low count stamp e ≡ None → low ≤ stamp → stamp ≤ count → e ≡ Need v → ⊥
due_none low count stamp e v is a b need =
    let x : nat_le low stamp ≡ true = grind (arith, nat_tests) in
    let y : nat_le stamp count ≡ true = grind (arith, nat_tests) in
    let asked : variable_asked e ≡ None = rw (x, y) at is in
    let there : variable_asked (Need v) ≡ None = subst (λ x. variable_asked x ≡ None) need asked in
    cc there

-- if one stamp more is read, the loop goes on
pub goes_on : (blocks : Blocks) (start now : Part) (writes : List Write) (count low stamp v : ℕ) (all left : List ℕ)
    → IsReplaying blocks start now writes count low all (stamp ∷ left) → variable_due low count stamp (blocks.effect now.path now.values) ≡ Some v
    → IsReplaying blocks start (record now { values = now.values ++ value_after stamp v writes ∷ []; stamps = now.stamps ++ stamp ∷ [] }) writes count stamp all left
goes_on blocks start now writes count low stamp v all left k due =
    let at : now.path ≡ start.path = ap (λ (p : Part). p.path) (k.part) in
    let is = due_some low count stamp (blocks.effect now.path now.values) v due in
    let need : blocks.effect start.path now.values ≡ Need v = ap (λ p. blocks.effect p now.values) (sym at) ∙ is.2 in
    let next : and_next blocks start.path writes stamp now.values ≡ now.values ++ value_after stamp v writes ∷ [] =
    ap (λ e. now.values ++ value_asked e stamp writes ∷ []) need in
    record {
      part = ap (λ (p : Part). record p { values = now.values ++ value_after stamp v writes ∷ []; stamps = now.stamps ++ stamp ∷ [] }) (k.part);
      stamps = append_assoc now.stamps (stamp ∷ []) left ∙ k.stamps;
      values = ap (λ vs. values_from blocks start.path writes vs left) (sym next) ∙ k.values;
      forth = λ r. k.forth ((is.0, is.1, r.0), ((v, need), subst (λ vs. AsksFrom blocks start.path writes vs left) (sym next) r.1));
      back = λ r. let b = k.back r in (b.0.2, subst (λ vs. AsksFrom blocks start.path writes vs left) next b.1.1);
    }

-- a stamp that isn't due makes the whole list illegal
pub stops : (blocks : Blocks) (start now other : Part) (joint : JointView) (low stamp : ℕ) (all left : List ℕ)
    → IsReplaying blocks start now joint.shared.writes joint.count low all (stamp ∷ left)
    → variable_due low joint.count stamp (blocks.effect now.path now.values) ≡ None
    → MayRead blocks (machine_of start other joint) all → ⊥
stops blocks start now other joint low stamp all left k due may =
    let at : now.path ≡ start.path = ap (λ (p : Part). p.path) (k.part) in
    let b = k.back (may.order, may.asks) in
    due_none low joint.count stamp (blocks.effect now.path now.values) b.1.0.0 due b.0.0 b.0.1 (ap (λ p. blocks.effect p now.values) at ∙ b.1.0.1)

-- without its reads the path is as at the start
pub rests : (blocks : Blocks) (start now : Part) (writes : List Write) (count low : ℕ) (all left : List ℕ) → part_without_reads start ≡ start
    → IsReplaying blocks start now writes count low all left → part_without_reads now ≡ start
rests blocks start now writes count low all left bare k = ap part_without_reads (k.part) ∙ bare

-- once no stamp is left, the block may have read with all of them
pub may_read : (blocks : Blocks) (start now other : Part) (joint : JointView) (low : ℕ) (all : List ℕ)
    → IsReplaying blocks start now joint.shared.writes joint.count low all [] → MayRead blocks (machine_of start other joint) all
may_read blocks start now other joint low all k = let r = k.forth (tt, tt) in record { order = r.0; asks = r.1 }

-- once no stamp is left, the block has read what all of them stand for
pub has_read : (blocks : Blocks) (start now : Part) (writes : List Write) (count low : ℕ) (all : List ℕ) → IsReplaying blocks start now writes count low all []
    → now ≡ record start { values = values_at blocks start.path writes all; stamps = all }
has_read blocks start now writes count low all k =
    k.part ∙ ap (λ vs. record start { values = vs; stamps = now.stamps }) (k.values)
    ∙ ap (λ ks. record start { values = values_at blocks start.path writes all; stamps = ks }) (sym (append-nil now.stamps) ∙ k.stamps)

-- a variable that its path shares is one that the joint part holds
pub needs_shared : (part : Part) (joint : JointView) (v : ℕ) → AreShared part joint → is_shared part.path.fixed v ≡ true → IsShared joint.shared.shared100 joint.shared.shared500 v
needs_shared part joint v shared e = rw (shared.hundreds, shared.upper) (of_fixed part.path.fixed v e)
  where
    of_fixed : (fixed : Fixed) (v : ℕ) → is_shared fixed v ≡ true → IsShared fixed.shared100 fixed.shared500 v
    of_fixed fixed v e = grind (arith, nat_tests)

-- a variable that a block writes for both paths is one that the joint part holds
pub writes_shared : (part : Part) (joint : JointView) (e : Effect) (after : PathView) (write : Option (ℕ × Var)) (moves : List Move) → AreShared part joint
    → ((to : PathView) (w : Written) (ms : List Move) → e ≡ Done to (Some w) ms → is_shared part.path.fixed w.variable ≡ true)
    → Done after (write_seen write) moves ≡ e → IfSome write (λ w. IsShared joint.shared.shared100 joint.shared.shared500 w.0)
writes_shared part joint e after None moves shared law is = tt
writes_shared part joint e after (Some w) moves shared law is =
    needs_shared part joint w.0 shared (law after (record { variable = w.0; value = w.1 }) moves (sym is))
