-- After a write of a shared variable the nodes are linked with the new one, and the latest places
-- are right (src/shared.rt).
use Rattle.std.proofs.Common.{◌≡◌, ◌≤◌, ◌<◌, All, arith, ap, sym, subst, set, ℕ, Some, List, length}
use Rattle.common_vars.specs.Links.{AreEnds, IsSomeBefore, stamp_at}
use Rattle.common_vars.specs.declared.links.Node.{Node}
use Rattle.common_vars.specs.Writes.{Writes, IsShared}
use Rattle.common_vars.specs.declared.links.Write.{Write}
use Rattle.common_vars.proofs.Grown.{stay_linked, stamps_from, shared_small}
use Rattle.common_vars.proofs.shared.Shared.write.Goals as goal

pub invariant_of-self : goal.invariant_of-self
invariant_of-self c =
    let P : Writes → Type 0 = λ shared. All (λ w. w.stamp ≤ c.args.stamp) shared.writes in
    let Q : Writes → Type 0 = λ shared. IsShared shared.shared100 shared.shared500 c.args.v in
    let in_order = stamps_from c.self.inside.nodes.items c.args.stamp (subst P (sym c.self.view_is) c.requires.in_order) in
    let small : c.args.v < 1000 =
    shared_small _ _ c.args.v c.self.invariant.0 c.self.invariant.1 (subst Q (sym c.self.view_is) c.requires.shared) in
    let both = stay_linked c.self.inside.nodes.items c.push_reserved.new.self.items c.self.inside.latest.items
    c.linked.result c.args.v c.index.result.now c.self.invariant.2 c.self.invariant.3 small
    (ap (λ w. w.variable) c.linked.ensures.write) c.linked.ensures.previous c.index.ensures
    (let T : List Node → Type 0 = λ nodes. IsSomeBefore nodes (length nodes) c.args.v c.linked.result.jump in
    subst T c.deref.ensures.value c.linked.ensures.jump)
    (λ i inside.
    let R : Write → Type 0 = λ w. stamp_at c.self.inside.nodes.items i ≤ w.stamp in
    subst R (sym c.linked.ensures.write) (in_order i inside))
    c.push_reserved.ensures.items in (
      c.self.invariant.0,
      c.self.invariant.1,
      both.0,
      let S : ℕ → Type 0 = λ k. AreEnds c.push_reserved.new.self.items (set c.self.inside.latest.items c.args.v (Some k)) in
          let place : length c.self.inside.nodes.items ≡ c.len-place.result =
          omega (arith, c.deref.ensures.len, ap length c.deref.ensures.value) in
          subst S place both.1,
    )
