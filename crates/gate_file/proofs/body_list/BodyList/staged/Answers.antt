-- The bytes of the list without their first gate, with a shut gate at the end, are what is to be
-- written to add its bodies (`BodyList::staged`, src/body_list.rt).
use Rattle.std.proofs.Common.{rules, ◌≡◌, ◌++◌, [], ◌∷◌, List, ℕ, length, drop, sym, subst, ap, ◌∙◌, arith}
use Rattle.gate_file.specs.Chain.{Opens, IsStaged, ends_at}
use Rattle.gate_file.proofs.Bodies.{bytes_end, some_bytes, chain_staged}
use Rattle.gate_file.proofs.Beginning.{staged_length}
use Rattle.gate_file.proofs.body_list.BodyList.staged.Goals as goal

pub split_at-requires : goal.split_at-requires
split_at-requires c =
    let l = c.self.inside in
    let size : length l.bytes.items ≡ ends_at c.args.self.now = bytes_end l.ends.items l.bytes.items c.self.invariant ∙ ap ends_at c.self.view_is in
    omega (arith, ap length c.deref.ensures.value, size, some_bytes c.args.self.now c.requires)

pub returns-clause-staged : goal.returns-clause-staged
returns-clause-staged c =
    let l = c.self.inside in
    let some = some_bytes c.args.self.now c.requires in
    let chain : IsStaged c.args.self.now (drop 1 l.bytes.items ++ 0 ∷ []) = chain_staged c.args.self.now l.bytes.items c.requires (subst (λ (b : List (List ℕ)). Opens b l.bytes.items []) c.self.view_is c.self.invariant.opens) in
    let bytes_are : c.push_reserved.new.self.items ≡ drop 1 l.bytes.items ++ 0 ∷ [] = search rules in
    subst (IsStaged c.args.self.now) (sym bytes_are) chain

pub returns-clause-size : goal.returns-clause-size
returns-clause-size c = staged_length c.args.self.now c.push_reserved.new.self.items (returns-clause-staged c)
