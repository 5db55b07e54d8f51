-- A body that is pushed stands last in the list, and its end is noted (`BodyList::push`,
-- src/body_list.rt).
use Rattle.std.proofs.Common.{rules, ◌≡◌, ◌+◌, ◌++◌, [], ◌∷◌, List, ℕ, length, sym, subst, ◌∙◌, ap, arith, append_assoc, length-append}
use Rattle.gate_file.specs.Bodies.{bodies_from, AreBodies}
use Rattle.gate_file.specs.Chain.{entry}
use Rattle.gate_file.proofs.Bodies.{are_more, more_bodies}
use Rattle.gate_file.proofs.Chains.{length-entry}
use Rattle.gate_file.proofs.body_list.BodyList.push.Goals as goal

pub invariant_of-self-2 : goal.invariant_of-self-2
invariant_of-self-2 c =
    let old = c.self.inside.bytes.items in
    let ends = c.self.inside.ends.items in
    let body = c.args.body.now in
    let end : ℕ = length old + 5 + length body in
    let bytes_are : c.put_entry.new.room.items ≡ old ++ (1 ∷ entry body) = c.put_entry.ensures.items ∙ ap (λ (l : List ℕ). l ++ entry body) (c.push_reserved.ensures.items ∙ ap (λ (l : List ℕ). l ++ 1 ∷ []) c.reserve-2.ensures.items) ∙ append_assoc old (1 ∷ []) (entry body) in
    let size : c.len.result ≡ length c.put_entry.new.room.items = search rules in
    let place : c.len.result ≡ end = omega (arith, size, ap length bytes_are, length-append old (1 ∷ entry body), length-entry body) in
    let ends_are : c.push_reserved-2.new.self.items ≡ ends ++ end ∷ [] = c.push_reserved-2.ensures.items ∙ ap (λ (l : List ℕ). l ++ c.len.result ∷ []) c.reserve.ensures.items ∙ ap (λ (n : ℕ). ends ++ n ∷ []) place in
    let more = are_more ends old body end c.self.invariant c.requires (omega arith) in
    subst (λ (l : List ℕ). AreBodies l c.put_entry.new.room.items) (sym ends_are) (subst (AreBodies (ends ++ end ∷ [])) (sym bytes_are) more)

pub returns-clause-ok : goal.returns-clause-ok
returns-clause-ok c =
    let old = c.self.inside.bytes.items in
    let ends = c.self.inside.ends.items in
    let body = c.args.body.now in
    let end : ℕ = length old + 5 + length body in
    let bytes_are : c.put_entry.new.room.items ≡ old ++ (1 ∷ entry body) = c.put_entry.ensures.items ∙ ap (λ (l : List ℕ). l ++ entry body) (c.push_reserved.ensures.items ∙ ap (λ (l : List ℕ). l ++ 1 ∷ []) c.reserve-2.ensures.items) ∙ append_assoc old (1 ∷ []) (entry body) in
    let size : c.len.result ≡ length c.put_entry.new.room.items = search rules in
    let place : c.len.result ≡ end = omega (arith, size, ap length bytes_are, length-append old (1 ∷ entry body), length-entry body) in
    let ends_are : c.push_reserved-2.new.self.items ≡ ends ++ end ∷ [] = c.push_reserved-2.ensures.items ∙ ap (λ (l : List ℕ). l ++ c.len.result ∷ []) c.reserve.ensures.items ∙ ap (λ (n : ℕ). ends ++ n ∷ []) place in
    ap (λ (l : List ℕ). bodies_from 0 l c.put_entry.new.room.items) ends_are ∙ ap (bodies_from 0 (ends ++ end ∷ [])) bytes_are ∙ more_bodies ends old body end c.self.invariant (omega arith) ∙ ap (λ (l : List (List ℕ)). l ++ body ∷ []) c.self.view_is
