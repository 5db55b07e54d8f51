-- The entries that lie whole in the bytes are taken: a file that opened the bodies before and then
-- had these bytes opens the longer list, and goes on with the bytes that are left
-- (`BodyList::take_entries`, src/body_list.rt).
use Rattle.std.proofs.Common.{rules, ◌≡◌, ◌+◌, ◌++◌, List, ℕ, length, take, drop, sym, subst, ◌∙◌, ap, arith}
use Rattle.std.proofs.Math.Seq.{take-append-add}
use Rattle.gate_file.specs.Bodies.{bodies_from, AreEnds, AreBodies}
use Rattle.gate_file.specs.Chain.{Opens}
use Rattle.gate_file.proofs.Bodies.{length_bodies, are_taken}
use Rattle.gate_file.proofs.body_list.BodyList.take_entries.Goals as goal

pub invariant_of-self-2 : goal.invariant_of-self-2
invariant_of-self-2 c =
    let old = c.self.inside.bytes.items in
    let ends = c.self.inside.ends.items in
    let seen = c.args.seen.now in
    let n = c.list_ends-taken.result in
    let start : c.len-start.result ≡ length old = search rules in
    let extended : c.extend_from_slice.new.self.items ≡ old ++ seen = search rules in
    let bytes_are : c.truncate.new.self.items ≡ old ++ take n seen = c.truncate.ensures.items ∙ ap (take (c.len-start.result + n)) extended ∙ ap (λ (k : ℕ). take (k + n) (old ++ seen)) start ∙ take-append-add old seen n in
    let same = c.reserve.ensures.items in
    let are : AreBodies c.reserve.new.self.items old = subst (λ (l : List ℕ). AreBodies l old) (sym same) c.self.invariant in
    let before : AreEnds 0 c.reserve.new.self.items c.len-start.result = subst (AreEnds 0 c.reserve.new.self.items) (sym start) are.are_ends in
    let after : AreEnds 0 c.list_ends-taken.new.ends.items (length old + n) = subst (λ (k : ℕ). AreEnds 0 c.list_ends-taken.new.ends.items (k + n)) start (c.list_ends-taken.ensures.ends before) in
    subst (AreBodies c.list_ends-taken.new.ends.items) (sym bytes_are)
    (are_taken c.reserve.new.self.items c.list_ends-taken.new.ends.items old seen n are c.list_ends-taken.ensures.within after (λ file behind opens. c.list_ends-taken.ensures.marks old file behind (sym start) before opens))

pub returns-clause-reads : goal.returns-clause-reads
returns-clause-reads c = λ file behind opens.
    let old = c.self.inside.bytes.items in
    let ends = c.reserve.new.self.items in
    let seen = c.args.seen.now in
    let n = c.list_ends-taken.result in
    let start : c.len-start.result ≡ length old = search rules in
    let extended : c.extend_from_slice.new.self.items ≡ old ++ seen = search rules in
    let bytes_are : c.truncate.new.self.items ≡ old ++ take n seen = c.truncate.ensures.items ∙ ap (take (c.len-start.result + n)) extended ∙ ap (λ (k : ℕ). take (k + n) (old ++ seen)) start ∙ take-append-add old seen n in
    let same = c.reserve.ensures.items in
    let before : Opens (bodies_from 0 ends old) file (seen ++ behind) = subst (λ (l : List ℕ). Opens (bodies_from 0 l old) file (seen ++ behind)) (sym same) (subst (λ (b : List (List ℕ)). Opens b file (seen ++ behind)) (sym c.self.view_is) opens) in
    let are : AreEnds 0 ends c.len-start.result = subst (AreEnds 0 ends) (sym start) (subst (λ (l : List ℕ). AreEnds 0 l (length old)) (sym same) c.self.invariant.are_ends) in
    subst (λ (l : List ℕ). Opens (bodies_from 0 c.list_ends-taken.new.ends.items l) file (drop n seen ++ behind)) (sym bytes_are) (c.list_ends-taken.ensures.marks old file behind (sym start) are before)

pub returns-clause-moved : goal.returns-clause-moved
returns-clause-moved c = λ some.
    let more = c.list_ends-taken.ensures.moved some in
    let count = length_bodies 0 c.self.inside.ends.items c.self.inside.bytes.items in
    (more.0, omega (arith, more.1, ap length c.self.view_is, count, length_bodies 0 c.list_ends-taken.new.ends.items c.truncate.new.self.items, ap length c.reserve.ensures.items))

pub returns-clause-opens : goal.returns-clause-opens
returns-clause-opens c = λ file behind opens. (drop c.list_ends-taken.result c.args.seen.now ++ behind, returns-clause-reads c file behind opens)

pub returns-clause-grown : goal.returns-clause-grown
returns-clause-grown c =
    let count = length_bodies 0 c.self.inside.ends.items c.self.inside.bytes.items in
    omega (arith, c.list_ends-taken.ensures.grown, ap length c.self.view_is, count, length_bodies 0 c.list_ends-taken.new.ends.items c.truncate.new.self.items, ap length c.reserve.ensures.items)
