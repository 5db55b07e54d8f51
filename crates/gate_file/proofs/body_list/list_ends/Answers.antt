-- With one entry more noted, the ends are still those of the entries that lie whole in the bytes
-- (loop of `list_ends`, src/body_list.rt).
use Rattle.std.proofs.Common.{◌≡◌, ◌+◌, ◌-◌, [], ◌∷◌, ◌++◌, List, ℕ, length, take, sym, ap, subst, ◌∙◌, arith, length-append}
use Rattle.gate_file.specs.Bodies.{bodies_from, AreEnds}
use Rattle.gate_file.proofs.Windows.{taken_more, behind_entry, marked_ends, marked_bodies}
use Rattle.gate_file.proofs.body_list.list_ends.Goals as goal

pub loop-body-preserved : goal.loop-body-preserved
loop-body-preserved c =
    let i = c.loop-body.invariant in
    let seen = c.args.seen.now in
    let rest = c.loop-body.rest.now in
    let behind = c.in-Some.behind.now in
    let body = c.in-Some._body.now in
    let ends = c.loop-body.ends.items in
    let found = c.in-Some.ensures in
    let left = behind_entry body rest behind seen found.0 i.left i.place in
    let more : c.push_reserved.new.self.items ≡ ends ++ (c.args.start + (length seen - length behind)) ∷ [] = c.push_reserved.ensures.items in
    let count : length c.push_reserved.new.self.items ≡ length ends + 1 = ap length more ∙ length-append ends ((c.args.start + (length seen - length behind)) ∷ []) in
    record {
      marks = λ bytes file after size are opens.
          let noted = marked_bodies seen rest behind body ends c.args.start found.0 i.left i.place (i.ends_are are) bytes size in
          let is = ap (λ (l : List ℕ). bodies_from 0 l (bytes ++ take (length seen - length behind) seen)) more ∙ noted in
          taken_more (bodies_from 0 ends (bytes ++ take (length seen - length rest) seen)) (bodies_from 0 c.push_reserved.new.self.items (bytes ++ take (length seen - length behind) seen)) file body rest behind after is (i.marks bytes file after size are opens) found.0;
      ends_are = λ are. subst (λ (l : List ℕ). AreEnds 0 l (c.args.start + (length seen - length behind))) (sym more) (marked_ends seen rest behind body ends c.args.start found.0 i.left i.place (i.ends_are are));
      left = omega (arith, i.left, left.0);
      place = left.1;
      moved = λ less. (found.1, omega (arith, count, i.grown));
      grown = omega (arith, count, i.grown);
      room = omega (arith, count, i.room, left.0, c.push_reserved.ensures.capacity);
    }
