-- The ends noted so far are those of the entries seen, and the rest of the bytes is unread (loop of
-- `list_ends`, src/body_list.rt).
use Rattle.std.proofs.Common.{◌≡◌, ◌+◌, ◌-◌, ◌*◌, ◌<◌, ◌≤◌, ◌++◌, List, ℕ, length, take, drop, vec_capacity}
use Rattle.gate_file.specs.Bodies.{bodies_from, AreEnds}
use Rattle.gate_file.specs.Chain.{Opens}
use Rattle.gate_file.proofs.body_list.list_ends.Given as goal

abbrev pub invariant-loop-body : goal.invariant-loop-body
invariant-loop-body l = record {
  marks : (bytes file behind : List ℕ) → length bytes ≡ l.start → AreEnds 0 l.initial.ends.items l.start → Opens (bodies_from 0 l.initial.ends.items bytes) file (l.seen ++ behind)
      → Opens (bodies_from 0 l.ends.items (bytes ++ take (length l.seen - length l.rest) l.seen)) file (l.rest ++ behind);
  ends_are : AreEnds 0 l.initial.ends.items l.start → AreEnds 0 l.ends.items (l.start + (length l.seen - length l.rest));
  left : length l.rest ≤ length l.seen;
  place : l.rest ≡ drop (length l.seen - length l.rest) l.seen;
  moved : length l.rest < length l.seen → (0 < length l.rest) × (length l.initial.ends.items < length l.ends.items);
  grown : length l.initial.ends.items ≤ length l.ends.items;
  room : 5 * length l.ends.items + length l.rest ≤ 5 * vec_capacity l.ends + 4;
}

abbrev pub decreases-loop-body : goal.decreases-loop-body
decreases-loop-body l = length l.rest
