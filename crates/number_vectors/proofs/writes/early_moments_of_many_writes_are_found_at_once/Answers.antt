-- One write more, at the next stamp, leaves room for those to come and all writes early (first loop
-- of `early_moments_of_many_writes_are_found_at_once`, src/writes.rt).
use Rattle.std.proofs.Common.{◌≡◌, ◌≤◌, ◌+◌, ℕ, List, [], ◌∷◌, ◌++◌, All, sym, subst, arith}
use Rattle.std.proofs.lemmas.List.Elements.{All-append, All-cons, All-nil}
use Rattle.common_vars.specs.declared.links.Write.{Write}
use Rattle.number_vectors.proofs.writes.early_moments_of_many_writes_are_found_at_once.Goals as goal

-- a list of writes and one write more, none later than this stamp, are none later than the next
one_more_is_early : (writes longer : List Write) (w : Write) (stamp : ℕ) → All (λ w. w.stamp ≤ stamp) writes → w.stamp ≤ stamp
    → longer ≡ writes ++ w ∷ [] → All (λ w. w.stamp ≤ stamp + 1) longer
one_more_is_early writes longer w stamp early now grown =
    let Early : Write → Type 0 = λ w. w.stamp ≤ stamp in
    let all : All Early (writes ++ w ∷ []) = All-append Early writes (w ∷ []) early (All-cons Early w [] now (All-nil Early)) in
    let P : List Write → Type 0 = All Early in
    let here : All Early longer = subst P (sym grown) all in
    λ k d inside. let at = here k d inside in omega arith

pub loop-stamp-preserved : goal.loop-stamp-preserved
loop-stamp-preserved g c =
    let before = c.loop-stamp.invariant in
    record {
      upper = omega (arith, before.upper, c.write.ensures.upper);
      room = omega (arith, before.room, c.write.ensures.room_left);
      early = one_more_is_early c.loop-stamp.shared.writes c.write.new.self.writes _ c.loop-stamp.stamp before.early (omega arith) c.write.ensures.written;
    }
