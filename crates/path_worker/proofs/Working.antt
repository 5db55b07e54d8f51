-- The answers of a worker, one after another: its calls, and the items that it sends. `run_path`
-- (src/worker.rt), `run_lane` (src/lane.rt) and Driving.antt rest on it.
use Rattle.std.proofs.Common.{arith, ◌≡◌, All, ◌+◌, ℕ, List, [], ◌∷◌, ◌++◌, length, map, flat_map, refl, ap, sym, ◌∙◌, subst, append_assoc, Option, Some, None}
use Rattle.std.proofs.lemmas.List.{length-append}
use Rattle.std.proofs.lemmas.Grind.{flat_map-append}
use Rattle.nc_number.specs.declared.path.Path.{Path}
use Rattle.nc_outside.specs.declared.lined_move.LinedMove.{LinedMove}
use Rattle.nc_outside.specs.Lined.{lined_moves}
use Rattle.nc_outside.specs.declared.halt.Next.{Next}
use Rattle.nc_outside.specs.declared.halt.Next.TheVariants.{Silent, Moves, Drain, Finished, Halted}
use Rattle.nc_outside.specs.declared.stepper.Call.{Call}
use Rattle.nc_outside.specs.declared.stepper.Call.TheVariants.{Step}
use Rattle.nc_outside.specs.Calls.{IsCalled, moves_of, told_at, told_by}
use Rattle.drive_line.specs.declared.item.Item.{Item}
use Rattle.drive_line.specs.declared.item.Item.TheVariants.{Move}
use Rattle.drive_line.specs.Line.{moves_among, told_among}
use Rattle.nc_outside.specs.declared.got.Got.{Got}
use Rattle.nc_outside.specs.declared.got.Got.TheVariants.{Moved}
use Rattle.std.proofs.lemmas.List.Elements.{All-head, All-tail}
use Rattle.drive_line.proofs.Items.{moves_of_both}
use Rattle.path_worker.specs.Work.{items_at, drained_at, calls_made, told_at_end, Works, GoesOn, IsAnswerOf, IsWhole}
use Rattle.path_worker.specs.declared.worker.Why.{Why}

-- what got some calls and then others got all of them
pub called_more : (a b c : Option (List Call)) (xs ys : List Call) → IsCalled a b xs → IsCalled b c ys → IsCalled a c (xs ++ ys)
called_more None None c xs ys p q = q
called_more None (Some was) c xs ys p q = absurd (cc p)
called_more (Some was) None c xs ys p q = absurd (cc p)
called_more (Some was) (Some is) c xs ys p q =
    let e : is ≡ was ++ xs = cc p in q ∙ ap Some (ap (λ l. l ++ ys) e ∙ append_assoc was xs ys)

-- the moves of an answer stand before those of the later items
moves_then : (moves : List LinedMove) (items : List Item) → moves_among (map Move moves ++ items) ≡ moves ++ moves_among items
moves_then [] items = refl
moves_then (what ∷ moves) items = ap (λ l. what ∷ l) (moves_then moves items)

-- the moves that are sent at an answer are those that it gives
sent_at : (answer : Next) (items : List Item) → moves_among (items_at answer ++ items) ≡ moves_of answer ++ moves_among items
sent_at Silent items = refl
sent_at (Moves moves) items = moves_then (lined_moves moves) items
sent_at (Drain code) items = refl
sent_at Finished items = refl
sent_at (Halted why) items = refl

-- the calls of two lists of answers are those of the first and then those of the second
calls_of_both : (path : Path) (n : ℕ) (xs ys : List Next)
    → calls_made path n (xs ++ ys) ≡ calls_made path n xs ++ calls_made path (n + length (moves_among (flat_map items_at xs))) ys
calls_of_both path n [] ys = let e : n ≡ n + 0 = omega arith in ap (λ k. calls_made path k ys) e
calls_of_both path n (x ∷ xs) ys =
    let m = n + length (moves_of x) in
    let all = ap length (sent_at x (flat_map items_at xs)) ∙ length-append (moves_of x) (moves_among (flat_map items_at xs)) in
    let e : m + length (moves_among (flat_map items_at xs)) ≡ n + length (moves_among (items_at x ++ flat_map items_at xs)) = omega (arith, all) in
    let drained = drained_at path n x in
    let first = calls_made path m xs in
    ap (λ l. Step path x ∷ (drained ++ l)) (calls_of_both path m xs ys ∙ ap (λ k. first ++ calls_made path k ys) e)
    ∙ ap (λ l. Step path x ∷ l)
    (sym (append_assoc drained first (calls_made path (n + length (moves_among (items_at x ++ flat_map items_at xs))) ys)))

-- what a worker did at some answers and then at others it did at all of them
pub works_more : (path : Path) (a b c : Option (List Call)) (old mid new : List Item) (xs ys : List Next)
    → Works path a b old mid xs → Works path b c mid new ys → Works path a c old new (xs ++ ys)
works_more path a b c old mid new xs ys p q =
    let n = length (moves_among old) in
    let first = flat_map items_at xs in
    let e : length (moves_among mid) ≡ n + length (moves_among first) =
    ap (λ l. length (moves_among l)) p.items ∙ ap length (moves_of_both old first) ∙ length-append (moves_among old) (moves_among first) in
    let then : IsCalled b c (calls_made path (n + length (moves_among first)) ys) = subst (λ k. IsCalled b c (calls_made path k ys)) e q.calls in
    record {
      calls = subst (IsCalled a c) (sym (calls_of_both path n xs ys)) (called_more a b c (calls_made path n xs) (calls_made path (n + length (moves_among first)) ys) p.calls then);
      items = q.items ∙ ap (λ l. l ++ flat_map items_at ys) p.items ∙ append_assoc old first (flat_map items_at ys)
          ∙ ap (λ l. old ++ l) (sym (flat_map-append items_at xs ys));
    }

-- what the moves of an answer tell stands before what the later items tell
told_then : (moves : List LinedMove) (items : List Item) → told_among (map Move moves ++ items) ≡ map Moved moves ++ told_among items
told_then [] items = refl
told_then (what ∷ moves) items = ap (λ l. Moved what ∷ l) (told_then moves items)

-- what is sent at an answer behind which the path goes on tells what the step answered
told_sent : (answer : Next) (items : List Item) → GoesOn answer → told_among (items_at answer ++ items) ≡ told_at answer ++ told_among items
told_sent Silent items goes = refl
told_sent (Moves moves) items goes = told_then (lined_moves moves) items
told_sent (Drain code) items goes = refl
told_sent Finished items goes = absurd goes
told_sent (Halted why) items goes = absurd goes

-- the call at a drain answers nothing
none_told : (path : Path) (n : ℕ) (answer : Next) (calls : List Call) → told_by (drained_at path n answer ++ calls) ≡ told_by calls
none_told path n Silent calls = refl
none_told path n (Moves moves) calls = refl
none_told path n (Drain code) calls = refl
none_told path n Finished calls = refl
none_told path n (Halted why) calls = refl

-- what is sent at the last answer tells the end of the path, if it has ended
told_last : (path : Path) (n : ℕ) (last : Next) (why : Why) → IsAnswerOf last why
    → told_among (flat_map items_at (last ∷ [])) ≡ told_by (calls_made path n (last ∷ [])) ++ told_at_end why
told_last path n last Why.Finished is =
    subst (λ (x : Next). told_among (flat_map items_at (x ∷ [])) ≡ told_by (calls_made path n (x ∷ [])) ++ told_at_end Why.Finished) (sym is) refl
told_last path n last (Why.Halted why) is =
    subst (λ (x : Next). told_among (flat_map items_at (x ∷ [])) ≡ told_by (calls_made path n (x ∷ [])) ++ told_at_end (Why.Halted why)) (sym is) refl

-- what was sent tells what the calls answered, and then the end of the path, if it has ended
told_all : (path : Path) (n : ℕ) (before : List Next) (last : Next) (why : Why) → All GoesOn before → IsAnswerOf last why
    → told_among (flat_map items_at (before ++ last ∷ [])) ≡ told_by (calls_made path n (before ++ last ∷ [])) ++ told_at_end why
told_all path n [] last why goes is = told_last path n last why is
told_all path n (x ∷ before) last why goes is =
    let m = n + length (moves_of x) in
    let calls = calls_made path m (before ++ last ∷ []) in
    told_sent x (flat_map items_at (before ++ last ∷ [])) (All-head GoesOn x before goes)
    ∙ ap (λ l. told_at x ++ l) (told_all path m before last why (All-tail GoesOn x before goes) is ∙ ap (λ l. l ++ told_at_end why) (sym (none_told path n x calls)))
    ∙ sym (append_assoc (told_at x) (told_by (drained_at path n x ++ calls)) (told_at_end why))

-- what a worker sent in its whole run tells what its calls answered, and then the end of the path,
-- if it has ended
pub sent_is_answered : (path : Path) (n : ℕ) (answers : List Next) (why : Why) → IsWhole answers why
    → told_among (flat_map items_at answers) ≡ told_by (calls_made path n answers) ++ told_at_end why
sent_is_answered path n answers why whole =
    subst (λ (l : List Next). told_among (flat_map items_at l) ≡ told_by (calls_made path n l) ++ told_at_end why) (sym whole.2) (told_all path n whole.0 whole.1 why whole.3 whole.4)
