-- The items of a line, one after the other: their moves, their marks (each asks the drive how many
-- moves it took) and the end, and what both ends of the line keep with one item more. The functions
-- of line.rt, line_in.rt and line_out.rt (src) rest on it.
use Rattle.std.proofs.Common.{arith, ◌≡◌, ◌≤◌, ◌+◌, ℕ, suc, Bool, List, true, false, true≢false, [], ◌∷◌, ◌++◌, length, take, refl, ap, sym, ◌∙◌, subst, All, Contains}
use Rattle.std.proofs.lemmas.List.{append-nil, take-append-le, length-append}
use Rattle.std.proofs.lemmas.List.Elements.{All-nil, All-cons, All-append, All-weaker, All-contains, Contains-append_left, Contains-append_right, Contains-push}
use Rattle.nc_outside.specs.declared.lined_move.LinedMove.{LinedMove}
use Rattle.drive_line.specs.declared.item.Item.{Item}
use Rattle.drive_line.specs.declared.item.Item.TheVariants.{Move, Mark, Finish, End}
use Rattle.drive_line.specs.Line.{moves_among, has_end, EndIsLast, mark_counts, AreTaken, IsSending, IsTaking}

-- the moves of two lists, put together, are those of the first and then those of the second
pub moves_of_both : (a b : List Item) → moves_among (a ++ b) ≡ moves_among a ++ moves_among b
moves_of_both [] b = refl
moves_of_both (Move what ∷ a) b = ap (λ l. what ∷ l) (moves_of_both a b)
moves_of_both (Mark code ∷ a) b = moves_of_both a b
moves_of_both (Finish ∷ a) b = moves_of_both a b
moves_of_both (End ∷ a) b = moves_of_both a b

-- two lists have the end, put together, exactly if the second has it, where the first has not
pub end_of_both : (a b : List Item) → has_end a ≡ false → has_end (a ++ b) ≡ has_end b
end_of_both [] b open_ = refl
end_of_both (Move what ∷ a) b open_ = end_of_both a b open_
end_of_both (Mark code ∷ a) b open_ = end_of_both a b open_
end_of_both (Finish ∷ a) b open_ = end_of_both a b open_
end_of_both (End ∷ a) b open_ = absurd (true≢false open_)

-- the numbers of moves at the marks of two lists, put together, are those at the marks of the
-- first, and then those at the marks of the second, with the moves of the first counted
counts_of_both : (n : ℕ) (a b : List Item) → mark_counts n (a ++ b) ≡ mark_counts n a ++ mark_counts (n + length (moves_among a)) b
counts_of_both n [] b = let e : n ≡ n + 0 = omega arith in ap (λ k. mark_counts k b) e
counts_of_both n (Move what ∷ a) b =
    let e : suc n + length (moves_among a) ≡ n + length (what ∷ moves_among a) = omega arith in
    counts_of_both (suc n) a b ∙ ap (λ k. mark_counts (suc n) a ++ mark_counts k b) e
counts_of_both n (Mark code ∷ a) b = ap (λ l. n ∷ l) (counts_of_both n a b)
counts_of_both n (Finish ∷ a) b = counts_of_both n a b
counts_of_both n (End ∷ a) b = counts_of_both n a b

-- the same, from no move on, if n is the number of moves in the first list
counts_behind : (n : ℕ) (a b : List Item) → n ≡ length (moves_among a) → mark_counts 0 (a ++ b) ≡ mark_counts 0 a ++ mark_counts n b
counts_behind n a b counted =
    let e : 0 + length (moves_among a) ≡ n = omega (arith, counted) in counts_of_both 0 a b ∙ ap (λ k. mark_counts 0 a ++ mark_counts k b) e

-- nothing follows a single item
one_is_last : (x : Item) → EndIsLast (x ∷ [])
one_is_last (Move what) = tt
one_is_last (Mark code) = tt
one_is_last Finish = tt
one_is_last End = refl

-- with one item more, where the end was not sent, the end is last still
last_push : (a : List Item) (x : Item) → has_end a ≡ false → EndIsLast a → EndIsLast (a ++ x ∷ [])
last_push [] x open_ is = one_is_last x
last_push (Move what ∷ a) x open_ is = last_push a x open_ is
last_push (Mark code ∷ a) x open_ is = last_push a x open_ is
last_push (Finish ∷ a) x open_ is = last_push a x open_ is
last_push (End ∷ a) x open_ is = absurd (true≢false open_)

-- nothing is left behind the end
rest_is_none : (a b : List Item) → has_end a ≡ true → EndIsLast (a ++ b) → b ≡ []
rest_is_none [] b ended is = absurd (true≢false (sym ended))
rest_is_none (Move what ∷ a) b ended is = rest_is_none a b ended is
rest_is_none (Mark code ∷ a) b ended is = rest_is_none a b ended is
rest_is_none (Finish ∷ a) b ended is = rest_is_none a b ended is
rest_is_none (End ∷ []) b ended is = is
rest_is_none (End ∷ x ∷ a) b ended is = absurd (cc is)

-- where the end was taken all was taken
pub whole_of : (sent taken rest : List Item) → sent ≡ taken ++ rest → EndIsLast sent → has_end taken ≡ true → taken ≡ sent
whole_of sent taken rest e is ended =
    let none : rest ≡ [] = rest_is_none taken rest ended (subst EndIsLast e is) in sym (e ∙ ap (λ l. taken ++ l) none ∙ append-nil taken)

-- a move does not end the line
pub open_move : (a b : List Item) (what : LinedMove) → b ≡ a ++ Move what ∷ [] → has_end a ≡ false → has_end b ≡ false
open_move a b what e open_ = ap has_end e ∙ end_of_both a (Move what ∷ []) open_

-- a mark does not end the line
pub open_mark : (a b : List Item) (code : ℕ) → b ≡ a ++ Mark code ∷ [] → has_end a ≡ false → has_end b ≡ false
open_mark a b code e open_ = ap has_end e ∙ end_of_both a (Mark code ∷ []) open_

-- that the path has ended does not end the line
pub open_finish : (a b : List Item) → b ≡ a ++ Finish ∷ [] → has_end a ≡ false → has_end b ≡ false
open_finish a b e open_ = ap has_end e ∙ end_of_both a (Finish ∷ []) open_

-- the worker's end still keeps its facts with a move more
pub kept_move : (n m : ℕ) (a b : List Item) (what : LinedMove) (received : List ℕ) → m ≡ n + 1 → b ≡ a ++ Move what ∷ [] → has_end a ≡ false
    → IsSending n a received → IsSending m b received
kept_move n m a b what received more e open_ k =
    let longer = ap (λ l. length (moves_among l)) e ∙ ap length (moves_of_both a (Move what ∷ [])) ∙ length-append (moves_among a) (what ∷ []) in
    let before = k.counted in record {
      counted = omega (arith, more, before, longer);
      last = subst EndIsLast (sym e) (last_push a (Move what) open_ k.last);
      answered = subst (All (Contains received)) (sym (ap (mark_counts 0) e ∙ counts_of_both 0 a (Move what ∷ []) ∙ append-nil (mark_counts 0 a))) k.answered;
    }

-- the worker's end still keeps its facts with an item more that is no move and no mark
pub kept_other : (n : ℕ) (a b : List Item) (x : Item) (received : List ℕ) → moves_among (x ∷ []) ≡ [] → ((k : ℕ) → mark_counts k (x ∷ []) ≡ [])
    → b ≡ a ++ x ∷ [] → has_end a ≡ false → IsSending n a received → IsSending n b received
kept_other n a b x received no_move no_mark e open_ k =
    let moves : moves_among b ≡ moves_among a = ap moves_among e ∙ moves_of_both a (x ∷ []) ∙ ap (λ l. moves_among a ++ l) no_move ∙ append-nil (moves_among a) in
    let marks : mark_counts 0 b ≡ mark_counts 0 a =
    ap (mark_counts 0) e ∙ counts_of_both 0 a (x ∷ []) ∙ ap (λ l. mark_counts 0 a ++ l) (no_mark (0 + length (moves_among a))) ∙ append-nil (mark_counts 0 a) in
    record {
      counted = k.counted ∙ sym (ap (λ (l : List LinedMove). length l) moves);
      last = subst EndIsLast (sym e) (last_push a x open_ k.last);
      answered = subst (All (Contains received)) (sym marks) k.answered;
    }

-- the worker's end still keeps its facts with a mark, whose answer came behind others
pub kept_mark : (n : ℕ) (a b : List Item) (code : ℕ) (old others new : List ℕ) → b ≡ a ++ Mark code ∷ [] → new ≡ old ++ (others ++ n ∷ []) → has_end a ≡ false
    → IsSending n a old → IsSending n b new
kept_mark n a b code old others new e f open_ k =
    let all = All-append (Contains new) (mark_counts 0 a) (n ∷ [])
    (All-weaker (Contains old) (Contains new) (λ x is. subst (λ l. Contains l x) (sym f) (Contains-append_left old (others ++ n ∷ []) x is)) (mark_counts 0 a) k.answered)
    (All-cons (Contains new) n [] (subst (λ l. Contains l n) (sym f) (Contains-append_right old (others ++ n ∷ []) n (Contains-push others n))) (All-nil (Contains new))) in
    record {
      counted = k.counted ∙ sym (ap (λ l. length (moves_among l)) e ∙ ap length (moves_of_both a (Mark code ∷ []) ∙ append-nil (moves_among a)));
      last = subst EndIsLast (sym e) (last_push a (Mark code) open_ k.last);
      answered = subst (All (Contains new)) (sym (ap (mark_counts 0) e ∙ counts_behind n a (Mark code ∷ []) k.counted)) all;
    }

-- no mark stands behind more moves than there are
counts_are_low : (n : ℕ) (a : List Item) → All (λ k. k ≤ n + length (moves_among a)) (mark_counts n a)
counts_are_low n [] = All-nil (λ k. k ≤ n + length (moves_among []))
counts_are_low n (Move what ∷ a) =
    All-weaker (λ k. k ≤ suc n + length (moves_among a)) (λ k. k ≤ n + length (what ∷ moves_among a)) (λ k low. omega (arith, low)) (mark_counts (suc n) a) (counts_are_low (suc n) a)
counts_are_low n (Finish ∷ a) = counts_are_low n a
counts_are_low n (Mark code ∷ a) = All-cons (λ k. k ≤ n + length (moves_among a)) n (mark_counts n a) (omega arith) (counts_are_low n a)
counts_are_low n (End ∷ a) = counts_are_low n a

-- what was sent before a mark that was answered was taken
pub taken_of : (sent taken rest : List Item) (received others : List ℕ) → sent ≡ taken ++ rest → mark_counts 0 taken ≡ received ++ others
    → All (Contains received) (mark_counts 0 sent) → All (AreTaken sent taken) (mark_counts 0 sent)
taken_of sent taken rest received others e f answered =
    let moves = moves_among taken in
    let m = ap moves_among e ∙ moves_of_both taken rest in
    All-weaker (Contains received) (AreTaken sent taken)
    (λ n is.
    let given : Contains (mark_counts 0 taken) n = subst (λ l. Contains l n) (sym f) (Contains-append_left received others n is) in
    let small = All-contains (λ k. k ≤ 0 + length moves) (mark_counts 0 taken) n (counts_are_low 0 taken) given in
    let low : n ≤ length moves = omega (arith, small) in
    (low, sym (ap (take n) m ∙ take-append-le n moves (moves_among rest) low)))
    (mark_counts 0 sent) answered

-- the drive's end still keeps its facts with a move more
pub took_move : (n m : ℕ) (a b : List Item) (given : List ℕ) (what : LinedMove) → m ≡ n + 1 → b ≡ a ++ Move what ∷ [] → IsTaking n false false a given
    → IsTaking m false false b given
took_move n m a b given what more e k =
    let longer = ap (λ l. length (moves_among l)) e ∙ ap length (moves_of_both a (Move what ∷ [])) ∙ length-append (moves_among a) (what ∷ []) in
    let was = k.counted in record {
      counted = omega (arith, more, was, longer);
      ended = sym (ap has_end e ∙ end_of_both a (Move what ∷ []) (sym k.ended));
      given_back = k.given_back ∙ sym (ap (mark_counts 0) e ∙ counts_of_both 0 a (Move what ∷ []) ∙ append-nil (mark_counts 0 a));
    }

-- the drive's end still keeps its facts with a mark, which is owed an answer
pub took_mark : (n : ℕ) (a b : List Item) (code : ℕ) (given : List ℕ) → b ≡ a ++ Mark code ∷ [] → IsTaking n false false a given → IsTaking n false true b given
took_mark n a b code given e k = record {
  counted = k.counted ∙ sym (ap (λ l. length (moves_among l)) e ∙ ap length (moves_of_both a (Mark code ∷ []) ∙ append-nil (moves_among a)));
  ended = sym (ap has_end e ∙ end_of_both a (Mark code ∷ []) (sym k.ended));
  given_back = ap (λ l. l ++ n ∷ []) (sym (append-nil given) ∙ k.given_back) ∙ sym (ap (mark_counts 0) e ∙ counts_behind n a (Mark code ∷ []) k.counted);
}

-- the drive's end still keeps its facts with an item more that is no move and no mark: it has ended
-- just if that is the end
pub took_other : (n : ℕ) (is_ended : Bool) (a b : List Item) (x : Item) (given : List ℕ) → moves_among (x ∷ []) ≡ [] → ((k : ℕ) → mark_counts k (x ∷ []) ≡ [])
    → has_end (x ∷ []) ≡ is_ended → b ≡ a ++ x ∷ [] → IsTaking n false false a given → IsTaking n is_ended false b given
took_other n is_ended a b x given no_move no_mark ends e k =
    let moves : moves_among b ≡ moves_among a = ap moves_among e ∙ moves_of_both a (x ∷ []) ∙ ap (λ l. moves_among a ++ l) no_move ∙ append-nil (moves_among a) in
    let marks : mark_counts 0 b ≡ mark_counts 0 a =
    ap (mark_counts 0) e ∙ counts_of_both 0 a (x ∷ []) ∙ ap (λ l. mark_counts 0 a ++ l) (no_mark (0 + length (moves_among a))) ∙ append-nil (mark_counts 0 a) in
    record {
      counted = k.counted ∙ sym (ap (λ (l : List LinedMove). length l) moves);
      ended = sym (ap has_end e ∙ end_of_both a (x ∷ []) (sym k.ended) ∙ ends);
      given_back = k.given_back ∙ sym marks;
    }

-- the mark that was taken last was answered
pub answered : (n : ℕ) (ended : Bool) (a : List Item) (before after : List ℕ) → after ≡ before ++ n ∷ [] → IsTaking n ended true a before → IsTaking n ended false a after
answered n ended a before after e k = record {
  counted = k.counted;
  ended = k.ended;
  given_back = append-nil after ∙ e ∙ k.given_back;
}
