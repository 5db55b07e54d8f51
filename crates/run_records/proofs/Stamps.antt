-- Stamps and their bytes: that they are read again, and have one spelling. For OneSpelling,
-- EditsSpelled, and the proofs of src/entry.rt, of `push` of a list of stamps (src/lists.rt) and of
-- `take_stamps` (src/reading.rt).
use Rattle.std.proofs.Common.{◌≡◌, ℕ, ◌+◌, ◌*◌, ◌^◌, ◌-◌, ◌≤◌, ◌<◌, List, [], ◌∷◌, ◌++◌, length, take, drop, get_or, refl, inl, inr, take-append-drop, sym, ◌∙◌, ap, subst, arith, append_assoc, length-append, length-drop}
use Rattle.std.proofs.lemmas.List.{get_or-take, get_or-drop, get_or_past, length-take, take_at, drop_at, drop-drop, drop_all, take_rest, take_more, append-nil, length-take-le}
use borrow.Rule.Slice.PartMut.{put_mid}
use Rattle.std.proofs.lemmas.Bool.{cases_lt}
use Rattle.std.proofs.lemmas.Nat.{from_be_bytes-to_be_bytes_4, be_bytes_4}
use Rattle.std.specs.Int.{w32, from_be_bytes}
use Rattle.byteorder.specs.Endian.{big_bytes, big_number}
use Rattle.run_records.specs.Spelling.{stamp_bytes}
use Rattle.run_records.specs.Stamps.{AreStamps, AreFew}

-- each stamp has four bytes
pub length-stamp_bytes : (stamps : List ℕ) → length (stamp_bytes stamps) ≡ 4 * length stamps
length-stamp_bytes [] = refl
length-stamp_bytes (s ∷ stamps) = omega (arith, length-stamp_bytes stamps, length-append (big_bytes 4 s) (stamp_bytes stamps))

-- the bytes of stamps with one more are those of the others and then its own
stamp_bytes-push : (stamps : List ℕ) (s : ℕ) → stamp_bytes (stamps ++ s ∷ []) ≡ stamp_bytes stamps ++ big_bytes 4 s
stamp_bytes-push [] s = refl
stamp_bytes-push (x ∷ stamps) s = ap (λ (l : List ℕ). big_bytes 4 x ++ l) (stamp_bytes-push stamps s) ∙ sym (append_assoc (big_bytes 4 x) (stamp_bytes stamps) (big_bytes 4 s))

-- four bytes are the one spelling of the number that they read as
bytes_read : (front : List ℕ) → length front ≡ 4 → ((i : ℕ) → get_or front i 0 < 256) → big_bytes 4 (big_number 4 front) ≡ front
bytes_read front size fits =
    let same : big_number 4 front ≡ from_be_bytes w32 front = omega arith in
    be_bytes_4 front (big_number 4 front) size fits same

-- two stamps whose four bytes begin one list are the same, and what follows them is the same
one_stamp : (a b : ℕ) (rest more : List ℕ) → a < 2 ^ 32 → b < 2 ^ 32 → big_bytes 4 a ++ rest ≡ big_bytes 4 b ++ more → (a ≡ b) × (rest ≡ more)
one_stamp a b rest more fits also same = (
  sym (from_be_bytes-to_be_bytes_4 a fits) ∙ ap (λ (l : List ℕ). from_be_bytes w32 (take 4 l)) same ∙ from_be_bytes-to_be_bytes_4 b also,
  ap (drop 4) same,
)

-- two lists of stamps of one length whose bytes begin one list are the same, and what follows them
-- is the same
pub one_list : (a b rest more : List ℕ) → AreStamps a → AreStamps b → length a ≡ length b → stamp_bytes a ++ rest ≡ stamp_bytes b ++ more → (a ≡ b) × (rest ≡ more)
one_list [] [] rest more fits also size same = (refl, same)
one_list [] (y ∷ b) rest more fits also size same = absurd (omega arith)
one_list (x ∷ a) [] rest more fits also size same = absurd (omega arith)
one_list (x ∷ a) (y ∷ b) rest more fits also size same =
    let first = one_stamp x y (stamp_bytes a ++ rest) (stamp_bytes b ++ more) fits.0 also.0 same in
    let others = one_list a b rest more fits.1 also.1 (omega arith) first.1 in
    (let e = first.0 in let f = others.0 in cc, others.1)

-- with one stamp more written after the others, the slice begins with the bytes of all of them
pub stamp_put : (stamps old now mid buf : List ℕ) (i : ℕ) → i < length stamps → 4 * length stamps ≤ length old → length now ≡ length old → now ≡ stamp_bytes (take i stamps) ++ drop (4 * i) old
    → mid ≡ take (length now - 4 * i) (drop (4 * i) now) → buf ≡ big_bytes 4 (get_or stamps i 0) ++ drop 4 mid → put_mid (4 * i) (length now - 4 * i) now buf ≡ stamp_bytes (take (i + 1) stamps) ++ drop (4 * (i + 1)) old
stamp_put stamps old now mid buf i within room size is mid_is buf_is =
    let before = stamp_bytes (take i stamps) in
    let s = get_or stamps i 0 in
    let long : length before ≡ 4 * i = omega (arith, length-stamp_bytes (take i stamps), length-take-le i stamps (omega arith)) in
    let front : take (4 * i) now ≡ before = ap (take (4 * i)) is ∙ take_at before (drop (4 * i) old) (4 * i) long in
    let back : drop (4 * i) now ≡ drop (4 * i) old = ap (drop (4 * i)) is ∙ drop_at before (drop (4 * i) old) (4 * i) long in
    let left : mid ≡ drop (4 * i) old = mid_is ∙ take_rest now (4 * i) ∙ back in
    let none : drop (length now - 4 * i) (drop (4 * i) now) ≡ [] = drop_all (length now - 4 * i) (drop (4 * i) now) (omega (arith, length-drop (4 * i) now)) in
    let next : 4 * i + 4 ≡ 4 * (i + 1) = omega arith in
    let more : stamp_bytes (take (i + 1) stamps) ≡ before ++ big_bytes 4 s = ap stamp_bytes (take_more stamps i 0 within) ∙ stamp_bytes-push (take i stamps) s in
    ap (λ (l : List ℕ). l ++ (buf ++ drop (length now - 4 * i) (drop (4 * i) now))) front
    ∙ ap (λ (l : List ℕ). before ++ (buf ++ l)) none
    ∙ ap (λ (l : List ℕ). before ++ l) (append-nil buf ∙ buf_is ∙ ap (λ (l : List ℕ). big_bytes 4 s ++ drop 4 l) left ∙ ap (λ (l : List ℕ). big_bytes 4 s ++ l) (drop-drop 4 (4 * i) old ∙ ap (λ (n : ℕ). drop n old) next))
    ∙ sym (append_assoc before (big_bytes 4 s) (drop (4 * (i + 1)) old))
    ∙ ap (λ (l : List ℕ). l ++ drop (4 * (i + 1)) old) (sym more)

-- if each item of a list is a byte, each item of its front is
pub fits_front : (bytes : List ℕ) (n : ℕ) → ((i : ℕ) → get_or bytes i 0 < 256) → (i : ℕ) → get_or (take n bytes) i 0 < 256
fits_front bytes n fits i = elim (cases_lt i n) [
  | inl within ↦ let same = get_or-take n bytes i 0 within in omega (arith, same, fits i)
  | inr past ↦ let none = get_or_past (take n bytes) i 0 (omega (arith, length-take n bytes)) in omega (arith, none)
]

-- if each item of a list is a byte, each item of what is left without its front is
pub fits_back : (bytes : List ℕ) (n : ℕ) → ((i : ℕ) → get_or bytes i 0 < 256) → (i : ℕ) → get_or (drop n bytes) i 0 < 256
fits_back bytes n fits i = let same = get_or-drop n bytes i 0 in omega (arith, same, fits (n + i))

-- with one stamp more read from the next four bytes, the stamps and what is left spell the bytes
pub stamp_read : (stamps more rest front after bytes : List ℕ) (stamp : ℕ) → stamp_bytes stamps ++ rest ≡ bytes → 4 ≤ length rest → ((i : ℕ) → get_or rest i 0 < 256) → front ≡ take 4 rest → after ≡ drop 4 rest
    → stamp ≡ big_number 4 front → more ≡ stamps ++ stamp ∷ [] → stamp_bytes more ++ after ≡ bytes
stamp_read stamps more rest front after bytes stamp so_far long fits front_is after_is stamp_is more_is =
    let size : length front ≡ 4 = omega (arith, ap length front_is, length-take 4 rest) in
    let small = subst (λ (l : List ℕ). (i : ℕ) → get_or l i 0 < 256) (sym front_is) (fits_front rest 4 fits) in
    let spelled : big_bytes 4 stamp ≡ front = ap (big_bytes 4) stamp_is ∙ bytes_read front size small in
    ap (λ (l : List ℕ). stamp_bytes l ++ after) more_is
    ∙ ap (λ (l : List ℕ). l ++ after) (stamp_bytes-push stamps stamp)
    ∙ append_assoc (stamp_bytes stamps) (big_bytes 4 stamp) after
    ∙ ap (λ (l : List ℕ). stamp_bytes stamps ++ (l ++ after)) (spelled ∙ front_is)
    ∙ ap (λ (l : List ℕ). stamp_bytes stamps ++ (take 4 rest ++ l)) after_is
    ∙ ap (λ (l : List ℕ). stamp_bytes stamps ++ l) (take-append-drop 4 rest)
    ∙ so_far

-- stamps with one more that fits four bytes all fit four bytes
pub are_push : (stamps : List ℕ) (stamp : ℕ) → AreStamps stamps → stamp < 2 ^ 32 → AreStamps (stamps ++ stamp ∷ [])
are_push [] stamp are fits = (fits, tt)
are_push (s ∷ stamps) stamp are fits = (are.0, are_push stamps stamp are.1 fits)

-- fewer than 32 stamps with one more that fits four bytes are few enough for a record
pub few_push : (stamps : List ℕ) (stamp : ℕ) → AreFew stamps → length stamps < 32 → stamp < 2 ^ 32 → AreFew (stamps ++ stamp ∷ [])
few_push stamps stamp are room fits = (omega (arith, length-append stamps (stamp ∷ [])), are_push stamps stamp are.1 fits)
