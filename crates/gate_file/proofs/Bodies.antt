-- Bodies in one list of bytes, each after a gate and its length: how many there are, where each of
-- them lies, and what one more makes of the list. The functions of src/body_list.rt rest on it.
use Rattle.std.proofs.Common.{◌≡◌, ℕ, ◌+◌, ◌-◌, ◌^◌, ◌≤◌, ◌<◌, List, [], ◌∷◌, ◌++◌, length, get_or, take, drop, refl, sym, ◌∙◌, ap, subst, arith, zero, suc, append_assoc, length-append, length-drop, length-take, length-take-le, take-append-drop}
use Rattle.std.proofs.lemmas.List.{append-nil, take-append-le, drop-append-le, take_all, drop_at}
use Rattle.std.specs.Int.{w32, to_be_bytes}
use Rattle.gate_file.specs.Bodies.{bytes_between, bodies_from, AreEnds, AreBodies}
use Rattle.gate_file.specs.Chain.{entry, Opens, IsStaged, ends_at}
use Rattle.gate_file.proofs.Chains.{length-entry, opens_push, opens_before, opens_alone, opens_anew}
use Rattle.gate_file.proofs.Ends.{opens_length}

-- there are as many bodies as ends
pub length_bodies : (start : ℕ) (ends bytes : List ℕ) → length (bodies_from start ends bytes) ≡ length ends
length_bodies start [] bytes = refl
length_bodies start (end ∷ ends) bytes = ap suc (length_bodies end ends bytes)

-- the bodies begin inside the bytes
start_within : (start : ℕ) (ends : List ℕ) (len : ℕ) → AreEnds start ends len → start ≤ len
start_within start [] len are = omega (arith, are)
start_within start (end ∷ ends) len are = omega (arith, are.0, start_within end ends len are.1)

-- each body lies inside the bytes
pub body_within : (start : ℕ) (ends : List ℕ) (len i : ℕ) → AreEnds start ends len → i < length ends → (get_or (start ∷ ends) i 0 + 5 ≤ get_or ends i 0) × (get_or ends i 0 ≤ len)
body_within start [] len i are below = absurd (omega (arith, below))
body_within start (end ∷ ends) len zero are below = (are.0, start_within end ends len are.1)
body_within start (end ∷ ends) len (suc i) are below = body_within end ends len i are.1 (omega (arith, below))

-- the body of an index lies five bytes after the end of the one before it
pub body_of : (start : ℕ) (ends bytes : List ℕ) (i : ℕ) → i < length ends → get_or (bodies_from start ends bytes) i [] ≡ bytes_between (get_or (start ∷ ends) i 0 + 5) (get_or ends i 0) bytes
body_of start [] bytes i below = absurd (omega (arith, below))
body_of start (end ∷ ends) bytes zero below = refl
body_of start (end ∷ ends) bytes (suc i) below = body_of end ends bytes i (omega (arith, below))

-- a body has as many bytes as there are between its offsets
length_between : (start end : ℕ) (bytes : List ℕ) → start + 5 ≤ end → end ≤ length bytes → length (bytes_between (start + 5) end bytes) + 5 + start ≡ end
length_between start end bytes room within = omega (arith, length-take-le (end - (start + 5)) (drop (start + 5) bytes) (omega (arith, length-drop (start + 5) bytes, within)), length-drop (start + 5) bytes, room, within)

-- the gate before a body stands where the bodies before it end
pub starts_at : (start : ℕ) (ends bytes : List ℕ) (i : ℕ) → AreEnds start ends (length bytes) → i ≤ length ends → get_or (start ∷ ends) i 0 ≡ start + ends_at (take i (bodies_from start ends bytes))
starts_at start ends bytes zero are below = omega arith
starts_at start [] bytes (suc i) are below = absurd (omega (arith, below))
starts_at start (end ∷ ends) bytes (suc i) are below =
    omega (arith, starts_at end ends bytes i are.1 (omega (arith, below)), length_between start end bytes are.0 (start_within end ends (length bytes) are.1))

-- a body, after its gate and its length, ends inside the bytes
pub body_ends : (start : ℕ) (ends bytes : List ℕ) (i : ℕ) → AreEnds start ends (length bytes) → i < length ends → get_or (start ∷ ends) i 0 + 5 + length (get_or (bodies_from start ends bytes) i []) ≤ length bytes
body_ends start [] bytes i are below = absurd (omega (arith, below))
body_ends start (end ∷ ends) bytes zero are below =
    let within = start_within end ends (length bytes) are.1 in
    omega (arith, length_between start end bytes are.0 within, within)
body_ends start (end ∷ ends) bytes (suc i) are below = body_ends end ends bytes i are.1 (omega (arith, below))

-- ends in order stay in order if one more is put after them, five bytes after the last or later
pub ends_more : (start : ℕ) (ends : List ℕ) (len more : ℕ) → AreEnds start ends len → len + 5 ≤ more → AreEnds start (ends ++ more ∷ []) more
ends_more start [] len more are later = (omega (arith, are, later), refl)
ends_more start (end ∷ ends) len more are later = (are.0, ends_more end ends len more are.1 later)

-- one body more stands after those that were there, and after its frame
pub bodies_more : (start : ℕ) (ends bytes frame body : List ℕ) (end : ℕ) → AreEnds start ends (length bytes) → length frame ≡ 5 → end ≡ length bytes + 5 + length body
    → bodies_from start (ends ++ end ∷ []) (bytes ++ (frame ++ body)) ≡ bodies_from start ends bytes ++ body ∷ []
bodies_more start [] bytes frame body end are five is_end =
    let joined : bytes ++ (frame ++ body) ≡ (bytes ++ frame) ++ body = sym (append_assoc bytes frame body) in
    let place : length (bytes ++ frame) ≡ start + 5 = omega (arith, are, five, length-append bytes frame) in
    let behind : drop (start + 5) (bytes ++ (frame ++ body)) ≡ body = ap (drop (start + 5)) joined ∙ drop_at (bytes ++ frame) body (start + 5) place in
    let size : length body ≤ end - (start + 5) = omega (arith, are, is_end) in
    let is : bytes_between (start + 5) end (bytes ++ (frame ++ body)) ≡ body = ap (take (end - (start + 5))) behind ∙ take_all (end - (start + 5)) body size in
    ap (λ (l : List ℕ). l ∷ []) is
bodies_more start (first ∷ ends) bytes frame body end are five is_end =
    let within = start_within first ends (length bytes) are.1 in
    let new : List ℕ = frame ++ body in
    let behind : drop (start + 5) (bytes ++ new) ≡ drop (start + 5) bytes ++ new = drop-append-le (start + 5) bytes new (omega (arith, are.0, within)) in
    let front : bytes_between (start + 5) first (bytes ++ new) ≡ bytes_between (start + 5) first bytes = ap (take (first - (start + 5))) behind ∙ take-append-le (first - (start + 5)) (drop (start + 5) bytes) new (omega (arith, length-drop (start + 5) bytes, within)) in
    let more = bodies_more first ends bytes frame body end are.1 five is_end in
    ap (λ (l : List ℕ). l ∷ bodies_from first (ends ++ end ∷ []) (bytes ++ new)) front ∙ ap (λ (l : List (List ℕ)). bytes_between (start + 5) first bytes ∷ l) more

-- the bodies with one more, after its entry's frame
pub more_bodies : (ends bytes body : List ℕ) (end : ℕ) → AreBodies ends bytes → end ≡ length bytes + 5 + length body → bodies_from 0 (ends ++ end ∷ []) (bytes ++ (1 ∷ entry body)) ≡ bodies_from 0 ends bytes ++ body ∷ []
more_bodies ends bytes body end are is_end =
    let frame : List ℕ = 1 ∷ to_be_bytes w32 (length body) in
    bodies_more 0 ends bytes frame body end are.are_ends (omega (arith, length-entry body, length-append (to_be_bytes w32 (length body)) body)) is_end

-- a list of bodies with the entry of one more
pub are_more : (ends bytes body : List ℕ) (end : ℕ) → AreBodies ends bytes → length body < 2 ^ 32 → end ≡ length bytes + 5 + length body → AreBodies (ends ++ end ∷ []) (bytes ++ (1 ∷ entry body))
are_more ends bytes body end are short is_end =
    let frame : List ℕ = 1 ∷ to_be_bytes w32 (length body) in
    let five : length frame ≡ 5 = omega (arith, length-entry body, length-append (to_be_bytes w32 (length body)) body) in
    let size : length (bytes ++ (frame ++ body)) ≡ end = omega (arith, is_end, five, length-append bytes (frame ++ body), length-append frame body) in
    let whole = opens_before (bodies_from 0 ends bytes) bytes [] (frame ++ body) are.opens in
    let more = opens_push (bodies_from 0 ends bytes) (bytes ++ (frame ++ body)) (frame ++ body) [] body whole (record { gate = 1; is_open = λ (e : 1 ≡ 0). cc; short = short; bytes = sym (append-nil (frame ++ body)) }) in
    record {
      are_ends = subst (AreEnds 0 (ends ++ end ∷ [])) (sym size) (ends_more 0 ends (length bytes) end are.are_ends (omega (arith, is_end)));
      opens = subst (λ (b : List (List ℕ)). Opens b (bytes ++ (frame ++ body)) []) (sym (more_bodies ends bytes body end are is_end)) more;
    }

-- a list of bodies with the entries that were taken of what was seen
pub are_taken : (ends more bytes seen : List ℕ) (n : ℕ) → AreBodies ends bytes → n ≤ length seen → AreEnds 0 more (length bytes + n)
    → ((file behind : List ℕ) → Opens (bodies_from 0 ends bytes) file (seen ++ behind) → Opens (bodies_from 0 more (bytes ++ take n seen)) file (drop n seen ++ behind)) → AreBodies more (bytes ++ take n seen)
are_taken ends more bytes seen n are within are_ends marks =
    let bodies : List (List ℕ) = bodies_from 0 more (bytes ++ take n seen) in
    let size : length bytes + n ≡ length (bytes ++ take n seen) = omega (arith, within, length-append bytes (take n seen), length-take n seen) in
    let whole : Opens (bodies_from 0 ends bytes) (bytes ++ seen) (seen ++ []) = subst (Opens (bodies_from 0 ends bytes) (bytes ++ seen)) (sym (append-nil seen)) (opens_before (bodies_from 0 ends bytes) bytes [] seen are.opens) in
    let halves : bytes ++ seen ≡ (bytes ++ take n seen) ++ drop n seen = ap (λ (l : List ℕ). bytes ++ l) (sym (take-append-drop n seen)) ∙ sym (append_assoc bytes (take n seen) (drop n seen)) in
    let left : Opens bodies (bytes ++ seen) (drop n seen) = subst (Opens bodies (bytes ++ seen)) (append-nil (drop n seen)) (marks (bytes ++ seen) [] whole) in
    record {
      are_ends = subst (AreEnds 0 more) size are_ends;
      opens = opens_alone bodies (bytes ++ take n seen) (drop n seen) (subst (λ (l : List ℕ). Opens bodies l (drop n seen)) halves left);
    }

-- the bytes of a list of bodies end where its bodies do
pub bytes_end : (ends bytes : List ℕ) → AreBodies ends bytes → length bytes ≡ ends_at (bodies_from 0 ends bytes)
bytes_end ends bytes are = omega (arith, opens_length (bodies_from 0 ends bytes) bytes [] are.opens)

-- a file of at least one body has at least five bytes
pub some_bytes : (bodies : List (List ℕ)) → 0 < length bodies → 5 ≤ ends_at bodies
some_bytes [] some = absurd (omega (arith, some))
some_bytes (body ∷ bodies) some = omega arith

-- the entries of some bodies, without the first gate and with a shut one after
pub chain_staged : (bodies : List (List ℕ)) (bytes : List ℕ) → 0 < length bodies → Opens bodies bytes [] → IsStaged bodies (drop 1 bytes ++ 0 ∷ [])
chain_staged bodies [] some opens = absurd (omega (arith, some_bytes bodies some, opens_length bodies [] [] opens))
chain_staged bodies (gate ∷ rest) some opens = opens_anew bodies gate 1 (rest ++ 0 ∷ []) (0 ∷ []) some (λ (e : 1 ≡ 0). cc) (opens_before bodies (gate ∷ rest) [] (0 ∷ []) opens)
