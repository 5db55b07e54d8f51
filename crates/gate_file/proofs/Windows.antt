-- How whole entries are taken from a window of a file of gates, the bytes of one read.
-- `list_ends` (src/body_list.rt) and `head_of` and `read_on` (src/open.rt) rest on it.
use Rattle.std.proofs.Common.{◌≡◌, ℕ, ◌+◌, ◌-◌, ◌≤◌, ◌<◌, min, List, [], ◌∷◌, ◌++◌, length, take, drop, inl, inr, sym, ◌∙◌, ap, subst, arith, append_assoc, length-append, length-drop, take-append-drop}
use Rattle.std.proofs.Math.Seq.{take-add}
use Rattle.std.proofs.lemmas.Bool.{cases_lt}
use Rattle.std.proofs.lemmas.List.{take_at, drop_at, take_all, take-take, length-take, drop-append-le, drop-drop}
use Rattle.std.specs.Int.{w32, to_be_bytes}
use Rattle.gate_file.specs.Bodies.{bodies_from, AreEnds}
use Rattle.gate_file.specs.Chain.{entry, IsEntry, Opens}
use Rattle.gate_file.proofs.Bodies.{ends_more, bodies_more}
use Rattle.gate_file.proofs.Chains.{opens_push, entry_before, length-entry}

-- five bytes, or fewer if there are no more
pub take_front : (xs : List ℕ) → take (min (length xs) 5) xs ≡ take 5 xs
take_front xs = elim (cases_lt (length xs) 5) [
  | inl short ↦ let n : min (length xs) 5 ≡ length xs = omega arith in ap (λ (k : ℕ). take k xs) n ∙ take_all (length xs) xs (omega arith) ∙ sym (take_all 5 xs (omega arith))
  | inr long ↦ let n : min (length xs) 5 ≡ 5 = omega arith in ap (λ (k : ℕ). take k xs) n
]

-- an entry that lies in the window is one body more
pub taken_more : (bodies more : List (List ℕ)) (file body window rest behind : List ℕ) → more ≡ bodies ++ body ∷ [] → Opens bodies file (window ++ behind) → IsEntry body window rest → Opens more file (rest ++ behind)
taken_more bodies more file body window rest behind is opens found =
    subst (λ (l : List (List ℕ)). Opens l file (rest ++ behind)) (sym is) (opens_push bodies file (window ++ behind) (rest ++ behind) body opens (entry_before body window rest behind found))

-- what is left of the window after an entry
pub behind_entry : (body rest behind seen : List ℕ) → IsEntry body rest behind → length rest ≤ length seen → rest ≡ drop (length seen - length rest) seen → (length behind + length body + 5 ≡ length rest) × (behind ≡ drop (length seen - length behind) seen)
behind_entry body rest behind seen is within rest_is =
    let begin : List ℕ = is.gate ∷ entry body in
    let size : length begin ≡ length body + 5 = omega (arith, length-entry body) in
    let long : length behind + length body + 5 ≡ length rest = omega (arith, ap length is.bytes, length-append begin behind, size) in
    let place : length seen - length rest + (length body + 5) ≡ length seen - length behind = omega (arith, long, within) in (
      long,
      sym (drop_at begin behind (length body + 5) size) ∙ ap (drop (length body + 5)) (sym is.bytes ∙ rest_is) ∙ drop-drop (length body + 5) (length seen - length rest) seen ∙ ap (λ (n : ℕ). drop n seen) place,
    )

-- What is noted of an entry more: where it ends, after the bytes that were there.
module _ (seen rest behind body ends : List ℕ) (start : ℕ) (is : IsEntry body rest behind) (within : length rest ≤ length seen) (place : rest ≡ drop (length seen - length rest) seen)
    (are : AreEnds 0 ends (start + (length seen - length rest))) where
  -- what is left of the bytes after the entry
  left : length behind + length body + 5 ≡ length rest
  left = (behind_entry body rest behind seen is within place).0

  -- the gate and the length of the entry, five bytes
  abbrev pub frame : List ℕ
  frame = is.gate ∷ to_be_bytes w32 (length body)

  -- the gate and the length take five bytes
  five : length frame ≡ 5
  five = omega (arith, length-entry body, length-append (to_be_bytes w32 (length body)) body)

  -- how many of the bytes were taken before
  abbrev pub done : ℕ
  done = length seen - length rest

  -- the entry stands after the bytes that were taken before
  here : take (5 + length body) (drop done seen) ≡ frame ++ body
  here = ap (take (5 + length body)) (sym place ∙ is.bytes) ∙ take_at (frame ++ body) behind (5 + length body) (omega (arith, five, length-append frame body))

  -- what is taken of the window, with the entry, is what was taken before, and the entry
  taken : take (length seen - length behind) seen ≡ take done seen ++ (frame ++ body)
  taken =
      let sum : length seen - length behind ≡ done + (5 + length body) = omega (arith, left, within) in
      ap (λ (n : ℕ). take n seen) sum ∙ take-add done (5 + length body) seen ∙ ap (λ (l : List ℕ). take done seen ++ l) here

  -- the end of the entry is one more in order
  pub marked_ends : AreEnds 0 (ends ++ (start + (length seen - length behind)) ∷ []) (start + (length seen - length behind))
  marked_ends = ends_more 0 ends (start + done) (start + (length seen - length behind)) are (omega (arith, left, within))

  -- the bodies up to the new end are those before and the new one
  pub marked_bodies : (bytes : List ℕ) → length bytes ≡ start
      → bodies_from 0 (ends ++ (start + (length seen - length behind)) ∷ []) (bytes ++ take (length seen - length behind) seen) ≡ bodies_from 0 ends (bytes ++ take done seen) ++ body ∷ []
  marked_bodies bytes size =
      let end : ℕ = start + (length seen - length behind) in
      let before : length (bytes ++ take done seen) ≡ start + done = omega (arith, size, length-append bytes (take done seen), length-take done seen, within) in
      let joined : bytes ++ take (length seen - length behind) seen ≡ (bytes ++ take done seen) ++ (frame ++ body) = ap (λ (l : List ℕ). bytes ++ l) taken ∙ sym (append_assoc bytes (take done seen) (frame ++ body)) in
      let all = bodies_more 0 ends (bytes ++ take done seen) frame body end (subst (AreEnds 0 ends) (sym before) are) five (omega (arith, before, left, within)) in
      ap (bodies_from 0 (ends ++ end ∷ [])) joined ∙ all

-- A file from an offset on begins with what was seen of it.
pub record Seen (bytes seen : List ℕ) (at : ℕ) : Type 0 where
  -- what follows in the file
  pub behind : List ℕ
  -- from the offset on the file is what was seen, and then what follows
  pub split : drop at bytes ≡ seen ++ behind
  -- the first five bytes that were seen are those of the file from there on
  pub front : take 5 seen ≡ take 5 (drop at bytes)

-- a window that was filled from an offset on
module _ (bytes old window seen : List ℕ) (at len count : ℕ) (size : len ≡ length bytes) (within : at < len) (counted : count ≡ min (length old) (length bytes - at))
    (got : window ≡ take count (drop at bytes) ++ drop count old) (is : seen ≡ take (min count (len - at)) window) where
  -- all bytes that were read lie within the file, so that none is cut off
  most : min count (len - at) ≡ count
  most = omega (arith, size, counted)

  -- as many bytes of the file stand from the offset on as were read
  filled : length (take count (drop at bytes)) ≡ count
  filled = omega (arith, length-take count (drop at bytes), length-drop at bytes, counted)

  -- the window has the bytes of the file from this offset on
  seen_is : seen ≡ take count (drop at bytes)
  seen_is = is ∙ ap (λ (n : ℕ). take n window) most ∙ ap (take count) got ∙ take_at (take count (drop at bytes)) (drop count old) count filled

  -- what was read into the window is what the file has there
  pub seen_of : 5 ≤ length old → Seen bytes seen at
  seen_of room = record {
    behind = drop count (drop at bytes);
    split = sym (take-append-drop count (drop at bytes)) ∙ ap (λ (l : List ℕ). l ++ drop count (drop at bytes)) (sym seen_is);
    front = ap (take 5) seen_is ∙ elim (cases_lt count 5) [
      | inl short ↦
          let whole : length (drop at bytes) ≤ count = omega (arith, length-drop at bytes, counted) in
          ap (take 5) (take_all count (drop at bytes) whole)
      | inr long ↦ take-take 5 count (drop at bytes) long
    ];
  }

-- what was taken of the window was taken of the file
pub taken_on : (bodies : List (List ℕ)) (bytes seen : List ℕ) (at n : ℕ) (s : Seen bytes seen at) → n ≤ length seen → Opens bodies bytes (drop n seen ++ s.behind) → Opens bodies bytes (drop (at + n) bytes)
taken_on bodies bytes seen at n s inside opens =
    let place : drop n seen ++ s.behind ≡ drop (at + n) bytes = sym (drop-append-le n seen s.behind inside) ∙ ap (drop n) (sym s.split) ∙ drop-drop n at bytes in
    subst (Opens bodies bytes) place opens

-- a file that opens bodies up to here opens them up to what was seen
pub opens_window : (bodies : List (List ℕ)) (bytes seen : List ℕ) (at : ℕ) (s : Seen bytes seen at) → Opens bodies bytes (drop at bytes) → Opens bodies bytes (seen ++ s.behind)
opens_window bodies bytes seen at s opens = subst (Opens bodies bytes) s.split opens

-- if nothing is taken the place stays
pub none_taken : (bodies : List (List ℕ)) (bytes seen : List ℕ) (at n : ℕ) (s : Seen bytes seen at) → n ≤ 0 → Opens bodies bytes (drop n seen ++ s.behind) → Opens bodies bytes (drop at bytes)
none_taken bodies bytes seen at n s none opens =
    let zero : n ≡ 0 = omega (arith, none) in
    let all : Opens bodies bytes (seen ++ s.behind) = subst (λ (k : ℕ). Opens bodies bytes (drop k seen ++ s.behind)) zero opens in
    subst (Opens bodies bytes) (sym s.split) all
