-- A file of gates is read in one way: it has one list of bodies, or none, or one entry cut short.
-- `a_file_stands_for_one_thing` (src/laws.rt) rests on it.
use Rattle.std.proofs.Common.{◌≡◌, ◌⊎◌, inl, inr, ℕ, ◌+◌, ◌<◌, List, [], ◌∷◌, ◌++◌, length, take, drop, refl, sym, ◌∙◌, ap, subst, arith, append_assoc, length-append}
use Rattle.std.proofs.lemmas.List.{take_at, drop_at}
use Rattle.std.proofs.lemmas.Nat.{from_be_bytes-to_be_bytes_4}
use Rattle.std.specs.Int.{w32, to_be_bytes, from_be_bytes}
use Rattle.gate_file.specs.Chain.{entry, IsEntry, Opens, IsShut, Spells, IsNoRun, IsCutShort, IsCutAt}
use Rattle.gate_file.proofs.Chains.{length-entry}

-- what stands after the gate of an entry
behind_gate : (body file rest : List ℕ) → IsEntry body file rest → drop 1 file ≡ to_be_bytes w32 (length body) ++ (body ++ rest)
behind_gate body file rest is = ap (drop 1) is.bytes ∙ append_assoc (to_be_bytes w32 (length body)) body rest

-- the length in an entry is that of its body
stored_length : (body file rest : List ℕ) → IsEntry body file rest → from_be_bytes w32 (take 4 (drop 1 file)) ≡ length body
stored_length body file rest is =
    ap (λ (l : List ℕ). from_be_bytes w32 (take 4 l)) (behind_gate body file rest is)
    ∙ ap (from_be_bytes w32) (take_at (to_be_bytes w32 (length body)) (body ++ rest) 4 refl)
    ∙ from_be_bytes-to_be_bytes_4 (length body) is.short

-- the body follows its length
stored_body : (body file rest : List ℕ) → IsEntry body file rest → drop 4 (drop 1 file) ≡ body ++ rest
stored_body body file rest is = ap (drop 4) (behind_gate body file rest is) ∙ drop_at (to_be_bytes w32 (length body)) (body ++ rest) 4 refl

-- a file begins with one entry at most
one_entry : (body other file rest more : List ℕ) → IsEntry body file rest → IsEntry other file more → (body ≡ other) × (rest ≡ more)
one_entry body other file rest more is also =
    let size : length body ≡ length other = sym (stored_length body file rest is) ∙ stored_length other file more also in
    let same : body ++ rest ≡ other ++ more = sym (stored_body body file rest is) ∙ stored_body other file more also in (
      sym (take_at body rest (length other) size) ∙ ap (take (length other)) same ∙ take_at other more (length other) refl,
      sym (drop_at body rest (length other) size) ∙ ap (drop (length other)) same ∙ drop_at other more (length other) refl,
    )

-- an entry takes its body and five bytes
pub length-file : (body file rest : List ℕ) → IsEntry body file rest → length file ≡ length body + length rest + 5
length-file body file rest is = omega (arith, ap length is.bytes, length-append (entry body) rest, length-entry body)

-- The file begins with a shut gate, or with an entry that is cut short.
abbrev Stops : List ℕ → Type 0
Stops file = IsShut file ⊎ IsCutShort file

-- a file that stops so (`Stops`) has at least one byte
some_left : (file : List ℕ) → Stops file → 0 < length file
some_left file (inl shut) = omega (arith, ap length shut.1)
some_left file (inr cut) = omega (arith, ap length cut.bytes)

-- a file that stops after some entries has at least one byte
some_before : (bodies : List (List ℕ)) (file rest : List ℕ) → Opens bodies file rest → Stops rest → 0 < length file
some_before [] file rest same stops = subst (λ (l : List ℕ). 0 < length l) (sym same) (some_left rest stops)
some_before (body ∷ bodies) file rest (after, is, opens) stops = omega (arith, length-file body file after is)

-- an entry begins with an open gate, which is not shut
gate_not_shut : (body file rest : List ℕ) → IsEntry body file rest → IsShut file → ⊥
gate_not_shut body file rest is shut =
    let same : is.gate ∷ (entry body ++ rest) ≡ 0 ∷ shut.0 = sym is.bytes ∙ shut.1 in
    let zero_gate : is.gate ≡ 0 = cc in
    is.is_open zero_gate

-- a file that stops does not begin with an entry
no_entry : (body file rest : List ℕ) → IsEntry body file rest → 0 < length rest → Stops file → ⊥
no_entry body file rest is some (inl shut) = gate_not_shut body file rest is shut
no_entry body file rest is some (inr cut) =
    let tail : drop 1 file ≡ cut.rest = ap (drop 1) cut.bytes in
    let number : from_be_bytes w32 (take 4 cut.rest) ≡ length body = ap (λ (l : List ℕ). from_be_bytes w32 (take 4 l)) (sym tail) ∙ stored_length body file rest is in
    let long = length-file body file rest is in
    let size = ap length cut.bytes in
    elim cut.short [ inl short ↦ absurd (omega (arith, long, size, short)) | inr short ↦ absurd (omega (arith, long, size, short, number, some)) ]

-- a file has one reading up to where it stops
one_reading : (bodies others : List (List ℕ)) (file rest more : List ℕ) → Opens bodies file rest → Stops rest → Opens others file more → Stops more → (bodies ≡ others) × (rest ≡ more)
one_reading [] [] file rest more same stops also ends = (refl, sym same ∙ also)
one_reading [] (other ∷ others) file rest more same stops (after, is, opens) ends =
    absurd (no_entry other file after is (some_before others after more opens ends) (subst Stops (sym same) stops))
one_reading (body ∷ bodies) [] file rest more (after, is, opens) stops also ends =
    absurd (no_entry body file after is (some_before bodies after rest opens stops) (subst Stops (sym also) ends))
one_reading (body ∷ bodies) (other ∷ others) file rest more (after, is, opens) stops (next, here, goes) ends =
    let same = one_entry body other file after next is here in
    let tails = one_reading bodies others after rest more opens stops (subst (λ (l : List ℕ). Opens others l more) (sym same.1) goes) ends in
    (let first = same.0 in let left = tails.0 in cc, tails.1)

-- a shut gate is no entry that is cut short
cut_or_shut : (file : List ℕ) → IsShut file → IsCutShort file → ⊥
cut_or_shut file shut cut =
    let same : cut.gate ∷ cut.rest ≡ 0 ∷ shut.0 = sym cut.bytes ∙ shut.1 in
    let zero_gate : cut.gate ≡ 0 = cc in
    cut.is_open zero_gate

-- a file spells one list of bodies
pub one_list : (file : List ℕ) (bodies others : List (List ℕ)) → Spells bodies file → Spells others file → bodies ≡ others
one_list file bodies others (rest, opens, shut) (more, also, ends) = (one_reading bodies others file rest more opens (inl shut) also (inl ends)).0

-- a file without a run spells no bodies
pub none_spelled : (file : List ℕ) (bodies : List (List ℕ)) → IsNoRun file → Spells bodies file → bodies ≡ []
none_spelled file bodies (inr shut) spells = one_list file bodies [] spells (file, refl, shut)
none_spelled file [] (inl short) spells = refl
none_spelled file (body ∷ bodies) (inl short) (rest, (after, is, opens), shut) = absurd (omega (arith, length-file body file after is))

-- an entry that is cut short stands at one offset
pub one_cut : (file : List ℕ) (at other : ℕ) → IsCutAt at file → IsCutAt other file → at ≡ other
one_cut file at other cut also =
    let same = (one_reading cut.bodies also.bodies file cut.rest also.rest cut.opens (inr cut.cut) also.opens (inr also.cut)).1 in
    omega (arith, cut.place, also.place, ap length same)

-- a file that spells bodies is not cut short
pub spelled_uncut : (file : List ℕ) (bodies : List (List ℕ)) (at : ℕ) → Spells bodies file → IsCutAt at file → ⊥
spelled_uncut file bodies at (rest, opens, shut) cut =
    let same = (one_reading bodies cut.bodies file rest cut.rest opens (inl shut) cut.opens (inr cut.cut)).1 in
    cut_or_shut cut.rest (subst IsShut same shut) cut.cut

-- a file without a run has no entry that is cut short
pub none_uncut : (file : List ℕ) (at : ℕ) → IsNoRun file → IsCutAt at file → ⊥
none_uncut file at (inl short) cut = absurd (omega (arith, cut.begins))
none_uncut file at (inr shut) cut = spelled_uncut file [] at (file, refl, shut) cut
