-- Files of gates, cut at the end of their entries: what stands before and after. Bodies, Staged,
-- Unique and Windows of this folder, `push` (src/body_list.rt) and `read_on` (src/open.rt) rest on
-- it.
use Rattle.std.proofs.Common.{◌≡◌, ◌≢◌, inl, inr, ℕ, ◌+◌, ◌<◌, List, [], ◌∷◌, ◌++◌, length, take, drop, get_or, refl, sym, ◌∙◌, ap, subst, arith, append_assoc, length-append}
use Rattle.std.proofs.lemmas.Bool.{cases_eq}
use Rattle.std.proofs.lemmas.List.{append-nil, take_at}
use Rattle.std.specs.Int.{w32, to_be_bytes}
use Rattle.gate_file.specs.Chain.{entry, IsEntry, Opens, IsBeforeOrAfter, IsStaged}

-- an entry has four bytes more than its body
pub length-entry : (body : List ℕ) → length (entry body) ≡ length body + 4
length-entry body = omega (arith, length-append (to_be_bytes w32 (length body)) body)

-- The entries are the front of the file, whatever stands after them.
pub record Front (bodies : List (List ℕ)) (file rest : List ℕ) : Type 0 where
  -- the bytes of the entries
  pub front : List ℕ
  -- the file is these bytes, and then the rest
  pub split : file ≡ front ++ rest
  -- whatever stands after these bytes, the bodies are opened
  pub anew : (other : List ℕ) → Opens bodies (front ++ other) other

-- the bytes before the rest are known: they are the entries of the bodies
pub front_of : (bodies : List (List ℕ)) (file rest : List ℕ) → Opens bodies file rest → Front bodies file rest
front_of [] file rest same = record { front = []; split = same; anew = λ other. refl }
front_of (body ∷ bodies) file rest (after, is, opens) =
    let more = front_of bodies after rest opens in
    let begin : List ℕ = is.gate ∷ entry body in
    let whole : file ≡ begin ++ more.front ++ rest = is.bytes ∙ ap (λ (l : List ℕ). begin ++ l) more.split ∙ sym (append_assoc begin more.front rest) in
    record {
      front = begin ++ more.front;
      split = whole;
      anew = λ other. (more.front ++ other, record { gate = is.gate; is_open = is.is_open; short = is.short; bytes = append_assoc begin more.front other }, more.anew other);
    }

-- a file that opens bodies and goes on with an entry opens the bodies with one more
pub opens_push : (bodies : List (List ℕ)) (file rest after body : List ℕ) → Opens bodies file rest → IsEntry body rest after → Opens (bodies ++ body ∷ []) file after
opens_push [] file rest after body same is = (after, record { gate = is.gate; is_open = is.is_open; short = is.short; bytes = same ∙ is.bytes }, refl)
opens_push (first ∷ bodies) file rest after body (next, here, opens) is = (next, here, opens_push bodies next rest after body opens is)

-- a file that opens bodies and goes on with others opens all of them
pub opens_append : (bodies more : List (List ℕ)) (file rest after : List ℕ) → Opens bodies file rest → Opens more rest after → Opens (bodies ++ more) file after
opens_append [] more file rest after same opens = subst (λ (l : List ℕ). Opens more l after) (sym same) opens
opens_append (body ∷ bodies) more file rest after (next, is, here) opens = (next, is, opens_append bodies more next rest after here opens)

-- what stands whole in the front of a file stands whole in the file
pub entry_before : (body file rest behind : List ℕ) → IsEntry body file rest → IsEntry body (file ++ behind) (rest ++ behind)
entry_before body file rest behind is = record {
  gate = is.gate;
  is_open = is.is_open;
  short = is.short;
  bytes = ap (λ (l : List ℕ). l ++ behind) is.bytes ∙ ap (λ (l : List ℕ). is.gate ∷ l) (append_assoc (entry body) rest behind);
}

-- bytes put after a file do not change what it begins with
pub opens_before : (bodies : List (List ℕ)) (file rest behind : List ℕ) → Opens bodies file rest → Opens bodies (file ++ behind) (rest ++ behind)
opens_before [] file rest behind same = ap (λ (l : List ℕ). l ++ behind) same
opens_before (body ∷ bodies) file rest behind (next, is, opens) = (next ++ behind, entry_before body file next behind is, opens_before bodies next rest behind opens)

-- bytes that open bodies up to a rest open them up to nothing if that rest is taken away
pub opens_alone : (bodies : List (List ℕ)) (file rest : List ℕ) → Opens bodies (file ++ rest) rest → Opens bodies file []
opens_alone bodies file rest opens =
    let cut = front_of bodies (file ++ rest) rest opens in
    let size : length cut.front ≡ length file = omega (arith, ap length cut.split, length-append file rest, length-append cut.front rest) in
    let same : cut.front ≡ file = sym (take_at cut.front rest (length file) size) ∙ ap (take (length file)) (sym cut.split) ∙ take_at file rest (length file) refl in
    subst (λ (l : List ℕ). Opens bodies l []) (append-nil cut.front ∙ same) (cut.anew [])

-- a file opens its bodies whatever byte its first gate has, if that is open
pub opens_anew : (bodies : List (List ℕ)) (gate other : ℕ) (file rest : List ℕ) → 0 < length bodies → other ≢ 0 → Opens bodies (gate ∷ file) rest → Opens bodies (other ∷ file) rest
opens_anew [] gate other file rest some is_open opens = absurd (omega (arith, some))
opens_anew (body ∷ bodies) gate other file rest some is_open (next, is, opens) =
    (next, record { gate = other; is_open = is_open; short = is.short; bytes = ap (λ (l : List ℕ). other ∷ drop 1 l) is.bytes }, opens)

-- staged bytes stand for at least one body
staged_some : (bodies : List (List ℕ)) (staged : List ℕ) → IsStaged bodies staged → 0 < length bodies
staged_some [] staged is = absurd (omega (arith, ap (λ (l : List ℕ). get_or l 0 0) is))
staged_some (body ∷ bodies) staged is = omega arith

-- staged bytes after an open gate open their bodies
pub staged_open : (bodies : List (List ℕ)) (staged behind : List ℕ) (gate : ℕ) → IsStaged bodies staged → gate ≢ 0 → Opens bodies (gate ∷ (staged ++ behind)) (0 ∷ behind)
staged_open bodies staged behind gate is is_open =
    opens_anew bodies 1 gate (staged ++ behind) (0 ∷ behind) (staged_some bodies staged is) is_open (opens_before bodies (1 ∷ staged) (0 ∷ []) behind is)

-- the entries of some bodies, a gate and staged bytes spell these bodies; if the gate is open, they
-- spell the staged ones too
pub either_gate : (bodies more : List (List ℕ)) (file front staged behind : List ℕ) (gate : ℕ) → ((other : List ℕ) → Opens bodies (front ++ other) other) → IsStaged more staged
    → file ≡ front ++ gate ∷ (staged ++ behind) → IsBeforeOrAfter bodies more file
either_gate bodies more file front staged behind gate anew staged_is is = elim (cases_eq gate 0) [
  | inl shut ↦
      let rest : List ℕ = gate ∷ (staged ++ behind) in
      inl (rest, rw is (anew rest), (staged ++ behind, ap (λ (g : ℕ). g ∷ (staged ++ behind)) shut))
  | inr is_open ↦
      let rest : List ℕ = gate ∷ (staged ++ behind) in
      let opens : Opens bodies file rest = rw is (anew rest) in
      inr (0 ∷ behind, opens_append bodies more file rest (0 ∷ behind) opens (staged_open more staged behind gate staged_is is_open), (behind, refl))
]
