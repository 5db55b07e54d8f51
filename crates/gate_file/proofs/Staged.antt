-- What a crash leaves of a file of gates in each of the two writes of an append: that of the staged
-- entries (after the shut gate, where they do not count yet), and that of the open gate.
-- Appending.antt rests on it.
use Rattle.std.proofs.Common.{◌≡◌, inl, inr, ℕ, ◌+◌, ◌-◌, ◌≤◌, ◌<◌, List, [], ◌∷◌, ◌++◌, length, take, drop, replicate, get_or, refl, sym, ◌∙◌, ap, subst, arith, append_assoc, length-append, length-drop, take-append-drop}
use Rattle.std.proofs.lemmas.List.{take_at, drop_at, drop-drop, take-append-le, drop_more, length-take, get_or-take, get_or-drop}
use Rattle.std.proofs.lemmas.Grind.{same_number_lists}
use Rattle.disk_model.specs.Device.{Torn, written_over}
use Rattle.gate_file.specs.Chain.{Opens, Spells, IsBeforeOrAfter, IsStaged}
use Rattle.gate_file.proofs.Chains.{Front, front_of, opens_append, staged_open, either_gate}

-- a torn write leaves what stands before it, and what stands after it
module _ (at n : ℕ) (old new : List ℕ) (torn : Torn at n old new) where
  -- a write that was cut off does not change what lies before it
  pub torn_front : at ≤ length old → take at new ≡ take at old
  torn_front within =
      let size : length (take at new) ≡ length (take at old) = omega (arith, length-take at new, length-take at old, torn.no_shorter) in
      same_number_lists (take at new) (take at old) size
      (λ i below. let ahead : i < at = omega (arith, length-take at new) in get_or-take at new i 0 ahead ∙ torn.outside i (omega arith) (inl ahead) ∙ sym (get_or-take at old i 0 ahead))

  -- a write that was cut off does not change what lies after it
  pub torn_back : at + n ≤ length old → drop (at + n) new ≡ drop (at + n) old
  torn_back within =
      let size : length (drop (at + n) new) ≡ length (drop (at + n) old) = omega (arith, length-drop (at + n) new, length-drop (at + n) old, torn.no_shorter, torn.no_longer) in
      same_number_lists (drop (at + n) new) (drop (at + n) old) size
      (λ i below. get_or-drop (at + n) new i 0 ∙ torn.outside (at + n + i) (omega (arith, length-drop (at + n) new, torn.no_longer)) (inr (omega arith)) ∙ sym (get_or-drop (at + n) old i 0))

-- a write within the file puts its bytes there
written_within : (old : List ℕ) (at : ℕ) (bytes : List ℕ) → at ≤ length old → written_over old at bytes ≡ take at old ++ bytes ++ drop (at + length bytes) old
written_within old at bytes within = ap (λ (l : List ℕ). l ++ bytes ++ drop (at + length bytes) old) (take-append-le at old (replicate (at - length old) 0) within)

-- A file that opens these bodies up to a shut gate, and bytes staged after that gate.
module _ (bodies : List (List ℕ)) (end : ℕ) (staged bytes behind : List ℕ) (opens : Opens bodies bytes (0 ∷ behind)) (place : end + 1 + length behind ≡ length bytes) where
  -- the bytes before the shut gate are the entries of the bodies
  cut : Front bodies bytes (0 ∷ behind)
  cut = front_of bodies bytes (0 ∷ behind) opens

  -- the bytes before the shut gate
  front : List ℕ
  front = cut.front

  -- as many bytes stand before the shut gate as its offset says
  size : length front ≡ end
  unfolding front
  size = omega (arith, place, ap length cut.split, length-append cut.front (0 ∷ behind))

  -- the file is the bytes before the shut gate, that gate, and what follows
  split : bytes ≡ front ++ 0 ∷ behind
  unfolding front
  split = cut.split

  -- whatever follows the bytes before the shut gate, the bodies are opened
  anew : (other : List ℕ) → Opens bodies (front ++ other) other
  unfolding front
  anew = cut.anew

  -- the file up to and with the shut gate, and what follows
  halves : bytes ≡ (front ++ 0 ∷ []) ++ behind
  halves = split ∙ sym (append_assoc front (0 ∷ []) behind)

  -- the gate is one byte
  size_shut : length (front ++ 0 ∷ []) ≡ end + 1
  size_shut = omega (arith, size, length-append front (0 ∷ []))

  -- the first bytes of the file, up to and with the shut gate
  shut_front : take (end + 1) bytes ≡ front ++ 0 ∷ []
  shut_front = ap (take (end + 1)) halves ∙ take_at (front ++ 0 ∷ []) behind (end + 1) size_shut

  -- the shut gate stands in each outcome of the first write
  pub torn_behind : (n : ℕ) (c : List ℕ) → Torn (end + 1) n bytes c → Spells bodies c
  torn_behind n c torn =
      let begins : take (end + 1) c ≡ front ++ 0 ∷ [] = torn_front (end + 1) n bytes c torn (omega (arith, place)) ∙ shut_front in
      let rest = drop (end + 1) c in
      let whole : c ≡ front ++ 0 ∷ rest = sym (take-append-drop (end + 1) c) ∙ ap (λ (l : List ℕ). l ++ rest) begins ∙ append_assoc front (0 ∷ []) rest in
      (0 ∷ rest, subst (λ (file : List ℕ). Opens bodies file (0 ∷ rest)) (sym whole) (anew (0 ∷ rest)), (rest, refl))

  -- what stands after the staged entries
  pub beyond : List ℕ
  beyond = drop (length staged) behind

  -- the file with the staged bytes, after a gate of this byte
  pub with_gate : ℕ → List ℕ
  with_gate gate = front ++ gate ∷ (staged ++ beyond)

  -- how long the file with the staged bytes is
  length-with_gate : (gate : ℕ) → length (with_gate gate) ≡ end + 1 + length staged + length beyond
  unfolding with_gate
  length-with_gate gate = omega (arith, size, length-append front (gate ∷ (staged ++ beyond)), length-append staged beyond)

  -- the staged bytes written after the gate give it
  pub written_behind : written_over bytes (end + 1) staged ≡ with_gate 0
  unfolding with_gate beyond
  written_behind =
      let later : drop (end + 1 + length staged) bytes ≡ drop (length staged) behind =
      sym (drop-drop (length staged) (end + 1) bytes) ∙ ap (drop (length staged)) (ap (drop (end + 1)) halves ∙ drop_at (front ++ 0 ∷ []) behind (end + 1) size_shut) in
      written_within bytes (end + 1) staged (omega (arith, place))
      ∙ ap (λ (l : List ℕ). l ++ staged ++ drop (end + 1 + length staged) bytes) shut_front
      ∙ ap (λ (l : List ℕ). front ++ 0 ∷ [] ++ staged ++ l) later
      ∙ append_assoc (front ++ 0 ∷ []) staged (drop (length staged) behind)
      ∙ append_assoc front (0 ∷ []) (staged ++ drop (length staged) behind)

  -- what stands before the gate
  gate_front : (gate : ℕ) → take end (with_gate gate) ≡ front
  unfolding with_gate
  gate_front gate = take_at front (gate ∷ (staged ++ beyond)) end size

  -- what stands after the gate
  gate_back : (gate : ℕ) → drop (end + 1) (with_gate gate) ≡ staged ++ beyond
  unfolding with_gate
  gate_back gate =
      let sizes : length (front ++ gate ∷ []) ≡ end + 1 = omega (arith, size, length-append front (gate ∷ [])) in
      ap (drop (end + 1)) (sym (append_assoc front (gate ∷ []) (staged ++ beyond))) ∙ drop_at (front ++ gate ∷ []) (staged ++ beyond) (end + 1) sizes

  -- the staged entries stand whole in each outcome of the second write
  pub torn_gate : (more : List (List ℕ)) → IsStaged more staged → (c : List ℕ) → Torn end 1 (with_gate 0) c → IsBeforeOrAfter bodies more c
  torn_gate more is c torn =
      let long = length-with_gate 0 in
      let gate = get_or c end 0 in
      let begins : take end c ≡ front = torn_front end 1 (with_gate 0) c torn (omega (arith, long)) ∙ gate_front 0 in
      let ends : drop (end + 1) c ≡ staged ++ beyond = torn_back end 1 (with_gate 0) c torn (omega (arith, long)) ∙ gate_back 0 in
      let rest : drop end c ≡ gate ∷ (staged ++ beyond) = drop_more c end 0 (omega (arith, long, torn.no_shorter)) ∙ ap (λ (l : List ℕ). gate ∷ l) ends in
      let whole : c ≡ front ++ gate ∷ (staged ++ beyond) = sym (take-append-drop end c) ∙ ap (λ (l : List ℕ). l ++ drop end c) begins ∙ ap (λ (l : List ℕ). front ++ l) rest in
      either_gate bodies more c front staged beyond gate anew is whole

  -- the bytes before, an open gate, the staged bytes and what follows are the file with that gate
  joined : front ++ (1 ∷ []) ++ (staged ++ beyond) ≡ with_gate 1
  unfolding with_gate
  joined = append_assoc front (1 ∷ []) (staged ++ beyond)

  -- the gate written over its first byte gives it open
  pub written_gate : written_over (with_gate 0) end (1 ∷ []) ≡ with_gate 1
  written_gate =
      written_within (with_gate 0) end (1 ∷ []) (omega (arith, length-with_gate 0))
      ∙ ap (λ (l : List ℕ). l ++ (1 ∷ []) ++ drop (end + 1) (with_gate 0)) (gate_front 0)
      ∙ ap (λ (l : List ℕ). front ++ (1 ∷ []) ++ l) (gate_back 0)
      ∙ joined

  -- once the gate is open, the file opens the staged bodies too, and a shut gate stands after them
  pub opened : (more : List (List ℕ)) → IsStaged more staged → Opens (bodies ++ more) (with_gate 1) (0 ∷ beyond)
  unfolding with_gate
  opened more is =
      let rest : List ℕ = 1 ∷ (staged ++ beyond) in
      opens_append bodies more (front ++ rest) rest (0 ∷ beyond) (anew rest) (staged_open more staged beyond 1 is (λ (e : 1 ≡ 0). cc))

  -- where the next shut gate then stands
  pub opened_place : end + length staged + 1 + length beyond ≡ length (with_gate 1)
  opened_place = omega (arith, length-with_gate 1)
