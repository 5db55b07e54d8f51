-- What a call says beside its text, and what it leaves in the caller's room. Due and Order cite it.
use Rattle.std.specs.Prelude.{◌≡◌, ◌≢◌, ℕ, Bool, true, false, List, ◌++◌, length, take, drop}
use Rattle.lathe_calls.specs.Statuses as exit
use Rattle.lathe_calls.specs.declared.said.Said.{Said}

-- the answer with this status, and a whole of so many items
abbrev pub answer_with : ℕ → ℕ → Said
answer_with status len = record { status = status; len = len }

-- the room with the front of a list in it, and after that what was there before
abbrev pub room_with : {A : Type 0} → List A → List A → List A
room_with list room = take (length room) list ++ drop (length list) room

-- a text was handed out with this status, or memory ran out and nothing was handed out
pub data IsHanded (status : ℕ) (text before after : List ℕ) (it : Said) : Type 0 where
  -- the text was handed out, as far as the room holds
  whole : status ≢ exit.no_memory → it ≡ answer_with status (length text) → after ≡ room_with text before → IsHanded status text before after it
  -- memory ran out, and the room is as it was
  lacking : status ≡ exit.no_memory → it ≡ answer_with exit.no_memory 0 → after ≡ before
      → IsHanded status text before after it

-- What a call says of its texts, which are fit or not: the status and the length of what is due, of
-- which the room holds the front. Or 13 if a text is too long, or 12 if memory ran out; then the
-- room is as it was.
pub data IsSaid {A : Type 0} (fit : Bool) (IsDue : ℕ → List A → Type 0) (before after : List A) (it : Said) : Type 0 where
  -- what is due was handed out, as far as the room holds
  whole : {status : ℕ} {list : List A} → fit ≡ true → IsDue status list
      → it ≡ answer_with status (length list)
      → after ≡ room_with list before → IsSaid fit IsDue before after it
  -- a text is longer than a file of its kind may be
  too_long : fit ≡ false → it ≡ answer_with exit.no_file 0 → after ≡ before
      → IsSaid fit IsDue before after it
  -- memory ran out
  lacking : fit ≡ true → it ≡ answer_with exit.no_memory 0 → after ≡ before
      → IsSaid fit IsDue before after it
