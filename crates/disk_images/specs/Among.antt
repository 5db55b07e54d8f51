-- Which images are in a list, and which a crash may have left at some moment. An image is the bytes
-- of the whole file; a moment is how many calls the disk has had. No other crate cites it.
use Rattle.std.specs.Prelude.{◌≡◌, ◌⊎◌, ℕ, ◌≤◌, ◌<◌, nat_lt, if◌then◌else◌, List, [], ◌∷◌, map}

-- the image c is in the list
abbrev pub IsAmong : List (List ℕ) → List ℕ → Type 0
IsAmong [] c = ⊥
IsAmong (image ∷ images) c = (c ≡ image) ⊎ IsAmong images c

-- An image that a sync ended: a crash may have left it until the disk had had so many calls.
pub record Ended : Type 0 where
  -- the image
  pub bytes : List ℕ
  -- how many calls the disk had had
  pub until : ℕ

-- these images were ended when the disk had had so many calls
abbrev pub all_ended : ℕ → List (List ℕ) → List Ended
all_ended until images = map (λ image. record { bytes = image; until = until }) images

-- a crash at that time, or later, may have left the image
abbrev pub WasLeft : ℕ → List Ended → List ℕ → Type 0
WasLeft since [] c = ⊥
WasLeft since (e ∷ past) c = ((since < e.until) × (c ≡ e.bytes)) ⊎ WasLeft since past c

-- those of the ended images that a crash at that time, or later, may have left
abbrev pub left_since : ℕ → List Ended → List (List ℕ)
left_since since [] = []
left_since since (e ∷ past) = if nat_lt since e.until then e.bytes ∷ left_since since past else left_since since past

-- no ended image was ended after so many calls
abbrev pub AreEnded : ℕ → List Ended → Type 0
AreEnded calls [] = Unit {0}
AreEnded calls (e ∷ past) = (e.until ≤ calls) × AreEnded calls past
