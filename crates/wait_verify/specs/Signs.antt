-- Which block-skip switches a text names: those of which one of its lines bears a skip sign at its
-- head. `named_switches` (Switches) finds these and no others: that is a law of src/laws.rt.
use Rattle.std.specs.Prelude.{◌≡◌, ◌↔◌, ℕ, true, false, ◌||◌, ◌==◌, List, [], ◌∷◌, ◌++◌, All, Any, if◌then◌else◌}
use Rattle.std.specs.Int.{bit_at}
use Rattle.nc_text.specs.Lines.{lines_of}
use Rattle.wait_verify.specs.Switches.{is_gap, is_switch, switch_by, named_switches}

-- the switch of a skip sign with these bytes behind it: that of a digit from 1 to 9, which comes first
-- but for gaps, else 1
abbrev pub switch_ahead : List ℕ → ℕ
switch_ahead [] = 1
switch_ahead (b ∷ bs) = if is_gap b then switch_ahead bs else switch_by b

-- the bytes behind a skip sign and the digit of its switch, if it has one
abbrev pub behind_switch : List ℕ → List ℕ
behind_switch [] = []
behind_switch (b ∷ bs) = if is_gap b then behind_switch bs else if is_switch b then bs else b ∷ bs

-- Bytes in a comment: none closes it (41) or ends the line (10).
abbrev pub IsNote : List ℕ → Type 0
IsNote bytes = All (λ b. (b == 41 || b == 10) ≡ false) bytes

-- The line bears a skip sign (47) of the switch at its head: before it are only gaps, comments that
-- are closed, and other skip signs.
pub data BearsSign (switch : ℕ) : List ℕ → Type 0 where
  -- The line begins with the sign.
  here : (rest : List ℕ) → switch ≡ switch_ahead rest → BearsSign switch (47 ∷ rest)
  -- The sign stands behind a gap.
  behind_gap : (b : ℕ) (rest : List ℕ) → is_gap b ≡ true → BearsSign switch rest → BearsSign switch (b ∷ rest)
  -- It stands behind a comment, which begins with 40 and ends with 41.
  behind_note : (note rest : List ℕ) → IsNote note → BearsSign switch rest → BearsSign switch (40 ∷ (note ++ 41 ∷ rest))
  -- It stands behind another sign.
  behind_sign : (rest : List ℕ) → BearsSign switch (behind_switch rest) → BearsSign switch (47 ∷ rest)

-- The text names the switch: one of its lines bears a skip sign of it.
abbrev pub IsNamed : ℕ → List ℕ → Type 0
IsNamed switch text = Any (λ line. BearsSign switch line.bytes) (lines_of text)

-- The switches that are found in the text are exactly those that it names.
abbrev pub AreNamedExactly : List ℕ → Type 0
AreNamedExactly text = (switch : ℕ) → (bit_at (named_switches text) switch ≡ 1) ↔ IsNamed switch text
