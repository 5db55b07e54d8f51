-- The switches that `named_switches` finds in a text are exactly those of which one of its lines bears
-- a skip sign: for the law `a_switch_is_named_by_a_sign` (src/laws.rt).
use Rattle.std.proofs.Common.{◌≡◌, ◌⊎◌, inl, inr, ℕ, suc, ◌^◌, Bool, true, false, ◌||◌, ◌==◌, List, [], ◌∷◌, ◌++◌, bit_or, All, Any, if◌then◌else◌, refl, ap, sym, subst, ◌∙◌, arith}
use Rattle.std.specs.Int.{bit_at}
use Rattle.std.specs.List.{list_any}
use Rattle.std.proofs.lemmas.Bool.{eqb-true, eqb-false, eq-eqb, or_cases, or_left, or_right}
use Rattle.std.proofs.lemmas.Nat.Bits.{bit_at_or, bit_at-pow_same, bit_at-pow_other, bit_at-lt, bit_at-zero}
use Rattle.std.proofs.lemmas.List.Elements.{All-nil, All-cons, All-head, All-tail}
use Rattle.std.proofs.lemmas.List.Folds.{list_any-from_Any}
use Rattle.nc_text.specs.Lines.{Line, IsOneLine, lines_of, onto_line}
use Rattle.wait_verify.specs.declared.switches.Spot.{Spot}
use Rattle.wait_verify.specs.declared.switches.Spot.TheVariants.{Head, Slash, Note, Block}
use Rattle.wait_verify.specs.Switches.{is_gap, is_switch, switch_by, spot_behind_head, spot_behind, named_behind, named_from, named_switches}
use Rattle.wait_verify.specs.Signs.{switch_ahead, behind_switch, IsNote, BearsSign, IsNamed, AreNamedExactly}
use Rattle.wait_verify.specs.Signs.BearsSign.{here, behind_gap, behind_note, behind_sign}

-- whether the skip sign that ends before the byte b is of the switch
abbrev is_added : Spot → ℕ → ℕ → Bool
is_added Head b switch = false
is_added Slash b switch = if is_gap b then false else switch_by b == switch
is_added Note b switch = false
is_added Block b switch = false

-- whether a skip sign of the switch ends before one of these bytes, of which the first stands at this
-- spot, or before their end
abbrev is_found : Spot → ℕ → List ℕ → Bool
is_found spot switch [] = is_added spot 10 switch
is_found spot switch (b ∷ bs) = is_added spot b switch || is_found (spot_behind spot b) switch bs

-- Bits.

-- A mask with one switch more.
one_more : (named own switch : ℕ) → bit_at (bit_or named (2 ^ own)) switch ≡ (if own == switch then 1 else bit_at named switch)
one_more named own switch = go (own == switch) refl
  where
    go : (same : Bool) → (own == switch) ≡ same → bit_at (bit_or named (2 ^ own)) switch ≡ (if same then 1 else bit_at named switch)
    go true is =
        let set : bit_at (2 ^ own) switch ≡ 1 = subst (λ (k : ℕ). bit_at (2 ^ own) k ≡ 1) (eqb-true own switch is) (bit_at-pow_same own) in
        omega (arith, bit_at_or named (2 ^ own) switch, set, bit_at-lt named switch)
    go false is =
        let unset : bit_at (2 ^ own) switch ≡ 0 = bit_at-pow_other own switch (λ e. eqb-false own switch is (sym e)) in
        omega (arith, bit_at_or named (2 ^ own) switch, unset)

-- The mask before a byte has what the sign names that ends there, and what it had.
behind_byte : (spot : Spot) (b named switch : ℕ)
    → bit_at (named_behind spot b named) switch ≡ (if is_added spot b switch then 1 else bit_at named switch)
behind_byte Head b named switch = refl
behind_byte Slash b named switch = go (is_gap b)
  where
    go : (gap : Bool) → bit_at (if gap then named else bit_or named (2 ^ switch_by b)) switch
        ≡ (if (if gap then false else switch_by b == switch) then 1 else bit_at named switch)
    go true = refl
    go false = one_more named (switch_by b) switch
behind_byte Note b named switch = refl
behind_byte Block b named switch = refl

-- A bit that is set now or later is set.
now_or_later : (now later : Bool) (x y : ℕ) → x ≡ (if now then 1 else y) → (if later then 1 else x) ≡ (if now || later then 1 else y)
now_or_later true true x y e = refl
now_or_later true false x y e = e
now_or_later false true x y e = refl
now_or_later false false x y e = e

-- The mask behind bytes has each switch that is found in them, and what it had.
from_bytes : (bytes : List ℕ) (spot : Spot) (named switch : ℕ)
    → bit_at (named_from spot named bytes) switch ≡ (if is_found spot switch bytes then 1 else bit_at named switch)
from_bytes [] spot named switch = behind_byte spot 10 named switch
from_bytes (b ∷ bs) spot named switch =
    from_bytes bs (spot_behind spot b) (named_behind spot b named) switch
    ∙ now_or_later (is_added spot b switch) (is_found (spot_behind spot b) switch bs) (bit_at (named_behind spot b named) switch)
    (bit_at named switch) (behind_byte spot b named switch)

-- Lines.

-- whether the switch is found in one of these lines, each from its head on
abbrev is_in_some : ℕ → List Line → Bool
is_in_some switch lines = list_any (λ (line : Line). is_found Head switch line.bytes) lines

-- whether the switch is found in these lines, the first of which begins at this spot
abbrev is_in_lines : Spot → ℕ → List Line → Bool
is_in_lines spot switch [] = is_added spot 10 switch
is_in_lines spot switch (line ∷ lines) = is_found spot switch line.bytes || is_in_some switch lines

-- From the head of the first line on, it is found in one of the lines.
from_head : (switch : ℕ) (lines : List Line) → is_in_lines Head switch lines ≡ is_in_some switch lines
from_head switch [] = refl
from_head switch (line ∷ lines) = refl

-- Behind a line feed a line begins.
begins_line : (spot : Spot) → spot_behind spot 10 ≡ Head
begins_line Head = refl
begins_line Slash = refl
begins_line Note = refl
begins_line Block = refl

-- nothing more is found in no line
nothing_more : (x : Bool) → (x || false) ≡ x
nothing_more true = refl
nothing_more false = refl

-- one of three
one_of_three : (x y z : Bool) → (x || (y || z)) ≡ ((x || y) || z)
one_of_three true y z = refl
one_of_three false y z = refl

-- A byte before the first of these lines.
one_byte_more : (spot : Spot) (switch b : ℕ) (lines : List Line)
    → (is_added spot b switch || is_in_lines (spot_behind spot b) switch lines) ≡ is_in_lines spot switch (onto_line b lines)
one_byte_more spot switch b [] = sym (nothing_more (is_added spot b switch || is_added (spot_behind spot b) 10 switch))
one_byte_more spot switch b (line ∷ lines) =
    one_of_three (is_added spot b switch) (is_found (spot_behind spot b) switch line.bytes) (is_in_some switch lines)

-- A switch is found in a text exactly if it is found in its lines.
found_in_lines : (text : List ℕ) (spot : Spot) (switch : ℕ) → is_found spot switch text ≡ is_in_lines spot switch (lines_of text)
found_in_lines [] spot switch = refl
found_in_lines (b ∷ bs) spot switch =
    go (b == 10) refl (found_in_lines bs Head switch) (found_in_lines bs (spot_behind spot b) switch)
  where
    go : (feed : Bool) → (b == 10) ≡ feed → is_found Head switch bs ≡ is_in_lines Head switch (lines_of bs)
        → is_found (spot_behind spot b) switch bs ≡ is_in_lines (spot_behind spot b) switch (lines_of bs)
        → (is_added spot b switch || is_found (spot_behind spot b) switch bs)
        ≡ is_in_lines spot switch (if feed then record { bytes = []; ended = true } ∷ lines_of bs else onto_line b (lines_of bs))
    go true is next later =
        subst (λ (k : ℕ). (is_added spot k switch || is_found (spot_behind spot k) switch bs) ≡ (is_added spot 10 switch || is_in_some switch (lines_of bs)))
        (sym (eqb-true b 10 is))
        (ap (λ (s : Spot). is_added spot 10 switch || is_found s switch bs) (begins_line spot)
        ∙ ap (λ (f : Bool). is_added spot 10 switch || f) (next ∙ from_head switch (lines_of bs)))
    go false is next later =
        ap (λ (f : Bool). is_added spot b switch || f) later ∙ one_byte_more spot switch b (lines_of bs)

-- The bytes of each line are one line.
lines_are : (text : List ℕ) → All (λ (line : Line). IsOneLine line.bytes) (lines_of text)
lines_are [] = All-nil (λ (line : Line). IsOneLine line.bytes)
lines_are (b ∷ bs) = go (b == 10) refl (lines_are bs)
  where
    own : (b == 10) ≡ false → (rest : List ℕ) → IsOneLine rest → IsOneLine (b ∷ rest)
    own is rest one = All-cons (λ (k : ℕ). (k == 10) ≡ false) b rest is one

    longer : (b == 10) ≡ false → (lines : List Line) → All (λ (line : Line). IsOneLine line.bytes) lines
        → All (λ (line : Line). IsOneLine line.bytes) (onto_line b lines)
    longer is [] all =
        All-cons (λ (line : Line). IsOneLine line.bytes) (record { bytes = b ∷ []; ended = false }) []
        (own is [] (All-nil (λ (k : ℕ). (k == 10) ≡ false))) (All-nil (λ (line : Line). IsOneLine line.bytes))
    longer is (line ∷ lines) all =
        All-cons (λ (l : Line). IsOneLine l.bytes) (record { bytes = b ∷ line.bytes; ended = line.ended }) lines
        (own is line.bytes (All-head (λ (l : Line). IsOneLine l.bytes) line lines all))
        (All-tail (λ (l : Line). IsOneLine l.bytes) line lines all)

    go : (feed : Bool) → (b == 10) ≡ feed → All (λ (line : Line). IsOneLine line.bytes) (lines_of bs)
        → All (λ (line : Line). IsOneLine line.bytes)
        (if feed then record { bytes = []; ended = true } ∷ lines_of bs else onto_line b (lines_of bs))
    go true is rest =
        All-cons (λ (line : Line). IsOneLine line.bytes) (record { bytes = []; ended = true }) (lines_of bs)
        (All-nil (λ (k : ℕ). (k == 10) ≡ false)) rest
    go false is rest = longer is (lines_of bs) rest

-- What is found stands there.

-- What is said by bytes of a line, of which the first stands at this spot, if the switch is found in
-- them.
abbrev Says : Spot → ℕ → List ℕ → Type 0
Says Head switch bytes = BearsSign switch bytes
Says Slash switch bytes = (switch ≡ switch_ahead bytes) ⊎ BearsSign switch (behind_switch bytes)
Says Note switch bytes = (note rest : List ℕ) × (bytes ≡ note ++ 41 ∷ rest) × IsNote note × BearsSign switch rest
Says Block switch bytes = ⊥

-- The rest of a line says it, if the switch is found there.
abbrev NextSays : ℕ → List ℕ → Type 0
NextSays switch bs = (spot : Spot) → is_found spot switch bs ≡ true → Says spot switch bs

-- A skip sign is the one of the switch, or the one of the switch is behind it.
sign_or_later : (switch : ℕ) (rest : List ℕ) → Says Slash switch rest → BearsSign switch (47 ∷ rest)
sign_or_later switch rest (inl same) = here rest same
sign_or_later switch rest (inr more) = behind_sign rest more

-- The sign is behind a comment.
behind_opened : (switch : ℕ) (rest : List ℕ) → Says Note switch rest → BearsSign switch (40 ∷ rest)
behind_opened switch rest said = subst (λ (l : List ℕ). BearsSign switch (40 ∷ l)) (sym said.2) (behind_note said.0 said.1 said.3 said.4)

-- A byte at the head of a line.
said_at_head : (switch b : ℕ) (bs : List ℕ) → (b == 10) ≡ false → NextSays switch bs → is_found (spot_behind_head b) switch bs ≡ true
    → BearsSign switch (b ∷ bs)
said_at_head switch b bs other next found = go (b == 47) (b == 40) (is_gap b) refl refl refl found
  where
    go : (slash note gap : Bool) → (b == 47) ≡ slash → (b == 40) ≡ note → is_gap b ≡ gap
        → is_found (if slash then Slash else if note then Note else if gap || b == 10 then Head else Block) switch bs ≡ true
        → BearsSign switch (b ∷ bs)
    go true note gap is opens blank f =
        subst (λ (k : ℕ). BearsSign switch (k ∷ bs)) (sym (eqb-true b 47 is)) (sign_or_later switch bs (next Slash f))
    go false true gap is opens blank f =
        subst (λ (k : ℕ). BearsSign switch (k ∷ bs)) (sym (eqb-true b 40 opens)) (behind_opened switch bs (next Note f))
    go false false true is opens blank f = behind_gap b bs blank (next Head f)
    go false false false is opens blank f =
        absurd (next Block (subst (λ (t : Bool). is_found (if t then Head else Block) switch bs ≡ true) other f))

-- A byte behind a skip sign.
said_behind_sign : (switch b : ℕ) (bs : List ℕ) → (b == 10) ≡ false → NextSays switch bs → is_found Slash switch (b ∷ bs) ≡ true
    → Says Slash switch (b ∷ bs)
said_behind_sign switch b bs other next found = go (is_gap b) (is_switch b) found
  where
    sign : (later : Bool) (More : Type 0) → ((switch_by b == switch) || later) ≡ true → (later ≡ true → More)
        → (switch ≡ switch_by b) ⊎ More
    sign later More f more = elim (or_cases (switch_by b == switch) later f) [
      | inl own ↦ inl (sym (eqb-true (switch_by b) switch own))
      | inr rest ↦ inr (more rest)
    ]

    go : (gap digit : Bool)
        → ((if gap then false else switch_by b == switch)
        || is_found (if gap then Slash else if digit then Head else spot_behind_head b) switch bs) ≡ true
        → (switch ≡ (if gap then switch_ahead bs else switch_by b))
        ⊎ BearsSign switch (if gap then behind_switch bs else if digit then bs else b ∷ bs)
    go true digit f = next Slash f
    go false true f = sign (is_found Head switch bs) (BearsSign switch bs) f (next Head)
    go false false f =
        sign (is_found (spot_behind_head b) switch bs) (BearsSign switch (b ∷ bs)) f (said_at_head switch b bs other next)

-- A byte in a comment.
said_in_note : (switch b : ℕ) (bs : List ℕ) → (b == 10) ≡ false → NextSays switch bs → is_found Note switch (b ∷ bs) ≡ true
    → Says Note switch (b ∷ bs)
said_in_note switch b bs other next found = go (b == 41) refl found
  where
    go : (closes : Bool) → (b == 41) ≡ closes → is_found (if closes || b == 10 then Head else Note) switch bs ≡ true
        → Says Note switch (b ∷ bs)
    go true is f = (
      [],
      bs,
      ap (λ (k : ℕ). k ∷ bs) (eqb-true b 41 is),
      All-nil (λ (k : ℕ). (k == 41 || k == 10) ≡ false),
      next Head f,
    )
    go false is f =
        let said = next Note (subst (λ (t : Bool). is_found (if t then Head else Note) switch bs ≡ true) other f) in (
          b ∷ said.0,
          said.1,
          ap (λ (l : List ℕ). b ∷ l) said.2,
          All-cons (λ (k : ℕ). (k == 41 || k == 10) ≡ false) b said.0 (ap (λ (t : Bool). t || b == 10) is ∙ other) said.3,
          said.4,
        )

-- A line says it, if the switch is found there.
said : (bytes : List ℕ) (switch : ℕ) → IsOneLine bytes → NextSays switch bytes
said [] switch one Head found = absurd cc
said [] switch one Slash found = inl (sym (eqb-true 1 switch found))
said [] switch one Note found = absurd cc
said [] switch one Block found = absurd cc
said (b ∷ bs) switch one spot found =
    go (All-head (λ (k : ℕ). (k == 10) ≡ false) b bs one) (said bs switch (All-tail (λ (k : ℕ). (k == 10) ≡ false) b bs one)) spot found
  where
    go : (b == 10) ≡ false → NextSays switch bs → NextSays switch (b ∷ bs)
    go other next Head f = said_at_head switch b bs other next f
    go other next Slash f = said_behind_sign switch b bs other next f
    go other next Note f = said_in_note switch b bs other next f
    go other next Block f = absurd (next Block (subst (λ (t : Bool). is_found (if t then Head else Block) switch bs ≡ true) other f))

-- What stands there is found.

-- The switch of a sign is found behind it.
sign_found : (rest : List ℕ) (switch : ℕ) → switch ≡ switch_ahead rest → is_found Slash switch rest ≡ true
sign_found [] switch same = eq-eqb 1 switch (sym same)
sign_found (b ∷ bs) switch same = go (is_gap b) same (sign_found bs switch)
  where
    go : (gap : Bool) → switch ≡ (if gap then switch_ahead bs else switch_by b)
        → (switch ≡ switch_ahead bs → is_found Slash switch bs ≡ true)
        → ((if gap then false else switch_by b == switch)
        || is_found (if gap then Slash else if is_switch b then Head else spot_behind_head b) switch bs) ≡ true
    go true own later = later own
    go false own later = or_left (switch_by b == switch) _ (eq-eqb (switch_by b) switch (sym own))

-- What is found behind a sign and its digit is found behind the sign.
found_behind_sign : (rest : List ℕ) (switch : ℕ) → is_found Head switch (behind_switch rest) ≡ true → is_found Slash switch rest ≡ true
found_behind_sign [] switch found = absurd cc
found_behind_sign (b ∷ bs) switch found = go (is_gap b) (is_switch b) found (found_behind_sign bs switch)
  where
    go : (gap digit : Bool) → is_found Head switch (if gap then behind_switch bs else if digit then bs else b ∷ bs) ≡ true
        → (is_found Head switch (behind_switch bs) ≡ true → is_found Slash switch bs ≡ true)
        → ((if gap then false else switch_by b == switch)
        || is_found (if gap then Slash else if digit then Head else spot_behind_head b) switch bs) ≡ true
    go true digit f later = later f
    go false true f later = or_right (switch_by b == switch) _ f
    go false false f later = or_right (switch_by b == switch) _ f

-- Behind a gap the head of a line goes on.
head_goes_on : (b : ℕ) → is_gap b ≡ true → spot_behind_head b ≡ Head
head_goes_on b gap = go (b == 47) (b == 40) refl refl
  where
    go : (slash note : Bool) → (b == 47) ≡ slash → (b == 40) ≡ note
        → (if slash then Slash else if note then Note else if is_gap b || b == 10 then Head else Block) ≡ Head
    go true note is opens = absurd (let no : false ≡ true = subst (λ (k : ℕ). is_gap k ≡ true) (eqb-true b 47 is) gap in cc)
    go false true is opens = absurd (let no : false ≡ true = subst (λ (k : ℕ). is_gap k ≡ true) (eqb-true b 40 opens) gap in cc)
    go false false is opens = ap (λ (t : Bool). if t || b == 10 then Head else Block) gap

-- Behind a comment the head of a line goes on.
note_passes : (note : List ℕ) (switch : ℕ) (rest : List ℕ) → IsNote note → is_found Note switch (note ++ 41 ∷ rest) ≡ is_found Head switch rest
note_passes [] switch rest is = refl
note_passes (b ∷ note) switch rest is =
    subst (λ (t : Bool). is_found (if t then Head else Note) switch (note ++ 41 ∷ rest) ≡ is_found Head switch rest)
    (sym (All-head (λ (k : ℕ). (k == 41 || k == 10) ≡ false) b note is))
    (note_passes note switch rest (All-tail (λ (k : ℕ). (k == 41 || k == 10) ≡ false) b note is))

-- The switch of a skip sign is found in its line.
found : (switch : ℕ) {line : List ℕ} → BearsSign switch line → is_found Head switch line ≡ true
found switch (here rest same) = sign_found rest switch same
found switch (behind_gap b rest gap more) = subst (λ (s : Spot). is_found s switch rest ≡ true) (sym (head_goes_on b gap)) (found switch more)
found switch (behind_note note rest is more) = note_passes note switch rest is ∙ found switch more
found switch (behind_sign rest more) = found_behind_sign rest switch (found switch more)

-- A text.

-- If the switch is found in one of the lines, that line bears its sign.
some_line : (switch : ℕ) (lines : List Line) → All (λ (line : Line). IsOneLine line.bytes) lines → is_in_some switch lines ≡ true
    → Any (λ (line : Line). BearsSign switch line.bytes) lines
some_line switch [] all e = absurd cc
some_line switch (line ∷ lines) all e = elim (or_cases (is_found Head switch line.bytes) (is_in_some switch lines) e) [
  | inl own ↦ (
    0,
    line,
    omega arith,
    refl,
    said line.bytes switch (All-head (λ (l : Line). IsOneLine l.bytes) line lines all) Head own,
  )
  | inr more ↦
      let later = some_line switch lines (All-tail (λ (l : Line). IsOneLine l.bytes) line lines all) more in
      (suc later.0, later.1, omega (arith, later.2), later.3, later.4)
]

-- The switches that are found in a text are exactly those that it names.
pub named_exactly : (text : List ℕ) → AreNamedExactly text
named_exactly text switch = (to, from)
  where
    bit : bit_at (named_switches text) switch ≡ (if is_found Head switch text then 1 else bit_at 0 switch)
    bit = from_bytes text Head 0 switch

    lines : is_found Head switch text ≡ is_in_some switch (lines_of text)
    lines = found_in_lines text Head switch ∙ from_head switch (lines_of text)

    to : bit_at (named_switches text) switch ≡ 1 → IsNamed switch text
    to set = go (is_found Head switch text) refl
      where
        go : (b : Bool) → is_found Head switch text ≡ b → IsNamed switch text
        go true is = some_line switch (lines_of text) (lines_are text) (sym lines ∙ is)
        go false is =
            absurd (let no : 1 ≡ 0 = sym set ∙ bit ∙ ap (λ (t : Bool). if t then 1 else bit_at 0 switch) is ∙ bit_at-zero switch in omega (arith, no))

    from : IsNamed switch text → bit_at (named_switches text) switch ≡ 1
    from named =
        bit
        ∙ ap (λ (t : Bool). if t then 1 else bit_at 0 switch)
        (lines ∙ list_any-from_Any (λ (line : Line). is_found Head switch line.bytes) (lines_of text)
        (named.0, named.1, named.2, named.3, found switch named.4))
