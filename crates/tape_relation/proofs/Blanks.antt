-- When two lines of a tape have the same text, places aside: a blank counts for nothing; and a line
-- of closed comments says nothing. For Blanked, Packed, Placeless and Removed.
use Rattle.std.proofs.Common.{◌≡◌, ◌==◌, ℕ, suc, ◌+◌, Bool, true, false, cond, not, ◌&&◌, List, [], ◌∷◌, drop, Ok, refl, ap, ◌∙◌, arith}
use Rattle.std.specs.Char.{to_ascii_uppercase}
use Rattle.std.specs.List.{list_all, prefix_len}
use Rattle.std.proofs.lemmas.Bool.{and_parts, eqb-true}
use Rattle.std.proofs.lemmas.Bool.Decides.{nat_tests}
use Rattle.line_text.specs.declared.sign.Sign.{Sign}
use Rattle.line_text.specs.declared.said.Said.TheVariants as said
use Rattle.line_text.specs.Signs.{Scan, is_blank, is_allowed, are_allowed, add_sign, inside_behind, scan_of, signs_of}
use Rattle.line_text.specs.Pieces.{is_comment, bytes_of}
use Rattle.line_text.specs.Front.{behind_comments, switch_of}
use Rattle.line_text.specs.Said.{said_or_refusal, is_skipped, read_head, line_says}

-- two scans of lines with the same signs but for their places; both lines end inside a comment or
-- neither does
pub record IsSameText (a b : Scan) : Type 0 where
  -- the same bytes count
  pub bytes : bytes_of a.list ≡ bytes_of b.list
  -- both end inside a comment, or neither does
  pub unclosed : a.unclosed ≡ b.unclosed

-- lines with the same text have the same text with one more byte in front
pub added : (test : Bool) (p q b : ℕ) (x y : Scan) → IsSameText x y → IsSameText (add_sign test p b x) (add_sign test q b y)
added true p q b x y same = record { bytes = ap (λ (bytes : List ℕ). to_ascii_uppercase b ∷ bytes) same.bytes; unclosed = same.unclosed }
added false p q b x y same = same

-- if a line has the text of a second, and that the text of a third, the first has the text of the
-- third
pub same_chain : (x y z : Scan) → IsSameText x y → IsSameText y z → IsSameText x z
same_chain x y z p q = record { bytes = p.bytes ∙ q.bytes; unclosed = p.unclosed ∙ q.unclosed }

-- the places of what is scanned don't matter
moved : (line : List ℕ) (inside : Bool) (p q : ℕ) → IsSameText (scan_of line inside p) (scan_of line inside q)
moved [] inside p q = record { bytes = refl; unclosed = refl }
moved (b ∷ line) inside p q = added (not inside && not (is_blank b)) p q b _ _ (moved line (inside_behind inside b) (p + 1) (q + 1))

-- a blank opens and closes no comment
is_no_bracket : (b : ℕ) → is_blank b ≡ true → ((b == 40) ≡ false) × ((b == 41) ≡ false)
is_no_bracket b blank = grind (arith, nat_tests)

-- a blank counts for nothing
pub blank_here : (b : ℕ) (back : List ℕ) (inside : Bool) (place : ℕ) → is_blank b ≡ true → IsSameText (scan_of (b ∷ back) inside place) (scan_of back inside place)
blank_here b back true place blank =
    let behind : inside_behind true b ≡ true = ap not (is_no_bracket b blank).1 in
    rw behind (moved back true (place + 1) place)
blank_here b back false place blank =
    let behind : inside_behind false b ≡ false = (is_no_bracket b blank).0 in
    rw (blank, behind) (moved back false (place + 1) place)

-- the sign of a comment is an allowed byte
allowed_comment : (b : ℕ) → b ≡ 40 → is_allowed b ≡ true
allowed_comment b e = rw e refl

-- comments have no byte that is refused
comments_allowed : (signs : List Sign) → list_all is_comment signs ≡ true → are_allowed signs ≡ true
comments_allowed [] all = refl
comments_allowed (sign ∷ signs) all =
    let parts = and_parts (is_comment sign) (list_all is_comment signs) all in
    ap (λ (t : Bool). t && are_allowed signs) (allowed_comment sign.byte (eqb-true _ _ parts.0)) ∙ comments_allowed signs parts.1

-- after signs that are all comments nothing is left
none_behind : (signs : List Sign) → list_all is_comment signs ≡ true → behind_comments signs ≡ []
none_behind [] all = refl
none_behind (sign ∷ signs) all =
    let parts = and_parts (is_comment sign) (list_all is_comment signs) all in
    let e : 1 + prefix_len is_comment signs ≡ suc (prefix_len is_comment signs) = omega arith in
    ap (λ (t : Bool). drop (cond t (1 + prefix_len is_comment signs) 0) (sign ∷ signs)) parts.0 ∙ ap (λ (n : ℕ). drop n (sign ∷ signs)) e ∙ none_behind signs parts.1

-- a line of closed comments says nothing
pub only_comments : (skips : ℕ) (line : List ℕ) (ended : Bool) → list_all is_comment (signs_of line ended).list ≡ true → (signs_of line ended).unclosed ≡ false → line_says skips line ended ≡ Ok said.Nothing
unfolding line_says read_head
only_comments skips line ended all closed =
    let signs = (signs_of line ended).list in
    λ i. said_or_refusal (is_skipped skips (switch_of (none_behind signs all i))) (comments_allowed signs all i) (closed i) (read_head (none_behind signs all i))
