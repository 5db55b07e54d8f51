-- What the first four blocks of a G71 form say: the start, two G71, and the contour's first block.
-- src/head.rt reads them; Forms makes a form of them. The letters are bytes: 71 G, 85 U, 82 R, 80
-- P, 81 Q, 87 W, 70 F, 88 X.
use Rattle.std.specs.Prelude.{◌≡◌, ℕ, ◌≤◌, ◌&&◌, ◌==◌, nat_lt, List, [], ◌∷◌, length, Option, Some, None, is_none, ℤ, pos, negsuc, int_lt, if◌then◌else◌}
use Rattle.nc_number.specs.declared.limits.TheConstants.{LONGEST_SAID}
use Rattle.nc_number.specs.Arithmetic.{whole_of}
use Rattle.nc_number.specs.Options.{◌>>=◌, is_some_of}
use Rattle.line_text.specs.declared.body.Word.{Word}
use Rattle.nc_text.specs.declared.tape.Block.{Block}
use Rattle.rough_cycle.specs.Form.{IsWritten}
use Rattle.cycle_form.specs.declared.head.Cut.{Cut}
use Rattle.cycle_form.specs.declared.head.Call.{Call}
use Rattle.cycle_form.specs.declared.head.Head.{Head}
use Rattle.cycle_form.specs.Words.{literal_at, length_at, is_code, start_of}
use Rattle.cycle_form.specs.Contour.{words_of}

-- The number, if it is not negative.
abbrev pub natural_number : ℤ → Option ℕ
natural_number (pos n) = Some n
natural_number (negsuc n) = None

-- The length, in 0.001 mm, that the word at place i writes under this letter, if it is not
-- negative.
unfoldable pub size_at : List Word → ℕ → ℕ → Option ℕ
size_at words i letter = do
  z ← length_at words i letter
  natural_number z

-- The whole number from 0 on that the word at place i writes under this letter: it names a sequence
-- number.
unfoldable pub number_at : List Word → ℕ → ℕ → Option ℕ
number_at words i letter = do
  literal ← literal_at words i letter
  n ← whole_of literal.value
  natural_number n

-- The feed above 0, in 0.000001, that the word at place i writes under this letter.
unfoldable pub feed_at : List Word → ℕ → ℕ → Option ℤ
feed_at words i letter = do
  literal ← literal_at words i letter
  if int_lt (pos 0) literal.value then Some literal.value else None

-- The cut of G71 U<depth> R<retreat>, in this order and with no other word; the depth is above 0.
unfoldable pub cut_of : List Word → Option Cut
cut_of words =
    if length words == 3 && is_code (pos 71) (literal_at words 0 71) then (do
      depth ← size_at words 1 85
      retreat ← size_at words 2 82
      if nat_lt 0 depth then Some (record { depth = depth; retreat = retreat }) else None) else None

-- The call of G71 P<first> Q<last> U<across> W<along> F<feed>, in this order and with no other
-- word.
unfoldable pub call_of : List Word → Option Call
call_of words =
    if length words == 6 && is_code (pos 71) (literal_at words 0 71) then (do
      first ← number_at words 1 80
      last ← number_at words 2 81
      across ← size_at words 3 85
      along ← size_at words 4 87
      feed ← feed_at words 5 70
      Some (record { first = first; last = last; across = across; along = along; feed = feed })) else None

-- The words of a block that has no sequence number and is no statement.
unfoldable pub plain_words : Block → Option (List Word)
plain_words block = if is_none block.sequence then words_of block.body else None

-- The X of the contour's first block: G00 X<x> under the sequence number that the call names.
unfoldable pub first_of : ℕ → Block → Option ℤ
first_of number block = do
  words ← words_of block.body
  if (is_some_of number block.sequence && length words == 2) && is_code (pos 0) (literal_at words 0 71) then length_at words 1 88 else None

-- What these four blocks say, if they are the first of a form. The contour begins at the Z of the
-- start.
unfoldable pub head_of : Block → Block → Block → Block → Option Head
head_of a b c d = do
  a_words ← plain_words a
  start ← start_of a_words
  b_words ← plain_words b
  cut ← cut_of b_words
  c_words ← plain_words c
  call ← call_of c_words
  x ← first_of call.first d
  Some (record { start = start; cut = cut; call = call; first = record { x = x; z = start.z } })

-- What a block and the three blocks after it say, if they are the first four of a form.
abbrev pub head_at : Block → List Block → Option Head
head_at a [] = None
head_at a (b ∷ []) = None
head_at a (b ∷ c ∷ []) = None
head_at a (b ∷ c ∷ d ∷ blocks) = head_of a b c d

-- The lengths of a cut are those that a literal can write (at most 10^11 increments of 0.001 mm),
-- and the depth is above 0.
pub record IsSoundCut (cut : Cut) : Type 0 where
  -- the depth is above 0
  pub deep : 1 ≤ cut.depth
  -- a literal can write the depth
  pub depth : cut.depth ≤ LONGEST_SAID
  -- a literal can write the retreat
  pub retreat : cut.retreat ≤ LONGEST_SAID

-- The allowances are lengths that a literal can write.
pub record IsSoundCall (call : Call) : Type 0 where
  -- a literal can write the allowance in X
  pub across : call.across ≤ LONGEST_SAID
  -- a literal can write the allowance in Z
  pub along : call.along ≤ LONGEST_SAID

-- All lengths are those that a literal can write, the depth is above 0, and the contour begins at
-- the start's Z.
pub record IsSoundHead (head : Head) : Type 0 where
  -- literals can write the start
  pub start : IsWritten head.start
  -- the cut is sound
  pub cut : IsSoundCut head.cut
  -- the call is sound
  pub call : IsSoundCall head.call
  -- literals can write the contour's first point
  pub first : IsWritten head.first
  -- the contour begins at the start's Z
  pub at_start : head.first.z ≡ head.start.z
