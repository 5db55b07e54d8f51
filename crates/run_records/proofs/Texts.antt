-- Texts after their lengths, and headers of three of them: a header has one spelling. For the law
-- `a_header_has_one_spelling` (src/laws.rt) and `parts_of` (src/header.rt).
use Rattle.std.proofs.Common.{◌≡◌, ℕ, ◌+◌, ◌^◌, ◌<◌, List, [], ◌++◌, length, take, drop, get_or, refl, sym, ◌∙◌, ap, arith, append_assoc, length-append}
use Rattle.std.proofs.lemmas.List.{take_at, drop_at, append-nil}
use Rattle.std.proofs.lemmas.Nat.{from_be_bytes-to_be_bytes_4}
use Rattle.std.specs.Int.{w32, from_be_bytes}
use Rattle.run_records.specs.declared.header.Header.{Header}
use Rattle.run_records.specs.declared.version.Version.{Version}
use Rattle.run_records.specs.declared.version.Version.TheVariants.{One, Two}
use Rattle.run_records.specs.Headers.{text_bytes, version_number, header_mark, header_bytes, IsShort}

-- two texts whose bytes begin one list are the same, and what follows them is the same
one_text : (text other rest more : List ℕ) → length text < 2 ^ 32 → length other < 2 ^ 32 → text_bytes text ++ rest ≡ text_bytes other ++ more → (text ≡ other) × (rest ≡ more)
one_text text other rest more short also same =
    let size : length text ≡ length other =
    sym (from_be_bytes-to_be_bytes_4 (length text) short) ∙ ap (λ (l : List ℕ). from_be_bytes w32 (take 4 l)) same ∙ from_be_bytes-to_be_bytes_4 (length other) also in
    let behind : text ++ rest ≡ other ++ more = ap (drop 4) same in (
      sym (take_at text rest (length other) size) ∙ ap (take (length other)) behind ∙ take_at other more (length other) refl,
      sym (drop_at text rest (length other) size) ∙ ap (drop (length other)) behind ∙ drop_at other more (length other) refl,
    )

-- versions of one number are the same
one_version : (a b : Version) → version_number a ≡ version_number b → a ≡ b
one_version One One same = refl
one_version Two Two same = refl
one_version One Two same = absurd (omega arith)
one_version Two One same = absurd (omega arith)

-- a header is its mark and then three texts, one after the other
nested : (header : Header) → header_bytes header ≡ header_mark header.version ++ (text_bytes header.settings ++ (text_bytes header.left ++ text_bytes header.right))
nested header =
    append_assoc (header_mark header.version ++ text_bytes header.settings) (text_bytes header.left) (text_bytes header.right)
    ∙ append_assoc (header_mark header.version) (text_bytes header.settings) (text_bytes header.left ++ text_bytes header.right)

-- The bytes of a short header, cut text by text: what is left after each is what the header has
-- there.
module _ (header : Header) (bytes : List ℕ) (short : IsShort header) (is : bytes ≡ header_bytes header) where
  -- after the mark come the settings and both tapes
  pub behind_mark : (version : Version) (rest : List ℕ) → bytes ≡ header_mark version ++ rest → rest ≡ text_bytes header.settings ++ (text_bytes header.left ++ text_bytes header.right)
  behind_mark version rest split = ap (drop 6) (sym split ∙ is ∙ nested header)

  -- after the mark and the settings come both tapes
  pub behind_settings : (version : Version) (rest settings after : List ℕ) → bytes ≡ header_mark version ++ rest → rest ≡ text_bytes settings ++ after → length settings < 2 ^ 32 → after ≡ text_bytes header.left ++ text_bytes header.right
  behind_settings version rest settings after split first fits =
      (one_text settings header.settings after (text_bytes header.left ++ text_bytes header.right) fits (omega (arith, short)) (sym first ∙ behind_mark version rest split)).1

  -- after the mark, the settings and the left tape comes the right tape
  pub behind_left : (version : Version) (rest settings after left last : List ℕ) → bytes ≡ header_mark version ++ rest → rest ≡ text_bytes settings ++ after → length settings < 2 ^ 32 → after ≡ text_bytes left ++ last → length left < 2 ^ 32 → last ≡ text_bytes header.right ++ []
  behind_left version rest settings after left last split first fits second also =
      (one_text left header.left last (text_bytes header.right) also (omega (arith, short)) (sym second ∙ behind_settings version rest settings after split first fits)).1 ∙ sym (append-nil (text_bytes header.right))

  -- after the mark and the three texts comes nothing
  pub behind_right : (version : Version) (rest settings after left last right end : List ℕ) → bytes ≡ header_mark version ++ rest → rest ≡ text_bytes settings ++ after → length settings < 2 ^ 32 → after ≡ text_bytes left ++ last → length left < 2 ^ 32
      → last ≡ text_bytes right ++ end → length right < 2 ^ 32 → end ≡ []
  behind_right version rest settings after left last right end split first fits second also third too =
      (one_text right header.right end [] too (omega (arith, short)) (sym third ∙ behind_left version rest settings after left last split first fits second also)).1

-- a header has one spelling
pub one_header : (header other : Header) → IsShort header → IsShort other → header_bytes header ≡ header_bytes other → header ≡ other
one_header header other short also same =
    let nested_same = sym (nested header) ∙ same ∙ nested other in
    let version = one_version header.version other.version (ap (λ (l : List ℕ). get_or l 5 0) nested_same) in
    let all = ap (drop 6) nested_same in
    let first = one_text header.settings other.settings _ _ (omega (arith, short)) (omega (arith, also)) all in
    let second = one_text header.left other.left _ _ (omega (arith, short)) (omega (arith, also)) first.1 in
    let third = one_text header.right other.right [] [] (omega (arith, short)) (omega (arith, also)) (append-nil (text_bytes header.right) ∙ second.1 ∙ sym (append-nil (text_bytes other.right))) in
    λ i. record { version = version i; settings = first.0 i; left = second.0 i; right = third.0 i }

-- a header has 18 bytes beside its texts: 6 of the mark, and a length of 4 before each text
length-header : (header : Header) → length (header_bytes header) ≡ 18 + length header.settings + length header.left + length header.right
length-header header =
    let first = length-append (header_mark header.version) (text_bytes header.settings) in
    let second = length-append (header_mark header.version ++ text_bytes header.settings) (text_bytes header.left) in
    let third = length-append (header_mark header.version ++ text_bytes header.settings ++ text_bytes header.left) (text_bytes header.right) in
    omega (arith, first, second, third)

-- a header whose bytes are fewer than 2^32 fits a body of the journal
short_header : (header : Header) (bytes : List ℕ) → bytes ≡ header_bytes header → length bytes < 2 ^ 32 → IsShort header
short_header header bytes is few = omega (arith, ap length is, length-header header)
