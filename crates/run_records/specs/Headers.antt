-- How a header is spelled: `TWIN`, the version, and three texts, each after its length in four
-- bytes, the high byte first.
use Rattle.std.specs.Prelude.{ℕ, ◌+◌, ◌^◌, ◌<◌, List, [], ◌∷◌, ◌++◌, length, codes}
use Rattle.byteorder.specs.Endian.{big_bytes}
use Rattle.run_records.specs.declared.header.Header.{Header}
use Rattle.run_records.specs.declared.version.Version.{Version}
use Rattle.run_records.specs.declared.version.Version.TheVariants.{One, Two}

-- the bytes of a text in a header: its length in four bytes, and the text
abbrev pub text_bytes : List ℕ → List ℕ
text_bytes text = big_bytes 4 (length text) ++ text

-- the number of a version, which is 1 or 2
abbrev pub version_number : Version → ℕ
version_number One = 1
version_number Two = 2

-- the mark that a header begins with: `TWIN`, and the version in two bytes
abbrev pub header_mark : Version → List ℕ
header_mark version = codes "TWIN" ++ 0 ∷ version_number version ∷ []

-- the bytes of a header: the mark, the settings, the tape of path 1 and that of path 2
abbrev pub header_bytes : Header → List ℕ
header_bytes header =
    header_mark header.version ++ text_bytes header.settings ++ text_bytes header.left ++ text_bytes header.right

-- the header fits a body of the journal: the mark (6 bytes), the three lengths (12) and the three
-- texts are together fewer than 2^32 bytes
abbrev pub IsShort : Header → Type 0
IsShort header = 18 + length header.settings + length header.left + length header.right < 2 ^ 32
