-- Which lines of a text have a skip sign. src/noting.rt computes it. 10 is the line feed, 32 the
-- blank, 40 and 41 the parentheses of a comment, 47 the skip sign.
use Rattle.std.specs.Prelude.{ℕ, Bool, false, true, not, ◌||◌, ◌==◌, nat_le, List, [], ◌∷◌, if◌then◌else◌}
use Rattle.tape_plain.specs.declared.noting.Sight.{Sight}

-- nothing was seen of the line yet
abbrev pub opening : Sight
opening = record { began = false; skip = false; inside = false }

-- what was seen of the line once this byte of it was seen
abbrev pub sight_behind : Sight → ℕ → Sight
sight_behind sight byte =
    if sight.inside then record { began = sight.began; skip = sight.skip; inside = not (byte == 41) }
    else if byte == 40 then record { began = sight.began; skip = sight.skip; inside = true }
    else if nat_le byte 32 || sight.began then sight
    else record { began = true; skip = byte == 47; inside = false }

-- for each line from here on whether it has a skip sign
abbrev pub skips_from : Sight → List ℕ → List Bool
skips_from sight [] = sight.skip ∷ []
skips_from sight (byte ∷ bytes) =
    if byte == 10 then sight.skip ∷ skips_from opening bytes else skips_from (sight_behind sight byte) bytes

-- for each line of a text whether its block begins with a skip sign, from line 1 on
abbrev pub skips_of : List ℕ → List Bool
skips_of text = skips_from opening text
