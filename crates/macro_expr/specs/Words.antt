-- The words of macro expressions and statements as tables, and runs of letters and digits.
-- Src/words.rt finds them at the head of a text, by tables of its own. A keyword stands in
-- line_text too (specs/Front, src/front.rt), which tells a statement by it, and in tape_relation.
-- 65 is A, 90 Z, 46 the point.
use Rattle.std.specs.Prelude.{ℕ, Bool, true, false, ◌==◌, ◌&&◌, ◌||◌, nat_le, List, [], ◌∷◌, length, take, drop, not, Option, None, Some, codes, if◌then◌else◌}
use Rattle.std.specs.Option.{option_or, option_map}
use Rattle.std.specs.List.{position_or_len}
use Rattle.std.specs.Char.{is_ascii_digit}
use Rattle.macro_expr.specs.declared.tree.Fun.{Fun}
use Rattle.macro_expr.specs.declared.tree.Fun.TheVariants.{Sqrt, Abs, Fix, Fup, Round}
use Rattle.macro_expr.specs.declared.words.Keyword.{Keyword}
use Rattle.macro_expr.specs.declared.words.Keyword.TheVariants.{If, While, Goto, Do, End}
use Rattle.macro_expr.specs.declared.tree.Op.{Op}
use Rattle.macro_expr.specs.declared.tree.Op.TheVariants.{Add, Sub, BitOr, BitXor, Mul, Div, BitAnd, Modulo}
use Rattle.macro_expr.specs.declared.words.Rank.{Rank}
use Rattle.macro_expr.specs.declared.words.Rank.TheVariants.{Product, Sum}
use Rattle.macro_expr.specs.declared.tree.Rel.{Rel}
use Rattle.macro_expr.specs.declared.tree.Rel.TheVariants.{Eq, Ne, Gt, Ge, Lt, Le}

-- what stands after the word, if the text begins with it
abbrev pub text_behind : List ℕ → List ℕ → Option (List ℕ)
text_behind [] text = Some text
text_behind (w ∷ word) [] = None
text_behind (w ∷ word) (b ∷ text) = if b == w then text_behind word text else None

-- the meaning of the first word of the table with which the text begins, and what stands after it
abbrev pub first_word : {A : Type 0} → List (List ℕ × A) → List ℕ → Option (A × List ℕ)
first_word [] text = None
first_word (w ∷ words) text =
    option_or (option_map (λ rest. (w.1, rest)) (text_behind w.0 text)) (first_word words text)

-- the operators of a rank
abbrev pub operator_words : Rank → List (List ℕ × Op)
operator_words Product = (codes "*", Mul) ∷ (codes "/", Div) ∷ (codes "AND", BitAnd) ∷ (codes "MOD", Modulo) ∷ []
operator_words Sum = (codes "+", Add) ∷ (codes "-", Sub) ∷ (codes "OR", BitOr) ∷ (codes "XOR", BitXor) ∷ []

-- the relations of a condition
abbrev pub relation_words : List (List ℕ × Rel)
relation_words =
    (codes "EQ", Eq) ∷ (codes "NE", Ne) ∷ (codes "GT", Gt) ∷ (codes "GE", Ge) ∷ (codes "LT", Lt) ∷ (codes "LE", Le) ∷ []

-- the signs, and whether each is a minus
abbrev pub sign_words : List (List ℕ × Bool)
sign_words = (codes "+", false) ∷ (codes "-", true) ∷ []

-- the operator of this rank with which the text begins, and what stands after it
unfoldable pub operator : Rank → List ℕ → Option (Op × List ℕ)
operator rank = first_word (operator_words rank)

-- the relation with which the text begins, and what stands after it
unfoldable pub relation : List ℕ → Option (Rel × List ℕ)
relation = first_word relation_words

-- the sign with which the text begins, and what stands after it
unfoldable pub sign : List ℕ → Option (Bool × List ℕ)
sign = first_word sign_words

-- whether the byte is a letter, A to Z
abbrev pub is_letter : ℕ → Bool
is_letter b = nat_le 65 b && nat_le b 90

-- whether the byte is a digit or the point
abbrev pub is_number_byte : ℕ → Bool
is_number_byte b = is_ascii_digit b || b == 46

-- the longest run of bytes of which `p` holds at the head of the text
abbrev pub run : (ℕ → Bool) → List ℕ → List ℕ
run p text = take (position_or_len (λ b. not (p b)) text) text

-- what stands after the longest run of bytes of which `p` holds at the head
abbrev pub behind_run : (ℕ → Bool) → List ℕ → List ℕ
behind_run p text = drop (position_or_len (λ b. not (p b)) text) text

-- whether the text begins with a byte of which `p` holds
abbrev pub begins : (ℕ → Bool) → List ℕ → Bool
begins p [] = false
begins p (b ∷ text) = p b

-- the names of the functions
abbrev pub function_words : List (List ℕ × Fun)
function_words =
    (codes "SQRT", Sqrt) ∷ (codes "ABS", Abs) ∷ (codes "FIX", Fix) ∷ (codes "FUP", Fup) ∷ (codes "ROUND", Round) ∷ []

-- the function whose name begins the text, and what stands after it
unfoldable pub function_word : List ℕ → Option (Fun × List ℕ)
function_word = first_word function_words

-- the meaning of the word that was found, if nothing stands after it
abbrev pub all_of : {A : Type 0} → Option (A × List ℕ) → Option A
all_of None = None
all_of (Some found) = if length found.1 == 0 then Some found.0 else None

-- the function of this name, if there is one
unfoldable pub function_of : List ℕ → Option Fun
function_of name = all_of (function_word name)

-- the words that begin a statement
abbrev pub keyword_words : List (List ℕ × Keyword)
keyword_words =
    (codes "IF", If) ∷ (codes "WHILE", While) ∷ (codes "GOTO", Goto) ∷ (codes "DO", Do) ∷ (codes "END", End) ∷ []

-- the word that begins a statement, and what stands after it
unfoldable pub keyword : List ℕ → Option (Keyword × List ℕ)
keyword = first_word keyword_words

-- the numbers of loops
abbrev pub loop_words : List (List ℕ × ℕ)
loop_words = (codes "1", 1) ∷ (codes "2", 2) ∷ (codes "3", 3) ∷ []

-- the number of a loop with which the text begins, and what stands after it
unfoldable pub loop_word : List ℕ → Option (ℕ × List ℕ)
loop_word = first_word loop_words

-- the number of a loop, if these digits are 1, 2 or 3
unfoldable pub loop_of : List ℕ → Option ℕ
loop_of digits = all_of (loop_word digits)
