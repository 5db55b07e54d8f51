-- What the blocks of G71 or G72 before their contour say. src/head.rt reads it. 68 is the letter D, 71
-- G, 80 P, 81 Q, 82 R, 84 T, 85 U, 87 W.
use Rattle.std.specs.Prelude.{ℕ, ◌≤◌, Bool, true, false, ◌&&◌, ◌||◌, not, List, [], ◌∷◌, codes, Option, Some, None, option_map, IfSome, Result, Ok, Err, ℤ, pos, unsigned_abs, if◌then◌else◌}
use Rattle.std.specs.Int.{is_negative}
use Rattle.nc_number.specs.declared.limits.TheConstants.{LONGEST_SAID}
use Rattle.nc_number.specs.Options.{is_some_of}
use Rattle.nc_number.specs.Results.{◌>>=◌}
use Rattle.line_text.specs.declared.body.Word.{Word}
use Rattle.nc_text.specs.declared.tape.Block.{Block}
use Rattle.arc_contour.specs.declared.way.Way.{Way}
use Rattle.arc_contour.specs.declared.way.Way.TheVariants.{Along, Across}
use Rattle.plain_form.specs.declared.cause.PlainCause.{PlainCause}
use Rattle.plain_form.specs.declared.cause.PlainCause.TheVariants as cause
use Rattle.plain_form.specs.declared.cause.PlainFault.{PlainFault}
use Rattle.plain_form.specs.declared.scene.Scene.{Scene}
use Rattle.plain_form.specs.Said.{has_code}
use Rattle.cycle_words.specs.Causes.{first_cause, calculated_in, no_count_in, missing_of, unexpected_in}
use Rattle.cycle_words.specs.Numbers.{count_or, count_said, is_said, length_or, length_said}
use Rattle.cycle_words.specs.Scenes.{words_of}
use Rattle.contour_words.specs.Causes.{fault, refuse}
use Rattle.contour_words.specs.Tempos.{tempo_cause, tempo_of}
use Rattle.rough_words.specs.declared.head.Cut.{Cut}
use Rattle.rough_words.specs.declared.head.Head.{Head}

-- which way the passes of a cycle run, if the words are those of G71 or G72
abbrev pub way_of : List Word → Option Way
way_of words =
    if has_code (pos 71000000) words
    then Some Along
    else if has_code (pos 72000000) words
    then Some Across
    else None

-- the code of a cycle, in millionths
abbrev pub code_of : Way → ℤ
code_of Along = pos 71000000
code_of Across = pos 72000000

-- the letter of the depth in a cycle's first block
abbrev pub depth_letter : Way → ℕ
depth_letter Along = 85
depth_letter Across = 87

-- that a length is negative
abbrev pub size_cause : ℕ → List Word → Option PlainCause
size_cause letter words = if is_negative (length_or letter (pos 0) words) then Some (cause.Range letter) else None

-- why a cycle's first block is refused
abbrev pub cut_cause : Way → List Word → Option PlainCause
cut_cause way words =
    first_cause (unexpected_in (71 ∷ depth_letter way ∷ 82 ∷ []) (code_of way ∷ []) words)
    (first_cause (calculated_in (depth_letter way ∷ 82 ∷ []) words)
    (first_cause (size_cause (depth_letter way) words) (size_cause 82 words)))

-- a number is that of the tool in place
abbrev pub is_number_of : Option ℕ → Option ℕ → Bool
is_number_of (Some number) tool = is_some_of number tool
is_number_of None tool = false

-- T names the tool that is in place
abbrev pub is_tool : List Word → Option ℕ → Bool
is_tool words tool = is_number_of (count_said 84 words) tool

-- that T names another tool than the one in place
abbrev pub tool_cause : List Word → Option ℕ → Option PlainCause
tool_cause words tool = if is_said 84 words && not (is_tool words tool) then Some (cause.Unexpected 84) else None

-- why P and Q, which name a contour, are refused
abbrev pub numbers_cause : List Word → Option PlainCause
numbers_cause words =
    first_cause (no_count_in (codes "PQ") words)
    (first_cause (missing_of (is_said 80 words) 80) (missing_of (is_said 81 words) 81))

-- why the block of this code that calls the contour is refused, of which these letters are taken
abbrev pub call_cause : ℤ → List Word → List ℕ → Option ℕ → Option PlainCause
call_cause code words letters tool =
    first_cause (unexpected_in letters (code ∷ []) words)
    (first_cause (calculated_in letters words)
    (first_cause (first_cause (numbers_cause words) (size_cause 68 words))
    (first_cause (tempo_cause words) (tool_cause words tool))))

-- how a cycle cuts whose first block has these words
abbrev pub cut_of : Way → List Word → Cut
cut_of way words = record {
  depth = option_map unsigned_abs (length_said (depth_letter way) words);
  retreat = option_map unsigned_abs (length_said 82 words);
}

-- how a cycle of one block cuts
abbrev pub single_cut : List Word → Cut
single_cut words = record { depth = option_map unsigned_abs (length_said 68 words); retreat = None }

-- what the block that calls the contour says, of a cycle that cuts so
abbrev pub head_with : Way → Bool → Cut → ℕ → List Word → Head
head_with way is_single cut line words = record {
  way = way;
  is_single = is_single;
  cut = cut;
  call = record { line = line; first = count_or 80 0 words; last = count_or 81 0 words };
  x = length_or 85 (pos 0) words;
  z = length_or 87 (pos 0) words;
  tempo = tempo_of words;
}

-- the words name a contour
abbrev pub calls : List Word → Bool
calls words = is_said 80 words || is_said 81 words

-- a cycle of one block
unfoldable pub single_head : Way → ℕ → List Word → Option ℕ → Result Head PlainFault
single_head way line words tool = do
  none ← refuse line (call_cause (code_of way) words (codes "GPQUWDFST") tool)
  Ok (head_with way true (single_cut words) line words)

-- what the second block of a cycle of two says, if it calls with these words
abbrev pub calling_head : Way → ℤ → ℕ → Cut → List Word → Option ℕ → Result Head PlainFault
calling_head way code line cut words tool = do
  none ← refuse line (call_cause code words (codes "GPQUWFST") tool)
  Ok (head_with way false cut line words)

-- what the second block of a cycle of two of this code says, whose first one has that line and cuts so
unfoldable pub second_head : Way → ℤ → ℕ → Cut → Block → Option ℕ → Result Head PlainFault
second_head way code line cut block tool =
    if not (has_code code (words_of block.body) && calls (words_of block.body))
    then Err (fault line (cause.Missing 80))
    else calling_head way code block.line cut (words_of block.body) tool

-- the same, if there is one
abbrev pub next_head : Way → ℤ → ℕ → Cut → List Block → Option ℕ → Result Head PlainFault
next_head way code line cut [] tool = Err (fault line (cause.Missing 80))
next_head way code line cut (block ∷ blocks) tool = second_head way code line cut block tool

-- a cycle of two blocks
unfoldable pub double_head : Way → ℕ → List Word → List Block → Option ℕ → Result Head PlainFault
double_head way line words behind tool = do
  none ← refuse line (cut_cause way words)
  next_head way (code_of way) line (cut_of way words) behind tool

-- what the second block of G73 says, whose first one has that line
abbrev pub pattern_head : ℕ → List Block → Option ℕ → Result Head PlainFault
pattern_head line behind tool = next_head Along (pos 73000000) line (record { depth = None; retreat = None }) behind tool

-- what the blocks of a cycle before its contour say
abbrev pub head_of : Way → Block → List Block → Scene → Result Head PlainFault
head_of way block behind scene =
    if calls (words_of block.body)
    then single_head way block.line (words_of block.body) scene.tool
    else double_head way block.line (words_of block.body) behind scene.tool

-- the sizes of a cut are such that a literal can write them
pub record IsNearCut (cut : Cut) : Type 0 where
  pub depth : IfSome cut.depth (λ l. l ≤ LONGEST_SAID)
  pub retreat : IfSome cut.retreat (λ l. l ≤ LONGEST_SAID)

-- so are those of a head
pub record IsNearHead (head : Head) : Type 0 where
  pub cut : IsNearCut head.cut
  pub x : unsigned_abs head.x ≤ LONGEST_SAID
  pub z : unsigned_abs head.z ≤ LONGEST_SAID
