-- What is read keeps its shape (`IsReadShape`) with each line, and makes a tape of its shape at the
-- end. For the proofs of src/progress.rt.
use Rattle.std.proofs.Common.{◌≡◌, ℕ, ◌+◌, ◌<◌, ◌≤◌, List, [], ◌∷◌, ◌++◌, length, Option, Some, None, refl, ap, sym, subst, ◌∙◌, arith, append_assoc}
use Rattle.std.specs.Prelude.{All}
use Rattle.std.specs.Option.{option_to_list}
use Rattle.std.proofs.lemmas.List.{append-nil, length-append, map-append}
use Rattle.std.proofs.lemmas.List.Elements.{All-nil, All-cons, All-head, All-tail, All-append}
use Rattle.std.proofs.lemmas.Grind.{flat_map-append}
use Rattle.nc_number.specs.declared.limits.TheConstants.{LONGEST_LINE, MOST_BLOCKS}
use Rattle.nc_text.specs.declared.tape.Block.{Block}
use Rattle.nc_text.specs.declared.tape.Program.{Program}
use Rattle.line_text.specs.declared.said.SaidBlock.{SaidBlock}
use Rattle.nc_text.specs.Tape.{program_at, block_at, with_block}
use Rattle.line_text.specs.LineShape.{IsSaidShape}
use Rattle.nc_number.specs.Rising.{RiseFrom}
use Rattle.nc_text.specs.Shape.{lines_of_program, lines_in, blocks_in, IsProgramShape, IsBlockShape, IsTapeShape}
use Rattle.nc_text.specs.ReadShape.{RiseTo, IsReadShape}

-- Rising numbers.

-- lines that rise up to a line rise up to each later line
pub rise_on : (ns : List ℕ) (low high more : ℕ) → RiseTo low ns high → high ≤ more → RiseTo low ns more
rise_on [] low high more h later = let low-is : low ≤ high = h in omega arith
rise_on (n ∷ ns) low high more h later = (h.0, rise_on ns n high more h.1 later)

-- lines that rise still rise with one more, which is above the others
pub rise_last : (ns : List ℕ) (low high n : ℕ) → RiseTo low ns high → high < n → RiseTo low (ns ++ n ∷ []) n
rise_last [] low high n h above = let low-is : low ≤ high = h in (omega arith, omega arith)
rise_last (m ∷ ns) low high n h above = (h.0, rise_last ns m high n h.1 above)

-- lines that rise up to a line rise, whatever that line is
pub rise_from : (ns : List ℕ) (low high : ℕ) → RiseTo low ns high → RiseFrom low ns
rise_from [] low high h = tt
rise_from (n ∷ ns) low high h = (h.0, rise_from ns n high h.1)

-- One program more, or one block more.

-- the lines of programs with one program more
lines_last : (programs : List Program) (program : Program) → lines_in (programs ++ program ∷ []) ≡ lines_in programs ++ lines_of_program program
lines_last programs program = flat_map-append lines_of_program programs (program ∷ []) ∙ ap (λ (ns : List ℕ). lines_in programs ++ ns) (append-nil (lines_of_program program))

-- the blocks of programs with one program more
pub blocks_last : (programs : List Program) (program : Program) → blocks_in (programs ++ program ∷ []) ≡ blocks_in programs ++ program.blocks
blocks_last programs program = flat_map-append (λ (p : Program). p.blocks) programs (program ∷ []) ∙ ap (λ (bs : List Block). blocks_in programs ++ bs) (append-nil program.blocks)

-- a program with one block more
abbrev with_more : Program → Block → Program
with_more program block = record program { blocks = program.blocks ++ block ∷ [] }

-- the lines of programs of which the last one has one block more
lines_more : (programs : List Program) (program : Program) (block : Block) → lines_in (programs ++ with_more program block ∷ []) ≡ lines_in (programs ++ program ∷ []) ++ block.line ∷ []
lines_more programs program block =
    lines_last programs (with_more program block)
    ∙ ap (λ (ns : List ℕ). lines_in programs ++ (program.line ∷ ns)) (map-append (λ (b : Block). b.line) program.blocks (block ∷ []))
    ∙ sym (append_assoc (lines_in programs) (lines_of_program program) (block.line ∷ [])) ∙ ap (λ (ns : List ℕ). ns ++ block.line ∷ []) (sym (lines_last programs program))

-- the blocks of programs of which the last one has one block more
blocks_more : (programs : List Program) (program : Program) (block : Block) → blocks_in (programs ++ with_more program block ∷ []) ≡ blocks_in (programs ++ program ∷ []) ++ block ∷ []
blocks_more programs program block =
    blocks_last programs (with_more program block) ∙ sym (append_assoc (blocks_in programs) program.blocks (block ∷ [])) ∙ ap (λ (bs : List Block). bs ++ block ∷ []) (sym (blocks_last programs program))

-- if the last program is replaced by one of its shape, all still have their shape
last_other : (programs : List Program) (program other : Program) → (IsProgramShape program → IsProgramShape other) → All IsProgramShape (programs ++ program ∷ []) → All IsProgramShape (programs ++ other ∷ [])
last_other [] program other same all = All-cons IsProgramShape other [] (same (All-head IsProgramShape program [] all)) (All-nil IsProgramShape)
last_other (first ∷ programs) program other same all =
    All-cons IsProgramShape first (programs ++ other ∷ []) (All-head IsProgramShape first (programs ++ program ∷ []) all) (last_other programs program other same (All-tail IsProgramShape first (programs ++ program ∷ []) all))

-- with further lines that say nothing, programs keep their shape
pub line_shaped : (lines more blocks : ℕ) (programs : List Program) → IsReadShape lines blocks programs → lines ≤ more → IsReadShape more blocks programs
line_shaped lines more blocks programs is later = record { numbers = is.numbers; rise = rise_on (lines_in programs) 0 lines more is.rise later; count = is.count; shaped = is.shaped }

-- with a program that begins on the next line, programs keep their shape
program_shaped : (lines blocks number : ℕ) (programs : List Program) → IsReadShape lines blocks programs → IsProgramShape (program_at (lines + 1) number) → IsReadShape (lines + 1) blocks (programs ++ program_at (lines + 1) number ∷ [])
program_shaped lines blocks number programs is range =
    let new = program_at (lines + 1) number in
    let above : lines < lines + 1 = omega arith in
    let same : blocks_in (programs ++ new ∷ []) ≡ blocks_in programs = blocks_last programs new ∙ append-nil (blocks_in programs) in
    let P : List ℕ → Type 0 = λ ns. RiseTo 0 ns (lines + 1) in
    let Q : List Block → Type 0 = λ bs. length bs ≤ blocks in
    let R : List Block → Type 0 = All IsBlockShape in record {
      numbers = All-append IsProgramShape programs (new ∷ []) is.numbers (All-cons IsProgramShape new [] range (All-nil IsProgramShape));
      rise = subst P (sym (lines_last programs new)) (rise_last (lines_in programs) 0 lines (lines + 1) is.rise above);
      count = subst Q (sym same) is.count;
      shaped = subst R (sym same) is.shaped;
    }

-- with a block on the next line, programs keep their shape
block_shaped : (lines blocks : ℕ) (done : List Program) (current : Option Program) (block : Block) → IsReadShape lines blocks (done ++ option_to_list current) → block.line ≡ lines + 1 → IsBlockShape block
    → IsReadShape (lines + 1) (blocks + 1) (done ++ option_to_list (with_block block current))
block_shaped lines blocks done None block is line shape =
    let later : lines ≤ lines + 1 = omega arith in
    let wider = line_shaped lines (lines + 1) blocks (done ++ []) is later in
    let few = is.count in
    record { numbers = wider.numbers; rise = wider.rise; count = omega arith; shaped = wider.shaped }
block_shaped lines blocks done (Some program) block is line shape =
    let old : List Program = done ++ program ∷ [] in
    let above : lines < block.line = omega arith in
    let few = is.count in
    let counted : length (blocks_in old ++ block ∷ []) ≡ length (blocks_in old) + 1 = length-append (blocks_in old) (block ∷ []) in
    let fits : length (blocks_in old ++ block ∷ []) ≤ blocks + 1 = omega arith in
    let P : List ℕ → Type 0 = λ ns. RiseTo 0 ns (lines + 1) in
    let T : ℕ → Type 0 = λ high. RiseTo 0 (lines_in old ++ block.line ∷ []) high in
    let Q : List Block → Type 0 = λ bs. length bs ≤ blocks + 1 in
    let R : List Block → Type 0 = All IsBlockShape in record {
      numbers = last_other done program (with_more program block) (λ is. is) is.numbers;
      rise = subst P (sym (lines_more done program block)) (subst T line (rise_last (lines_in old) 0 lines block.line is.rise above));
      count = subst Q (sym (blocks_more done program block)) fits;
      shaped = subst R (sym (blocks_more done program block)) (All-append IsBlockShape (blocks_in old) (block ∷ []) is.shaped (All-cons IsBlockShape block [] shape (All-nil IsBlockShape)));
    }

-- The shape of what is read, of the fields of `Progress`: the programs before, and the one that is
-- being read.

-- if neither field changed, the shape is kept
same_shape : (lines blocks : ℕ) (done new-done : List Program) (current new-current : Option Program) → IsReadShape lines blocks (done ++ option_to_list current) → new-done ≡ done → new-current ≡ current
    → IsReadShape lines blocks (new-done ++ option_to_list new-current)
same_shape lines blocks done new-done current new-current is d c =
    let P : List Program → Type 0 = IsReadShape lines blocks in
    let e : done ++ option_to_list current ≡ new-done ++ option_to_list new-current = ap (λ (ps : List Program). ps ++ option_to_list current) (sym d) ∙ ap (λ (o : Option Program). new-done ++ option_to_list o) (sym c) in
    subst P e is

-- if a program began on the next line, the shape is kept
pub program_begun : (lines blocks number : ℕ) (done new-done : List Program) (current new-current : Option Program) → IsReadShape lines blocks (done ++ option_to_list current) → (1 ≤ number) × (number ≤ 9999)
    → new-done ≡ done ++ option_to_list current → new-current ≡ Some (program_at (lines + 1) number) → IsReadShape (lines + 1) blocks (new-done ++ option_to_list new-current)
program_begun lines blocks number done new-done current new-current is range d c =
    same_shape (lines + 1) blocks (done ++ option_to_list current) new-done (Some (program_at (lines + 1) number)) new-current (program_shaped lines blocks number (done ++ option_to_list current) is range) d c

-- if a block on the next line was added, the shape is kept
pub block_added : (lines blocks : ℕ) (done new-done : List Program) (current new-current : Option Program) (block : SaidBlock) → IsReadShape lines blocks (done ++ option_to_list current) → IsSaidShape LONGEST_LINE block.sequence block.body
    → new-done ≡ done → new-current ≡ with_block (block_at (lines + 1) block) current → IsReadShape (lines + 1) (blocks + 1) (new-done ++ option_to_list new-current)
block_added lines blocks done new-done current new-current block is shape d c =
    same_shape (lines + 1) (blocks + 1) done new-done (with_block (block_at (lines + 1) block) current) new-current (block_shaped lines blocks done current (block_at (lines + 1) block) is refl shape) d c

-- The shape of a whole tape.

-- what was read, with its last program, has the shape of a tape
pub tape_shaped : (lines blocks : ℕ) (done programs : List Program) (program : Program) (current : Option Program) → IsReadShape lines blocks (done ++ option_to_list current) → current ≡ Some program → programs ≡ done ++ program ∷ [] → blocks ≤ MOST_BLOCKS
    → IsTapeShape programs
tape_shaped lines blocks done programs program current is c e few =
    let P : List Program → Type 0 = IsReadShape lines blocks in
    let all : IsReadShape lines blocks programs = subst P (ap (λ (o : Option Program). done ++ option_to_list o) c ∙ sym e) is in
    let counted : length (done ++ program ∷ []) ≡ length done + 1 = length-append done (program ∷ []) in
    let long : length programs ≡ length (done ++ program ∷ []) = ap length e in
    let count = all.count in
    record { some = omega arith; numbers = all.numbers; lines = rise_from (lines_in programs) 0 lines all.rise; few = omega arith; blocks = all.shaped }
