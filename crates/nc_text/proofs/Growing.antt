-- What is read of a tape after a mark (a moment of the reading to which the reader can go back)
-- leaves what was read up to it, and going back leads there again.
-- For the proofs of src/going_back.rt, src/feed.rt and src/progress.rt.
use Rattle.std.proofs.Common.{◌≡◌, ℕ, Bool, List, [], ◌∷◌, ◌++◌, length, Option, Some, None, refl, sym, ap, subst, ◌∙◌, append_assoc}
use Rattle.std.specs.Option.{option_to_list}
use Rattle.std.proofs.lemmas.List.{append-nil}
use Rattle.nc_text.specs.declared.tape.Block.{Block}
use Rattle.nc_text.specs.declared.tape.Program.{Program}
use Rattle.line_text.specs.declared.said.Said.{Said}
use Rattle.line_text.specs.declared.said.Said.TheVariants as said
use Rattle.line_text.specs.declared.said.SaidBlock.{SaidBlock}
use Rattle.nc_text.specs.Tape.{Before, next, with_block, with_program, with_said}
use Rattle.std.proofs.Math.Seq.{take-append_seam}
use Rattle.nc_text.specs.declared.mark.Mark.{Mark}
use Rattle.nc_text.specs.Mark.{IsMarkOf, block_count, first_blocks, first_of, cut_program, with_blocks, GoesOn, Follows, Grows}

-- a program goes on from itself
goes_itself : (current : Option Program) → GoesOn current ([] ++ option_to_list current)
goes_itself None = tt
goes_itself (Some program) = ([], [], ap (λ (blocks : List Block). record program { blocks = blocks } ∷ []) (sym (append-nil program.blocks)))

-- what was read follows itself
pub follows_itself : (start : Before) → Follows start start
follows_itself start = ([], sym (append-nil start.done), goes_itself start.current)

-- a program that goes on in a list of programs goes on in that list with further ones
goes_further : (start : Option Program) (programs more : List Program) → GoesOn start programs → GoesOn start (programs ++ more)
goes_further None programs more g = tt
goes_further (Some program) programs more g = (g.0, g.1 ++ more, ap (λ (all : List Program). all ++ more) g.2)

-- a program that begins leaves what was read
program_grows : (old : Before) (number : ℕ) → Grows old (with_program old number)
program_grows old number = λ start follows. (
  follows.0 ++ option_to_list old.current,
  ap (λ (done : List Program). done ++ option_to_list old.current) follows.1 ∙ append_assoc start.done follows.0 (option_to_list old.current),
  goes_further start.current (follows.0 ++ option_to_list old.current) _ follows.2,
)

-- a program still goes on if a block is added to the one that is being read
goes_block : (start : Option Program) (programs : List Program) (current : Option Program) (block : Block) → GoesOn start (programs ++ option_to_list current) → GoesOn start (programs ++ option_to_list (with_block block current))
goes_block None programs current block g = tt
goes_block (Some program) programs None block g = g
goes_block (Some program) [] (Some current) block g =
    let more = g.0 in
    let others = g.1 in
    let none : ◌≡◌ {A = List Program} [] others = let e = g.2 in cc in
    let is : current ≡ with_blocks program more = let e = g.2 in cc in (
      more ++ block ∷ [],
      others,
      ap (λ (p : Program). with_blocks p (block ∷ []) ∷ []) is ∙ ap (λ (blocks : List Block). record program { blocks = blocks } ∷ []) (append_assoc program.blocks more (block ∷ []))
          ∙ ap (λ (ps : List Program). with_blocks program (more ++ block ∷ []) ∷ ps) none,
    )
goes_block (Some program) (first ∷ programs) (Some current) block g =
    let is : first ≡ with_blocks program g.0 = let e = g.2 in cc in
    (g.0, programs ++ with_blocks current (block ∷ []) ∷ [], ap (λ (p : Program). p ∷ (programs ++ with_blocks current (block ∷ []) ∷ [])) is)

-- a block that is added leaves what was read
block_grows : (old : Before) (block : SaidBlock) → Grows old (with_said old (said.Block block))
block_grows old block = λ start follows. (follows.0, follows.1, goes_block start.current follows.0 old.current _ follows.2)

-- whatever a line says leaves what was read
said_grows : (old : Before) (says : Said) → Grows old (with_said old says)
said_grows old said.Nothing = λ start follows. follows
said_grows old (said.Program None) = λ start follows. follows
said_grows old (said.Program (Some number)) = program_grows old number
said_grows old (said.Block block) = block_grows old block

-- a line of the programs leaves what was read before
pub grows_said : (old new : Before) (says : Said) (len : ℕ) (ended : Bool) → new ≡ next (with_said old says) len ended → Grows old new
grows_said old new says len ended e = λ start follows. subst (λ (b : Before). Follows start b) (sym e) (said_grows old says start follows)

-- the first of the later programs, cut to its first blocks, is the program that was being read
cut_to : (start : Option Program) (programs : List Program) → GoesOn start programs → cut_program (block_count start) (first_of programs) ≡ start
cut_to None programs g = refl
cut_to (Some program) programs g =
    ap (λ (all : List Program). first_blocks (length program.blocks) (first_of all)) g.2 ∙ ap (λ (blocks : List Block). Some (record program { blocks = blocks })) (take-append_seam program.blocks g.0)

-- going back to a mark gives what was read there: what was read since is cut off
pub cut_to_mark : (start old : Before) (mark : Mark) (done : List Program) (current cut : Option Program) → IsMarkOf mark start → Follows start old
    → ((stood since : List Program) → length stood ≡ mark.done → old.done ≡ stood ++ since → (done ≡ stood) × (current ≡ first_of (since ++ option_to_list old.current))) → cut ≡ cut_program mark.current current
    → ◌≡◌ {A = Before} (record { lines = mark.lines; bytes = mark.bytes; percent = mark.percent; blocks = mark.blocks; done = done; current = cut }) start
cut_to_mark start old mark done current cut is follows reopened cut-is =
    let back = reopened start.done follows.0 (sym is.done_are) follows.1 in
    let current-is : cut ≡ start.current =
    cut-is ∙ ap (λ (count : Option ℕ). cut_program count current) is.current_is ∙ ap (cut_program (block_count start.current)) back.1 ∙ cut_to start.current (follows.0 ++ option_to_list old.current) follows.2
    in
    λ i. record { lines = is.lines_are i; bytes = is.bytes_are i; percent = is.percent_is i; blocks = is.blocks_are i; done = back.0 i; current = current-is i }
