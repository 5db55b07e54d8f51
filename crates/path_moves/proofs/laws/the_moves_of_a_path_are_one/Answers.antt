-- Of a pair the moves of turns, of their records and of the whole history between two numbers are one
-- (src/laws.rt).
use Rattle.std.proofs.Common.{◌≡◌, List, ◌++◌, length, take, drop, arith, ap, sym, ◌∙◌}
use Rattle.std.proofs.lemmas.List.{take_all}
use Rattle.nc_number.specs.declared.path.Path.TheVariants.{One, Two}
use Rattle.path_state.specs.Opening.{opening_path}
use Rattle.run_records.specs.Entries.{Entry}
use Rattle.two_path.specs.Histories.{run, history, fold, turns_of}
use Rattle.two_path.specs.Made.{moves_of}
use Rattle.run_table.specs.Kept.{tapes_in, opening_of}
use Rattle.path_moves.proofs.Lengths.{first_taken, more_left, history_parts}
use Rattle.path_moves.proofs.laws.the_moves_of_a_path_are_one.Goals as goal

pub returns : goal.returns
returns c pair before turns path =
    let tapes = tapes_in pair in
    let start = opening_of pair in
    let found = history tapes start before in
    let made = history tapes (run tapes start before) (turns_of turns) in
    let whole = history tapes start (before ++ turns_of turns) in
    let parts : whole ≡ found ++ made = history_parts tapes start before (turns_of turns) in
    let front : take (length found) whole ≡ found = ap (take (length found)) parts ∙ first_taken found made in
    let all : take (length whole) whole ≡ whole = take_all (length whole) whole (omega arith) in
    let back : drop (length found) (take (length whole) whole) ≡ made =
    ap (drop (length found)) (all ∙ parts) ∙ more_left found made in
    let same = c.the_moves_of_turns_are_those_of_their_records.ensures tapes (opening_path pair.left pair.settings One) (opening_path pair.right pair.settings Two)
    before turns path in
    record {
      turns_and_records = same;
      turns_and_numbers = same
          ∙ sym (c.the_moves_of_records_are_one.ensures pair path (length found) (length whole) whole
          ∙ (ap (λ (es : List Entry). moves_of tapes (fold tapes start es) path (drop (length found) (take (length whole) whole))) front
          ∙ ap (λ (es : List Entry). moves_of tapes (fold tapes start found) path es) back));
    }
