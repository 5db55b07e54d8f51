-- `put_edit` puts the numbers of an edit after path and kind, and changes nothing else
-- (src/entry.rt).
use Rattle.std.proofs.Common.{◌++◌, take, drop, refl, sym, ◌∙◌, ap, arith, take-append-drop}
use Rattle.std.proofs.lemmas.List.{length-take-le}
use Rattle.run_records.specs.Spelling.{numbers_bytes}
use Rattle.run_records.proofs.PutBehind.{put_next}
use Rattle.run_records.proofs.entry.put_edit.Goals as goal

pub returns-clause-bytes : goal.returns-clause-bytes
returns-clause-bytes c =
    let old = c.args.into.now in
    put_next (take 2 old) (numbers_bytes c.numbers_of.result) old old _ c.put_numbers.new.into 2 19 (length-take-le 2 old (omega (arith, c.requires))) (omega (arith, c.requires)) (sym (take-append-drop 2 old)) refl c.put_numbers.ensures
    ∙ ap (λ n. take 2 old ++ (numbers_bytes n ++ drop 21 old)) c.numbers_of.ensures.numbers
