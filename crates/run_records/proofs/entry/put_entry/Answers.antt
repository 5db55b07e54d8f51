-- `put_entry` puts the bytes of the record at the front, of a step as of an edit, and changes no
-- byte after them (src/entry.rt).
use Rattle.std.proofs.Common.{◌+◌, ◌*◌, ◌∷◌, None, length, take, sym, ◌∙◌, ap, arith}
use Rattle.std.specs.Option.{option_copied}
use Rattle.nc_number.specs.Path.{number_of}
use Rattle.run_records.specs.Edits.{numbers_of}
use Rattle.run_records.specs.Spelling.{kind_number, stamp_bytes, numbers_bytes, bytes_behind, entry_bytes}
use Rattle.run_records.proofs.PutBehind.{put_front}
use Rattle.run_records.proofs.Stamps.{length-stamp_bytes}
use Rattle.run_records.proofs.entry.put_entry.Goals as goal

pub returns-in-Some-clause-written : goal.returns-in-Some-clause-written
returns-in-Some-clause-written c =
    let e = c.entry.inside in
    let into = c.put_edit.new.into in
    let is_edit = sym (ap option_copied c.in-Some.is) ∙ c.edit.ensures in
    let front = put_front (number_of e.path) (kind_number e.kind) (numbers_bytes (numbers_of c.in-Some.edit.now)) c.args.into.now c.put_head.new.into into 21 (omega arith) c.put_head.ensures c.put_edit.ensures.bytes in
    ap (λ n. take n into) c.put_edit.ensures.size ∙ front ∙ ap (λ x. number_of e.path ∷ kind_number e.kind ∷ bytes_behind x e.stamps) is_edit ∙ ap entry_bytes c.entry.view_is

pub returns-in-None-clause-written : goal.returns-in-None-clause-written
returns-in-None-clause-written c =
    let e = c.entry.inside in
    let into = c.put_stamps.new.into in
    let stamps = c.as_slice.result.now in
    let is_step = sym (ap option_copied c.in-None.is) ∙ c.edit.ensures in
    let front = put_front (number_of e.path) (kind_number e.kind) (length stamps ∷ stamp_bytes stamps) c.args.into.now c.put_head.new.into into (3 + 4 * length stamps) (omega (arith, length-stamp_bytes stamps)) c.put_head.ensures c.put_stamps.ensures.bytes in
    ap (λ n. take n into) c.put_stamps.ensures.size ∙ front ∙ (λ i. number_of e.path ∷ kind_number e.kind ∷ bytes_behind None (c.as_slice.ensures.stamps i))
    ∙ ap (λ x. number_of e.path ∷ kind_number e.kind ∷ bytes_behind x e.stamps) is_step ∙ ap entry_bytes c.entry.view_is
