-- A list of records that gets one more has it after the others, with its stamps or its edit
-- (src/lists.rt).
use Rattle.std.proofs.Common.{rules, ◌≡◌, ◌<◌, ◌≤◌, ◌+◌, ◌++◌, ◌∷◌, [], List, ℕ, length, refl, ◌∙◌, ap, subst, sym, arith}
use Rattle.std.specs.Prelude.{All, vec_len, vec_capacity}
use Rattle.std.proofs.lemmas.List.{length-map}
use Rattle.run_records.specs.declared.edit.Edit.{Edit}
use Rattle.run_records.specs.declared.head.Head.{Head}
use Rattle.run_records.specs.Entries.{Entry, edit_of}
use Rattle.run_records.specs.Heads.{entry_of, entries_of, StandsIn, HasRoom, edits_in, step_in, place_of}
use Rattle.run_records.proofs.HeadsStand.{entries_push, stand_push, edits_few}
use Rattle.run_records.proofs.lists.EntryList.push.Goals as goal

pub returns-clause-items : goal.returns-clause-items
returns-clause-items c =
    let inside = c.self.inside in
    let own = c.as_slice-stamps.result.now in
    let entry : Entry = record { path = c.entry.inside.path; kind = c.entry.inside.kind; stamps = c.entry.inside.stamps } in
    let head : Head = record { path = entry.path; kind = c.of-kind.result; count = length own; first = c.place_of.result } in
    let same = c.as_slice-stamps.ensures.stamps in
    let added : c.extend_from_slice.new.self.items ≡ inside.stamps.items ++ own = search rules in
    let stamps_len : c.len.result ≡ length inside.stamps.items = search rules in
    let edits_len : c.len-2.result ≡ length inside.edits.items = search rules in
    let first : head.first ≡ place_of (step_in entry.kind) (length inside.stamps.items) (length inside.edits.items) =
    c.place_of.ensures ∙ (λ i. place_of (c.of-kind.ensures i) (stamps_len i) (edits_len i)) in
    (λ i. entries_of ((added ∙ ap (λ (l : List ℕ). inside.stamps.items ++ l) same) i) (c.push_edit.ensures.items i) (c.push_reserved.ensures.items i))
    ∙ entries_push inside.stamps.items inside.edits.items inside.heads.items head entry c.self.invariant.0 c.entry.invariant refl c.of-kind.ensures (ap length same) first
    ∙ (λ i. (c.self.view_is i).items ++ c.entry.view_is i ∷ [])

pub invariant_of-self : goal.invariant_of-self
invariant_of-self c =
    let inside = c.self.inside in
    let own = c.as_slice-stamps.result.now in
    let entry : Entry = record { path = c.entry.inside.path; kind = c.entry.inside.kind; stamps = c.entry.inside.stamps } in
    let head : Head = record { path = entry.path; kind = c.of-kind.result; count = length own; first = c.place_of.result } in
    let same = c.as_slice-stamps.ensures.stamps in
    let added : c.extend_from_slice.new.self.items ≡ inside.stamps.items ++ own = search rules in
    let all_stamps = added ∙ ap (λ (l : List ℕ). inside.stamps.items ++ l) same in
    let stamps_len : c.len.result ≡ length inside.stamps.items = search rules in
    let edits_len : c.len-2.result ≡ length inside.edits.items = search rules in
    let first : head.first ≡ place_of (step_in entry.kind) (length inside.stamps.items) (length inside.edits.items) =
    c.place_of.ensures ∙ (λ i. place_of (c.of-kind.ensures i) (stamps_len i) (edits_len i)) in
    let stand = stand_push inside.stamps.items inside.edits.items inside.heads.items head entry c.self.invariant.0 c.entry.invariant c.as_slice-stamps.ensures.fits c.of-kind.ensures (ap length same) first in
    let heads_len : vec_len inside.heads ≡ length inside.heads.items = search rules in
    let few : vec_len inside.heads < inside.room =
    omega (arith, c.requires, ap (λ v. length v.items) c.self.view_is, ap (λ v. v.room) c.self.view_is, length-map inside.heads.items (entry_of inside.stamps.items inside.edits.items), heads_len) in
    let one = edits_few (edit_of entry.kind) in
    let own_few : length own ≤ 32 = omega (arith, c.as_slice-stamps.ensures.fits, ap length same) in
    let old_room = c.self.invariant.1 in
    let longer : vec_len c.extend_from_slice.new.self ≤ vec_len inside.stamps + length own = search rules in
    let room : HasRoom inside.room (vec_len c.push_reserved.new.self) (vec_capacity c.push_reserved.new.self) (vec_len c.extend_from_slice.new.self) (vec_capacity c.extend_from_slice.new.self) (vec_len c.push_edit.new.edits) (vec_capacity c.push_edit.new.edits) =
    record {
      few = omega (arith, few, c.push_reserved.ensures.len);
      for_heads = omega (arith, old_room.for_heads, c.push_reserved.ensures.capacity);
      for_stamps = omega (arith, old_room.for_stamps, few, own_few, longer, c.push_reserved.ensures.len, c.extend_from_slice.ensures.capacity);
      for_edits = omega (arith, old_room.for_edits, few, one, c.push_reserved.ensures.len, c.push_edit.ensures.len, c.push_edit.ensures.capacity);
    } in (
      subst (λ (l : List ℕ). All (StandsIn l c.push_edit.new.edits.items) c.push_reserved.new.self.items) (sym all_stamps)
          (subst (λ (l : List Edit). All (StandsIn (inside.stamps.items ++ entry.stamps) l) c.push_reserved.new.self.items) (sym c.push_edit.ensures.items)
          (subst (λ (l : List Head). All (StandsIn (inside.stamps.items ++ entry.stamps) (inside.edits.items ++ edits_in (edit_of entry.kind))) l) (sym c.push_reserved.ensures.items) stand)),
      room,
    )
