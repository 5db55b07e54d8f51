-- The body of an index lies in the list's bytes between the gate before it and its end
-- (`BodyList::body`, src/body_list.rt).
use Rattle.std.proofs.Common.{rules, ◌≡◌, ◌+◌, ◌<◌, ◌^◌, ◌∷◌, [], List, ℕ, length, get_or, sym, ◌∙◌, ap, arith, vec_len}
use Rattle.std.proofs.lemmas.List.{get_or_read}
use Rattle.gate_file.specs.Bodies.{bytes_between}
use Rattle.gate_file.proofs.Bodies.{length_bodies, body_within, body_of}
use Rattle.gate_file.proofs.body_list.BodyList.body.Goals as goal

pub start_of-gate-requires : goal.start_of-gate-requires
start_of-gate-requires c =
    let l = c.self.inside in
    let within : c.args.index < length l.ends.items = omega (arith, c.requires, ap length c.self.view_is, length_bodies 0 l.ends.items l.bytes.items) in
    omega (arith, within, ap length c.deref.ensures.value)

pub index-end-requires : goal.index-end-requires
index-end-requires c =
    let l = c.self.inside in
    let within : c.args.index < length l.ends.items = omega (arith, c.requires, ap length c.self.view_is, length_bodies 0 l.ends.items l.bytes.items) in
    let size : vec_len l.ends ≡ length l.ends.items = search rules in
    omega (arith, within, size)

pub overflow_add-gate : goal.overflow_add-gate
overflow_add-gate c =
    let l = c.self.inside in
    let i = c.args.index in
    let within : i < length l.ends.items = omega (arith, c.requires, ap length c.self.view_is, length_bodies 0 l.ends.items l.bytes.items) in
    let start : c.start_of-gate.result ≡ get_or (0 ∷ l.ends.items) i 0 = c.start_of-gate.ensures ∙ ap (λ (e : List ℕ). get_or (0 ∷ e) i 0) c.deref.ensures.value in
    let inside = body_within 0 l.ends.items (length l.bytes.items) i c.self.invariant.are_ends within in
    let size : length l.bytes.items < 2 ^ 63 = search rules in
    omega (arith, start, inside.0, inside.1, size)

pub stretch-requires : goal.stretch-requires
stretch-requires c =
    let l = c.self.inside in
    let i = c.args.index in
    let within : i < length l.ends.items = omega (arith, c.requires, ap length c.self.view_is, length_bodies 0 l.ends.items l.bytes.items) in
    let start : c.start_of-gate.result ≡ get_or (0 ∷ l.ends.items) i 0 = c.start_of-gate.ensures ∙ ap (λ (e : List ℕ). get_or (0 ∷ e) i 0) c.deref.ensures.value in
    let end : c.index-end.result.now ≡ get_or l.ends.items i 0 = get_or_read l.ends.items i c.index-end.result.now within c.index-end.ensures 0 in
    let inside = body_within 0 l.ends.items (length l.bytes.items) i c.self.invariant.are_ends within in
    (omega (arith, start, end, inside.0), omega (arith, end, inside.1, ap length c.deref-2.ensures.value))

pub returns : goal.returns
returns c =
    let l = c.self.inside in
    let i = c.args.index in
    let within : i < length l.ends.items = omega (arith, c.requires, ap length c.self.view_is, length_bodies 0 l.ends.items l.bytes.items) in
    let start : c.start_of-gate.result ≡ get_or (0 ∷ l.ends.items) i 0 = c.start_of-gate.ensures ∙ ap (λ (e : List ℕ). get_or (0 ∷ e) i 0) c.deref.ensures.value in
    let end : c.index-end.result.now ≡ get_or l.ends.items i 0 = get_or_read l.ends.items i c.index-end.result.now within c.index-end.ensures 0 in
    c.stretch.ensures ∙ ap (bytes_between (c.start_of-gate.result + 5) c.index-end.result.now) c.deref-2.ensures.value ∙ ap (λ (n : ℕ). bytes_between (n + 5) c.index-end.result.now l.bytes.items) start ∙ ap (λ (n : ℕ). bytes_between (get_or (0 ∷ l.ends.items) i 0 + 5) n l.bytes.items) end
    ∙ sym (body_of 0 l.ends.items l.bytes.items i within) ∙ ap (λ (b : List (List ℕ)). get_or b i []) c.self.view_is
