-- A body of a list begins five bytes after the gate before it, and ends within the bytes
-- (`BodyList::offset`, src/body_list.rt).
use Rattle.std.proofs.Common.{rules, ◌≡◌, ◌<◌, ◌^◌, ◌∷◌, [], List, ℕ, length, take, get_or, ◌∙◌, ap, arith}
use Rattle.gate_file.specs.Chain.{ends_at}
use Rattle.gate_file.specs.Bodies.{bodies_from}
use Rattle.gate_file.proofs.Bodies.{length_bodies, starts_at, body_ends}
use Rattle.gate_file.proofs.body_list.BodyList.offset.Goals as goal

pub start_of-requires : goal.start_of-requires
start_of-requires c =
    let l = c.self.inside in
    let within : c.args.index < length l.ends.items = omega (arith, c.requires, ap length c.self.view_is, length_bodies 0 l.ends.items l.bytes.items) in
    omega (arith, within, ap length c.deref.ensures.value)

pub overflow_add-result : goal.overflow_add-result
overflow_add-result c =
    let l = c.self.inside in
    let i = c.args.index in
    let within : i < length l.ends.items = omega (arith, c.requires, ap length c.self.view_is, length_bodies 0 l.ends.items l.bytes.items) in
    let start : c.start_of.result ≡ get_or (0 ∷ l.ends.items) i 0 = c.start_of.ensures ∙ ap (λ (e : List ℕ). get_or (0 ∷ e) i 0) c.deref.ensures.value in
    let size : length l.bytes.items < 2 ^ 63 = search rules in
    omega (arith, start, body_ends 0 l.ends.items l.bytes.items i c.self.invariant.are_ends within, size)

pub returns-clause-place : goal.returns-clause-place
returns-clause-place c =
    let l = c.self.inside in
    let i = c.args.index in
    let within : i < length l.ends.items = omega (arith, c.requires, ap length c.self.view_is, length_bodies 0 l.ends.items l.bytes.items) in
    let start : c.start_of.result ≡ get_or (0 ∷ l.ends.items) i 0 = c.start_of.ensures ∙ ap (λ (e : List ℕ). get_or (0 ∷ e) i 0) c.deref.ensures.value in
    let ends : ends_at (take i (bodies_from 0 l.ends.items l.bytes.items)) ≡ ends_at (take i c.args.self.now) = ap (λ (b : List (List ℕ)). ends_at (take i b)) c.self.view_is in
    omega (arith, start, starts_at 0 l.ends.items l.bytes.items i c.self.invariant.are_ends (omega (arith, within)), ends)

pub returns-clause-fits : goal.returns-clause-fits
returns-clause-fits c =
    let l = c.self.inside in
    let i = c.args.index in
    let within : i < length l.ends.items = omega (arith, c.requires, ap length c.self.view_is, length_bodies 0 l.ends.items l.bytes.items) in
    let start : c.start_of.result ≡ get_or (0 ∷ l.ends.items) i 0 = c.start_of.ensures ∙ ap (λ (e : List ℕ). get_or (0 ∷ e) i 0) c.deref.ensures.value in
    let size : length l.bytes.items < 2 ^ 63 = search rules in
    let same : length (get_or (bodies_from 0 l.ends.items l.bytes.items) i []) ≡ length (get_or c.args.self.now i []) = ap (λ (b : List (List ℕ)). length (get_or b i [])) c.self.view_is in
    omega (arith, start, body_ends 0 l.ends.items l.bytes.items i c.self.invariant.are_ends within, size, same)
