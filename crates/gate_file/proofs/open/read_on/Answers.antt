-- The whole entries of a window of the file, or one longer entry, are read, and the next gate's
-- place is given (`read_on`, src/open.rt).
use Rattle.std.proofs.Common.{rules, ◌≡◌, ◌+◌, ◌++◌, [], ◌∷◌, ap, List, ℕ, length, drop, sym, subst, ◌∙◌, arith}
use Rattle.std.proofs.lemmas.Result.{err_from_is_err_and}
use Rattle.gate_file.specs.Chain.{Opens}
use Rattle.gate_file.specs.Opening.{IsSeen}
use Rattle.gate_file.proofs.Chains.{opens_push}
use Rattle.gate_file.proofs.Refusals.{reading_refused}
use Rattle.gate_file.proofs.Windows.{seen_of, opens_window, taken_on, none_taken}
use Rattle.gate_file.proofs.open.read_on.Goals as goal

pub returns-in_err-taken-clause-opens : goal.returns-in_err-taken-clause-opens
returns-in_err-taken-clause-opens g c = λ bytes b.
    let s = seen_of bytes c.args.window.now c.read_at.new.into c.front-seen.result.now c.args.at c.args.len c.in_ok-count.count b.size c.requires.within.0 (c.in_ok-count.ensures.count bytes b.reads) (c.in_ok-count.ensures.got bytes b.reads) c.front-seen.ensures c.requires.window in
    let window = opens_window c.args.bodies.now bytes c.front-seen.result.now c.args.at s b.opens in
    c.take_entries.ensures.opens bytes s.behind window

pub returns-then-taken-gt0-clause-reads : goal.returns-then-taken-gt0-clause-reads
returns-then-taken-gt0-clause-reads g c = λ bytes b.
    let s = seen_of bytes c.args.window.now c.read_at.new.into c.front-seen.result.now c.args.at c.args.len c.in_ok-count.count b.size c.requires.within.0 (c.in_ok-count.ensures.count bytes b.reads) (c.in_ok-count.ensures.got bytes b.reads) c.front-seen.ensures c.requires.window in
    let window = opens_window c.args.bodies.now bytes c.front-seen.result.now c.args.at s b.opens in
    let within = c.in_ok-taken.ensures.moved c.if-taken-gt0.true in
    let on = taken_on c.take_entries.new.self bytes c.front-seen.result.now c.args.at c.in_ok-taken.taken s (omega (arith, within.0)) (c.in_ok-taken.ensures.reads bytes s.behind window) in
    on

pub returns-then-taken-gt0-clause-opens : goal.returns-then-taken-gt0-clause-opens
returns-then-taken-gt0-clause-opens g c = λ bytes b.
    let s = seen_of bytes c.args.window.now c.read_at.new.into c.front-seen.result.now c.args.at c.args.len c.in_ok-count.count b.size c.requires.within.0 (c.in_ok-count.ensures.count bytes b.reads) (c.in_ok-count.ensures.got bytes b.reads) c.front-seen.ensures c.requires.window in
    let window = opens_window c.args.bodies.now bytes c.front-seen.result.now c.args.at s b.opens in
    let within = c.in_ok-taken.ensures.moved c.if-taken-gt0.true in
    let on = taken_on c.take_entries.new.self bytes c.front-seen.result.now c.args.at c.in_ok-taken.taken s (omega (arith, within.0)) (c.in_ok-taken.ensures.reads bytes s.behind window) in
    (drop (c.args.at + c.in_ok-taken.taken) bytes, on)

pub returns-in_err-body-clause-opens : goal.returns-in_err-body-clause-opens
returns-in_err-body-clause-opens g c = λ bytes b.
    let s = seen_of bytes c.args.window.now c.read_at.new.into c.front-seen.result.now c.args.at c.args.len c.in_ok-count.count b.size c.requires.within.0 (c.in_ok-count.ensures.count bytes b.reads) (c.in_ok-count.ensures.got bytes b.reads) c.front-seen.ensures c.requires.window in
    let window = opens_window c.args.bodies.now bytes c.front-seen.result.now c.args.at s b.opens in
    let mid = none_taken c.take_entries.new.self bytes c.front-seen.result.now c.args.at c.in_ok-taken.taken s c.if-taken-gt0.false (c.in_ok-taken.ensures.reads bytes s.behind window) in
    (drop c.args.at bytes, mid)

pub returns-in_err-body-clause-refused : goal.returns-in_err-body-clause-refused
returns-in_err-body-clause-refused g c =
    let d = g.D.Disk.state in
    let p = err_from_is_err_and c.from_residual-in_err-body.result c.from_residual-in_err-body.ensures.1 in
    rw (p.1, p.2) (reading_refused c.front-seen.result.now c.args.at c.args.len c.args.bodies.now _ (d c.args.disk.now) (d c.read_at.new.self) (d c.read_entry.new.disk) c.read_at.ensures.cause.later c.requires.within.1 c.requires.within.0
    (λ bytes b.
    let s = seen_of bytes c.args.window.now c.read_at.new.into c.front-seen.result.now c.args.at c.args.len c.in_ok-count.count b.size c.requires.within.0 (c.in_ok-count.ensures.count bytes b.reads) (c.in_ok-count.ensures.got bytes b.reads) c.front-seen.ensures c.requires.window in
    record { reads = c.read_at.ensures.looks.same ∙ b.reads; size = b.size; front = s.front })
    c.in_err-body.ensures.refused)

pub returns-in_err-push-in-Some-clause-opens : goal.returns-in_err-push-in-Some-clause-opens
returns-in_err-push-in-Some-clause-opens g c = λ bytes b.
    let s = seen_of bytes c.args.window.now c.read_at.new.into c.front-seen.result.now c.args.at c.args.len c.in_ok-count.count b.size c.requires.within.0 (c.in_ok-count.ensures.count bytes b.reads) (c.in_ok-count.ensures.got bytes b.reads) c.front-seen.ensures c.requires.window in
    let window = opens_window c.args.bodies.now bytes c.front-seen.result.now c.args.at s b.opens in
    let mid = none_taken c.take_entries.new.self bytes c.front-seen.result.now c.args.at c.in_ok-taken.taken s c.if-taken-gt0.false (c.in_ok-taken.ensures.reads bytes s.behind window) in
    (drop c.args.at bytes, subst (λ (l : List (List ℕ)). Opens l bytes (drop c.args.at bytes)) (sym c.in_err-push-in-Some.ensures.err) mid)

pub returns-in_ok-push-in-Some-clause-reads : goal.returns-in_ok-push-in-Some-clause-reads
returns-in_ok-push-in-Some-clause-reads g c = λ bytes b.
    let s = seen_of bytes c.args.window.now c.read_at.new.into c.front-seen.result.now c.args.at c.args.len c.in_ok-count.count b.size c.requires.within.0 (c.in_ok-count.ensures.count bytes b.reads) (c.in_ok-count.ensures.got bytes b.reads) c.front-seen.ensures c.requires.window in
    let window = opens_window c.args.bodies.now bytes c.front-seen.result.now c.args.at s b.opens in
    let mid = none_taken c.take_entries.new.self bytes c.front-seen.result.now c.args.at c.in_ok-taken.taken s c.if-taken-gt0.false (c.in_ok-taken.ensures.reads bytes s.behind window) in
    let known : IsSeen c.front-seen.result.now c.args.at c.args.len (g.D.Disk.state c.read_at.new.self) bytes = record { reads = c.read_at.ensures.looks.same ∙ b.reads; size = b.size; front = s.front } in
    let items = c.in-Some.body.items in
    let entry = rw c.in-Some.is at c.in_ok-body.ensures.entry in
    let size : c.len.result ≡ length items = search rules in
    let step = opens_push c.take_entries.new.self bytes (drop c.args.at bytes) (drop (c.args.at + 5 + length items) bytes) items mid (entry bytes known) in
    let more = c.in_ok-push-in-Some.ensures.ok ∙ ap (λ (l : List ℕ). c.take_entries.new.self ++ l ∷ []) c.deref.ensures.value in
    let all = subst (λ (l : List (List ℕ)). Opens l bytes (drop (c.args.at + 5 + length items) bytes)) (sym more) step in
    let on : Opens c.push.new.self bytes (drop (c.args.at + 5 + c.len.result) bytes) = subst (λ (n : ℕ). Opens c.push.new.self bytes (drop (c.args.at + 5 + n) bytes)) (sym size) all in
    on

pub returns-in_ok-push-in-Some-clause-opens : goal.returns-in_ok-push-in-Some-clause-opens
returns-in_ok-push-in-Some-clause-opens g c = λ bytes b.
    let s = seen_of bytes c.args.window.now c.read_at.new.into c.front-seen.result.now c.args.at c.args.len c.in_ok-count.count b.size c.requires.within.0 (c.in_ok-count.ensures.count bytes b.reads) (c.in_ok-count.ensures.got bytes b.reads) c.front-seen.ensures c.requires.window in
    let window = opens_window c.args.bodies.now bytes c.front-seen.result.now c.args.at s b.opens in
    let mid = none_taken c.take_entries.new.self bytes c.front-seen.result.now c.args.at c.in_ok-taken.taken s c.if-taken-gt0.false (c.in_ok-taken.ensures.reads bytes s.behind window) in
    let known : IsSeen c.front-seen.result.now c.args.at c.args.len (g.D.Disk.state c.read_at.new.self) bytes = record { reads = c.read_at.ensures.looks.same ∙ b.reads; size = b.size; front = s.front } in
    let items = c.in-Some.body.items in
    let entry = rw c.in-Some.is at c.in_ok-body.ensures.entry in
    let size : c.len.result ≡ length items = search rules in
    let step = opens_push c.take_entries.new.self bytes (drop c.args.at bytes) (drop (c.args.at + 5 + length items) bytes) items mid (entry bytes known) in
    let more = c.in_ok-push-in-Some.ensures.ok ∙ ap (λ (l : List ℕ). c.take_entries.new.self ++ l ∷ []) c.deref.ensures.value in
    let all = subst (λ (l : List (List ℕ)). Opens l bytes (drop (c.args.at + 5 + length items) bytes)) (sym more) step in
    let on : Opens c.push.new.self bytes (drop (c.args.at + 5 + c.len.result) bytes) = subst (λ (n : ℕ). Opens c.push.new.self bytes (drop (c.args.at + 5 + n) bytes)) (sym size) all in
    (drop (c.args.at + 5 + c.len.result) bytes, on)

pub returns-in-None-clause-reads : goal.returns-in-None-clause-reads
returns-in-None-clause-reads g c = λ bytes b.
    let s = seen_of bytes c.args.window.now c.read_at.new.into c.front-seen.result.now c.args.at c.args.len c.in_ok-count.count b.size c.requires.within.0 (c.in_ok-count.ensures.count bytes b.reads) (c.in_ok-count.ensures.got bytes b.reads) c.front-seen.ensures c.requires.window in
    let window = opens_window c.args.bodies.now bytes c.front-seen.result.now c.args.at s b.opens in
    let mid = none_taken c.take_entries.new.self bytes c.front-seen.result.now c.args.at c.in_ok-taken.taken s c.if-taken-gt0.false (c.in_ok-taken.ensures.reads bytes s.behind window) in
    let known : IsSeen c.front-seen.result.now c.args.at c.args.len (g.D.Disk.state c.read_at.new.self) bytes = record { reads = c.read_at.ensures.looks.same ∙ b.reads; size = b.size; front = s.front } in
    (mid, c.in_ok-body.ensures.shut c.in-None.is bytes known)

pub returns-in-None-clause-opens : goal.returns-in-None-clause-opens
returns-in-None-clause-opens g c = λ bytes b.
    let s = seen_of bytes c.args.window.now c.read_at.new.into c.front-seen.result.now c.args.at c.args.len c.in_ok-count.count b.size c.requires.within.0 (c.in_ok-count.ensures.count bytes b.reads) (c.in_ok-count.ensures.got bytes b.reads) c.front-seen.ensures c.requires.window in
    let window = opens_window c.args.bodies.now bytes c.front-seen.result.now c.args.at s b.opens in
    let mid = none_taken c.take_entries.new.self bytes c.front-seen.result.now c.args.at c.in_ok-taken.taken s c.if-taken-gt0.false (c.in_ok-taken.ensures.reads bytes s.behind window) in
    (drop c.args.at bytes, mid)
