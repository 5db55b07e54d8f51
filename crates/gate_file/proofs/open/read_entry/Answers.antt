-- A whole entry at a gate gives its body; one that is cut short is told at the offset of its gate
-- (`read_entry`, src/open.rt).
use Rattle.std.proofs.Common.{◌≡◌, ◌+◌, ℕ, length, take, drop, refl, sym, subst, ◌∙◌, ap, arith, length-drop}
use Rattle.std.proofs.lemmas.List.{drop-drop}
use Rattle.gate_file.specs.declared.open.Head.{Head}
use Rattle.gate_file.specs.First.{IsHead}
use Rattle.gate_file.specs.Chain.{IsEntry}
use Rattle.gate_file.proofs.Heads.{open_cut, open_entry}
use Rattle.gate_file.proofs.Refusals.{entry_refused}
use Rattle.gate_file.proofs.open.read_entry.Goals as goal

pub returns-then-len-at-clause-refused : goal.returns-then-len-at-clause-refused
returns-then-len-at-clause-refused g c = λ bytes b.
    let rest = drop c.args.at bytes in
    let head = subst (λ (h : Head). IsHead h (take 5 rest)) c.in-Open.is (subst (IsHead c.head_of.result) b.front c.head_of.ensures) in
    (refl, open_cut rest c.in-Open.size head.0 head.1 head.2 head.3 (omega (arith, length-drop c.args.at bytes, b.size, c.if-len-at.true)))

pub returns-in-Err-clause-refused : goal.returns-in-Err-clause-refused
returns-in-Err-clause-refused g c =
    let d = g.D.Disk.state in
    let e = c.in-Err.ensures in
    entry_refused c.args.seen.now c.args.at c.args.len c.in-Open.size c.in-Err.fault (d c.args.disk.now) (d c.read_body.new.disk) c.if-len-at.false e.disk_fault e.cut e.never

pub returns-in-Ok-clause-entry : goal.returns-in-Ok-clause-entry
returns-in-Ok-clause-entry g c = λ bytes b.
    let at = c.args.at in
    let body = c.in-Ok.body.items in
    let head = subst (λ (h : Head). IsHead h (take 5 (drop at bytes))) c.in-Open.is (subst (IsHead c.head_of.result) b.front c.head_of.ensures) in
    let is = c.in-Ok.ensures.body bytes b.reads ∙ ap (take c.in-Open.size) (sym (drop-drop 5 at bytes)) in
    let found = open_entry (drop at bytes) c.in-Open.size head.0 head.1 head.2 head.3 body is c.in-Ok.ensures.size in
    let place : at + (5 + length body) ≡ at + 5 + length body = omega arith in
    subst (IsEntry body (drop at bytes)) (drop-drop (5 + length body) at bytes ∙ ap (λ (n : ℕ). drop n bytes) place) found
