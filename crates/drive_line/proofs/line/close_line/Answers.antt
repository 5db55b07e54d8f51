-- The moves taken are a prefix of those sent: all that were sent before a drain, and all if the end
-- was taken. The answers received are a prefix of those given (`close_line`, src/line.rt).
use Rattle.std.proofs.Common.{◌≡◌, ◌++◌, ◌∙◌, ap, sym, append_assoc}
use Rattle.drive_line.specs.Line.{moves_among, mark_counts}
use Rattle.drive_line.proofs.Items.{moves_of_both, whole_of, taken_of}
use Rattle.drive_line.proofs.line.close_line.Goals as goal

pub returns-clause-moves : goal.returns-clause-moves
returns-clause-moves g c =
    let sent = c.args.sending.items in
    let taken = c.args.taking.items in
    let rest = c.close_wire.ensures.0 in
    let e : sent ≡ taken ++ rest = sym c.into_wires-to_drive.ensures.items.0 ∙ c.close_wire.ensures.1 ∙ ap (λ l. l ++ rest) c.into_wires-from_worker.ensures.items in
    (moves_among rest, ap moves_among e ∙ moves_of_both taken rest)

pub returns-clause-drained : goal.returns-clause-drained
returns-clause-drained g c =
    let sent = c.args.sending.items in
    let taken = c.args.taking.items in
    let received = c.args.sending.received in
    let rest = c.close_wire.ensures.0 in
    let given = c.into_wires-from_worker.ensures.given in
    let others = c.close_wire-2.ensures.0 ++ given.0 in
    let e : sent ≡ taken ++ rest = sym c.into_wires-to_drive.ensures.items.0 ∙ c.close_wire.ensures.1 ∙ ap (λ l. l ++ rest) c.into_wires-from_worker.ensures.items in
    let f : mark_counts 0 taken ≡ received ++ others =
    given.1 ∙ ap (λ l. l ++ given.0) (c.close_wire-2.ensures.1 ∙ ap (λ l. l ++ c.close_wire-2.ensures.0) c.into_wires-to_drive.ensures.items.1)
    ∙ append_assoc received c.close_wire-2.ensures.0 given.0 in
    taken_of sent taken rest received others e f c.into_wires-to_drive.ensures.answered

pub returns-clause-whole : goal.returns-clause-whole
returns-clause-whole g c is =
    let sent = c.args.sending.items in
    let taken = c.args.taking.items in
    let rest = c.close_wire.ensures.0 in
    let e : sent ≡ taken ++ rest = sym c.into_wires-to_drive.ensures.items.0 ∙ c.close_wire.ensures.1 ∙ ap (λ l. l ++ rest) c.into_wires-from_worker.ensures.items in
    whole_of sent taken rest e c.into_wires-to_drive.ensures.last (sym c.into_wires-from_worker.ensures.ended ∙ is)

pub returns-clause-received : goal.returns-clause-received
returns-clause-received g c =
    let given = c.into_wires-from_worker.ensures.given in
    let received = c.args.sending.received in (
      c.close_wire-2.ensures.0 ++ given.0,
      given.1 ∙ ap (λ l. l ++ given.0) (c.close_wire-2.ensures.1 ∙ ap (λ l. l ++ c.close_wire-2.ensures.0) c.into_wires-to_drive.ensures.items.1)
          ∙ append_assoc received c.close_wire-2.ensures.0 given.0,
    )
