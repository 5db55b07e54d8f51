-- For the proof of `events_due` (src/happening.rt), by its ways: an order with another byte, an
-- accepted pair, or refused texts.
use Rattle.std.proofs.Common.{sym, ◌∙◌}
use Rattle.lathe_calls.specs.Order.{disordered}
use Rattle.lathe_calls.specs.Texts.{texts_of}
use Rattle.lathe_calls.proofs.FitTexts.{settings_fit}
use Rattle.lathe_calls.proofs.EventsDue.{due_of_pair, due_of_refusal}
use Rattle.lathe_calls.proofs.happening.events_due.Goals as goal

pub verdict-requires : goal.verdict-requires
verdict-requires c = settings_fit (texts_of c.args.texts.now) c.requires

pub returns-then-not-is_order : goal.returns-then-not-is_order
returns-then-not-is_order c =
    rw (c.nothing_happened.ensures.status, c.nothing_happened.ensures.list) (disordered (sym c.is_order.ensures ∙ c.if-not-is_order.true))

pub returns-in-Ok : goal.returns-in-Ok
returns-in-Ok c =
    due_of_pair (λ h. h.status) (λ h. h.list.items) c.args.order.now (texts_of c.args.texts.now) (sym c.is_order.ensures ∙ c.if-not-is_order.false)
    c.events_of.result c.in-Ok.pair c.in-Ok.ensures.accepted c.events_of.ensures

pub returns-in-Err : goal.returns-in-Err
returns-in-Err c =
    due_of_refusal (λ h. h.status) (λ h. h.list.items) c.args.order.now (texts_of c.args.texts.now) (sym c.is_order.ensures ∙ c.if-not-is_order.false)
    c.refused_events.result c.in-Err.error c.in-Err.ensures.refused c.refused_events.ensures
