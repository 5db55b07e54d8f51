-- A turret that was told what the items so far tell has been told what the next item tells too: a
-- move is handed to it, it rests at the mark of a wait and where its path has ended, and the end
-- of the line tells nothing (`serve`, src/drive.rt).
use Rattle.std.proofs.Common.{◌≡◌, false, ◌++◌, ◌∷◌, [], sym, subst}
use Rattle.drive_line.specs.declared.item.Item.{Item}
use Rattle.drive_line.specs.Driving.{has_failed, Serves}
use Rattle.drive_line.specs.Line.{told_among}
use Rattle.path_worker.specs.Drive.{StandsAt}
use Rattle.path_worker.proofs.Driving.{move_behind, mark_behind, finish_behind, end_behind, stands_on}
use Rattle.path_worker.proofs.drive.serve.Goals as goal

pub returns-in-Move-clause-serves : goal.returns-in-Move-clause-serves
returns-in-Move-clause-serves g c = λ items start s.
    let now = c.hand.new.self in
    subst (λ (x : Item). Serves (told_among (items ++ x ∷ [])) start now) (sym c.in-Move.is)
    (subst (λ l. Serves l start now) (sym (move_behind items c.in-Move.what)) (c.hand.ensures.serves (told_among items) start s))

pub returns-in-Mark-clause-serves : goal.returns-in-Mark-clause-serves
returns-in-Mark-clause-serves g c = λ items start s.
    let now = c.settle.new.self in
    subst (λ (x : Item). Serves (told_among (items ++ x ∷ [])) start now) (sym c.in-Mark.is)
    (subst (λ l. Serves l start now) (sym (mark_behind items c.in-Mark.code)) (c.settle.ensures.serves (told_among items) start s))

pub returns-in-Finish-clause-serves : goal.returns-in-Finish-clause-serves
returns-in-Finish-clause-serves g c = λ items start s.
    let now = c.settle-in-Finish.new.self in
    subst (λ (x : Item). Serves (told_among (items ++ x ∷ [])) start now) (sym c.in-Finish.is)
    (subst (λ l. Serves l start now) (sym (finish_behind items)) (c.settle-in-Finish.ensures.serves (told_among items) start s))

pub returns-in-End-clause-serves : goal.returns-in-End-clause-serves
returns-in-End-clause-serves g c = λ items start s.
    let now = c.args.driven.now in
    subst (λ (x : Item). Serves (told_among (items ++ x ∷ [])) start now) (sym c.in-End.is) (subst (λ l. Serves l start now) (sym (end_behind items)) s)

pub returns-in-End-clause-stands : goal.returns-in-End-clause-stands
returns-in-End-clause-stands g c = λ calm.
    subst (λ (x : Item). StandsAt x c.args.driven.now.phase) (sym c.in-End.is) (stands_on c.args.driven.now.phase calm)
