-- A rest that has no line leaves the stream, and is kept as got (src/line_turret.rt).
use Rattle.std.proofs.Common.{◌≡◌, ℕ, List, [], ◌∷◌, ◌++◌, ◌∙◌, refl, rules, ap, sym, subst}
use Rattle.std.specs.Option.{ForSome}
use Rattle.std.proofs.lemmas.List.{append-nil}
use Rattle.turret_lines.specs.Meetings.{Standing, standing_of}
use Rattle.turret_lines.specs.Stream.{stream_of}
use Rattle.turret_lines.proofs.Growing.{no_part, one_more, same_received, stands_kept, stands_on, whole_kept}
use Rattle.turret_lines.proofs.line_turret.LineTurret.keep.Goals as goal

pub returns-then-self-gt0-clause-err : goal.returns-then-self-gt0-clause-err
returns-then-self-gt0-clause-err g c =
    same_received _ _ _ _ (sym (append-nil c.args.self.now.told.got)) (one_more c.args.self.now.calls c.saturating_add-calls.result (search rules))

pub invariant_of-self-2 : goal.invariant_of-self-2
invariant_of-self-2 g c =
    let old = c.args.self.now in
    let written = (g.K.Sink.state old.sink).written in
    let at : Standing = record { met = old.met; waits = old.waits } in
    let new = c.with-self.result.got in
    let free : old.faults ≡ 0 = search rules in
    let told : ForSome written (λ b. b ≡ stream_of new) = whole_kept written old.told.got new c.args.what.now c.requires c.with-self.ensures (old.whole free) in
    record {
      stands = stands_on old.told.got new c.args.what.now at at old.stands c.with-self.ensures (stands_kept c.args.what.now at c.requires);
      whole = λ _. told;
      parted = no_part written new told;
    }

pub returns-clause-ok : goal.returns-clause-ok
returns-clause-ok g c =
    same_received _ _ _ _ c.with-self.ensures (one_more c.args.self.now.calls c.saturating_add-calls.result (search rules))
