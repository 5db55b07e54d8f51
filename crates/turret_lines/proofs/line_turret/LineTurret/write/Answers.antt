-- `write` leaves the lines whole, or after a fault a part of them; after an earlier fault it writes
-- nothing (src/line_turret.rt).
use Rattle.std.proofs.Common.{◌≡◌, ℕ, [], ◌∷◌, ◌++◌, ◌∙◌, take, rules, ap, sym, subst}
use Rattle.std.specs.Option.{ForSome}
use Rattle.std.specs.Io.KnownBytes.{Appends}
use Rattle.std.proofs.lemmas.List.{append-nil}
use Rattle.turret_lines.specs.Meetings.{Standing, meeting_text, standing_behind, standing_of}
use Rattle.turret_lines.specs.Stream.{lines_at, stream_of}
use Rattle.turret_lines.proofs.Growing.{line_more, lines_written, never_zero, no_part, one_more, part_more, same_received, stands_on, stands_written}
use Rattle.turret_lines.proofs.line_turret.LineTurret.write.Goals as goal

pub returns-then-self-gt0-clause-err : goal.returns-then-self-gt0-clause-err
returns-then-self-gt0-clause-err g c =
    same_received _ _ _ _ (sym (append-nil c.args.self.now.told.got)) (one_more c.args.self.now.calls c.saturating_add-calls.result (search rules))

pub invariant_of-self-in-Ok : goal.invariant_of-self-in-Ok
invariant_of-self-in-Ok g c =
    let self = c.args.self.now in
    let what = c.args.what.now in
    let old = (g.K.Sink.state self.sink).written in
    let new = (g.K.Sink.state c.put_both.new.sink).written in
    let at : Standing = record { met = self.met; waits = self.waits } in
    let now : Standing = record { met = c.met_behind-self.result; waits = c.args.waits } in
    let free : self.faults ≡ 0 = search rules in
    let is : c.meeting_line-met.result ++ c.args.line.now ≡ lines_at (standing_of self.told.got) what =
    ap (λ l. l ++ c.args.line.now) c.meeting_line-met.ensures ∙ ap (λ l. meeting_text self.met self.waits ++ l) c.requires.line
    ∙ lines_written what at c.requires.written ∙ ap (λ s. lines_at s what) self.stands in
    let lines : ForSome new (λ b. b ≡ stream_of (self.told.got ++ what ∷ []))
    = line_more old new (c.meeting_line-met.result ++ c.args.line.now) self.told.got what c.put_both.ensures.tells c.in-Ok.ensures.ok is (self.whole free) in
    let told : ForSome new (λ b. b ≡ stream_of c.with-self.result.got)
    = subst (λ got. ForSome new (λ b. b ≡ stream_of got)) (sym c.with-self.ensures) lines in
    let behind : ◌≡◌ {A = Standing} (standing_behind at what) now =
    stands_written what self.met self.waits c.args.waits c.requires.written c.requires.waits ∙ ap (λ (n : ℕ). record { met = n; waits = c.args.waits }) (sym c.met_behind-self.ensures) in
    record {
      stands = stands_on self.told.got c.with-self.result.got what at now self.stands c.with-self.ensures behind;
      whole = λ _. told;
      parted = no_part new c.with-self.result.got told;
    }

pub returns-in-Ok-clause-ok : goal.returns-in-Ok-clause-ok
returns-in-Ok-clause-ok g c =
    same_received _ _ _ _ c.with-self.ensures (one_more c.args.self.now.calls c.saturating_add-calls.result (search rules))

pub invariant_of-self-in-Err : goal.invariant_of-self-in-Err
invariant_of-self-in-Err g c =
    let self = c.args.self.now in
    let what = c.args.what.now in
    let old = (g.K.Sink.state self.sink).written in
    let new = (g.K.Sink.state c.put_both.new.sink).written in
    let line = c.meeting_line-met.result ++ c.args.line.now in
    let at : Standing = record { met = self.met; waits = self.waits } in
    let cut : (n : ℕ) × Appends old new (take n line) = c.in-Err.ensures.err in
    let free : self.faults ≡ 0 = search rules in
    let is : line ≡ lines_at (standing_of self.told.got) what =
    ap (λ l. l ++ c.args.line.now) c.meeting_line-met.ensures ∙ ap (λ l. meeting_text self.met self.waits ++ l) c.requires.line
    ∙ lines_written what at c.requires.written ∙ ap (λ s. lines_at s what) self.stands in
    record {
      stands = self.stands;
      whole = λ none. never_zero self.faults c.saturating_add-faults.result (search rules) none;
      parted = part_more old new line cut.0 self.told.got what c.put_both.ensures.tells cut.1 is (self.whole free);
    }

pub returns-in-Err-clause-err : goal.returns-in-Err-clause-err
returns-in-Err-clause-err g c =
    same_received _ _ _ _ (sym (append-nil c.args.self.now.told.got)) (one_more c.args.self.now.calls c.saturating_add-calls.result (search rules))
