-- A piece of a tape is read, and what the lines that have ended decide is refused in the same call,
-- and nothing else (`feed`, src/reader.rt).
use Rattle.std.proofs.Common.{◌≡◌, ◌++◌, None, sym, subst}
use Rattle.nc_text.specs.View.{before_of}
use Rattle.nc_text.specs.FeedView.{state_of}
use Rattle.nc_text.specs.Reading.{State, HasRead, refusal_of}
use Rattle.nc_text.proofs.Standing.{refused_at, refused_by}
use Rattle.nc_text.proofs.Deciding.{one_fault, refused_on, decided_refused, nothing_decided}
use Rattle.nc_text.proofs.reader.Reader.feed.Goals as goal

pub returns-in-Some-clause-refuses : goal.returns-in-Some-clause-refuses
returns-in-Some-clause-refuses c = λ skips bytes read.
    let old = c.self.inside.feed in
    let before : HasRead (state_of old) skips bytes = subst (λ (state : State). HasRead state skips bytes) (sym c.self.view_is) read in
    let kept = c.in-Some.fault in
    refused_on skips bytes c.args.piece.now kept (refused_by old.skips old.line.stage old.line.kept.items old.line.len (before_of old.progress) kept (refused_at old.line.stage kept (sym c.in-Some.ensures)) skips bytes before)

pub returns-in-Some-clause-decided : goal.returns-in-Some-clause-decided
returns-in-Some-clause-decided c = λ skips bytes fault read decided.
    one_fault skips (bytes ++ c.args.piece.now) c.in-Some.fault fault (returns-in-Some-clause-refuses c skips bytes read) (decided_refused skips (bytes ++ c.args.piece.now) fault decided)

pub returns-in-Some-refusal-clause-refuses : goal.returns-in-Some-refusal-clause-refuses
returns-in-Some-refusal-clause-refuses c = λ skips bytes read.
    let new = c.take.new.self in
    let before : HasRead (state_of c.self.inside.feed) skips bytes = subst (λ (state : State). HasRead state skips bytes) (sym c.self.view_is) read in
    let fault = c.in-Some-refusal.fault in
    refused_by new.skips new.line.stage new.line.kept.items new.line.len (before_of new.progress) fault (refused_at new.line.stage fault (sym c.in-Some-refusal.ensures)) skips (bytes ++ c.args.piece.now) (c.in_ok-take.ensures.reads skips bytes before)

pub returns-in-Some-refusal-clause-decided : goal.returns-in-Some-refusal-clause-decided
returns-in-Some-refusal-clause-decided c = λ skips bytes fault read decided.
    one_fault skips (bytes ++ c.args.piece.now) c.in-Some-refusal.fault fault (returns-in-Some-refusal-clause-refuses c skips bytes read) (decided_refused skips (bytes ++ c.args.piece.now) fault decided)

pub returns-clause-reads : goal.returns-clause-reads
returns-clause-reads c = λ skips bytes read.
    let before : HasRead (state_of c.self.inside.feed) skips bytes = subst (λ (state : State). HasRead state skips bytes) (sym c.self.view_is) read in
    c.in_ok-take.ensures.reads skips bytes before

pub returns-clause-decided : goal.returns-clause-decided
returns-clause-decided c = λ skips bytes fault read decided.
    let new = c.take.new.self in
    let before : HasRead (state_of c.self.inside.feed) skips bytes = subst (λ (state : State). HasRead state skips bytes) (sym c.self.view_is) read in
    let open-is : refusal_of new.line.stage ≡ None = cc (c.refusal-2.ensures, c.in_default-refusal.is) in
    nothing_decided new.skips new.line.stage new.line.kept.items new.line.len (before_of new.progress) open-is skips (bytes ++ c.args.piece.now) fault (c.in_ok-take.ensures.reads skips bytes before) decided
