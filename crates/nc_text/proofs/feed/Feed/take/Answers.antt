-- A piece of a tape's text without a line feed goes on with the present line; one with a line feed
-- ends it (`take`, src/feed.rt).
use Rattle.std.proofs.Common.{ℕ, List, ◌++◌, subst, sym}
use Rattle.std.specs.Prelude.{OnOk}
use Rattle.nc_text.specs.View.{before_of}
use Rattle.nc_text.specs.FeedView.{state_of}
use Rattle.nc_text.specs.Reading.{HasRead}
use Rattle.nc_text.proofs.Standing.{piece_taken}
use Rattle.nc_text.proofs.feed.Feed.take.Goals as goal

pub returns-in-None-clause-reads : goal.returns-in-None-clause-reads
returns-in-None-clause-reads c =
    let old = c.args.self.now in
    let new = c.extend.new.self in
    piece_taken c.extend.result old.skips old.line.stage new.stage old.line.kept.items new.kept.items old.line.len new.len (before_of old.progress) c.args.piece.now c.in-None.ensures.cut c.extend.ensures.stage c.extend.ensures.kept c.extend.ensures.len

pub returns-in-Some-clause-reads : goal.returns-in-Some-clause-reads
returns-in-Some-clause-reads c =
    subst (λ (text : List ℕ). OnOk c.take_lines.result ((skips : ℕ) (bytes : List ℕ) → HasRead (state_of c.args.self.now) skips bytes → HasRead (state_of c.take_lines.new.self) skips (bytes ++ text))) (sym c.in-Some.ensures.cut.0) c.take_lines.ensures.reads
