-- The lines of a piece of a tape are read; if memory runs out, the reader is back where it was
-- before the piece (`take_lines`, src/feed.rt).
use Rattle.std.proofs.Common.{◌≡◌, ◌∙◌, length, rules}
use Rattle.nc_text.specs.View.{before_of}
use Rattle.nc_text.proofs.Growing.{follows_itself}
use Rattle.nc_text.proofs.Standing.{as_before, kept_back, lines_taken}
use Rattle.nc_text.proofs.feed.Feed.take_lines.Goals as goal

pub returns-in-Ok-clause-reads : goal.returns-in-Ok-clause-reads
returns-in-Ok-clause-reads c =
    let old = c.args.self.now in
    let mid = c.extend.new.self in
    let line = c.in-Ok.line in
    lines_taken old.skips old.line.stage mid.stage line.stage old.line.kept.items mid.kept.items line.kept.items old.line.len mid.len line.len (before_of old.progress) (before_of c.line_behind.new.progress)
    c.args.front.now c.args.behind.now c.requires c.extend.ensures.stage c.in_ok-extend.ensures.kept c.in_ok-extend.ensures.len c.in-Ok.ensures.reads

pub returns-in-Err-clause-as_before : goal.returns-in-Err-clause-as_before
returns-in-Err-clause-as_before c =
    let old = c.args.self.now in
    let mid = c.extend.new.self in
    let line = c.cut_back.new.self in
    let counted : c.len-kept.result ≡ length old.line.kept.items = search rules in
    as_before old.skips old.line.stage line.stage old.line.kept.items line.kept.items old.line.len line.len (before_of old.progress) (before_of c.cut_back-in-Err.new.self)
    (c.cut_back.ensures.stage ∙ c.extend.ensures.stage) (kept_back old.line.stage old.line.kept.items c.args.front.now mid.kept.items line.kept.items c.len-kept.result counted c.in_ok-extend.ensures.kept c.cut_back.ensures.kept) c.cut_back.ensures.len
    (c.cut_back-in-Err.ensures (before_of old.progress) c.mark-mark.ensures.mark (c.line_behind.ensures.grows (before_of old.progress) (follows_itself (before_of old.progress))))

pub cut_back-requires-in-Err : goal.cut_back-requires-in-Err
cut_back-requires-in-Err c =
    let start = before_of c.args.self.now.progress in
    record { start = start; mark_is = c.mark-mark.ensures.mark; follows = c.line_behind.ensures.grows start (follows_itself start); shaped = c.mark-mark.ensures.shaped }
