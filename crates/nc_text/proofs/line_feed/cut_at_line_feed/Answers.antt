-- The bytes before the first line feed have none, and without one the text is one line
-- (`cut_at_line_feed`, src/line_feed.rt).
use Rattle.std.proofs.Common.{◌≡◌, ◌==◌, ℕ, ◌+◌, ◌<◌, ◌≤◌, false, List, length, get_or, take, sym, subst, arith}
use Rattle.std.proofs.lemmas.Bool.{ne_eqb}
use Rattle.std.proofs.lemmas.List.{take_more, take_all}
use Rattle.std.proofs.lemmas.List.Elements.{All-push}
use Rattle.nc_text.specs.Lines.{IsOneLine}
use Rattle.nc_text.proofs.line_feed.cut_at_line_feed.Goals as goal

-- if the first n bytes have no line feed and the next byte is none, the first n + 1 have none
one_more : (text : List ℕ) (n : ℕ) → n < length text → (get_or text n 0 ≡ 10 → ⊥) → IsOneLine (take n text) → IsOneLine (take (n + 1) text)
one_more text n inside other one =
    subst IsOneLine (sym (take_more text n 0 inside)) (All-push (λ (b : ℕ). (b == 10) ≡ false) (take n text) (get_or text n 0) one (ne_eqb (get_or text n 0) 10 other))

-- if a text has at most n bytes and the first n have no line feed, the text is one line
whole : (text : List ℕ) (n : ℕ) → length text ≤ n → IsOneLine (take n text) → IsOneLine text
whole text n past one = subst IsOneLine (take_all n text past) one

pub loop-at-preserved : goal.loop-at-preserved
loop-at-preserved c = one_more c.args.text.now c.loop-at.at (omega arith) c.if-byte-eq10.false c.loop-at.invariant

pub returns-clause-cut : goal.returns-clause-cut
returns-clause-cut c = whole c.args.text.now c.loop-at.at (omega arith) c.loop-at.invariant
