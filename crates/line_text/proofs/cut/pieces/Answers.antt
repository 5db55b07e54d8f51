-- One word more is cut off the signs of a line, and the rest begins with a word too (loop of
-- `pieces`, src/cut.rt).
use Rattle.std.proofs.Common.{◌≡◌, ◌+◌, ◌<◌, ◌^◌, ◌∷◌, length, sym, ap, subst, arith}
use Rattle.std.proofs.lemmas.List.{length-drop}
use Rattle.std.proofs.lemmas.List.Elements.{All-drop, All-tail, All-push}
use Rattle.line_text.specs.declared.piece.Piece.{Piece}
use Rattle.line_text.specs.declared.sign.Sign.{Sign}
use Rattle.line_text.specs.Places.{ArePlaced}
use Rattle.line_text.specs.Pieces.{pieces_of}
use Rattle.line_text.proofs.Cutting.{push_next}
use Rattle.line_text.proofs.cut.pieces.Goals as goal

pub loop-letter-preserved : goal.loop-letter-preserved
loop-letter-preserved c =
    let rest-is : c.loop-letter.rest.now ≡ c.in-Some.letter.now ∷ c.in-Some.others.now = c.in-Some.ensures.cases.0 in
    let before = c.loop-letter.invariant in
    let next = push_next c.loop-letter.pieces.items c.in_ok-piece.field-0 c.in-Some.letter.now c.in-Some.others.now c.split_at.result.0.now c.split_at.result.1.now c.loop-letter.rest.now (pieces_of c.args.signs.now) c.value_len.result rest-is before.lead c.value_len.ensures.count c.split_at.ensures.front c.split_at.ensures.back c.in_ok-piece.ensures.value before.cut in
    let pushed = c.in_ok-push.ensures.items in
    record {
      cut = rw pushed next.cut;
      lead = next.lead;
      placed = subst ArePlaced (sym c.split_at.ensures.back) (All-drop (λ (sign : Sign). sign.place + 1 < 2 ^ 32) _ c.in-Some.others.now (All-tail (λ (sign : Sign). sign.place + 1 < 2 ^ 32) c.in-Some.letter.now c.in-Some.others.now (subst ArePlaced rest-is before.placed)));
      short = omega (arith, ap length c.split_at.ensures.back, length-drop c.value_len.result c.in-Some.others.now, c.in-Some.ensures.cases.1);
      texts = rw pushed (All-push (λ (piece : Piece). length piece.text < 2 ^ 32) c.loop-letter.pieces.items c.in_ok-piece.field-0 before.texts c.in_ok-piece.ensures.short);
    }
