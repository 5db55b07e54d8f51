-- Texts that are put in parts: lines one after the other, and how much of a text is put so far.
-- The proofs of src/blocks.rt and src/tracing.rt use it.
use Rattle.std.proofs.Common.{◌≡◌, ℕ, List, [], ◌∷◌, ◌++◌, Result, Ok, Err, sym, subst, ap, ◌∙◌, append_assoc, append-nil}
use Rattle.std.proofs.lemmas.Grind.{flat_map-append}
use Rattle.nc_outside.specs.declared.sink.PutFault.{PutFault}
use Rattle.nc_outside.specs.Written.{SinkState}
use Rattle.nc_verify.specs.Printed.{IsPut}
use Rattle.nc_verify.proofs.Put.{put_then, put_stops}
use Rattle.nc_verify.proofs.InPieces.{put_nothing}
use Rattle.trace_list.specs.TraceText.{TraceLine, lines_text, trace_line_text}

-- a line that is put is a list of one line that is put
pub one_line : (a b : SinkState) (x : TraceLine) (result : Result (Unit {0}) PutFault) → IsPut a b (trace_line_text x) result → IsPut a b (lines_text (x ∷ [])) result
one_line a b x result put = subst (λ t. IsPut a b t result) (sym (append-nil (trace_line_text x))) put

-- lines that are put whole, and then others, are all of these lines put
pub lines_then : (a b c : SinkState) (xs ys : List TraceLine) (result : Result (Unit {0}) PutFault) → IsPut a b (lines_text xs) (Ok tt)
    → IsPut b c (lines_text ys) result → IsPut a c (lines_text (xs ++ ys)) result
lines_then a b c xs ys result one two =
    subst (λ t. IsPut a c t result) (sym (flat_map-append trace_line_text xs ys)) (put_then a b c (lines_text xs) (lines_text ys) result one two)

-- a fault within the first lines is a fault within all
pub lines_stop : (a b : SinkState) (xs ys : List TraceLine) (fault : PutFault) → IsPut a b (lines_text xs) (Err fault)
    → IsPut a b (lines_text (xs ++ ys)) (Err fault)
lines_stop a b xs ys fault one =
    subst (λ t. IsPut a b t (Err fault)) (sym (flat_map-append trace_line_text xs ys)) (put_stops a b (lines_text xs) (lines_text ys) fault one)

-- What is put so far, and the rest, are the whole text.
pub record HasPut (a b : SinkState) (rest whole : List ℕ) : Type 0 where
  -- what is put so far
  pub front : List ℕ
  -- it was put without a fault
  pub put : IsPut a b front (Ok tt)
  -- with the rest it is the whole text
  pub is_whole : front ++ rest ≡ whole

-- before the first piece nothing is put, and all is left
pub has_begun : (a : SinkState) (rest whole : List ℕ) → rest ≡ whole → HasPut a a rest whole
has_begun a rest whole is = record { front = []; put = put_nothing a; is_whole = is }

-- after one piece more that is put whole, less is left
pub has_more : (a b c : SinkState) (piece more rest whole : List ℕ) → rest ≡ piece ++ more → HasPut a b rest whole → IsPut b c piece (Ok tt) → HasPut a c more whole
has_more a b c piece more rest whole is so_far put = record {
  front = so_far.front ++ piece;
  put = put_then a b c so_far.front piece (Ok tt) so_far.put put;
  is_whole = append_assoc so_far.front piece more ∙ ap (λ t. so_far.front ++ t) (sym is) ∙ so_far.is_whole;
}

-- if a piece fails, the whole text fails
pub has_broken : (a b c : SinkState) (piece more rest whole : List ℕ) (fault : PutFault) → rest ≡ piece ++ more → HasPut a b rest whole
    → IsPut b c piece (Err fault) → IsPut a c whole (Err fault)
has_broken a b c piece more rest whole fault is so_far put =
    subst (λ t. IsPut a c t (Err fault)) (ap (λ t. so_far.front ++ t) (sym is) ∙ so_far.is_whole)
    (put_then a b c so_far.front (piece ++ more) (Err fault) so_far.put (put_stops b c piece more fault put))

-- the whole text ends as its last piece does
pub has_ended : (a b c : SinkState) (piece rest whole : List ℕ) (result : Result (Unit {0}) PutFault) → rest ≡ piece → HasPut a b rest whole
    → IsPut b c piece result → IsPut a c whole result
has_ended a b c piece rest whole result is so_far put =
    subst (λ t. IsPut a c t result) (ap (λ t. so_far.front ++ t) (sym is) ∙ so_far.is_whole)
    (put_then a b c so_far.front piece result so_far.put put)

-- if nothing is left, the whole text is put
pub has_all : (a b : SinkState) (rest whole : List ℕ) → rest ≡ [] → HasPut a b rest whole → IsPut a b whole (Ok tt)
has_all a b rest whole is so_far =
    subst (λ t. IsPut a b t (Ok tt)) (sym (append-nil so_far.front) ∙ ap (λ t. so_far.front ++ t) (sym is) ∙ so_far.is_whole) so_far.put
