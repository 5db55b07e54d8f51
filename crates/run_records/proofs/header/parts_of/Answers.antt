-- `parts_of` answers the version and the texts of the header; bytes that lack a text, or have more
-- after the last one, are no header (src/header.rt).
use Rattle.std.proofs.Common.{◌≡◌, [], length, ap, arith}
use Rattle.std.proofs.lemmas.Bool.Decides.{nat_tests}
use Rattle.run_records.specs.Headers.{text_bytes}
use Rattle.run_records.proofs.Texts.{behind_settings, behind_left, behind_right}
use Rattle.run_records.proofs.header.parts_of.Goals as goal

pub returns-in_default-text_at-2-clause-none : goal.returns-in_default-text_at-2-clause-none
returns-in_default-text_at-2-clause-none c = λ header short is.
    let first = c.in-Some-text_at.ensures.some in
    c.in_default-text_at-2.ensures.none header.left (text_bytes header.right) (omega (arith, short))
    (behind_settings header c.args.bytes.now short is c.in-Some.version c.in-Some.rest.now c.in-Some-text_at.settings.now c.in-Some-text_at.rest.now c.in-Some.ensures.some first.0 first.1)

pub returns-in_default-text_at-3-clause-none : goal.returns-in_default-text_at-3-clause-none
returns-in_default-text_at-3-clause-none c = λ header short is.
    let first = c.in-Some-text_at.ensures.some in
    let second = c.in-Some-text_at-2.ensures.some in
    c.in_default-text_at-3.ensures.none header.right [] (omega (arith, short))
    (behind_left header c.args.bytes.now short is c.in-Some.version c.in-Some.rest.now c.in-Some-text_at.settings.now c.in-Some-text_at.rest.now c.in-Some-text_at-2.left.now c.in-Some-text_at-2.rest.now c.in-Some.ensures.some first.0 first.1 second.0 second.1)

pub returns-then-not-is_empty-clause-none : goal.returns-then-not-is_empty-clause-none
returns-then-not-is_empty-clause-none c = λ header short is.
    let first = c.in-Some-text_at.ensures.some in
    let second = c.in-Some-text_at-2.ensures.some in
    let third = c.in-Some-text_at-3.ensures.some in
    let none = behind_right header c.args.bytes.now short is c.in-Some.version c.in-Some.rest.now c.in-Some-text_at.settings.now c.in-Some-text_at.rest.now c.in-Some-text_at-2.left.now c.in-Some-text_at-2.rest.now c.in-Some-text_at-3.right.now c.in-Some-text_at-3.rest.now
    c.in-Some.ensures.some first.0 first.1 second.0 second.1 third.0 third.1 in
    let empty : length c.in-Some-text_at-3.rest.now ≡ 0 = ap length none in
    let test = c.if-not-is_empty.ensures in
    grind (arith, nat_tests)
