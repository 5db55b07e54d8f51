-- `read_number` reads one to seven digits alone, and answers only a value between the limits
-- (src/number.rt).
use Rattle.std.proofs.Common.{◌≡◌, ℕ, true, Option, Some, None, Ok, ap, sym, ◌∙◌, arith}
use Rattle.std.specs.Result.{result_ok}
use Rattle.std.specs.Str.Parse.{digits_value}
use Rattle.command_words.specs.Number.{is_numeral}
use Rattle.command_words.proofs.Numbers.{no_numeral, number_high, number_in, number_low, numeral_parses}
use Rattle.command_words.proofs.number.read_number.Goals as goal
use Rattle.command_words.proofs.number.read_number.Goals.{else-low-value-via-then-low-value+else-value-high, else-low-value-via-else-low-value}

pub returns-then-not-is_numeral_text : goal.returns-then-not-is_numeral_text
returns-then-not-is_numeral_text c =
    no_numeral c.args.low c.args.high c.args.text.now (sym c.is_numeral_text.ensures ∙ c.if-not-is_numeral_text.true)

pub returns-in_err-value : goal.returns-in_err-value
returns-in_err-value c =
    let numeral : is_numeral c.args.text.now ≡ true = sym c.is_numeral_text.ensures ∙ c.if-not-is_numeral_text.false in
    let read : c.parse.result ≡ Ok (digits_value 10 c.args.text.now) = numeral_parses c.args.text.now c.parse.result c.parse.ensures.value.0 numeral in
    let none : ◌≡◌ {A = Option ℕ} None (Some (digits_value 10 c.args.text.now)) = c.in_err-value.ensures.value ∙ ap result_ok read in
    cc

pub returns-then-value-high : goal.returns-then-value-high
returns-then-value-high c =
    let numeral : is_numeral c.args.text.now ≡ true = sym c.is_numeral_text.ensures ∙ c.if-not-is_numeral_text.false in
    let read : c.parse.result ≡ Ok (digits_value 10 c.args.text.now) = numeral_parses c.args.text.now c.parse.result (c.parse.ensures.value.0) numeral in
    let some : Some c.in_ok-value.value ≡ Some (digits_value 10 c.args.text.now) = c.in_ok-value.ensures.value ∙ ap result_ok read in
    let is_value : c.in_ok-value.value ≡ digits_value 10 c.args.text.now = cc in
    number_in c.args.low c.args.high c.args.text.now c.in_ok-value.value numeral is_value (omega arith) (omega arith)

pub returns-else-low-value : goal.returns-else-low-value
returns-else-low-value c =
    let numeral : is_numeral c.args.text.now ≡ true = sym c.is_numeral_text.ensures ∙ c.if-not-is_numeral_text.false in
    let read : c.parse.result ≡ Ok (digits_value 10 c.args.text.now) = numeral_parses c.args.text.now c.parse.result (c.parse.ensures.value.0) numeral in
    let some : Some c.in_ok-value.value ≡ Some (digits_value 10 c.args.text.now) = c.in_ok-value.ensures.value ∙ ap result_ok read in
    let is_value : c.in_ok-value.value ≡ digits_value 10 c.args.text.now = cc in
    elim c.else-low-value.branch [
      | else-low-value-via-then-low-value+else-value-high w ↦
          number_high c.args.low c.args.high c.args.text.now c.in_ok-value.value numeral is_value (omega arith) (omega arith)
      | else-low-value-via-else-low-value w ↦ number_low c.args.low c.args.high c.args.text.now c.in_ok-value.value numeral is_value (omega arith)
    ]
