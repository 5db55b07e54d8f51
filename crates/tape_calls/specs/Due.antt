-- What is due to one tape, its settings and a question, whoever asks: a caller, or a command of the
-- program over files with these texts.
use Rattle.std.specs.Prelude.{ℕ, List}
use Rattle.lathe_calls.specs.Answers.{Answer, tells}
use Rattle.lathe_calls.specs.Said.{IsSaid}
use Rattle.lathe_calls.specs.declared.said.Said.{Said}
use Rattle.tape_calls.specs.Expanded.{IsExpanded}
use Rattle.tape_calls.specs.Plained.{IsPlained}
use Rattle.tape_calls.specs.Texts.{TapeView, are_fit}
use Rattle.tape_calls.specs.declared.question.TapeQuestion.{TapeQuestion}
use Rattle.tape_calls.specs.declared.question.TapeQuestion.TheVariants as ask

-- what is due to a tape, its settings and a question
abbrev pub IsDueToTape : TapeQuestion → TapeView → Answer → Type 0
IsDueToTape ask.Expand texts = IsExpanded texts.tape
IsDueToTape ask.Plain texts = IsPlained texts

-- what a call says of a tape, its settings and a question, and what it leaves in the caller's room
abbrev pub IsTapeAnswer : TapeQuestion → TapeView → List ℕ → List ℕ → Said → Type 0
IsTapeAnswer question texts before after it =
    IsSaid (are_fit texts) (λ status text. IsDueToTape question texts (tells status text)) before after it
