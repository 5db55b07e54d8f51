-- One word more is gathered, whether it reads or not. For the loop of `read_all` (src/reading.rt).
use Rattle.std.proofs.Common.{◌∙◌, ◌+◌, drop, sym, ap}
use Rattle.macro_expr.specs.Limits.{variable_signs}
use Rattle.block_forms.specs.Forms.{word_of, all_words, answer_so_far}
use Rattle.block_forms.specs.Variables.{variables_of_words}
use Rattle.block_forms.proofs.WordByWord.{all_words_here, where_ok}
use Rattle.block_forms.proofs.FewVariables.{more_named}
use Rattle.block_forms.proofs.reading.read_all.Goals as goal

pub loop-word-preserved : goal.loop-word-preserved
loop-word-preserved c =
    let done = sym c.is_err.ensures.value ∙ c.if-is_err.false in
    record {
      exact =
          where_ok c.add.result done
          (c.add.ensures.exact (word_of c.word-item.result) (all_words (drop (c.loop-word.word-index + 1) c.args.words.now)) c.read_word.ensures.exact)
          ∙ (ap (λ rest. answer_so_far c.loop-word.gathered.words.items c.loop-word.gathered.least rest) (sym (all_words_here c.args.words.now c.loop-word.word-index c.word-item.result c.loop-word-test.true c.word-item.is))
          ∙ c.loop-word.invariant.exact);
      named =
          more_named c.args.words.now c.loop-word.word-index c.word-item.result (variables_of_words c.loop-word.gathered.words.items) (variables_of_words c.add.new.self.words.items) c.loop-word-test.true c.word-item.is
          (where_ok c.add.result done (c.add.ensures.named (variable_signs c.word-item.result.text) c.read_word.ensures.named))
          c.loop-word.invariant.named;
    }
