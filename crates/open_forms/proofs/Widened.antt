-- A block that reads in full and names no interrupt (M96, M97 or M198) leads where its open reading
-- says; a statement must be clean. For the law `what_reads_in_full_leads_where_it_said`
-- (src/laws.rt).
use Rattle.std.proofs.Common.{◌≡◌, ℕ, false, Bool, true, cond, List, Option, Some, None, Result, Ok, Err, refl, ◌∙◌, ap, subst}
use Rattle.nc_number.specs.declared.cause.Cause.{Cause}
use Rattle.nc_number.specs.declared.cause.Cause.TheVariants.{TooManyVariables}
use Rattle.line_text.specs.declared.body.Word.{Word}
use Rattle.nc_text.specs.declared.tape.Block.{Block}
use Rattle.line_text.specs.declared.body.Body.{Body}
use Rattle.line_text.specs.declared.body.Body.TheVariants.{Words, Statement}
use Rattle.macro_expr.specs.declared.stop.Stop.{Stop}
use Rattle.macro_expr.specs.declared.tree.ExprFault.{ExprFault}
use Rattle.macro_expr.specs.Tree.{Sentence}
use Rattle.macro_expr.specs.Limits.{clean_text, has_many_variables, refusal, answer}
use Rattle.macro_expr.specs.Statements.{statement_at, whole_reading}
use Rattle.macro_expr.specs.Grammar.{IsStatement}
use Rattle.macro_expr.specs.Answers.{statement_of}
use Rattle.macro_expr.proofs.StatementsSound.{whole_reading-statement-sound}
use Rattle.block_words.specs.declared.dialect.Dialect.{Dialect}
use Rattle.block_words.specs.declared.word.FlowWord.{FlowWord}
use Rattle.block_forms.specs.Controls.{control_of_words, control_of_sentence}
use Rattle.block_forms.specs.Forms.{Form, OfWords, OfSentence, BlockForm, block_at, form_at, form_or_refusal, form_of_words, form_of_sentence, sentence_or_refusal, words_or_refusal, control_of_form, words_or_number, all_words, has_many_variables as closed_many, with_refusal as form_refusal}
use Rattle.block_forms.specs.Refusals as closed
use Rattle.open_forms.specs.Statements.{control_of_statement}
use Rattle.open_forms.specs.Codes.{role_of}
use Rattle.open_forms.specs.Controls.{with_refusal, control_by, control_of_words as open_control_of_words, open_control}
use Rattle.open_forms.specs.Widening.{names_interrupt, has_interrupt, IsClean, IsWidened}
use Rattle.open_forms.proofs.Sentences.{statement_leads}
use Rattle.open_forms.proofs.ReadWords.{are_said}
use Rattle.open_forms.proofs.Accepts.{accepted, no_refusal, leads_there}

-- If a tree is answered for a text, reading gave it.
answered : (text : List ℕ) (read : Result Sentence Stop) (sentence : Sentence) → answer text read ≡ Ok sentence → read ≡ Ok sentence
answered text (Err stop) sentence e = absurd (cc)
answered text (Ok tree) sentence e = go (has_many_variables text) e
  where
    go : (many : Bool) → cond many (Err (refusal TooManyVariables)) (Ok tree) ≡ Ok sentence → ◌≡◌ {A = Result Sentence Stop} (Ok tree) (Ok sentence)
    go true e = absurd (cc)
    go false e = let same : tree ≡ sentence = cc in ap Ok same

-- A clean statement that reads leads where its tree says.
sentence_widened : (text : List ℕ) (sentence : Sentence) → clean_text false text ≡ text → statement_of text ≡ Ok sentence
    → control_of_statement text ≡ Ok (control_of_sentence sentence)
sentence_widened text sentence clean reads =
    let whole_reads : whole_reading (statement_at (clean_text false text)) ≡ Ok sentence = answered (clean_text false text) (whole_reading (statement_at (clean_text false text))) sentence reads in
    statement_leads text sentence (subst (λ t. IsStatement t sentence) clean (whole_reading-statement-sound (clean_text false text) sentence whole_reads))

-- Words that are not refused all read, and no refusal holds of them.
pub judged_words : (dialect : Dialect) (texts : List Word) (words : List FlowWord) → words_or_refusal dialect texts ≡ Ok words
    → (all_words texts ≡ Ok words) × (closed.refusal_of dialect words ≡ None)
judged_words dialect texts words reads = go (all_words texts) (closed_many texts) reads
  where
    refused : (own : List FlowWord) (r : Option Cause) → form_refusal r own ≡ Ok words → (own ≡ words) × (r ≡ None)
    refused own (Some cause) e = absurd (cc)
    refused own None e = (cc, refl)

    go : (read : Result (List FlowWord) ℕ) (many : Bool) → words_or_number dialect many read ≡ Ok words → (read ≡ Ok words) × (closed.refusal_of dialect words ≡ None)
    go (Err number) many e = absurd (cc)
    go (Ok own) true e = absurd (cc)
    go (Ok own) false e =
        let both = refused own (closed.refusal_of dialect own) e in
        (ap Ok both.0, subst (λ ws. closed.refusal_of dialect ws ≡ None) both.0 both.1)

-- Words that are not refused and name no interrupt lead where the full reading says.
words_widened : (dialect : Dialect) (texts : List Word) (words : List FlowWord) → words_or_refusal dialect texts ≡ Ok words
    → names_interrupt dialect texts ≡ false → open_control_of_words dialect texts ≡ Ok (control_of_words dialect words)
words_widened dialect texts words reads plain =
    let told = judged_words dialect texts words reads in
    let are = are_said texts words told.0 in
    let given = accepted dialect words told.1 in
    ap (λ r. with_refusal r (control_by (role_of dialect texts) dialect texts)) (no_refusal dialect texts words are given plain)
    ∙ ap Ok (leads_there dialect texts words are given)

-- A block that reads has the control of what it says.
form_control : (block : Block) (read : Result Form ℕ) (form : BlockForm) → block_at block read ≡ Ok form
    → (own : Form) × ((read ≡ Ok own) × (control_of_form own ≡ form.control))
form_control block (Err number) form e = absurd (cc)
form_control block (Ok own) form e =
    let same : form_at block.line block.sequence own (control_of_form own) ≡ form = cc in
    (own, (refl, ap (λ f. f.control) same))

-- The body of a block that is not refused, words without an interrupt or a clean statement, leads
-- where the full reading says.
body_widened : (dialect : Dialect) (body : Body) (own : Form) → form_or_refusal dialect body ≡ Ok own → has_interrupt dialect body ≡ false
    → IsClean body → open_control dialect body ≡ Ok (control_of_form own)
body_widened dialect (Words texts) own reads plain clean = go (words_or_refusal dialect texts) refl reads
  where
    go : (read : Result (List FlowWord) ℕ) → words_or_refusal dialect texts ≡ read → form_of_words dialect read ≡ Ok own
        → open_control_of_words dialect texts ≡ Ok (control_of_form own)
    go (Err number) at e = absurd (cc)
    go (Ok words) at e =
        let same : OfWords dialect words ≡ own = cc in
        words_widened dialect texts words at plain ∙ ap (λ f. Ok (control_of_form f)) same
body_widened dialect (Statement text) own reads plain clean = go (statement_of text) refl reads
  where
    go : (read : Result Sentence ExprFault) → statement_of text ≡ read → form_of_sentence (sentence_or_refusal read) ≡ Ok own
        → control_of_statement text ≡ Ok (control_of_form own)
    go (Err fault) at e = absurd (cc)
    go (Ok sentence) at e =
        let same : OfSentence sentence ≡ own = cc in
        sentence_widened text sentence clean at ∙ ap (λ f. Ok (control_of_form f)) same

-- Each block that reads in full, names no interrupt and is clean has the same control in the open
-- reading.
pub widened : (dialect : Dialect) (block : Block) (form : BlockForm) → IsWidened dialect block form
widened dialect block form reads plain clean =
    let own = form_control block (form_or_refusal dialect block.body) form reads in
    body_widened dialect block.body own.0 own.1.0 plain clean ∙ ap Ok own.1.1
