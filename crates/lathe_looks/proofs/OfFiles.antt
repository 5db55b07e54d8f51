-- What a command answers of its files is what is due to their texts, if the shelf did not fail.
-- For the proof of the law in src/laws.rt.
use Rattle.std.proofs.Common.{◌≡◌, ◌⊎◌, inl, inr, List, ℕ, Some, refl, sym, subst}
use Rattle.nc_outside.specs.Faults.{Rose}
use Rattle.nc_outside.specs.Files.{Files, ShelfState}
use Rattle.lathe_calls.specs.Answers.{Answer, nothing}
use Rattle.lathe_looks.specs.Fetched.{AreTexts, IsOfFiles, answers, not_had, unread}
use Rattle.lathe_looks.specs.Named.{Named, pair_texts}
use Rattle.lathe_looks.proofs.NotHad.{all_had, texts_once}
use Rattle.lathe_calls.specs.declared.question.Question.{Question}
use Rattle.lathe_calls.specs.Due.{IsDueTo}

-- a command of these files, over a shelf that has these texts and did not fail
module _ (files : Files) (old new : ShelfState) (names : List Named) (texts : List (List ℕ)) (question : Question)
    (told : old.files ≡ Some files) (calm : Rose old.faults new.faults → ⊥) (are : AreTexts (Some files) names texts) where
  -- What is due to a command of these files is due to their texts, or memory ran out, if the shelf
  -- has the texts and did not fail.
  pub due_to_texts : (answer : Answer) → IsOfFiles pair_texts names (Unit {0}) (IsDueTo question) old new answer
      → (answer ≡ nothing) ⊎ IsDueTo question (pair_texts texts) answer
  due_to_texts answer (not_had missing rests) =
      absurd (all_had files old new names _ _ texts told calm (subst (λ v. AreTexts v names texts) (sym told) are) missing)
  due_to_texts answer (unread some rests) = inl refl
  due_to_texts answer (answers others had due) =
      let same = texts_once files names others texts (subst (λ v. AreTexts v names others) told had.each) are in
      inr (subst (λ t. IsDueTo question (pair_texts t) answer) same due)
